-- Parts of an ordered map.
use Rattle.std.specs.Prelude.{◌≡◌, ℕ, ◌+◌, ◌<◌, ◌≤◌, List, [], ◌++◌, length, get_or, take, Option, Some, None}
use Rattle.std.specs.List.{flat_map}
use Rattle.page_index.specs.Pairs.{Pairs, first_key}

-- all pairs of several maps, in order
abbrev pub joined : {V : Type 0} → List (Pairs V) → Pairs V
joined kids = flat_map (λ kid. kid) kids

-- some first pairs of the list, none only where it has none
pub record IsFront {V : Type 0} (front xs : Pairs V) : Type 0 where
  pub first : take (length front) xs ≡ front
  pub some : 0 < length xs → 0 < length front

-- two maps, neither empty, that make up the whole
pub record AreHalves {V : Type 0} (lower upper whole : Pairs V) : Type 0 where
  pub joined : whole ≡ lower ++ upper
  pub some_lower : 0 < length lower
  pub some_upper : 0 < length upper

-- the map starts at the key or below
pub record StartsAtMost {V : Type 0} (key : ℕ) (xs : Pairs V) : Type 0 where
  pub some : 0 < length xs
  pub first : first_key xs ≤ key

-- the map starts above the key
pub record StartsAbove {V : Type 0} (key : ℕ) (xs : Pairs V) : Type 0 where
  pub some : 0 < length xs
  pub first : key < first_key xs

-- the maps before low start at the key or below where there are any, those from high on above it
pub record IsBetween {V : Type 0} (key low high : ℕ) (kids : List (Pairs V)) : Type 0 where
  pub there : low < high
  pub bound : high ≤ length kids
  pub lower : (d : Pairs V) → 0 < low → StartsAtMost key (get_or kids low d)
  pub upper : (d : Pairs V) → high < length kids → StartsAbove key (get_or kids high d)

-- among maps in order, the k-th is the only one that the key can be in
abbrev pub IsPlaceOf : {V : Type 0} → ℕ → ℕ → List (Pairs V) → Type 0
IsPlaceOf key k kids = IsBetween key k (k + 1) kids

-- the pairs below the top, if there is one
abbrev pub held : {V : Type 0} → Option (Pairs V) → Pairs V
held None = []
held (Some xs) = xs
