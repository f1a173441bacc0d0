-- The star of a point: its neighbours, counterclockwise round it.
use Rattle.std.specs.Prelude.{◌≡◌, ◌⊎◌, ◌<◌, ◌≤◌, ◌+◌, ◌<ℤ◌, ◌≤ℤ◌, pos, ℕ, suc}
use Rattle.ground_model.specs.Place.{Coords}
use Rattle.ground_model.specs.Side.{side}

-- the place lies in the closed angle at p, from u counterclockwise to v, that is less than half a turn
pub record IsInAngle (p u v x : Coords) : Type 0 where
  pub from_u : pos 0 ≤ℤ side p u x
  pub to_v : pos 0 ≤ℤ side p x v

-- round p stand n neighbours, numbered on and on; each next one is to the left, by less than half a turn, and no other neighbour lies in the angle between the two
pub record IsStar (p : Coords) (ring : ℕ → Coords) (n : ℕ) : Type 0 where
  pub some : 0 < n
  pub round : (i : ℕ) → ring (n + i) ≡ ring i
  pub turned : (i : ℕ) → pos 0 <ℤ side p (ring i) (ring (suc i))
  pub apart : (i d : ℕ) → 1 < d → d < n → IsInAngle p (ring i) (ring (suc i)) (ring (i + d)) → ⊥

-- the edge from p to the neighbour after k can be flipped: its two triangles make a strictly convex quadrilateral
pub record IsFlippableAfter (p : Coords) (ring : ℕ → Coords) (k : ℕ) : Type 0 where
  pub at_p : pos 0 <ℤ side p (ring k) (ring (suc (suc k)))
  pub at_ring : pos 0 <ℤ side (ring k) (ring (suc k)) (ring (suc (suc k)))

-- some edge at p can be flipped
abbrev pub HasFlippable : Coords → (ℕ → Coords) → ℕ → Type 0
HasFlippable p ring n = (k : ℕ) × ((k < n) × IsFlippableAfter p ring k)

-- p lies straight between two neighbours that have one between them
abbrev pub IsStraightStar : Coords → (ℕ → Coords) → ℕ → Type 0
IsStraightStar p ring n = (k : ℕ) × ((k < n) × (side p (ring k) (ring (suc (suc k))) ≡ pos 0))

-- three neighbours or more stand round a point; of more than four one has an edge that can be flipped; so has one of four, or the point lies straight between two
pub record ProgressLaw : Type 0 where
  pub three : (p : Coords) (ring : ℕ → Coords) (n : ℕ) → IsStar p ring n → 3 ≤ n
  pub more : (p : Coords) (ring : ℕ → Coords) (n : ℕ) → IsStar p ring n → 4 < n → HasFlippable p ring n
  pub four : (p : Coords) (ring : ℕ → Coords) (n : ℕ) → IsStar p ring n → n ≡ 4 → HasFlippable p ring n ⊎ IsStraightStar p ring n

-- of a star whose neighbours 0 and m are on one line with p, with two or more between them on one side, one of these has an edge that can be flipped
abbrev pub StraightLaw : Type 0
StraightLaw = (p : Coords) (ring : ℕ → Coords) (n : ℕ) → IsStar p ring n → (m : ℕ) → 2 < m → m < n → side p (ring 0) (ring m) ≡ pos 0 → (k : ℕ) × ((suc k < m) × IsFlippableAfter p ring k)
