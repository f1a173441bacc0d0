-- Points with their levels, in an index by the codes of their places.
use Rattle.std.specs.Prelude.{◌≡◌, ℕ, ℤ, List, map}
use Rattle.std.specs.List.{slice_get}
use Rattle.std.specs.FinMap as finmap
use Rattle.ground_model.specs.Height.{code}
use Rattle.ground_model.specs.Place.{Coords, IsPlace, place_cmp}
use Rattle.page_index.specs.Pairs.{Pairs, Each, IsInOrder}

-- a place with its level
abbrev pub Levelled : Type 0
Levelled = Coords × ℤ

-- the places with their levels, in the index's order
abbrev pub levels_in : Pairs Levelled → List Levelled
levels_in = map (λ x. x.1)

-- each stands under the code of its place
abbrev pub AreKeyed : Pairs Levelled → Type 0
AreKeyed = Each (λ x. IsPlace x.1.0 × (x.0 ≡ code x.1.0))

-- they stand in the order of their codes, each under its own
pub record AreVertices (xs : Pairs Levelled) : Type 0 where
  pub ordered : IsInOrder xs
  pub keyed : AreKeyed xs

-- the map from places to levels
abbrev pub levels_by : Pairs Levelled → finmap.FinMap place_cmp ℤ
levels_by xs = finmap.from_sorted (levels_in xs)
