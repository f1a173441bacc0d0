-- Where a place stands among points, and a facet among facets.
use Rattle.std.specs.Prelude.{◌≡◌, ℕ, zero, suc, ◌≤◌, ◌<◌, ℤ, List, Option, None, Some, slice_get, option_map}
use Rattle.ground_model.specs.declared.facet.Facet.{Facet}
use Rattle.ground_model.specs.Place.{Coords}
use Rattle.landxml_write.specs.Exports.{Vertex, Face}

-- the place's point stands at an index from low on and below high
pub record IsWithin (points : List Vertex) (p : Coords) (low high : ℕ) : Type 0 where
  pub index : ℕ
  pub level : ℤ
  pub from : low ≤ index
  pub below : index < high
  pub at : slice_get points index ≡ Some (p, level)

-- the last of the first so many facets
abbrev pub last_of : List Face → ℕ → Option Facet
last_of faces zero = None
last_of faces (suc k) = option_map (λ f. f.0) (slice_get faces k)
