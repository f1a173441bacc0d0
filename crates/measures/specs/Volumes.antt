-- How large volumes are.
use Rattle.std.specs.Prelude.{◌≡◌, ℕ, ◌*◌, ◌≤◌, ◌^◌, ℤ, ◌-ℤ◌, unsigned_abs, List, length}
use Rattle.ground_model.specs.declared.slope.Slope.{Slope}
use Rattle.ground_model.specs.declared.volume.Volume.{Volume}
use Rattle.ground_model.specs.Volume.{volume_over}

-- no more than so many facets can have
pub record IsOfFacets (count : ℕ) (v : Volume) : Type 0 where
  pub cut : unsigned_abs v.cut ≤ count * 2 ^ 90
  pub fill : unsigned_abs v.fill ≤ count * 2 ^ 90
  pub net : unsigned_abs v.net ≤ count * 2 ^ 90

-- the volume of these slopes
pub record IsSumOf (datum : ℤ) (slopes : List Slope) (v : Volume) : Type 0 where
  pub value : v ≡ volume_over slopes datum
  pub net : v.cut -ℤ v.fill ≡ v.net
  pub size : IsOfFacets (length slopes) v
