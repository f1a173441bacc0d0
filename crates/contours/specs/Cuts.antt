-- Which facets a contour cuts.
use Rattle.std.specs.Prelude.{◌<ℤ◌, ◌≤ℤ◌, ℤ, Bool, is_some}
use Rattle.ground_model.specs.declared.slope.Slope.{Slope}
use Rattle.ground_model.specs.Contour.{Post, cut_of}

-- whether the facet has a low and a high corner
abbrev pub is_cut : ℤ → Slope → Bool
is_cut z s = is_some (cut_of z s)

-- the contour at z lies above the one corner, and not above the other
pub record Parts (z : ℤ) (low high : Post) : Type 0 where
  pub above : low.level <ℤ z
  pub not_above : z ≤ℤ high.level
