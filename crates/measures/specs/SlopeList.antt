-- When a list of slopes is a relief.
use Rattle.std.specs.Prelude.{◌≡◌, ◌<◌, ◌^◌, ℤ, pos, List, [], ◌∷◌, length, All, IsTrue, if◌then◌else◌}
use Rattle.std.specs.declared.cmp.Ordering.{Ordering}
use Rattle.std.specs.Ordering.{on, then_cmp}
use Rattle.std.specs.List.Sorted.{IsStrictlySortedBy}
use Rattle.ground_model.specs.declared.slope.Slope.{Slope}
use Rattle.ground_model.specs.Place.{Coords, place_cmp, is_same}
use Rattle.ground_model.specs.Side.{is_left}

-- by a, then b, then c
abbrev pub slope_cmp : Slope → Slope → Ordering
slope_cmp = then_cmp (on (λ s. s.facet.a) place_cmp) (then_cmp (on (λ s. s.facet.b) place_cmp) (on (λ s. s.facet.c) place_cmp))

-- the level of a place on the first slope that has it as a corner
unfoldable pub level_in : List Slope → Coords → ℤ
level_in [] p = pos 0
level_in (s ∷ slopes) p = if is_same s.facet.a p then s.za
    else if is_same s.facet.b p then s.zb
    else if is_same s.facet.c p then s.zc
    else level_in slopes p

-- fewer than 2^30, in facet order, counterclockwise, and with one level for each place
pub record IsRelief (slopes : List Slope) : Type 0 where
  pub in_order : IsStrictlySortedBy slope_cmp slopes
  pub turned : All (λ s. IsTrue (is_left s.facet.a s.facet.b s.facet.c)) slopes
  pub one_level : All (λ s. (s.za ≡ level_in slopes s.facet.a) × (s.zb ≡ level_in slopes s.facet.b) × (s.zc ≡ level_in slopes s.facet.c)) slopes
  pub few : length slopes < 2 ^ 30
