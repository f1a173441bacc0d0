-- The order of facets, and the cuts of those that are cut.
use Rattle.std.proofs.Common.{◌≡◌, refl, List, [], ◌∷◌, cond}
use Rattle.std.specs.Prelude.{ℤ, Option, Some, None, is_some}
use Rattle.std.specs.List.{filter, filter_map, cons_option}
use Rattle.std.specs.Cmp.{IsTotalOrder}
use Rattle.ground_model.specs.declared.cut.Cut.{Cut}
use Rattle.ground_model.specs.declared.slope.Slope.{Slope}
use Rattle.ground_model.specs.Contour.{cut_of, contour_at}
use Rattle.std.proofs.lemmas.Cmp.{on_total, then_total}
use Rattle.ground_model.proofs.Contents.{places_total}
use Rattle.measures.specs.SlopeList.{slope_cmp}
use Rattle.contours.specs.Cuts.{is_cut}

pub slopes_total : IsTotalOrder slope_cmp
slopes_total = then_total (on_total (λ s. s.facet.a) places_total) (then_total (on_total (λ s. s.facet.b) places_total) (on_total (λ s. s.facet.c) places_total))

-- what has no cut may be left out
pub cuts_of_cut : (z : ℤ) (slopes : List Slope) → filter_map (cut_of z) (filter (is_cut z) slopes) ≡ contour_at slopes z
unfolding contour_at
cuts_of_cut z [] = refl
cuts_of_cut z (s ∷ slopes) = by_cut (cut_of z s) refl (cuts_of_cut z slopes)
  where
    by_cut : (cut : Option Cut) → cut_of z s ≡ cut → filter_map (cut_of z) (filter (is_cut z) slopes) ≡ filter_map (cut_of z) slopes
        → filter_map (cut_of z) (cond (is_some cut) (s ∷ filter (is_cut z) slopes) (filter (is_cut z) slopes)) ≡ cons_option cut (filter_map (cut_of z) slopes)
    by_cut None e rest = rest
    by_cut (Some cut) e rest = (λ i. cons_option (e i) (rest i))
