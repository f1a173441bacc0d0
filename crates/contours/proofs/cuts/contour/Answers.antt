use Rattle.std.proofs.Common.{ap, subst, ◌∙◌}
use Rattle.std.specs.List.{filter_map}
use Rattle.std.specs.List.Sorted.{IsPermutation}
use Rattle.ground_model.specs.Contour.{cut_of}
use Rattle.measures.proofs.Slots.{found_in}
use Rattle.contours.specs.Cuts.{is_cut}
use Rattle.contours.proofs.Order.{slopes_total, cuts_of_cut}
use Rattle.contours.proofs.Sorted.{put_in_order}
use Rattle.contours.proofs.cuts.contour.Goals as goal

pub returns : goal.returns
returns g c =
    let slopes = g.R.Relief.slopes c.args.relief.now in
    let table = g.R.Relief.table c.args.relief.now in
    let found = c.in_ok-slopes.ensures in
    let ordered = subst (λ xs. IsPermutation xs c.order.new.slopes.items) c.in_ok-slopes.ensures.found c.order.ensures.each in
    let all = put_in_order slopes_total (is_cut c.args.level) slopes (found_in table) c.order.new.slopes.items found.in_order found.each_once ordered c.order.ensures.in_order in
    c.from_vec.ensures ∙ c.in_ok-cuts_of.ensures ∙ ap (filter_map (cut_of c.args.level)) (c.deref.ensures.value ∙ all) ∙ cuts_of_cut c.args.level slopes
