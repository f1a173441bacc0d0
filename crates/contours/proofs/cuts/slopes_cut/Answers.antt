use Rattle.std.proofs.Common.{◌++◌, [], ap, sym, ◌∙◌, take}
use Rattle.std.specs.List.{cons_option, filter}
use Rattle.std.proofs.lemmas.List.Elements.{filter-append}
use Rattle.measures.proofs.Slots.{found_in, found_next}
use Rattle.contours.specs.Cuts.{is_cut}
use Rattle.contours.proofs.cuts.slopes_cut.Goals as goal

pub loop-slot-preserved : goal.loop-slot-preserved
loop-slot-preserved g c =
    let table = g.R.Relief.table c.args.relief.now in
    let seen = found_in (take c.loop-slot.slot table) in
    c.in_ok-keep.ensures
    ∙ (λ i. c.loop-slot.invariant i ++ filter (is_cut c.args.contour) (cons_option (c.slope.ensures i) []))
    ∙ sym (filter-append (is_cut c.args.contour) seen _)
    ∙ ap (filter (is_cut c.args.contour)) (sym (found_next table c.loop-slot.slot))
