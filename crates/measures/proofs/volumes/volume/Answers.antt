use Rattle.std.proofs.Common.{◌++◌, [], ap, sym, subst, ◌∙◌, arith, rules, take}
use Rattle.std.specs.List.{cons_option}
use Rattle.std.proofs.lemmas.List.{take_all}
use Rattle.ground_model.specs.Volume.{volume_over}
use Rattle.measures.specs.Volumes.{IsSumOf}
use Rattle.measures.proofs.Slots.{found_in, found_next}
use Rattle.measures.proofs.VolumeSums.{no_slopes, slots_size, volume-permuted}
use Rattle.measures.proofs.volumes.volume.Goals as goal

pub loop-slot-init : goal.loop-slot-init
loop-slot-init g c = no_slopes c.args.datum

pub with_slope-sum-requires : goal.with_slope-sum-requires
with_slope-sum-requires g c =
    let table = g.R.Relief.table c.args.relief.now in
    let slopes = g.R.Relief.slopes c.args.relief.now in
    let slots = c.slots-slot-end.ensures in
    slots_size c.args.datum table slopes slots.each_once slots.few c.loop-slot.slot c.loop-slot.sum c.loop-slot.invariant

pub loop-slot-preserved : goal.loop-slot-preserved
loop-slot-preserved g c =
    let table = g.R.Relief.table c.args.relief.now in
    subst (λ slopes. IsSumOf c.args.datum slopes c.with_slope-sum.result)
    (ap (λ o. found_in (take c.loop-slot.slot table) ++ cons_option o []) c.slope.ensures ∙ sym (found_next table c.loop-slot.slot))
    (c.with_slope-sum.ensures (found_in (take c.loop-slot.slot table)) c.loop-slot.invariant)

pub returns-clause-value : goal.returns-clause-value
returns-clause-value g c =
    let table = g.R.Relief.table c.args.relief.now in
    let slots = c.slots-slot-end.ensures in
    c.loop-slot.invariant.value
    ∙ ap (λ slopes. volume_over (found_in slopes) c.args.datum) (take_all c.loop-slot.slot table (search rules))
    ∙ volume-permuted c.args.datum (found_in table) (g.R.Relief.slopes c.args.relief.now) slots.each_once

pub returns-clause-cut_size : goal.returns-clause-cut_size
returns-clause-cut_size g c =
    let size = slots_size c.args.datum (g.R.Relief.table c.args.relief.now) (g.R.Relief.slopes c.args.relief.now) c.slots-slot-end.ensures.each_once c.slots-slot-end.ensures.few c.loop-slot.slot c.loop-slot.sum c.loop-slot.invariant in
    omega (arith, size.cut)

pub returns-clause-fill_size : goal.returns-clause-fill_size
returns-clause-fill_size g c =
    let size = slots_size c.args.datum (g.R.Relief.table c.args.relief.now) (g.R.Relief.slopes c.args.relief.now) c.slots-slot-end.ensures.each_once c.slots-slot-end.ensures.few c.loop-slot.slot c.loop-slot.sum c.loop-slot.invariant in
    omega (arith, size.fill)

pub returns-clause-net_size : goal.returns-clause-net_size
returns-clause-net_size g c =
    let size = slots_size c.args.datum (g.R.Relief.table c.args.relief.now) (g.R.Relief.slopes c.args.relief.now) c.slots-slot-end.ensures.each_once c.slots-slot-end.ensures.few c.loop-slot.slot c.loop-slot.sum c.loop-slot.invariant in
    omega (arith, size.net)
