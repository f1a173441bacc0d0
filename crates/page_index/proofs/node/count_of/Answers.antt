use Rattle.std.proofs.Common.{◌+◌, ◌≤◌, ◌^◌, length, sym, subst, arith}
use Rattle.page_index.specs.Parts.{joined}
use Rattle.page_index.proofs.Kids.{counted, counted_within}
use Rattle.page_index.proofs.node.count_of.Goals as goal

pub overflow_add-total : goal.overflow_add-total
overflow_add-total g c =
    let kids = c.deref-kid-items.result.now in
    let more = counted kids c.loop-kid.kid-index c.kid-item.result c.loop-kid-test.true c.kid-item.is in
    let within = counted_within kids (c.loop-kid.kid-index + 1) in
    let bound : length (joined kids) ≤ 2 ^ 24 = subst (λ r. length (joined r) ≤ 2 ^ 24) (sym c.deref-kid-items.ensures.value) c.requires in
    omega (arith, c.loop-kid.invariant.0, more, within, bound, c.count-total.ensures.count)

pub loop-kid-preserved : goal.loop-kid-preserved
loop-kid-preserved g c =
    let kids = c.deref-kid-items.result.now in
    let more = counted kids c.loop-kid.kid-index c.kid-item.result c.loop-kid-test.true c.kid-item.is in
    (omega (arith, c.loop-kid.invariant.0, more, c.count-total.ensures.count), omega (arith, c.loop-kid.invariant.1, c.count-total.ensures.some))
