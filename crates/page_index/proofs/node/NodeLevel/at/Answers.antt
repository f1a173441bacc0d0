use Rattle.std.proofs.Common.{◌+◌, ◌-◌, drop, slice_get, sym, ap, ◌∙◌, arith}
use Rattle.page_index.specs.Parts.{joined}
use Rattle.page_index.proofs.Kids.{rank_here, rank_beyond}
use Rattle.page_index.proofs.node.NodeLevel.at.Goals as goal

pub returns-then-rest-count : goal.returns-then-rest-count
returns-then-rest-count g c =
    let kids = c.deref-kid-items.result.now in
    c.at.ensures ∙ ap (λ xs. slice_get xs c.loop-kid.rest) c.page.ensures
    ∙ sym (rank_here kids c.loop-kid.kid-index c.kid-item.result c.loop-kid.rest c.loop-kid-test.true c.kid-item.is (omega (arith, c.if-rest-count.true, c.count-count.ensures.count)))
    ∙ c.loop-kid.invariant

pub loop-kid-preserved : goal.loop-kid-preserved
loop-kid-preserved g c =
    let kids = c.deref-kid-items.result.now in
    ap (λ n. slice_get (joined (drop (c.loop-kid.kid-index + 1) kids)) (c.loop-kid.rest - n)) c.count-count.ensures.count
    ∙ sym (rank_beyond kids c.loop-kid.kid-index c.kid-item.result c.loop-kid.rest c.loop-kid-test.true c.kid-item.is (omega (arith, c.if-rest-count.false, c.count-count.ensures.count)))
    ∙ c.loop-kid.invariant
