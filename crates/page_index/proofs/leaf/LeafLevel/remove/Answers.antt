use Rattle.std.proofs.Common.{length, sym, subst, ap, ◌∙◌, arith}
use Rattle.page_index.specs.Pairs.{IsFoundAt, IsGapAt, IsInOrder, without}
use Rattle.page_index.proofs.Order.{without_in_order}
use Rattle.page_index.proofs.Found.{found_without, gap_without, shorter}
use Rattle.page_index.proofs.leaf.LeafLevel.remove.Goals as goal

pub invariant_of-self : goal.invariant_of-self
invariant_of-self g c =
    let f = subst (λ xs. IsFoundAt c.args.key xs c.in-Ok.k) c.deref.ensures.value c.in-Ok.ensures.found in
    let done = c.remove.ensures.items ∙ found_without c.args.key c.self.inside.items.items c.in-Ok.k f in
    (subst IsInOrder (sym done) (without_in_order c.args.key c.self.inside.items.items c.self.invariant.0), omega (arith, c.self.invariant.1, ap length c.remove.ensures.items, shorter c.self.inside.items.items c.in-Ok.k))

pub returns-in-Ok-clause-ok : goal.returns-in-Ok-clause-ok
returns-in-Ok-clause-ok g c =
    let f = subst (λ xs. IsFoundAt c.args.key xs c.in-Ok.k) c.deref.ensures.value c.in-Ok.ensures.found in
    c.remove.ensures.items ∙ found_without c.args.key c.self.inside.items.items c.in-Ok.k f ∙ ap (without c.args.key) c.self.view_is

pub returns-in-Err-clause-ok : goal.returns-in-Err-clause-ok
returns-in-Err-clause-ok g c =
    let f = subst (λ xs. IsGapAt c.args.key xs c.in-Err.field-0) (c.deref.ensures.value ∙ c.self.view_is) c.in-Err.ensures.gap in
    gap_without c.args.key c.args.self.now c.in-Err.field-0 f
