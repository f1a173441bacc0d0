use Rattle.std.proofs.Common.{length, sym, subst, ap, ◌∙◌, length-set, arith}
use Rattle.page_index.specs.Pairs.{IsFoundAt, IsGapAt, IsInOrder, put}
use Rattle.page_index.proofs.Order.{put_in_order}
use Rattle.page_index.proofs.Found.{found_put, gap_put}
use Rattle.page_index.proofs.leaf.LeafLevel.set.Goals as goal

pub invariant_of-self : goal.invariant_of-self
invariant_of-self g c =
    let f = subst (λ xs. IsFoundAt c.args.key xs c.in-Ok.k) c.deref.ensures.value c.in-Ok.ensures.found in
    let done = found_put c.args.key c.self.inside.items.items c.in-Ok.k f c.args.value in
    (subst IsInOrder (sym done) (put_in_order c.args.key c.args.value c.self.inside.items.items c.self.invariant.0), omega (arith, c.self.invariant.1, length-set c.self.inside.items.items c.in-Ok.k (c.args.key, c.args.value)))

pub returns-in-Ok-clause-ok : goal.returns-in-Ok-clause-ok
returns-in-Ok-clause-ok g c =
    let f = subst (λ xs. IsFoundAt c.args.key xs c.in-Ok.k) c.deref.ensures.value c.in-Ok.ensures.found in
    found_put c.args.key c.self.inside.items.items c.in-Ok.k f c.args.value ∙ ap (put c.args.key c.args.value) c.self.view_is

pub invariant_of-self-in-Err : goal.invariant_of-self-in-Err
invariant_of-self-in-Err g c =
    let f = subst (λ xs. IsGapAt c.args.key xs c.in-Err.k) c.deref.ensures.value c.in-Err.ensures.gap in
    let done = c.in_ok-insert-in-Err.ensures.items ∙ gap_put c.args.key c.self.inside.items.items c.in-Err.k f c.args.value in
    let seen = done ∙ ap (put c.args.key c.args.value) c.self.view_is in
    (subst IsInOrder (sym done) (put_in_order c.args.key c.args.value c.self.inside.items.items c.self.invariant.0), omega (arith, c.requires.fits, ap length seen))

pub returns-in_ok-insert-in-Err-clause-ok : goal.returns-in_ok-insert-in-Err-clause-ok
returns-in_ok-insert-in-Err-clause-ok g c =
    let f = subst (λ xs. IsGapAt c.args.key xs c.in-Err.k) c.deref.ensures.value c.in-Err.ensures.gap in
    c.in_ok-insert-in-Err.ensures.items ∙ gap_put c.args.key c.self.inside.items.items c.in-Err.k f c.args.value ∙ ap (put c.args.key c.args.value) c.self.view_is
