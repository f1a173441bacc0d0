use Rattle.std.proofs.Common.{◌-◌, ◌/◌, ◌≡◌, ◌≤◌, length, take, drop, sym, subst, ap, ◌∙◌, length-drop, length-take, take_all, arith}
use Rattle.page_index.specs.Pairs.{IsInOrder}
use Rattle.page_index.specs.Parts.{joined}
use Rattle.page_index.proofs.Kids.{front_order, back_order, counted_within, back_within, halved}
use Rattle.page_index.proofs.node.NodeLevel.halves.Goals as goal

pub over-requires-clause-order : goal.over-requires-clause-order
over-requires-clause-order g c = front_order c.deref.result.now (c.len-half.result / 2) (subst (λ r. IsInOrder (joined r)) (sym c.deref.ensures.value) c.self.invariant.0)

pub over-requires-clause-bound : goal.over-requires-clause-bound
over-requires-clause-bound g c =
    omega (arith, counted_within c.deref.result.now (c.len-half.result / 2), ap (λ r. length (joined r)) c.deref.ensures.value, c.self.invariant.1, c.self.invariant.2)

pub over-requires-2-clause-order : goal.over-requires-2-clause-order
over-requires-2-clause-order g c =
    front_order (drop (c.len-half.result / 2) c.deref-2.result.now) (length c.deref-2.result.now - c.len-half.result / 2)
    (back_order c.deref-2.result.now (c.len-half.result / 2) (subst (λ r. IsInOrder (joined r)) (sym c.deref-2.ensures.value) c.self.invariant.0))

pub over-requires-2-clause-bound : goal.over-requires-2-clause-bound
over-requires-2-clause-bound g c =
    omega (
      arith,
      counted_within (drop (c.len-half.result / 2) c.deref-2.result.now) (length c.deref-2.result.now - c.len-half.result / 2),
      back_within c.deref-2.result.now (c.len-half.result / 2),
      ap (λ r. length (joined r)) c.deref-2.ensures.value,
      c.self.invariant.1,
      c.self.invariant.2,
    )

pub returns : goal.returns
returns g c =
    let kids = c.self.inside.kids.items in
    let i = c.len-half.result / 2 in
    let long : c.len-half.result ≡ length kids = omega (arith, c.len-half.ensures, c.self.inside.kids.ok) in
    let many : 2 ≤ length kids = omega (arith, c.if-len-lt-ROOM.false, c.len.ensures, c.self.inside.kids.ok) in
    let back : take (length c.deref-2.result.now - i) (drop i c.deref-2.result.now) ≡ drop i kids = take_all (length c.deref-2.result.now - i) (drop i c.deref-2.result.now) (omega (arith, length-drop i c.deref-2.result.now)) ∙ ap (drop i) c.deref-2.ensures.value in
    let lower = c.in_ok-lower.ensures.same ∙ ap (λ r. joined (take i r)) c.deref.ensures.value in
    let upper = c.in_ok-upper.ensures.same ∙ ap joined back in
    halved kids i _ c.in_ok-lower.lower c.in_ok-upper.upper c.self.view_is lower upper
    (omega (arith, c.in_ok-lower.ensures.some, ap length (ap (take i) c.deref.ensures.value), length-take i kids, long, many))
    (omega (arith, c.in_ok-upper.ensures.some, ap length back, length-drop i kids, long, many))
