-- Known orders that go on with writes alone.
use Rattle.std.proofs.Common.{ℕ, ◌+◌, List, [], ◌∷◌, ◌++◌, take, drop, Option, None, Some, map, refl, sym, ◌∙◌, ap, append_assoc, append-nil}
use Rattle.std.proofs.Math.Seq.{take-add}
use Rattle.std.proofs.lemmas.List.{map-append}
use Rattle.std.proofs.lemmas.List.Folds.{concat-append}
use Rattle.ground_io.specs.Order.{Event, Sent, GoesOnWith, KeepsOrder, SendsAll}

-- no event is no change
pub adds_none : (a : Option (List Event)) → GoesOnWith a a []
adds_none None = tt
adds_none (Some xs) = sym (append-nil xs)

-- events after events
pub goes_on : (a b c : Option (List Event)) (es fs : List Event) → GoesOnWith a b es → GoesOnWith b c fs → GoesOnWith a c (es ++ fs)
goes_on None b c es fs p q = tt
goes_on (Some xs) None c es fs p q = absurd p
goes_on (Some xs) (Some ys) None es fs p q = absurd q
goes_on (Some xs) (Some ys) (Some zs) es fs p q = q ∙ ap (λ w. w ++ fs) p ∙ append_assoc xs es fs

-- a write that took the next piece of a text, after writes that took what stands before it
pub sends_more : (a b c : Option (List Event)) (t : List ℕ) (n m : ℕ) → SendsAll a b (take n t) → GoesOnWith b c (Sent (take m (drop n t)) ∷ []) → SendsAll a c (take (n + m) t)
sends_more a b c t n m p q =
    let piece = take m (drop n t) in (
      p.0 ++ piece ∷ [],
      rw (map-append Sent p.0 (piece ∷ [])) (goes_on a b c (map Sent p.0) (Sent piece ∷ []) p.1 q),
      concat-append p.0 (piece ∷ []) ∙ ap (λ w. w ++ (piece ++ [])) p.2 ∙ ap (λ w. take n t ++ w) (append-nil piece) ∙ sym (take-add n m t),
    )

-- an order that stays
pub sends_kept : (a b c : Option (List Event)) (t : List ℕ) → SendsAll a b t → KeepsOrder b c → SendsAll a c t
sends_kept None b c t p q = p
sends_kept (Some xs) None c t p q = absurd p.1
sends_kept (Some xs) (Some ys) None t p q = absurd q
sends_kept (Some xs) (Some ys) (Some zs) t p q = (p.0, q ∙ p.1, p.2)

-- no write
pub sends_none : (a : Option (List Event)) → SendsAll a a []
sends_none a = ([], adds_none a, refl)

-- writes after writes
pub sends_both : (a b c : Option (List Event)) (t u : List ℕ) → SendsAll a b t → SendsAll b c u → SendsAll a c (t ++ u)
sends_both a b c t u p q = (
  p.0 ++ q.0,
  rw (map-append Sent p.0 q.0) (goes_on a b c (map Sent p.0) (map Sent q.0) p.1 q.1),
  concat-append p.0 q.0 ∙ (λ i. p.2 i ++ q.2 i),
)

pub order_kept : (a b c : Option (List Event)) (es : List Event) → GoesOnWith a b es → KeepsOrder b c → GoesOnWith a c es
order_kept None b c es p q = tt
order_kept (Some xs) None c es p q = absurd p
order_kept (Some xs) (Some ys) None es p q = absurd q
order_kept (Some xs) (Some ys) (Some zs) es p q = q ∙ p
