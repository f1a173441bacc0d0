-- Bytes that a source gives one piece after another.
use Rattle.std.proofs.Common.{◌≡◌, ℕ, List, [], ◌++◌, take, None, Some, Option, refl, sym, ap, ◌∙◌, append_assoc}
use Rattle.std.proofs.lemmas.List.{append-nil}
use Rattle.std.specs.Io.KnownBytes.{Consumes, Keeps}

pub consumes_none : (w : Option (List ℕ)) → Consumes w w []
consumes_none None = tt
consumes_none (Some xs) = refl

pub consumes_both : (a b c : Option (List ℕ)) (xs ys : List ℕ) → Consumes a b xs → Consumes b c ys → Consumes a c (xs ++ ys)
consumes_both None b c xs ys p q = tt
consumes_both (Some w) None c xs ys p q = absurd p
consumes_both (Some w) (Some v) None xs ys p q = absurd q
consumes_both (Some w) (Some v) (Some u) xs ys p q = p ∙ ap (λ z. xs ++ z) q ∙ sym (append_assoc xs ys u)

pub consumes_keeps : (a b c : Option (List ℕ)) (xs : List ℕ) → Consumes a b xs → Keeps b c → Consumes a c xs
consumes_keeps None b c xs p q = tt
consumes_keeps (Some w) None c xs p q = absurd p
consumes_keeps (Some w) (Some v) None xs p q = absurd q
consumes_keeps (Some w) (Some v) (Some u) xs p q = p ∙ ap (λ z. xs ++ z) (sym q)

pub consumes_nothing : (a b c : Option (List ℕ)) (xs bytes : List ℕ) (n : ℕ) → n ≡ 0 → Consumes a b xs → Consumes b c (take n bytes) → Consumes a c xs
consumes_nothing a b c xs bytes n is p q =
    let none : xs ++ take n bytes ≡ xs = rw is (append-nil xs) in
    rw none at (consumes_both a b c xs (take n bytes) p q)
