use Rattle.std.proofs.Common.{◌≡◌, ℕ, cond, ◌-ℤ◌, ◌≤◌, ◌^◌, pos, sym, ap, ◌∙◌, arith, ℤ, ◌+ℤ◌, to_z, of_z, w64}
use Rattle.std.specs.Prelude.{neg_ℤ, unsigned_abs, nat_eq}
use Rattle.std.specs.Ordering.{int_cmp, ordering_then}
use Rattle.std.proofs.lemmas.Int.{ints}
use Rattle.std.proofs.lemmas.Bool.{ne_eqb}
use Rattle.predicates.specs.Far.{side_toward as side_toward_of}
use Rattle.predicates.specs.Sign.{sign}
use Rattle.predicates.proofs.Sizes.{read_is}
use Rattle.predicates.proofs.far.side_toward.Goals as goal

-- a coordinate of the way, as it is passed
read : (x y : ℤ) → unsigned_abs x ≤ 2 ^ 30 → x ≡ y → to_z w64 (of_z w64 x) ≡ y
read x y h e = read_is w64 x y (omega (arith, ints, h)) e

read_negated : (x y : ℤ) → unsigned_abs x ≤ 2 ^ 30 → x ≡ y → to_z w64 (of_z w64 (pos 0 -ℤ to_z w64 (of_z w64 x))) ≡ neg_ℤ y
read_negated x y h e =
    let r = read x y h e in
    ap (λ k. to_z w64 (of_z w64 (pos 0 -ℤ k))) r
    ∙ read_is w64 (pos 0 -ℤ y) (neg_ℤ y) (omega (arith, ints, h, e)) (omega (arith, ints))

read_sum : (x y u v : ℤ) → unsigned_abs x ≤ 2 ^ 30 → unsigned_abs y ≤ 2 ^ 30 → x ≡ u → y ≡ v → to_z w64 (of_z w64 (to_z w64 (of_z w64 x) +ℤ to_z w64 (of_z w64 y))) ≡ u +ℤ v
read_sum x y u v h k e f =
    let r = read x u h e in
    let s = read y v k f in
    (λ i. to_z w64 (of_z w64 (r i +ℤ s i))) ∙ read_is w64 (u +ℤ v) (u +ℤ v) (omega (arith, ints, h, k, e, f)) (λ i. u +ℤ v)

by_last : (k : ℕ) (e n : ℤ) → (k ≡ 0 → ⊥) → (k ≡ 1 → ⊥) → ordering_then (int_cmp (neg_ℤ e) (pos 0)) (int_cmp n (pos 0)) ≡ side_toward_of k e n
by_last k e n not0 not1 =
    sym (ap (λ t. cond t (ordering_then (int_cmp (neg_ℤ n) (pos 0)) (int_cmp e (pos 0))) (cond (nat_eq k 1) (ordering_then (int_cmp (e +ℤ n) (pos 0)) (int_cmp e (pos 0))) (ordering_then (int_cmp (neg_ℤ e) (pos 0)) (int_cmp n (pos 0))))) (ne_eqb k 0 not0)
    ∙ ap (λ t. cond t (ordering_then (int_cmp (e +ℤ n) (pos 0)) (int_cmp e (pos 0))) (ordering_then (int_cmp (neg_ℤ e) (pos 0)) (int_cmp n (pos 0)))) (ne_eqb k 1 not1))

pub returns-then-k-eq0 : goal.returns-then-k-eq0
returns-then-k-eq0 c =
    let way = c.between-way.result in
    let first = read_negated way.n (c.args.q.n -ℤ c.args.p.n) way.n_in c.between-way.ensures.n in
    let second = read way.e (c.args.q.e -ℤ c.args.p.e) way.e_in c.between-way.ensures.e in
    c.sign_of_first.ensures
    ∙ (λ i. sign (ordering_then (int_cmp (first i) (pos 0)) (int_cmp (second i) (pos 0))))
    ∙ sym (ap (λ k. sign (side_toward_of k (c.args.q.e -ℤ c.args.p.e) (c.args.q.n -ℤ c.args.p.n))) c.if-k-eq0.true)

pub returns-then-k-eq1 : goal.returns-then-k-eq1
returns-then-k-eq1 c =
    let way = c.between-way.result in
    let first = read_sum way.e way.n (c.args.q.e -ℤ c.args.p.e) (c.args.q.n -ℤ c.args.p.n) way.e_in way.n_in c.between-way.ensures.e c.between-way.ensures.n in
    let second = read way.e (c.args.q.e -ℤ c.args.p.e) way.e_in c.between-way.ensures.e in
    c.sign_of_first-then-k-eq1.ensures
    ∙ (λ i. sign (ordering_then (int_cmp (first i) (pos 0)) (int_cmp (second i) (pos 0))))
    ∙ sym (ap (λ k. sign (side_toward_of k (c.args.q.e -ℤ c.args.p.e) (c.args.q.n -ℤ c.args.p.n))) c.if-k-eq1.true)

pub returns-else-k-eq1 : goal.returns-else-k-eq1
returns-else-k-eq1 c =
    let way = c.between-way.result in
    let first = read_negated way.e (c.args.q.e -ℤ c.args.p.e) way.e_in c.between-way.ensures.e in
    let second = read way.n (c.args.q.n -ℤ c.args.p.n) way.n_in c.between-way.ensures.n in
    c.sign_of_first-else-k-eq1.ensures
    ∙ (λ i. sign (ordering_then (int_cmp (first i) (pos 0)) (int_cmp (second i) (pos 0))))
    ∙ ap sign (by_last c.args.k (c.args.q.e -ℤ c.args.p.e) (c.args.q.n -ℤ c.args.p.n) c.if-k-eq0.false c.if-k-eq1.false)
