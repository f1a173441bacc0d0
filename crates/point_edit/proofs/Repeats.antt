-- Of more numbers than there are below a limit two are the same.
use Rattle.std.proofs.Common.{◌≡◌, ◌⊎◌, ℕ, suc, zero, ◌<◌, ◌≤◌, refl, sym, ap, ◌∙◌, inl, inr, arith}
use Rattle.std.proofs.lemmas.Bool.{cases_eq}
use Rattle.point_edit.proofs.Blocked.{lt_or_eq}

-- the numbers but v, without a gap at v
drop : ℕ → ℕ → ℕ
drop zero zero = zero
drop zero (suc y) = y
drop (suc v) zero = zero
drop (suc v) (suc y) = suc (drop v y)

drop_less : (v y l : ℕ) → v < suc l → y < suc l → (y ≡ v → ⊥) → drop v y < l
unfolding drop
drop_less zero zero l h k ne = absurd (ne refl)
drop_less zero (suc y) l h k ne = omega (arith, k)
drop_less (suc v) y zero h k ne = absurd (omega (arith, h))
drop_less (suc v) zero (suc l) h k ne = omega arith
drop_less (suc v) (suc y) (suc l) h k ne =
    let rest = drop_less v y l (omega (arith, h)) (omega (arith, k)) (λ e. ne (ap suc e)) in
    omega (arith, rest)

drop_same : (v y z : ℕ) → (y ≡ v → ⊥) → (z ≡ v → ⊥) → drop v y ≡ drop v z → y ≡ z
unfolding drop
drop_same zero zero z ne ne' e = absurd (ne refl)
drop_same zero (suc y) zero ne ne' e = absurd (ne' refl)
drop_same zero (suc y) (suc z) ne ne' e = ap suc e
drop_same (suc v) zero zero ne ne' e = refl
drop_same (suc v) zero (suc z) ne ne' e = absurd (omega (arith, e))
drop_same (suc v) (suc y) zero ne ne' e = absurd (omega (arith, e))
drop_same (suc v) (suc y) (suc z) ne ne' e =
    let less : drop v y ≡ drop v z = omega (arith, e) in
    ap suc (drop_same v y z (λ f. ne (ap suc f)) (λ f. ne' (ap suc f)) less)

-- the value at an index is that at an earlier one
pub record IsRepeat (f : ℕ → ℕ) (l : ℕ) : Type 0 where
  pub first : ℕ
  pub last : ℕ
  pub later : first < last
  pub within : last ≤ l
  pub same : f last ≡ f first

abbrev IsValue : (ℕ → ℕ) → ℕ → ℕ → Type 0
IsValue f v n = (i : ℕ) × ((i < n) × (f i ≡ v))

seek : (f : ℕ → ℕ) (v n : ℕ) → IsValue f v n ⊎ ((i : ℕ) → i < n → f i ≡ v → ⊥)
seek f v zero = inr (λ i h e. omega (arith, h))
seek f v (suc n) = elim (cases_eq (f n) v) as (λ _. IsValue f v (suc n) ⊎ ((i : ℕ) → i < suc n → f i ≡ v → ⊥)) [
  | inl e ↦ inl (n, (omega arith, e))
  | inr ne ↦ elim (seek f v n) as (λ _. IsValue f v (suc n) ⊎ ((i : ℕ) → i < suc n → f i ≡ v → ⊥)) [
    | inl x ↦ let lt = x.1.0 in inl (x.0, (omega (arith, lt), x.1.1))
    | inr none ↦ inr (λ i h e. elim (lt_or_eq i n (omega (arith, h))) as (λ _. ⊥) [
      | inl lt ↦ none i lt e
      | inr same ↦ ne (sym (ap f same) ∙ e)
    ])
  ]
]

pub repeated : (l : ℕ) (f : ℕ → ℕ) → ((i : ℕ) → f i < l) → IsRepeat f l
repeated l f less = by l f (λ i h. less i)
  where
    by : (l : ℕ) (f : ℕ → ℕ) → ((i : ℕ) → i < suc l → f i < l) → IsRepeat f l
    by zero f less = let h = less 0 (omega arith) in absurd (omega (arith, h))
    by (suc l) f less = elim (seek f (f (suc l)) (suc l)) as (λ _. IsRepeat f (suc l)) [
      | inl x ↦ record { first = x.0; last = suc l; later = x.1.0; within = omega arith; same = sym x.1.1 }
      | inr none ↦
          let r = by l (λ i. drop (f (suc l)) (f i)) (λ i h. drop_less (f (suc l)) (f i) l (less (suc l) (omega arith)) (less i (omega (arith, h))) (none i h)) in
          let last_in = r.within in
          let first_in = r.later in
          record {
            first = r.first;
            last = r.last;
            later = r.later;
            within = omega (arith, last_in);
            same = drop_same (f (suc l)) (f r.last) (f r.first) (none r.last (omega (arith, last_in))) (none r.first (omega (arith, last_in, first_in))) r.same;
          }
    ]
