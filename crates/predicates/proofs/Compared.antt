-- How numbers compare with zero, by their signs.
use Rattle.std.proofs.Common.{◌≡◌, refl, sym, ap, ◌∙◌, arith, Bool, true, false, cond}
use Rattle.std.specs.Prelude.{ℤ, pos, ◌<ℤ◌, int_lt}
use Rattle.std.specs.declared.cmp.Ordering.TheVariants.{Less, Equal, Greater}
use Rattle.std.specs.Ordering.{int_cmp, ordering_then}
use Rattle.std.proofs.lemmas.Int.{ints, by_lt_z}

less : (s t : Bool) → true ≡ s → cond s Less (cond t Greater Equal) ≡ Less
less true t e = refl
less false t e = cc

greater : (s t : Bool) → false ≡ s → true ≡ t → cond s Less (cond t Greater Equal) ≡ Greater
greater true t e f = cc
greater false true e f = refl
greater false false e f = cc

equal : (s t : Bool) → false ≡ s → false ≡ t → cond s Less (cond t Greater Equal) ≡ Equal
equal true t e f = cc
equal false true e f = cc
equal false false e f = refl

pub cmp_less : (x : ℤ) → x <ℤ pos 0 → int_cmp x (pos 0) ≡ Less
cmp_less x h = less (int_lt x (pos 0)) (int_lt (pos 0) x) (omega (arith, ints))

pub cmp_greater : (x : ℤ) → pos 0 <ℤ x → int_cmp x (pos 0) ≡ Greater
cmp_greater x h = greater (int_lt x (pos 0)) (int_lt (pos 0) x) (omega (arith, ints)) (omega (arith, ints))

pub cmp_equal : (x : ℤ) → x ≡ pos 0 → int_cmp x (pos 0) ≡ Equal
cmp_equal x e = equal (int_lt x (pos 0)) (int_lt (pos 0) x) (omega (arith, ints, e)) (omega (arith, ints, e))

-- s has the sign of w
pub record IsSigned (s w : ℤ) : Type 0 where
  pub left : pos 0 <ℤ w → pos 0 <ℤ s
  pub right : w <ℤ pos 0 → s <ℤ pos 0
  pub flat : w ≡ pos 0 → s ≡ pos 0

-- a sign is negative, positive or zero
pub by_sign : {P : Type 0} (w : ℤ) → (w <ℤ pos 0 → P) → (pos 0 <ℤ w → P) → (w ≡ pos 0 → P) → P
by_sign w neg more flat = by_lt_z w (pos 0) neg (λ ge. by_lt_z (pos 0) w more (λ le. flat (omega (arith, ints))))

pub cmp_signed : (s w : ℤ) → IsSigned s w → int_cmp s (pos 0) ≡ int_cmp w (pos 0)
cmp_signed s w h = by_sign w
    (λ lt. cmp_less s (h.right lt) ∙ sym (cmp_less w lt))
    (λ gt. cmp_greater s (h.left gt) ∙ sym (cmp_greater w gt))
    (λ e. cmp_equal s (h.flat e) ∙ sym (cmp_equal w e))

-- w has the sign of x, or where that is zero the sign of y
pub record IsSignedFirst (w x y : ℤ) : Type 0 where
  pub left : pos 0 <ℤ x → pos 0 <ℤ w
  pub right : x <ℤ pos 0 → w <ℤ pos 0
  pub rest : x ≡ pos 0 → IsSigned w y

pub cmp_first : (w x y : ℤ) → IsSignedFirst w x y → int_cmp w (pos 0) ≡ ordering_then (int_cmp x (pos 0)) (int_cmp y (pos 0))
cmp_first w x y h = by_sign x
    (λ lt. cmp_less w (h.right lt) ∙ sym (ap (λ k. ordering_then k (int_cmp y (pos 0))) (cmp_less x lt)))
    (λ gt. cmp_greater w (h.left gt) ∙ sym (ap (λ k. ordering_then k (int_cmp y (pos 0))) (cmp_greater x gt)))
    (λ e. cmp_signed w y (h.rest e) ∙ sym (ap (λ k. ordering_then k (int_cmp y (pos 0))) (cmp_equal x e)))
