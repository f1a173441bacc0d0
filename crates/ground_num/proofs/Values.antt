-- From the parts of a decimal to its value.
use Rattle.std.proofs.Common.{◌≡◌, ℕ, ◌+◌, ◌-◌, ◌^◌, zero-add, min, Bool, true, false, List, [], ◌∷◌, ◌++◌, length, Option, None, Some, IfSome, sym, ◌∙◌, ap, subst}
use Rattle.std.specs.Str.Parse.{digits_value, AllDigits, IsNumeral}
use Rattle.ground_num.specs.Spelling.{Sign, Bare, Plus, Minus, Exponent, Decimal, IsDecimal, IsDecimalText, decimal_text, exponent_text, fraction_digits, moved_right, moved_left, rounded, magnitude}
use Rattle.ground_num.specs.Parts.{after_sign, leading_digits, after_digits, pointed_digits, after_point, exponent_digits, has_minus_exponent, is_minus}
use Rattle.ground_num.proofs.Parts.{parts_are, exponent_parts}

both_digits : (xs ys : List ℕ) → AllDigits 10 xs → AllDigits 10 ys → AllDigits 10 (xs ++ ys)
both_digits [] ys all too = too
both_digits (x ∷ xs) ys all too = (all.0, both_digits xs ys all.1 too)

-- the digits that are taken off are digits
pub digits_are : (text : List ℕ) → IsDecimalText text → AllDigits 10 (leading_digits (after_sign text) ++ pointed_digits (after_digits (after_sign text)))
digits_are text t =
    let d = t.0 in
    let parts = parts_are d text t.1 t.2 in
    let P : List ℕ → Type 0 = λ w. AllDigits 10 w in
    subst P (sym (ap (λ w. w ++ pointed_digits (after_digits (after_sign text))) parts.whole ∙ ap (λ w. d.whole ++ w) parts.fraction)) (both_digits d.whole (fraction_digits d) t.1.whole t.1.fraction)

pub exponent_are : (text : List ℕ) → IsDecimalText text → AllDigits 10 (exponent_digits (after_point (after_digits (after_sign text))))
exponent_are text t =
    let P : List ℕ → Type 0 = λ w. AllDigits 10 (exponent_digits w) in
    subst P (sym (parts_are t.0 text t.1 t.2).exponent) (of_exponent t.0.exponent t.1.exponent)
  where
    of_exponent : (x : Option Exponent) → IfSome x (λ x. IsNumeral 10 x.digits) → AllDigits 10 (exponent_digits (exponent_text x))
    of_exponent None n = tt
    of_exponent (Some x) n = let P : List ℕ → Type 0 = λ w. AllDigits 10 w in subst P (sym (exponent_parts x n).1) n.1

-- what is known of a magnitude m of the digits n by an exponent that moves the point
pub record IsMoved (n fraction : ℕ) (is_left : Bool) (moved m : ℕ) : Type 0 where
  pub right : (k : ℕ) → is_left ≡ false → moved ≡ min k (2 ^ 64 - 1) → min m (10 ^ 12) ≡ min (rounded n (k + 3) fraction) (10 ^ 12)
  pub left : (k : ℕ) → is_left ≡ true → moved ≡ min k (2 ^ 64 - 1) → min m (10 ^ 12) ≡ min (rounded n 3 (k + fraction)) (10 ^ 12)

by_exponent : (n fraction : ℕ) (is_left : Bool) (moved m : ℕ) (x : Option Exponent) → IfSome x (λ x. IsNumeral 10 x.digits) → IsMoved n fraction is_left moved m
    → is_left ≡ has_minus_exponent (exponent_text x) → moved ≡ min (digits_value 10 (exponent_digits (exponent_text x))) (2 ^ 64 - 1)
    → min m (10 ^ 12) ≡ min (rounded n (moved_right x + 3) (moved_left x + fraction)) (10 ^ 12)
by_exponent n fraction is_left moved m None num is e f = is.right 0 e f ∙ ap (λ k. min (rounded n (0 + 3) k) (10 ^ 12)) (sym (zero-add fraction))
by_exponent n fraction is_left moved m (Some x) num is e f =
    let parts = exponent_parts x num in
    by_sign x.is_upper x.sign x.digits (e ∙ parts.0) (f ∙ ap (λ w. min (digits_value 10 w) (2 ^ 64 - 1)) parts.1)
  where
    by_sign : (u : Bool) (s : Sign) (ds : List ℕ) → is_left ≡ is_minus s → moved ≡ min (digits_value 10 ds) (2 ^ 64 - 1)
        → min m (10 ^ 12) ≡ min (rounded n (moved_right (Some (record { is_upper = u; sign = s; digits = ds })) + 3) (moved_left (Some (record { is_upper = u; sign = s; digits = ds })) + fraction)) (10 ^ 12)
    by_sign u Bare ds g h = is.right (digits_value 10 ds) g h ∙ ap (λ k. min (rounded n (digits_value 10 ds + 3) k) (10 ^ 12)) (sym (zero-add fraction))
    by_sign u Plus ds g h = is.right (digits_value 10 ds) g h ∙ ap (λ k. min (rounded n (digits_value 10 ds + 3) k) (10 ^ 12)) (sym (zero-add fraction))
    by_sign u Minus ds g h = is.left (digits_value 10 ds) g h

-- the magnitude of what is taken off is that of the decimal
pub magnitude_is : (d : Decimal) (text : List ℕ) (is_left : Bool) (moved m : ℕ) → IsDecimal d → text ≡ decimal_text d
    → is_left ≡ has_minus_exponent (after_point (after_digits (after_sign text)))
    → moved ≡ min (digits_value 10 (exponent_digits (after_point (after_digits (after_sign text))))) (2 ^ 64 - 1)
    → IsMoved (digits_value 10 (leading_digits (after_sign text) ++ pointed_digits (after_digits (after_sign text)))) (length (pointed_digits (after_digits (after_sign text)))) is_left moved m
    → min m (10 ^ 12) ≡ min (magnitude d) (10 ^ 12)
magnitude_is d text is_left moved m is e left_is moved_is known =
    let parts = parts_are d text is e in
    let P : List ℕ → List ℕ → Type 0 = λ w f. IsMoved (digits_value 10 (w ++ f)) (length f) is_left moved m in
    let first = subst (λ w. P w (pointed_digits (after_digits (after_sign text)))) parts.whole known in
    by_exponent (digits_value 10 (d.whole ++ fraction_digits d)) (length (fraction_digits d)) is_left moved m d.exponent is.exponent (subst (λ f. P d.whole f) parts.fraction first)
    (left_is ∙ ap has_minus_exponent parts.exponent) (moved_is ∙ ap (λ w. min (digits_value 10 (exponent_digits w)) (2 ^ 64 - 1)) parts.exponent)
