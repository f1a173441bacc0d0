-- Texts of numbers of thousandths are decimals of those numbers.
use Rattle.std.proofs.Common.{◌≡◌, ℕ, suc, ◌+◌, ◌*◌, ◌/◌, ◌%◌, ◌≤◌, ◌<◌, ◌∙◌, List, [], ◌∷◌, ◌++◌, Some, None, true, false, ap, sym, refl, arith, append_assoc, length-append, ℤ, pos, negsuc, ◌-ℤ◌, unsigned_abs, to_z, of_z, w64}
use Rattle.std.proofs.lemmas.Int.{ints}
use Rattle.std.proofs.lemmas.Fmt.{decimal_is_IsNumeral}
use Rattle.std.proofs.lemmas.Str.{digit_value_digit}
use Rattle.std.specs.Char.{digit_value}
use Rattle.std.specs.Fmt.{decimal}
use Rattle.std.specs.Str.Parse.{digits_value, digits_value_after, AllDigits}
use Rattle.ground_num.specs.Decimal.{three_digits, magnitude_text, thousandths_text, IsWithin}
use Rattle.ground_num.specs.Spelling.{Sign, Bare, Minus, Decimal, IsDecimal, decimal_text, sign_text, magnitude, number_limit}
use Rattle.ground_num.specs.Parts.{is_minus}
use Rattle.ground_num.proofs.Digits.{digits_split, raised}

digit_of : (k : ℕ) → k < 10 → digit_value (48 + k) ≡ k
digit_of k small = let e = digit_value_digit (48 + k) (omega arith, omega arith) in omega arith

three_are : (r : ℕ) → r < 1000 → AllDigits 10 (three_digits r)
three_are r small =
    let a : digit_value (48 + r / 100) ≡ r / 100 = digit_of (r / 100) (omega arith) in
    let b : digit_value (48 + r / 10 % 10) ≡ r / 10 % 10 = digit_of (r / 10 % 10) (omega arith) in
    let c : digit_value (48 + r % 10) ≡ r % 10 = digit_of (r % 10) (omega arith) in
    (omega arith, (omega arith, (omega arith, tt)))

three_value : (q r : ℕ) → r < 1000 → digits_value_after 10 q (three_digits r) ≡ q * 1000 + r
three_value q r small =
    let a : digit_value (48 + r / 100) ≡ r / 100 = digit_of (r / 100) (omega arith) in
    let b : digit_value (48 + r / 10 % 10) ≡ r / 10 % 10 = digit_of (r / 10 % 10) (omega arith) in
    let c : digit_value (48 + r % 10) ≡ r % 10 = digit_of (r % 10) (omega arith) in
    rw (a, b, c) (omega arith)

-- a magnitude's text with a sign
abbrev pub written : Sign → ℕ → Decimal
written s m = record { sign = s; whole = decimal (m / 1000); fraction = Some (three_digits (m % 1000)); exponent = None }

pub written_is : (s : Sign) (m : ℕ) → m ≤ number_limit → IsDecimal (written s m)
written_is s m small =
    let q = decimal_is_IsNumeral (m / 1000) (omega arith) in
    record { whole = q.0.1; fraction = three_are (m % 1000) (omega arith); some = omega (arith, q.0.0, length-append (decimal (m / 1000)) (three_digits (m % 1000))); exponent = tt }

append_nil : (xs : List ℕ) → xs ++ [] ≡ xs
append_nil [] = refl
append_nil (x ∷ xs) = ap (λ w. x ∷ w) (append_nil xs)

pub written_text : (s : Sign) (m : ℕ) → sign_text s ++ magnitude_text m ≡ decimal_text (written s m)
written_text s m =
    sym (append_nil (sign_text s ++ magnitude_text m))
    ∙ ap (λ w. w ++ []) (sym (append_assoc (sign_text s) (decimal (m / 1000)) (46 ∷ three_digits (m % 1000))))

pub written_magnitude : (s : Sign) (m : ℕ) → m ≤ number_limit → magnitude (written s m) ≡ m
written_magnitude s m small =
    let q = decimal_is_IsNumeral (m / 1000) (omega arith) in
    let n : digits_value 10 (decimal (m / 1000) ++ three_digits (m % 1000)) ≡ m =
    digits_split 0 (decimal (m / 1000)) (three_digits (m % 1000)) ∙ ap (λ k. digits_value_after 10 k (three_digits (m % 1000))) q.1 ∙ three_value (m / 1000) (m % 1000) (omega arith) ∙ omega arith in
    raised (digits_value 10 (decimal (m / 1000) ++ three_digits (m % 1000))) 3 0 ∙ omega arith

-- the decimal that the text of a number spells
abbrev pub read_back : ℤ → Decimal
read_back (pos m) = written Bare m
read_back (negsuc m) = written Minus (suc m)

pub record IsReadBack (z : ℤ) : Type 0 where
  pub is : IsDecimal (read_back z)
  pub text : thousandths_text z ≡ decimal_text (read_back z)
  pub magnitude : magnitude (read_back z) ≡ unsigned_abs z
  pub limit : unsigned_abs z ≤ number_limit

pub reads_back : (z : ℤ) → IsWithin number_limit z → IsReadBack z
reads_back (pos m) within = record { is = written_is Bare m within; text = written_text Bare m; magnitude = written_magnitude Bare m within; limit = within }
reads_back (negsuc m) within = record { is = written_is Minus (suc m) within; text = written_text Minus (suc m); magnitude = written_magnitude Minus (suc m) within; limit = within }

-- the number with a minus, where the decimal has one
pub below_zero : (z : ℤ) (m : ℕ) → m ≤ number_limit → is_minus ((read_back z).sign) ≡ true → m ≡ unsigned_abs z → to_z w64 (of_z w64 (pos 0 -ℤ to_z w64 m)) ≡ z
below_zero (pos n) m small minus e = cc
below_zero (negsuc n) m small minus e = rw e (value n (omega arith))
  where
    value : (n : ℕ) → suc n ≤ 999999999999 → to_z w64 (of_z w64 (pos 0 -ℤ to_z w64 (suc n))) ≡ negsuc n
    value n small = omega (arith, ints)

-- the number without one, where it has none
pub from_zero : (z : ℤ) (m : ℕ) → m ≤ number_limit → is_minus ((read_back z).sign) ≡ false → m ≡ unsigned_abs z → to_z w64 m ≡ z
from_zero (negsuc n) m small minus e = cc
from_zero (pos n) m small minus e = rw e (value n (omega arith))
  where
    value : (n : ℕ) → n ≤ 999999999999 → to_z w64 n ≡ pos n
    value n small = omega (arith, ints)
