-- The parts that are taken off a decimal's text are those that it is spelled of.
use Rattle.std.proofs.Common.{◌≡◌, ℕ, zero, suc, ◌<◌, Bool, true, false, ◌==◌, ◌||◌, cond, List, [], ◌∷◌, ◌++◌, length, take, drop, take_while, Option, None, Some, refl, ◌∙◌, ap, arith, append_assoc}
use Rattle.std.proofs.lemmas.List.Sums.{take_while-cons}
use Rattle.std.proofs.Math.Seq.{drop-append_seam}
use Rattle.std.proofs.lemmas.Str.Parse.{digit_from_value}
use Rattle.std.specs.Char.{digit_value}
use Rattle.std.specs.Str.Parse.{AllDigits, IsNumeral}
use Rattle.ground_num.specs.Spelling.{Sign, Bare, Plus, Minus, Exponent, Decimal, IsDecimal, decimal_text, sign_text, fraction_text, exponent_text, fraction_digits, digits_of}
use Rattle.ground_num.specs.Reading.{is_digit}
use Rattle.ground_num.specs.Parts.{has_minus, after_sign, leading_digits, after_digits, pointed_digits, after_point, exponent_digits, has_minus_exponent, is_minus}

-- the first byte, if any, is no digit
NoDigit : List ℕ → Type 0
NoDigit [] = Unit {0}
NoDigit (b ∷ bs) = is_digit b ≡ false

-- the first byte, if any, is no sign
abbrev NoSign : List ℕ → Type 0
NoSign [] = Unit {0}
NoSign (b ∷ bs) = ((b == 43) ≡ false) × ((b == 45) ≡ false)

digit_byte : (b : ℕ) → digit_value b < 10 → is_digit b ≡ true
digit_byte b small = let r = digit_from_value b small in grind (arith, r)

digit_no_sign : (b : ℕ) → digit_value b < 10 → ((b == 43) ≡ false) × ((b == 45) ≡ false)
digit_no_sign b small = let r = digit_from_value b small in (grind (arith, r), grind (arith, r))

-- what is taken from a front is taken by its length
pub take_taken : (n : ℕ) (xs : List ℕ) → take (length (take n xs)) xs ≡ take n xs
take_taken zero xs = refl
take_taken (suc n) [] = refl
take_taken (suc n) (x ∷ xs) = ap (λ w. x ∷ w) (take_taken n xs)

leading_is : (ds rest : List ℕ) → AllDigits 10 ds → NoDigit rest → leading_digits (ds ++ rest) ≡ ds
unfolding NoDigit
leading_is [] [] all free = refl
leading_is [] (b ∷ bs) all free = take_while-cons is_digit b bs ∙ ap (λ t. cond t (b ∷ take_while is_digit bs) []) free
leading_is (d ∷ ds) rest all free =
    take_while-cons is_digit d (ds ++ rest) ∙ ap (λ t. cond t (d ∷ take_while is_digit (ds ++ rest)) []) (digit_byte d all.0) ∙ ap (λ w. d ∷ w) (leading_is ds rest all.1 free)

after_is : (ds rest : List ℕ) → AllDigits 10 ds → NoDigit rest → after_digits (ds ++ rest) ≡ rest
after_is ds rest all free = ap (λ w. drop (length w) (ds ++ rest)) (leading_is ds rest all free) ∙ drop-append_seam ds rest

sign_off : (s : Sign) (bs : List ℕ) → NoSign bs → (has_minus (sign_text s ++ bs) ≡ is_minus s) × (after_sign (sign_text s ++ bs) ≡ bs)
sign_off Plus bs free = (refl, refl)
sign_off Minus bs free = (refl, refl)
sign_off Bare [] free = (refl, refl)
sign_off Bare (b ∷ bs) free = (free.1, ap (λ t. cond (t || (b == 45)) bs (b ∷ bs)) free.0 ∙ ap (λ t. cond t bs (b ∷ bs)) free.1)

exponent_no_digit : (x : Option Exponent) → NoDigit (exponent_text x)
unfolding NoDigit
exponent_no_digit None = tt
exponent_no_digit (Some x) = by_case x.is_upper
  where
    by_case : (u : Bool) → is_digit (cond u 69 101) ≡ false
    by_case true = refl
    by_case false = refl

rest_no_digit : (f : Option (List ℕ)) (x : Option Exponent) → NoDigit (fraction_text f ++ exponent_text x)
unfolding NoDigit
rest_no_digit None x = exponent_no_digit x
rest_no_digit (Some ds) x = refl

mantissa_no_sign : (whole : List ℕ) (f : Option (List ℕ)) (x : Option Exponent) → AllDigits 10 whole → 0 < length (whole ++ digits_of f) → NoSign (whole ++ (fraction_text f ++ exponent_text x))
mantissa_no_sign (d ∷ ds) f x all some = digit_no_sign d all.0
mantissa_no_sign [] (Some ds) x all some = (refl, refl)
mantissa_no_sign [] None x all some = absurd (omega arith)

fraction_is : (f : Option (List ℕ)) (x : Option Exponent) → AllDigits 10 (digits_of f) → pointed_digits (fraction_text f ++ exponent_text x) ≡ digits_of f
fraction_is (Some ds) x all = leading_is ds (exponent_text x) all (exponent_no_digit x)
fraction_is None None all = refl
fraction_is None (Some x) all = by_case x.is_upper
  where
    by_case : (u : Bool) → cond (cond u 69 101 == 46) (leading_digits (sign_text x.sign ++ x.digits)) [] ≡ []
    by_case true = refl
    by_case false = refl

after_fraction_is : (f : Option (List ℕ)) (x : Option Exponent) → AllDigits 10 (digits_of f) → after_point (fraction_text f ++ exponent_text x) ≡ exponent_text x
after_fraction_is (Some ds) x all = after_is ds (exponent_text x) all (exponent_no_digit x)
after_fraction_is None None all = refl
after_fraction_is None (Some x) all = by_case x.is_upper
  where
    by_case : (u : Bool) → cond (cond u 69 101 == 46) (after_digits (sign_text x.sign ++ x.digits)) (cond u 69 101 ∷ (sign_text x.sign ++ x.digits)) ≡ cond u 69 101 ∷ (sign_text x.sign ++ x.digits)
    by_case true = refl
    by_case false = refl

-- the parts of a decimal's text
pub record HasParts (d : Decimal) (text : List ℕ) : Type 0 where
  pub minus : has_minus text ≡ is_minus d.sign
  pub whole : leading_digits (after_sign text) ≡ d.whole
  pub fraction : pointed_digits (after_digits (after_sign text)) ≡ fraction_digits d
  pub exponent : after_point (after_digits (after_sign text)) ≡ exponent_text d.exponent

pub parts_are : (d : Decimal) (text : List ℕ) → IsDecimal d → text ≡ decimal_text d → HasParts d text
parts_are d text is e =
    let rest = fraction_text d.fraction ++ exponent_text d.exponent in
    let grouped : text ≡ sign_text d.sign ++ (d.whole ++ rest) = e ∙ regroup (sign_text d.sign) d.whole (fraction_text d.fraction) (exponent_text d.exponent) in
    let off = sign_off d.sign (d.whole ++ rest) (mantissa_no_sign d.whole d.fraction d.exponent is.whole is.some) in
    let unsigned : after_sign text ≡ d.whole ++ rest = ap after_sign grouped ∙ off.1 in
    let free = rest_no_digit d.fraction d.exponent in
    let after : after_digits (after_sign text) ≡ rest = ap after_digits unsigned ∙ after_is d.whole rest is.whole free in
    record {
      minus = ap has_minus grouped ∙ off.0;
      whole = ap leading_digits unsigned ∙ leading_is d.whole rest is.whole free;
      fraction = ap pointed_digits after ∙ fraction_is d.fraction d.exponent is.fraction;
      exponent = ap after_point after ∙ after_fraction_is d.fraction d.exponent is.fraction;
    }
  where
    regroup : (a b c d : List ℕ) → ((a ++ b) ++ c) ++ d ≡ a ++ (b ++ (c ++ d))
    regroup a b c d = simp append_assoc

-- the parts of an exponent
pub exponent_parts : (x : Exponent) → IsNumeral 10 x.digits → (has_minus_exponent (exponent_text (Some x)) ≡ is_minus x.sign) × (exponent_digits (exponent_text (Some x)) ≡ x.digits)
exponent_parts x n = sign_off x.sign x.digits (no_sign x.digits n)
  where
    no_sign : (ds : List ℕ) → IsNumeral 10 ds → NoSign ds
    no_sign [] n = tt
    no_sign (d ∷ ds) n = digit_no_sign d n.1.0
