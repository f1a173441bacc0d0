-- Decimals of a document: how they are spelled, and the thousandths that they stand for.
use Rattle.std.specs.Prelude.{◌≡◌, ℕ, ◌+◌, ◌*◌, ◌/◌, ◌^◌, ◌<◌, List, [], ◌∷◌, ◌++◌, length, Option, Some, None, Bool, if◌then◌else◌, ℤ, pos, neg_ℤ, IfSome}
use Rattle.std.specs.Str.Parse.{digits_value, AllDigits, IsNumeral}

-- what stands at the front of a number: nothing, a plus or a minus
pub data Sign : Type 0 where
  Bare : Sign
  Plus : Sign
  Minus : Sign

-- an e or E, a sign and digits
pub record Exponent : Type 0 where
  pub is_upper : Bool  -- E, and else e
  pub sign : Sign
  pub digits : List ℕ

-- a sign, digits, a point with further digits where there is one, and an exponent where there is one
pub record Decimal : Type 0 where
  pub sign : Sign
  pub whole : List ℕ
  pub fraction : Option (List ℕ)  -- what stands after a point
  pub exponent : Option Exponent

-- the text of a sign
abbrev pub sign_text : Sign → List ℕ
sign_text Bare = []
sign_text Plus = 43 ∷ []
sign_text Minus = 45 ∷ []

-- a point and the digits after it, or nothing
abbrev pub fraction_text : Option (List ℕ) → List ℕ
fraction_text None = []
fraction_text (Some digits) = 46 ∷ digits

-- the letter, the sign and the digits of an exponent, or nothing
abbrev pub exponent_text : Option Exponent → List ℕ
exponent_text None = []
exponent_text (Some x) = (if x.is_upper then 69 else 101) ∷ sign_text x.sign ++ x.digits

-- the one text of a decimal
abbrev pub decimal_text : Decimal → List ℕ
decimal_text d = sign_text d.sign ++ d.whole ++ fraction_text d.fraction ++ exponent_text d.exponent

-- the digits after a point, where there is one
abbrev pub digits_of : Option (List ℕ) → List ℕ
digits_of None = []
digits_of (Some digits) = digits

-- the digits after the point of a decimal
abbrev pub fraction_digits : Decimal → List ℕ
fraction_digits d = digits_of d.fraction

-- its digits are digits; at least one stands before or after the point, and at least one in the exponent
pub record IsDecimal (d : Decimal) : Type 0 where
  pub whole : AllDigits 10 d.whole
  pub fraction : AllDigits 10 (fraction_digits d)
  pub some : 0 < length (d.whole ++ fraction_digits d)
  pub exponent : IfSome d.exponent (λ x. IsNumeral 10 x.digits)

-- the text spells a decimal
abbrev pub IsDecimalText : List ℕ → Type 0
IsDecimalText text = (d : Decimal) × IsDecimal d × (text ≡ decimal_text d)

-- by how many digits the exponent moves the point to the right
abbrev pub moved_right : Option Exponent → ℕ
moved_right None = 0
moved_right (Some x) = right_of x.sign (digits_value 10 x.digits) where
  right_of : Sign → ℕ → ℕ
  right_of Minus n = 0
  right_of Plus n = n
  right_of Bare n = n

-- by how many digits the exponent moves the point to the left
abbrev pub moved_left : Option Exponent → ℕ
moved_left None = 0
moved_left (Some x) = left_of x.sign (digits_value 10 x.digits) where
  left_of : Sign → ℕ → ℕ
  left_of Minus n = n
  left_of Plus n = 0
  left_of Bare n = 0

-- n * 10 ^ right / 10 ^ left, rounded to a whole number, a half up
unfoldable pub rounded : ℕ → ℕ → ℕ → ℕ
rounded n right left = (2 * (n * 10 ^ right) + 10 ^ left) / (2 * 10 ^ left)

-- the magnitude in thousandths, rounded
abbrev pub magnitude : Decimal → ℕ
magnitude d = rounded (digits_value 10 (d.whole ++ fraction_digits d)) (moved_right d.exponent + 3) (moved_left d.exponent + length (fraction_digits d))

-- a magnitude with its sign
abbrev pub signed : Sign → ℕ → ℤ
signed Minus m = neg_ℤ (pos m)
signed Plus m = pos m
signed Bare m = pos m

-- the number of thousandths, a half rounded away from zero
abbrev pub thousandths : Decimal → ℤ
thousandths d = signed d.sign (magnitude d)

-- the greatest magnitude of a number of a document, in thousandths
abbrev pub number_limit : ℕ
number_limit = 999999999999

-- the text spells a decimal of so many thousandths
abbrev pub IsTextOf : ℤ → List ℕ → Type 0
IsTextOf number text = (d : Decimal) × IsDecimal d × (text ≡ decimal_text d) × (number ≡ thousandths d)

-- the text spells a decimal whose rounded magnitude is over the limit
abbrev pub IsTooBig : List ℕ → Type 0
IsTooBig text = (d : Decimal) × IsDecimal d × (text ≡ decimal_text d) × (number_limit < magnitude d)
