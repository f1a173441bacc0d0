-- The number that a word spells.
use Rattle.std.specs.Prelude.{ℕ, Bool, false, ◌==◌, ◌&&◌, ◌||◌, not, List, [], ◌∷◌, ◌++◌, length, Option, Some, None, option_map, is_none, if◌then◌else◌, nat_lt, ℤ, pos}
use Rattle.std.specs.List.{list_all}
use Rattle.landxml_read.specs.declared.fault.DocCause.{DocCause}
use Rattle.landxml_read.specs.declared.fault.DocCause.TheVariants as cause
use Rattle.ground_num.specs.Spelling.{Sign, Bare, Plus, Minus, Exponent, Decimal, magnitude, thousandths, number_limit}
use Rattle.ground_num.specs.Reading.{is_digit}
use Rattle.ground_num.specs.Parts.{after_sign, leading_digits, after_digits, pointed_digits, after_point}

-- the sign at the front
abbrev pub sign_of : List ℕ → Sign
sign_of [] = Bare
sign_of (b ∷ bs) = if b == 45 then Minus else (if b == 43 then Plus else Bare)

-- the digits after a point at the front, where there is one
abbrev pub fraction_of : List ℕ → Option (List ℕ)
fraction_of [] = None
fraction_of (b ∷ bs) = if b == 46 then Some (leading_digits bs) else None

-- the exponent that the whole text is, or none where it is empty
abbrev pub exponent_of : List ℕ → Option (Option Exponent)
exponent_of [] = Some None
exponent_of (b ∷ bs) =
    if (b == 69 || b == 101) && not (length (after_sign bs) == 0) && list_all is_digit (after_sign bs)
    then Some (Some (record { is_upper = b == 69; sign = sign_of bs; digits = after_sign bs }))
    else None

-- the decimal that a text spells
unfoldable pub decimal_of : List ℕ → Option Decimal
decimal_of text =
    let unsigned = after_sign text in
    let rest = after_digits unsigned in
    if length (leading_digits unsigned ++ pointed_digits rest) == 0 then None
    else option_map (λ x. record { sign = sign_of text; whole = leading_digits unsigned; fraction = fraction_of rest; exponent = x }) (exponent_of (after_point rest))

-- the decimal's magnitude is over the limit
abbrev pub is_over : Option Decimal → Bool
is_over None = false
is_over (Some d) = nat_lt number_limit (magnitude d)

-- why a word is no number of a document
abbrev pub number_cause : List ℕ → Option DocCause
number_cause text = if is_none (decimal_of text) then Some cause.Number else (if is_over (decimal_of text) then Some cause.Big else None)

-- the thousandths of a decimal, where it is one
abbrev pub value_or_zero : Option Decimal → ℤ
value_or_zero None = pos 0
value_or_zero (Some d) = thousandths d
