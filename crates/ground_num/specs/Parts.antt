-- The parts of a decimal's text, taken off from the left.
use Rattle.std.specs.Prelude.{ℕ, Bool, true, false, ◌==◌, ◌||◌, List, [], ◌∷◌, drop, length, take_while, if◌then◌else◌}
use Rattle.ground_num.specs.Spelling.{Sign, Bare, Plus, Minus}
use Rattle.ground_num.specs.Reading.{is_digit}

-- the sign is a minus
abbrev pub is_minus : Sign → Bool
is_minus Bare = false
is_minus Plus = false
is_minus Minus = true

-- a minus stands at the front
abbrev pub has_minus : List ℕ → Bool
has_minus [] = false
has_minus (b ∷ bs) = b == 45

-- what stands after a sign at the front
abbrev pub after_sign : List ℕ → List ℕ
after_sign [] = []
after_sign (b ∷ bs) = if b == 43 || b == 45 then bs else b ∷ bs

-- the digits at the front
abbrev pub leading_digits : List ℕ → List ℕ
leading_digits bs = take_while is_digit bs

-- what stands after the digits at the front
abbrev pub after_digits : List ℕ → List ℕ
after_digits bs = drop (length (leading_digits bs)) bs

-- the digits after a point at the front
abbrev pub pointed_digits : List ℕ → List ℕ
pointed_digits [] = []
pointed_digits (b ∷ bs) = if b == 46 then leading_digits bs else []

-- what stands after a point at the front and its digits
abbrev pub after_point : List ℕ → List ℕ
after_point [] = []
after_point (b ∷ bs) = if b == 46 then after_digits bs else b ∷ bs

-- the digits of an exponent: what stands after its letter and its sign
abbrev pub exponent_digits : List ℕ → List ℕ
exponent_digits [] = []
exponent_digits (b ∷ bs) = after_sign bs

-- the exponent has a minus
abbrev pub has_minus_exponent : List ℕ → Bool
has_minus_exponent [] = false
has_minus_exponent (b ∷ bs) = has_minus bs
