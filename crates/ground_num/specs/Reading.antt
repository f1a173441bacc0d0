-- How a decimal goes on from the left, byte by byte.
use Rattle.std.specs.Prelude.{ℕ, Bool, true, false, ◌==◌, ◌&&◌, ◌||◌, nat_lt, Option, Some, None, if◌then◌else◌}
use Rattle.ground_num.specs.declared.reading.Reading.{Reading}
use Rattle.ground_num.specs.declared.reading.Reading.TheVariants.{Start, Signed, Whole, Point, Fraction, Mark, MarkSigned, Exponent}

-- 0 to 9
abbrev pub is_digit : ℕ → Bool
is_digit b = nat_lt 47 b && nat_lt b 58

-- what a byte may be in a decimal
pub data Class : Type 0 where
  Digit : Class
  SignByte : Class
  Dot : Class
  Letter : Class
  Other : Class

-- the class of a byte
abbrev pub class_of : ℕ → Class
class_of b =
    if is_digit b then Digit
    else (if b == 43 || b == 45 then SignByte else (if b == 46 then Dot else (if b == 69 || b == 101 then Letter else Other)))

-- what was read last after a byte of a class, where a decimal goes on with one
abbrev pub next_by : Reading → Class → Option Reading
next_by Start Digit = Some Whole
next_by Start SignByte = Some Signed
next_by Start Dot = Some Point
next_by Signed Digit = Some Whole
next_by Signed Dot = Some Point
next_by Whole Digit = Some Whole
next_by Whole Dot = Some Fraction
next_by Whole Letter = Some Mark
next_by Point Digit = Some Fraction
next_by Fraction Digit = Some Fraction
next_by Fraction Letter = Some Mark
next_by Mark Digit = Some Exponent
next_by Mark SignByte = Some MarkSigned
next_by MarkSigned Digit = Some Exponent
next_by Exponent Digit = Some Exponent
next_by _ _ = None

-- what was read last after a byte, where a decimal goes on with it
abbrev pub next : Reading → ℕ → Option Reading
next s b = next_by s (class_of b)

-- a decimal may end here
abbrev pub is_final : Reading → Bool
is_final Whole = true
is_final Fraction = true
is_final Exponent = true
is_final _ = false
