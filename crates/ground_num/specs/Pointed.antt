-- Digits with a point among them, rounded by the digit after it.
use Rattle.std.specs.Prelude.{ℕ, ◌+◌, ◌-◌, ◌*◌, ◌^◌, nat_lt, List, length, take, slice_index, if◌then◌else◌}
use Rattle.std.specs.Char.{digit_value}
use Rattle.std.specs.Str.Parse.{digits_value}

-- the number that digits spell with the point after so many of them, a half rounded up
unfoldable pub pointed : List ℕ → ℕ → ℕ
pointed digits places =
    if nat_lt places (length digits)
    then digits_value 10 (take places digits) + (if nat_lt 4 (digit_value (slice_index digits places)) then 1 else 0)
    else digits_value 10 digits * 10 ^ (places - length digits)
