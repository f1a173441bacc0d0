-- How UTF-8 goes on from the left, byte by byte (Unicode, table 3-7).
use Rattle.std.specs.Prelude.{ℕ, Bool, true, false, ◌==◌, ◌&&◌, nat_lt, List, [], ◌∷◌, Option, Some, None, if◌then◌else◌}
use Rattle.landxml_read.specs.declared.utf8.Utf8.{Utf8}
use Rattle.landxml_read.specs.declared.utf8.Utf8.TheVariants.{Ready, One, Two, Three, AfterE0, AfterEd, AfterF0, AfterF4}

-- from the first byte to before the last
abbrev pub is_between : ℕ → ℕ → ℕ → Bool
is_between first last b = nat_lt first b && nat_lt b last

-- a sequence's state, where the byte may stand
abbrev pub on_between : ℕ → ℕ → ℕ → Utf8 → Option Utf8
on_between first last b state = if is_between first last b then Some state else None

-- after the first byte of a sequence, or a character of one byte
abbrev pub begun_by : ℕ → Option Utf8
begun_by b =
    if nat_lt b 0x80 then Some Ready
    else (if nat_lt b 0xC2 then None
    else (if nat_lt b 0xE0 then Some One
    else (if b == 0xE0 then Some AfterE0
    else (if b == 0xED then Some AfterEd
    else (if nat_lt b 0xF0 then Some Two
    else (if b == 0xF0 then Some AfterF0
    else (if nat_lt b 0xF4 then Some Three else (if b == 0xF4 then Some AfterF4 else None))))))))

-- the state after a byte, where UTF-8 goes on with it
abbrev pub utf8_next : Utf8 → ℕ → Option Utf8
utf8_next Ready b = begun_by b
utf8_next One b = on_between 0x7F 0xC0 b Ready
utf8_next Two b = on_between 0x7F 0xC0 b One
utf8_next Three b = on_between 0x7F 0xC0 b Two
utf8_next AfterE0 b = on_between 0x9F 0xC0 b One
utf8_next AfterEd b = on_between 0x7F 0xA0 b One
utf8_next AfterF0 b = on_between 0x8F 0xC0 b Two
utf8_next AfterF4 b = on_between 0x7F 0x90 b Two

-- no sequence is open
abbrev pub is_ready : Utf8 → Bool
is_ready Ready = true
is_ready One = false
is_ready Two = false
is_ready Three = false
is_ready AfterE0 = false
is_ready AfterEd = false
is_ready AfterF0 = false
is_ready AfterF4 = false

-- the state after some bytes, where UTF-8 goes on with each
abbrev pub utf8_run : Option Utf8 → List ℕ → Option Utf8
utf8_run o [] = o
utf8_run None (b ∷ bs) = None
utf8_run (Some s) (b ∷ bs) = utf8_run (utf8_next s b) bs
