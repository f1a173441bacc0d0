-- How far numbers parted by spaces have come, and how they go on.
use Rattle.std.specs.Prelude.{ℕ, ◌-◌, ◌==◌, Bool, true, false, ◌&&◌, nat_lt, List, [], ◌∷◌, Option, Some, None, option_map, if◌then◌else◌, IsTrue}
use Rattle.std.specs.Char.{is_ascii_digit}
use Rattle.line_protocol.specs.declared.figure.Figure.{Figure}
use Rattle.line_protocol.specs.declared.figure.Figure.TheVariants.{Start, Minus, Digits, Point, Decimals, IdStart, IdDigits}
use Rattle.line_protocol.specs.declared.figure.Follower.{Follower}
use Rattle.line_protocol.specs.declared.figure.Follower.TheVariants.{TwoNumbers, OneNumber, Nothing, Easting, Pairs}
use Rattle.line_protocol.specs.declared.figure.Scan.{Scan}
use Rattle.line_protocol.specs.Grammar.{Word, words_of}

-- ---- a number
-- how far a number has come with one byte more, where the byte is allowed
abbrev pub next_figure : Figure → ℕ → Option Figure
next_figure Start b = if b == 45 then Some Minus else if is_ascii_digit b then Some (Digits 8) else None
next_figure Minus b = if is_ascii_digit b then Some (Digits 8) else None
next_figure (Digits more) b = if nat_lt 0 more && is_ascii_digit b then Some (Digits (more - 1)) else if b == 46 then Some Point else None
next_figure Point b = if is_ascii_digit b then Some (Decimals 2) else None
next_figure (Decimals more) b = if nat_lt 0 more && is_ascii_digit b then Some (Decimals (more - 1)) else None
next_figure IdStart b = if nat_lt 48 b && is_ascii_digit b then Some (IdDigits 7) else None
next_figure (IdDigits more) b = if nat_lt 0 more && is_ascii_digit b then Some (IdDigits (more - 1)) else None

-- whether a number may end here
abbrev pub is_whole : Figure → Bool
is_whole (Digits more) = true
is_whole (Decimals more) = true
is_whole (IdDigits more) = true
is_whole Start = false
is_whole Minus = false
is_whole Point = false
is_whole IdStart = false

-- whether the word goes on from there to the end of a number
abbrev pub ends_number : Option Figure → Word → Bool
ends_number None w = false
ends_number (Some figure) [] = is_whole figure
ends_number (Some figure) (b ∷ w) = ends_number (next_figure figure b) w

-- ---- numbers
-- what comes after the next number, where there may be one
abbrev pub next_follower : Follower → Option Follower
next_follower TwoNumbers = Some OneNumber
next_follower OneNumber = Some Nothing
next_follower Nothing = None
next_follower Easting = Some Pairs
next_follower Pairs = Some Easting

-- whether there may be no more numbers
abbrev pub may_end : Follower → Bool
may_end Nothing = true
may_end Pairs = true
may_end TwoNumbers = false
may_end OneNumber = false
may_end Easting = false

-- whether the words are the numbers that come after
abbrev pub are_followers : Option Follower → List Word → Bool
are_followers None ws = false
are_followers (Some follower) [] = may_end follower
are_followers (Some follower) (w ∷ ws) = ends_number (Some Start) w && are_followers (next_follower follower) ws

-- whether the words go on from there to the end of the numbers
abbrev pub end_numbers : Option Scan → List Word → Bool
end_numbers None ws = false
end_numbers (Some scan) [] = false
end_numbers (Some scan) (w ∷ ws) = ends_number (Some scan.figure) w && are_followers (Some scan.follower) ws

-- how far numbers have come with one byte more, where the byte is allowed
abbrev pub next_scan : Scan → ℕ → Option Scan
next_scan scan b =
    if b == 32
    then if is_whole scan.figure then option_map (λ next. record { figure = Start; follower = next }) (next_follower scan.follower) else None
    else option_map (λ next. record { figure = next; follower = scan.follower }) (next_figure scan.figure b)

-- the text goes on from there to the end of the numbers
abbrev pub EndsNumbers : Scan → List ℕ → Type 0
EndsNumbers scan text = IsTrue (end_numbers (Some scan) (words_of text))
