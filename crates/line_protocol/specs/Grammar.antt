-- The request of a line: a table with a row for each request and a row for each edit.
use Rattle.std.specs.Prelude.{ℕ, ◌+◌, ◌-◌, ◌*◌, ◌^◌, ◌==◌, ℤ, pos, neg_ℤ, Bool, ◌&&◌, nat_lt, nat_le, List, [], ◌∷◌, length, take, drop, codes, bytes_eq, Option, Some, None, option_map, if◌then◌else◌}
use Rattle.std.specs.List.{list_all, position, slice_split}
use Rattle.std.specs.Char.{is_ascii_digit}
use Rattle.std.specs.Str.Parse.{digits_value}
use Rattle.ground_model.specs.declared.line.LineKind.{LineKind}
use Rattle.ground_model.specs.declared.line.LineKind.TheVariants.{Breakline, Outer, Void, Island}
use Rattle.ground_model.specs.Place.{Coords}
use Rattle.line_protocol.specs.Spoken.{Spoken, SpokenEdit, AddPoint, RemovePoint, SetLevel, AddLine, RemoveLine, Sync, Plan, Commit, Apply, Level, Contour, Volume, Stat, Export, Quit}

-- ---- words and numbers
abbrev pub Word : Type 0
Word = List ℕ

abbrev pub is_space : ℕ → Bool
is_space b = b == 32

-- words are parted by exactly one space: two in a row have an empty word between them
abbrev pub words_of : List ℕ → List Word
words_of line = slice_split is_space line

-- one to `most` digits
abbrev pub are_digits : ℕ → Word → Bool
are_digits most bs = nat_lt 0 (length bs) && nat_le (length bs) most && list_all is_ascii_digit bs

abbrev pub is_point : ℕ → Bool
is_point b = b == 46

-- up to three digits after a point, in thousandths
abbrev pub fraction_value : Word → ℕ
fraction_value bs = digits_value 10 bs * 10 ^ (3 - length bs)

-- One to nine digits, and optionally a point and one to three digits, in thousandths. `at` is the offset of the point.
abbrev pub unsigned_at : Word → Option ℕ → Option ℕ
unsigned_at bs None = if are_digits 9 bs then Some (digits_value 10 bs * 1000) else None
unsigned_at bs (Some at) =
    if are_digits 9 (take at bs) && are_digits 3 (drop (at + 1) bs)
    then Some (digits_value 10 (take at bs) * 1000 + fraction_value (drop (at + 1) bs))
    else None

abbrev pub unsigned_of : Word → Option ℕ
unsigned_of bs = unsigned_at bs (position is_point bs)

-- such a number, or one after a minus
unfoldable pub number_of : Word → Option ℤ
number_of [] = None
number_of (b ∷ bs) = if b == 45 then option_map (λ n. neg_ℤ (pos n)) (unsigned_of bs) else option_map pos (unsigned_of (b ∷ bs))

-- a digit 1 to 9 and up to seven digits
unfoldable pub id_of : Word → Option ℕ
id_of [] = None
id_of (b ∷ bs) = if are_digits 8 (b ∷ bs) && nat_lt 48 b then Some (digits_value 10 (b ∷ bs)) else None

-- ---- forms: what a list of words says
abbrev pub Form : Type 0 → Type 0
Form X = List Word → Option X

-- the row of the first word says what is taken after it
abbrev pub by_word : {X : Type 0} → List (Word × Form X) → Form X
by_word [] ws = None
by_word (row ∷ rows) [] = None
by_word (row ∷ rows) (w ∷ ws) = if bytes_eq w row.0 then row.1 ws else by_word rows (w ∷ ws)

-- nothing more
abbrev pub bare : {X : Type 0} → X → Form X
bare x [] = Some x
bare x (w ∷ ws) = None

-- a pair of both, where both are there
abbrev pub both : {X Y : Type 0} → Option X → Option Y → Option (X × Y)
both None y = None
both (Some x) None = None
both (Some x) (Some y) = Some (x, y)

-- `N E`
abbrev pub place_of : Word → Word → Option Coords
place_of n e = option_map (λ p. record { e = p.1; n = p.0 }) (both (number_of n) (number_of e))

abbrev pub place : Form Coords
place (n ∷ e ∷ []) = place_of n e
place ws = None

-- `N E Z`
abbrev pub spot : Form (Coords × ℤ)
spot (n ∷ e ∷ z ∷ []) = both (place_of n e) (number_of z)
spot ws = None

-- `Z`
abbrev pub level : Form ℤ
level (z ∷ []) = number_of z
level ws = None

-- `ID`
abbrev pub id : Form ℕ
id (w ∷ []) = id_of w
id ws = None

abbrev pub onto : Coords × List Coords → List Coords
onto pair = pair.0 ∷ pair.1

-- one pair `N E` or more
unfoldable pub places : Form (List Coords)
places [] = None
places (n ∷ []) = None
places (n ∷ e ∷ []) = option_map (λ p. p ∷ []) (place_of n e)
places (n ∷ e ∷ w ∷ ws) = option_map onto (both (place_of n e) (places (w ∷ ws)))

-- ---- the tables
-- the kind of a line, by its word
unfoldable pub kind_named : Word → Option LineKind
kind_named w =
    if bytes_eq w (codes "break") then Some Breakline
    else if bytes_eq w (codes "outer") then Some Outer
    else if bytes_eq w (codes "void") then Some Void
    else if bytes_eq w (codes "island") then Some Island
    else None

-- a kind, and the line's places
unfoldable pub line_edit : Form SpokenEdit
line_edit [] = None
line_edit (w ∷ ws) = option_map (λ line. AddLine line.0 line.1) (both (kind_named w) (places ws))

abbrev pub edit_rows : List (Word × Form SpokenEdit)
edit_rows =
    (codes "add", λ ws. option_map (λ s. AddPoint s.0 s.1) (spot ws))
    ∷ (codes "remove", λ ws. option_map RemovePoint (place ws))
    ∷ (codes "set", λ ws. option_map (λ s. SetLevel s.0 s.1) (spot ws))
    ∷ (codes "line", line_edit)
    ∷ (codes "unline", λ ws. option_map RemoveLine (id ws))
    ∷ []

unfoldable pub edit : Form SpokenEdit
edit = by_word edit_rows

abbrev pub request_rows : List (Word × Form Spoken)
request_rows =
    (codes "sync", bare Sync)
    ∷ (codes "plan", λ ws. option_map Plan (edit ws))
    ∷ (codes "commit", bare Commit)
    ∷ (codes "do", λ ws. option_map Apply (edit ws))
    ∷ (codes "level", λ ws. option_map Level (place ws))
    ∷ (codes "contour", λ ws. option_map Contour (level ws))
    ∷ (codes "volume", λ ws. option_map Volume (level ws))
    ∷ (codes "stat", bare Stat)
    ∷ (codes "export", bare Export)
    ∷ (codes "quit", bare Quit)
    ∷ []

unfoldable pub request : Form Spoken
request = by_word request_rows

-- the request of a line, where it is one
unfoldable pub spoken : List ℕ → Option Spoken
spoken line = request (words_of line)
