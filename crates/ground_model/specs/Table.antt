-- The table of lines: the live lines by their numbers, and the number to come.
use Rattle.std.specs.Prelude.{ℕ, ◌+◌, List, map as each, option_map, Option, Bool, count_by, sum_by, length, nat_lt}
use Rattle.std.specs.List.{find, filter}
use Rattle.std.specs.Ordering.{nat_cmp}
use Rattle.std.specs.FinMap as map
use Rattle.ground_model.specs.declared.piece.Piece.{Piece}
use Rattle.ground_model.specs.Place.{Coords}
use Rattle.ground_model.specs.Line.{Line, has_piece, pieces_of, pairs}

-- the live lines by their numbers, and the number that the next one gets
pub record Table : Type 0 where
  pub lines : map.FinMap nat_cmp Line
  pub next : ℕ

-- the table of no line
abbrev pub no_lines : Table
no_lines = record { lines = map.empty; next = 1 }

-- the table with a line more, under the number to come
abbrev pub with_line : Table → Line → Table
with_line t line = record { lines = map.insert t.lines t.next line; next = t.next + 1 }

-- the table without the line of this number
abbrev pub without_line : Table → ℕ → Table
without_line t id = record { lines = map.remove t.lines id; next = t.next }

-- the lines with their numbers, in order
abbrev pub numbered : Table → List (ℕ × Line)
numbered t = map.entries t.lines

-- the lines, by their numbers
abbrev pub live : Table → List Line
live t = map.values t.lines

-- the places of all lines together
abbrev pub places_together : Table → ℕ
places_together t = sum_by (λ line. length line.places) (live t)

-- the least line that passes
abbrev pub least_where : (Line → Bool) → Table → Option ℕ
least_where test t = option_map (λ found. found.0) (find (λ entry. test entry.1) (numbered t))

-- how many of the lines have the piece pq; it is 0 where no line has it
unfoldable pub count_on : List Coords → List Line → Coords → Coords → ℕ
count_on points lines p q = count_by (λ line. has_piece points line p q) lines

-- the pairs of points with a count, in order by p, then q
abbrev pub pieces_by : (Coords → Coords → ℕ) → List Coords → List Piece
pieces_by count_at points = filter (λ x. nat_lt 0 x.count) (each (λ pair. record { p = pair.0; q = pair.1; count = count_at pair.0 pair.1 }) (pairs points))

-- the pieces of the lines with their counts, in order by p, then q
unfoldable pub pieces_on : List Coords → List Line → List Piece
pieces_on points lines = pieces_by (count_on points lines) points

-- the pieces of one line with their counts among the lines, in order by p, then q
unfoldable pub counted_pieces : List Coords → List Line → Line → List Piece
counted_pieces points lines line = each (λ s. record { p = s.0; q = s.1; count = count_on points lines s.0 s.1 }) (pieces_of points line)
