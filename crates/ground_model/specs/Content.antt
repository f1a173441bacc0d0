-- What a surface is made of: its points and its lines.
use Rattle.std.specs.Prelude.{ℕ, ℤ, List, Option, Bool, true, false}
use Rattle.std.specs.FinMap as map
use Rattle.ground_model.specs.declared.edit.Edit.{Edit}
use Rattle.ground_model.specs.declared.edit.Edit.TheVariants.{AddPoint, RemovePoint, SetLevel, AddLine, RemoveLine}
use Rattle.ground_model.specs.declared.piece.Piece.{Piece}
use Rattle.ground_model.specs.Place.{Coords, place_cmp}
use Rattle.ground_model.specs.Line.{Line}
use Rattle.ground_model.specs.Table.{Table, no_lines, with_line, without_line, live, count_on, pieces_on}

-- the points with their levels, and the table of lines
pub record Content : Type 0 where
  pub points : map.FinMap place_cmp ℤ
  pub table : Table

-- no point and no line
unfoldable pub empty : Content
empty = record { points = map.empty; table = no_lines }

-- the content with the edit made
unfoldable pub after : Content → Edit → Content
after c (AddPoint p z) = record c { points = map.insert c.points p z }
after c (RemovePoint p) = record c { points = map.remove c.points p }
after c (SetLevel p z) = record c { points = map.insert c.points p z }
after c (AddLine kind places) = record c { table = with_line c.table (record { kind = kind; places = places }) }
after c (RemoveLine id) = record c { table = without_line c.table id.0 }

-- whether the edit adds a line: the one that takes room for its places before it is found lawful
abbrev pub is_new_line : Edit → Bool
is_new_line (AddLine kind places) = true
is_new_line (AddPoint p z) = false
is_new_line (RemovePoint p) = false
is_new_line (SetLevel p z) = false
is_new_line (RemoveLine id) = false

-- the points, in order
abbrev pub points_of : Content → List Coords
points_of c = map.keys c.points

-- the live lines, by their numbers
abbrev pub lines_of : Content → List Line
lines_of c = live c.table

-- the level of a point
abbrev pub level_of : Content → Coords → Option ℤ
level_of c p = map.get c.points p

-- how many lines have the piece pq
abbrev pub count : Content → Coords → Coords → ℕ
count c p q = count_on (points_of c) (lines_of c) p q

-- the pieces with their counts
abbrev pub pieces : Content → List Piece
pieces c = pieces_on (points_of c) (lines_of c)
