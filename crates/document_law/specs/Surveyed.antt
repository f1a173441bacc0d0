-- What a surface is that can be written and read back.
use Rattle.std.specs.Prelude.{◌≡◌, ◌<◌, ◌≤◌, ◌^◌, ◌+ℤ◌, false, length, All}
use Rattle.std.specs.List.{list_any}
use Rattle.ground_num.specs.declared.head.Origin.{Origin}
use Rattle.ground_num.specs.Decimal.{IsWithin}
use Rattle.ground_num.specs.Names.{IsName}
use Rattle.ground_num.specs.Spelling.{number_limit}
use Rattle.ground_model.specs.Kind.{least_places}
use Rattle.ground_model.specs.Line.{Line, links}
use Rattle.ground_model.specs.Place.{IsPlace, IsLevel, is_same}
use Rattle.landxml_write.specs.Exports.{Vertex, Exported, IsExport}

-- a place and a level within their limits, and the numbers that are written of them within that of a number of a document
pub record IsWritable (origin : Origin) (v : Vertex) : Type 0 where
  pub place : IsPlace v.0
  pub level : IsLevel v.1
  pub n : IsWithin number_limit (v.0.n +ℤ origin.n.0)
  pub e : IsWithin number_limit (v.0.e +ℤ origin.e.0)

-- a line has as many places as its kind needs, and none of its links is without length
pub record IsWholeLine (line : Line) : Type 0 where
  pub enough : least_places line.kind ≤ length line.places
  pub links : list_any (λ link. is_same link.0 link.1) (links line) ≡ false

-- what a version shows, whose numbers a document may hold
pub record IsSurveyed (e : Exported) : Type 0 where
  pub name : IsName e.head.name
  pub lawful : IsExport e
  pub few : length e.points < 2 ^ 32
  pub points : All (IsWritable e.head.origin) e.points
  pub lines : All IsWholeLine e.lines
