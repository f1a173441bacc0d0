-- What a version with a legal history shows.
use Rattle.std.specs.Prelude.{◌≡◌, ℕ, ◌<◌, ◌^◌, ◌+ℤ◌, List, All, Some, slice_get}
use Rattle.std.specs.FinMap as finmap
use Rattle.ground_num.specs.declared.head.Origin.{Origin}
use Rattle.ground_num.specs.Decimal.{IsWithin}
use Rattle.ground_num.specs.Names.{IsName}
use Rattle.ground_num.specs.Spelling.{number_limit}
use Rattle.ground_model.specs.declared.edit.Edit.{Edit}
use Rattle.ground_model.specs.declared.edit.Edit.TheVariants.{AddPoint, RemovePoint, SetLevel, AddLine, RemoveLine}
use Rattle.ground_model.specs.declared.entry.Entry.{Entry}
use Rattle.ground_model.specs.declared.limits.Limits.{Limits}
use Rattle.ground_model.specs.Content.{lines_of}
use Rattle.ground_model.specs.History.{content_of, IsLegal}
use Rattle.ground_model.specs.Place.{IsPlace, IsLevel}
use Rattle.landxml_write.specs.Exports.{Vertex, Exported, IsExport}
use Rattle.document_law.specs.Law.{IsReadBack}

-- the place and the level of an edit are within their limits, as those of every edit are
abbrev pub IsTyped : Edit → Type 0
IsTyped (AddPoint p z) = IsPlace p × IsLevel z
IsTyped (SetLevel p z) = IsPlace p × IsLevel z
IsTyped (RemovePoint p) = Unit {0}
IsTyped (AddLine kind places) = Unit {0}
IsTyped (RemoveLine id) = Unit {0}

-- the export shows the points and the lines that a legal history makes, under a name
pub record IsShownBy (limits : Limits) (h : List Entry) (e : Exported) : Type 0 where
  pub legal : IsLegal limits h
  pub typed : (k : ℕ) (entry : Entry) → slice_get h k ≡ Some entry → IsTyped entry.edit
  pub few : limits.points < 2 ^ 32
  pub name : IsName e.head.name
  pub lawful : IsExport e
  pub points : e.points ≡ finmap.entries (content_of h).points
  pub lines : e.lines ≡ lines_of (content_of h)

-- the coordinates that are written of a point are within the limit of a number of a document
pub record IsNumbered (origin : Origin) (v : Vertex) : Type 0 where
  pub n : IsWithin number_limit (v.0.n +ℤ origin.n.0)
  pub e : IsWithin number_limit (v.0.e +ℤ origin.e.0)

-- what a version with a legal history shows is read back, where a document can hold its numbers
abbrev pub VersionLaw : Type 0
VersionLaw = (limits : Limits) (h : List Entry) (e : Exported) → IsShownBy limits h e → All (IsNumbered e.head.origin) e.points → IsReadBack e
