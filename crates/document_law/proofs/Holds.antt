-- What was gathered of a written document so far, whatever the offsets are.
use Rattle.std.proofs.Common.{◌≡◌, ℕ, List, [], ◌∷◌, map, Option, None, Some, ℤ}
use Rattle.std.specs.Prelude.{slice_get, option_map}
use Rattle.ground_num.specs.declared.head.LinearUnit.{LinearUnit}
use Rattle.landxml_read.specs.declared.raw.Triple.{Triple}
use Rattle.landxml_read.specs.declared.raw.RawKind.{RawKind}
use Rattle.landxml_read.specs.declared.raw.RawVertex.{RawVertex}
use Rattle.landxml_read.specs.declared.raw.RawVertex.TheVariants as vertex
use Rattle.landxml_read.specs.declared.raw.RawLine.{RawLine}
use Rattle.landxml_read.specs.declared.raw.RawId.{RawId}
use Rattle.landxml_read.specs.declared.raw.RawFace.{RawFace}
use Rattle.landxml_read.specs.declared.gather.Gathered.{Gathered}
use Rattle.landxml_read.specs.declared.gather.Numbers.TheVariants as numbers
use Rattle.landxml_read.specs.declared.gather.Ids.TheVariants as open_ids

-- northing, easting and level of a triple
abbrev pub Site : Type 0
Site = ℤ × ℤ × ℤ

abbrev pub site_of : Triple → Site
site_of t = (t.n.0, t.e.0, t.z.0)

-- a kind, and the sites of a line's vertices
abbrev pub Course : Type 0
Course = RawKind × List Site

-- an id, and the site of its triple
abbrev pub Tagged : Type 0
Tagged = List ℕ × Site

-- the ids of a face
abbrev pub Corners : Type 0
Corners = List ℕ × List ℕ × List ℕ

abbrev pub corners_of : RawFace → Corners
corners_of f = (f.a, f.b, f.c)

-- the site of a vertex
abbrev pub look : List Triple → RawVertex → Option Site
look ts (vertex.Triple k) = option_map site_of (slice_get ts k)
look ts (vertex.Pair k) = None

-- the line is of this kind and goes along these sites
pub record IsLine (ts : List Triple) (raw : RawLine) (l : Course) : Type 0 where
  pub kind : raw.kind ≡ l.0
  pub sites : map (look ts) raw.vertices ≡ map Some l.1

-- so are all of these
abbrev pub AreLines : List Triple → List RawLine → List Course → Type 0
AreLines ts [] [] = Unit {0}
AreLines ts [] (l ∷ ls) = ⊥
AreLines ts (r ∷ rs) [] = ⊥
AreLines ts (r ∷ rs) (l ∷ ls) = IsLine ts r l × AreLines ts rs ls

-- so is the one that is open, where one is
abbrev pub IsOpen : List Triple → Option RawLine → Option Course → Type 0
IsOpen ts None None = Unit {0}
IsOpen ts None (Some l) = ⊥
IsOpen ts (Some r) None = ⊥
IsOpen ts (Some r) (Some l) = IsLine ts r l

-- the ids are these, and their triples stand at these sites
pub record IsId (ts : List Triple) (raw : RawId) (i : Tagged) : Type 0 where
  pub id : raw.id ≡ i.0
  pub site : option_map site_of (slice_get ts raw.triple) ≡ Some i.1

abbrev pub AreIds : List Triple → List RawId → List Tagged → Type 0
AreIds ts [] [] = Unit {0}
AreIds ts [] (i ∷ is) = ⊥
AreIds ts (r ∷ rs) [] = ⊥
AreIds ts (r ∷ rs) (i ∷ is) = IsId ts r i × AreIds ts rs is

-- what a surface holds, without offsets
pub record Sketch : Type 0 where
  pub name : List ℕ
  pub sites : List Site
  pub lines : List Course
  pub line : Option Course
  pub ids : List Tagged
  pub faces : List Corners

-- a surface that holds it
pub record IsSketched (sk : Sketch) (ts : List Triple) (ls : List RawLine) (l : Option RawLine) (is : List RawId) (fs : List RawFace) : Type 0 where
  pub sites : map site_of ts ≡ sk.sites
  pub lines : AreLines ts ls sk.lines
  pub line : IsOpen ts l sk.line
  pub ids : AreIds ts is sk.ids
  pub faces : map corners_of fs ≡ sk.faces

-- what was gathered, of one open surface
abbrev pub held : LinearUnit → ℕ → List ℕ → List Triple → List RawLine → Option RawLine → List RawId → List RawFace → ℕ → Gathered
held unit at name triples lines line ids faces face_at = record {
  unit = Some unit;
  surfaces = [];
  surface = Some (record { at = at; name = name; triples = triples; pairs = []; lines = lines; ids = ids; faces = faces });
  line = line;
  face_at = face_at;
  numbers = numbers.Zero;
  ids = open_ids.Zero;
}

-- what was gathered holds it
pub record Holds (unit : LinearUnit) (sk : Sketch) (g : Gathered) : Type 0 where
  pub at : ℕ
  pub triples : List Triple
  pub lines : List RawLine
  pub line : Option RawLine
  pub ids : List RawId
  pub faces : List RawFace
  pub face_at : ℕ
  pub is : g ≡ held unit at sk.name triples lines line ids faces face_at
  pub sketched : IsSketched sk triples lines line ids faces
