-- Where the reading of a written document stands between two of its parts.
use Rattle.std.proofs.Common.{◌≡◌, ℕ, List, [], ◌∷◌, ◌++◌, flat_map, codes}
use Rattle.ground_num.specs.declared.head.LinearUnit.{LinearUnit}
use Rattle.landxml_read.specs.declared.kind.Kind.{Kind}
use Rattle.landxml_read.specs.declared.kind.Kind.TheVariants.{Root, Surfaces, Surface, SourceData, Boundaries, Boundary, Breaklines, Breakline, DataPoints, Triples, Definition, Points, Point, Faces, Face}
use Rattle.landxml_read.specs.declared.element.Element.{Element}
use Rattle.landxml_read.specs.declared.tokens.Tokens.{Tokens}
use Rattle.landxml_read.specs.Events.{Event, event_faults}
use Rattle.landxml_read.specs.Gather.{gathered_of}
use Rattle.landxml_read.specs.Tokens.{Reading}
use Rattle.document_law.proofs.Runs.{Run, run_both, stand, opens}
use Rattle.document_law.proofs.Holds.{Sketch, Holds}

-- between markup at a depth, with these elements open, no fault shown and this much gathered
pub record St (k : ℕ) (es : List Element) (unit : LinearUnit) (sk : Sketch) : Type 0 where
  pub offset : ℕ
  pub tokens : Tokens
  pub told : List Event
  pub quiet : flat_map event_faults told ≡ []
  pub holds : Holds unit sk (gathered_of told)

-- the reading there
abbrev pub at : {k : ℕ} {es : List Element} {unit : LinearUnit} {sk : Sketch} → St k es unit sk → Reading
at {k = k} {es = es} s = stand k es s.offset s.tokens s.told

-- the reading there after a <
abbrev pub opened_at : {k : ℕ} {es : List Element} {unit : LinearUnit} {sk : Sketch} → St k es unit sk → Reading
opened_at {k = k} {es = es} s = opens k es s.offset s.tokens s.told

-- the bytes lead there
pub record To (r : Reading) (bytes : List ℕ) (k : ℕ) (es : List Element) (unit : LinearUnit) (sk : Sketch) : Type 0 where
  pub state : St k es unit sk
  pub run : Run r bytes (at state)

-- and a < after them
pub record ToLess (r : Reading) (bytes : List ℕ) (k : ℕ) (es : List Element) (unit : LinearUnit) (sk : Sketch) : Type 0 where
  pub state : St k es unit sk
  pub run : Run r bytes (opened_at state)

-- one after the other
pub to_both : (r : Reading) (xs ys : List ℕ) (k l : ℕ) (es fs : List Element) (unit : LinearUnit) (sk tk : Sketch) (a : To r xs k es unit sk) → To (at a.state) ys l fs unit tk → To r (xs ++ ys) l fs unit tk
to_both r xs ys k l es fs unit sk tk a b = record { state = b.state; run = run_both r (at a.state) (at b.state) xs ys a.run b.run }

pub less_both : (r : Reading) (xs ys : List ℕ) (k l : ℕ) (es fs : List Element) (unit : LinearUnit) (sk tk : Sketch) (a : ToLess r xs k es unit sk) → To (opened_at a.state) ys l fs unit tk → To r (xs ++ ys) l fs unit tk
less_both r xs ys k l es fs unit sk tk a b = record { state = b.state; run = run_both r (opened_at a.state) (at b.state) xs ys a.run b.run }

-- the elements of a written document

abbrev pub element : Kind → List ℕ → ℕ → Element
element kind name words = record { kind = kind; name = name; words = words }

abbrev pub in_root : List Element
in_root = element Root (codes "LandXML") 0 ∷ []

abbrev pub in_surfaces : List Element
in_surfaces = element Surfaces (codes "Surfaces") 0 ∷ in_root

abbrev pub in_surface : List Element
in_surface = element Surface (codes "Surface") 0 ∷ in_surfaces

abbrev pub in_source : List Element
in_source = element SourceData (codes "SourceData") 0 ∷ in_surface

abbrev pub in_boundaries : List Element
in_boundaries = element Boundaries (codes "Boundaries") 0 ∷ in_source

abbrev pub in_boundary : List Element
in_boundary = element Boundary (codes "Boundary") 0 ∷ in_boundaries

abbrev pub in_breaklines : List Element
in_breaklines = element Breaklines (codes "Breaklines") 0 ∷ in_source

abbrev pub in_breakline : List Element
in_breakline = element Breakline (codes "Breakline") 0 ∷ in_breaklines

abbrev pub in_data : List Element
in_data = element DataPoints (codes "DataPoints") 0 ∷ in_source

-- a list of places with so many words
abbrev pub in_list : ℕ → List Element → List Element
in_list words es = element Triples (codes "PntList3D") words ∷ es

abbrev pub in_definition : List Element
in_definition = element Definition (codes "Definition") 0 ∷ in_surface

abbrev pub in_points : List Element
in_points = element Points (codes "Pnts") 0 ∷ in_definition

abbrev pub in_point : ℕ → List Element
in_point words = element Point (codes "P") words ∷ in_points

abbrev pub in_faces : List Element
in_faces = element Faces (codes "Faces") 0 ∷ in_definition

abbrev pub in_face : ℕ → List Element
in_face words = element Face (codes "F") words ∷ in_faces
