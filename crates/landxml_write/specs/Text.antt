-- The text of a surface: each line ended by LF, and every container written, also an empty one.
use Rattle.std.specs.Prelude.{ℕ, ◌+◌, ℤ, ◌+ℤ◌, pos, Bool, true, false, List, [], ◌∷◌, ◌++◌, take, codes, unwrap_or, option_map}
use Rattle.std.specs.List.{flat_map, position_or_len, find}
use Rattle.std.specs.Fmt.{decimal}
use Rattle.ground_num.specs.declared.head.Head.{Head}
use Rattle.ground_num.specs.declared.head.LinearUnit.{LinearUnit}
use Rattle.ground_num.specs.declared.head.LinearUnit.TheVariants.{Meter, Foot, USSurveyFoot}
use Rattle.ground_num.specs.declared.head.Origin.{Origin}
use Rattle.ground_num.specs.Decimal.{thousandths_text}
use Rattle.ground_num.specs.Names.{escape}
use Rattle.ground_model.specs.declared.facet.Facet.{Facet}
use Rattle.ground_model.specs.declared.line.LineKind.{LineKind}
use Rattle.ground_model.specs.declared.line.LineKind.TheVariants.{Breakline, Outer, Void, Island}
use Rattle.ground_model.specs.Place.{Coords, is_same}
use Rattle.ground_model.specs.Line.{Line}
use Rattle.landxml_write.specs.Exports.{Vertex, Face, Exported}

-- ---- places, with the origin put on again

-- N E Z
abbrev pub vertex_text : Origin → Vertex → List ℕ
vertex_text origin v = thousandths_text (v.0.n +ℤ origin.n.0) ++ (32 ∷ (thousandths_text (v.0.e +ℤ origin.e.0) ++ (32 ∷ thousandths_text v.1)))

-- the level of the point at the place
abbrev pub level_at : List Vertex → Coords → ℤ
level_at points p = unwrap_or (option_map (λ v. v.1) (find (λ v. is_same p v.0) points)) (pos 0)

abbrev pub place_text : Exported → Coords → List ℕ
place_text e p = vertex_text e.head.origin (p, level_at e.points p)

-- a place after others: a space before it
abbrev pub next_text : Exported → Coords → List ℕ
next_text e p = 32 ∷ place_text e p

-- the places, parted by one space
abbrev pub list_text : Exported → List Coords → List ℕ
list_text e [] = []
list_text e (p ∷ ps) = place_text e p ++ flat_map (next_text e) ps

-- a ring's places: its first once more at the end
abbrev pub closed : List Coords → List Coords
closed places = places ++ take 1 places

-- ---- lines

abbrev pub ring_text : Exported → List ℕ → List Coords → List ℕ
ring_text e kind places =
    codes "<Boundary bndType=\"" ++ (kind ++ (codes "\" edgeTrim=\"false\"><PntList3D>" ++ (list_text e (closed places) ++ codes "</PntList3D></Boundary>\n")))

-- a ring's line; a breakline has none here
abbrev pub boundary_of : Exported → LineKind → List Coords → List ℕ
boundary_of e Breakline places = []
boundary_of e Outer places = ring_text e (codes "outer") places
boundary_of e Void places = ring_text e (codes "void") places
boundary_of e Island places = ring_text e (codes "island") places

unfoldable pub boundary_text : Exported → Line → List ℕ
boundary_text e line = boundary_of e line.kind line.places

abbrev pub open_text : Exported → List Coords → List ℕ
open_text e places = codes "<Breakline brkType=\"standard\"><PntList3D>" ++ (list_text e places ++ codes "</PntList3D></Breakline>\n")

-- a breakline's line; a ring has none here
abbrev pub breakline_of : Exported → LineKind → List Coords → List ℕ
breakline_of e Breakline places = open_text e places
breakline_of e Outer places = []
breakline_of e Void places = []
breakline_of e Island places = []

unfoldable pub breakline_text : Exported → Line → List ℕ
breakline_text e line = breakline_of e line.kind line.places

-- ---- points and faces

-- a point's line in the list of data points
unfoldable pub data_text : Exported → Vertex → List ℕ
data_text e v = vertex_text e.head.origin v ++ (10 ∷ [])

-- a point's line with its id
unfoldable pub point_text : Exported → ℕ → Vertex → List ℕ
point_text e id v = codes "<P id=\"" ++ (decimal id ++ (codes "\">" ++ (vertex_text e.head.origin v ++ codes "</P>\n")))

-- the points' lines, with ids counted from the given one
unfoldable pub points_text : Exported → ℕ → List Vertex → List ℕ
points_text e id [] = []
points_text e id (v ∷ vs) = point_text e id v ++ points_text e (id + 1) vs

-- the id of the point at the place, counted from 1
abbrev pub id_of : List Vertex → Coords → ℕ
id_of points p = position_or_len (λ v. is_same p v.0) points + 1

abbrev pub face_tag : Bool → List ℕ
face_tag true = codes "<F>"
face_tag false = codes "<F i=\"1\">"

-- a facet's line: the ids of its corners, and a mark where it isn't kept
unfoldable pub face_text : Exported → Face → List ℕ
face_text e f =
    face_tag f.1 ++ (decimal (id_of e.points f.0.a) ++ (32 ∷ (decimal (id_of e.points f.0.b) ++ (32 ∷ (decimal (id_of e.points f.0.c) ++ codes "</F>\n")))))

-- ---- the document

abbrev pub unit_text : LinearUnit → List ℕ
unit_text Meter = codes "<Units><Metric linearUnit=\"meter\"/></Units>\n"
unit_text Foot = codes "<Units><Imperial linearUnit=\"foot\"/></Units>\n"
unit_text USSurveyFoot = codes "<Units><Imperial linearUnit=\"USSurveyFoot\"/></Units>\n"

-- the lines up to the surface's name; the date and the time are constants
abbrev pub opening_text : List ℕ
opening_text =
    codes "<?xml version=\"1.0\" encoding=\"UTF-8\"?>\n<LandXML xmlns=\"http://www.landxml.org/schema/LandXML-1.2\" version=\"1.2\" date=\"2000-01-01\" time=\"00:00:00\">\n"

unfoldable pub head_text : Head → List ℕ
head_text head = opening_text ++ (unit_text head.unit ++ (codes "<Surfaces>\n<Surface name=\"" ++ (flat_map escape head.name ++ codes "\">\n")))

-- rings, breaklines and points as they were surveyed
unfoldable pub source_text : Exported → List ℕ
source_text e =
    codes "<SourceData>\n<Boundaries>\n" ++ (flat_map (boundary_text e) e.lines
    ++ (codes "</Boundaries>\n<Breaklines>\n" ++ (flat_map (breakline_text e) e.lines
    ++ (codes "</Breaklines>\n<DataPoints><PntList3D>\n" ++ (flat_map (data_text e) e.points ++ codes "</PntList3D></DataPoints>\n</SourceData>\n")))))

-- the triangulation
unfoldable pub definition_text : Exported → List ℕ
definition_text e =
    codes "<Definition surfType=\"TIN\">\n<Pnts>\n" ++ (points_text e 1 e.points
    ++ (codes "</Pnts>\n<Faces>\n" ++ (flat_map (face_text e) e.faces ++ codes "</Faces>\n</Definition>\n")))

-- the written document
unfoldable pub document : Exported → List ℕ
document e = head_text e.head ++ (source_text e ++ (definition_text e ++ codes "</Surface>\n</Surfaces>\n</LandXML>\n"))
