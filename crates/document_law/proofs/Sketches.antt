-- What a written document holds, in closed form.
use Rattle.std.proofs.Common.{◌≡◌, ℕ, ◌+◌, List, [], ◌∷◌, ◌++◌, map, flat_map, None, refl, sym, ◌∙◌, ap, append_assoc}
use Rattle.std.proofs.lemmas.List.{append-nil}
use Rattle.std.proofs.lemmas.Grind.{flat_map-append}
use Rattle.std.specs.Fmt.{decimal}
use Rattle.ground_num.specs.declared.head.Origin.{Origin}
use Rattle.ground_model.specs.declared.line.LineKind.{LineKind}
use Rattle.ground_model.specs.declared.line.LineKind.TheVariants as lines
use Rattle.ground_model.specs.Place.{Coords}
use Rattle.ground_model.specs.Line.{Line}
use Rattle.landxml_read.specs.declared.raw.RawKind.TheVariants as raw
use Rattle.landxml_write.specs.Exports.{Exported, Vertex, Face}
use Rattle.document_law.proofs.Holds.{Site, Course, Tagged, Corners, Sketch}
use Rattle.document_law.proofs.Gathers.{with_site, with_course}
use Rattle.document_law.proofs.Sites.{site_in, with_sites}
use Rattle.document_law.proofs.Lines.{ring_sites, open_sites_of, with_whole, with_ring, with_open, with_rings, with_opens}
use Rattle.document_law.proofs.Points.{with_points}
use Rattle.document_law.proofs.Triangles.{ids_of, with_faces}
use Rattle.document_law.proofs.Opening.{bare_sketch}

-- up to each part

abbrev pub rings_sketch : Exported → Sketch
rings_sketch e = with_rings e e.lines (bare_sketch e.head.name)

abbrev pub lines_sketch : Exported → Sketch
lines_sketch e = with_opens e e.lines (rings_sketch e)

abbrev pub data_sketch : Exported → Sketch
data_sketch e = with_sites (map (site_in e.head.origin) e.points) (lines_sketch e)

abbrev pub points_sketch : Exported → Sketch
points_sketch e = with_points e.head.origin 1 e.points (data_sketch e)

abbrev pub whole_sketch : Exported → Sketch
whole_sketch e = with_faces e.points e.faces (points_sketch e)

-- without an open line
abbrev pub plain : List ℕ → List Site → List Course → List Tagged → List Corners → Sketch
plain name sites lines ids faces = record { name = name; sites = sites; lines = lines; line = None; ids = ids; faces = faces }

-- sites

sites_are : (ss : List Site) (sk : Sketch) → with_sites ss sk ≡ record sk { sites = sk.sites ++ ss; line = (with_sites ss sk).line }
sites_are [] sk = λ i. record sk { sites = sym (append-nil sk.sites) i }
sites_are (s ∷ ss) sk = sites_are ss (with_site s sk) ∙ (λ i. record sk { sites = append_assoc sk.sites (s ∷ []) ss i; line = (with_sites ss (with_site s sk)).line })

none_open : (ss : List Site) (sk : Sketch) → sk.line ≡ None → (with_sites ss sk).line ≡ None
none_open [] sk e = e
none_open (s ∷ ss) sk e = none_open ss (with_site s sk) (ap (with_course s) e)

-- courses

abbrev pub with_courses : List Course → Sketch → Sketch
with_courses [] sk = sk
with_courses (c ∷ cs) sk = with_courses cs (with_whole c.0 c.1 sk)

-- the sites of a course
abbrev pub sites_of : Course → List Site
sites_of c = c.1

courses_are : (cs : List Course) (name : List ℕ) (ss : List Site) (ls : List Course) (is : List Tagged) (fs : List Corners) → with_courses cs (plain name ss ls is fs) ≡ plain name (ss ++ flat_map sites_of cs) (ls ++ cs) is fs
courses_are [] name ss ls is fs = λ i. plain name (sym (append-nil ss) i) (sym (append-nil ls) i) is fs
courses_are (c ∷ cs) name ss ls is fs =
    ap (λ (k : Sketch). with_courses cs (record k { lines = k.lines ++ (c.0, c.1) ∷ []; line = None })) (sites_are c.1 (plain name ss ls is fs))
    ∙ courses_are cs name (ss ++ c.1) (ls ++ c ∷ []) is fs
    ∙ (λ i. plain name (append_assoc ss c.1 (flat_map sites_of cs) i) (append_assoc ls (c ∷ []) cs i) is fs)

-- what is written of a line among the rings
abbrev pub ring_course : Exported → LineKind → List Coords → List Course
ring_course e lines.Breakline places = []
ring_course e lines.Outer places = (raw.Outer, ring_sites e places) ∷ []
ring_course e lines.Void places = (raw.Void, ring_sites e places) ∷ []
ring_course e lines.Island places = (raw.Island, ring_sites e places) ∷ []

-- and among the breaklines
abbrev pub open_course : Exported → LineKind → List Coords → List Course
open_course e lines.Breakline places = (raw.Breakline, open_sites_of e places) ∷ []
open_course e lines.Outer places = []
open_course e lines.Void places = []
open_course e lines.Island places = []

abbrev pub ring_courses : Exported → List Line → List Course
ring_courses e [] = []
ring_courses e (l ∷ ls) = ring_course e l.kind l.places ++ ring_courses e ls

abbrev pub open_courses : Exported → List Line → List Course
open_courses e [] = []
open_courses e (l ∷ ls) = open_course e l.kind l.places ++ open_courses e ls

rings_are : (e : Exported) (ls : List Line) (sk : Sketch) → with_rings e ls sk ≡ with_courses (ring_courses e ls) sk
rings_are e [] sk = refl
rings_are e (l ∷ ls) sk = rings_are e ls (with_ring e l.kind l.places sk) ∙ by l.kind l.places
  where
    by : (kind : LineKind) (places : List Coords) → with_courses (ring_courses e ls) (with_ring e kind places sk) ≡ with_courses (ring_course e kind places ++ ring_courses e ls) sk
    by lines.Breakline places = refl
    by lines.Outer places = refl
    by lines.Void places = refl
    by lines.Island places = refl

opens_are : (e : Exported) (ls : List Line) (sk : Sketch) → with_opens e ls sk ≡ with_courses (open_courses e ls) sk
opens_are e [] sk = refl
opens_are e (l ∷ ls) sk = opens_are e ls (with_open e l.kind l.places sk) ∙ by l.kind l.places
  where
    by : (kind : LineKind) (places : List Coords) → with_courses (open_courses e ls) (with_open e kind places sk) ≡ with_courses (open_course e kind places ++ open_courses e ls) sk
    by lines.Breakline places = refl
    by lines.Outer places = refl
    by lines.Void places = refl
    by lines.Island places = refl

-- points and faces

-- the ids, counted from the given one, with the sites
abbrev pub tagged : Origin → ℕ → List Vertex → List Tagged
tagged origin id [] = []
tagged origin id (v ∷ vs) = (decimal id, site_in origin v) ∷ tagged origin (id + 1) vs

points_are : (origin : Origin) (id : ℕ) (vs : List Vertex) (name : List ℕ) (ss : List Site) (ls : List Course) (is : List Tagged) (fs : List Corners) → with_points origin id vs (plain name ss ls is fs) ≡ plain name (ss ++ map (site_in origin) vs) ls (is ++ tagged origin id vs) fs
points_are origin id [] name ss ls is fs = λ i. plain name (sym (append-nil ss) i) ls (sym (append-nil is) i) fs
points_are origin id (v ∷ vs) name ss ls is fs =
    points_are origin (id + 1) vs name (ss ++ site_in origin v ∷ []) ls (is ++ (decimal id, site_in origin v) ∷ []) fs
    ∙ (λ i. plain name (append_assoc ss (site_in origin v ∷ []) (map (site_in origin) vs) i) ls (append_assoc is ((decimal id, site_in origin v) ∷ []) (tagged origin (id + 1) vs) i) fs)

faces_are : (points : List Vertex) (gs : List Face) (name : List ℕ) (ss : List Site) (ls : List Course) (is : List Tagged) (fs : List Corners) → with_faces points gs (plain name ss ls is fs) ≡ plain name ss ls is (fs ++ map (ids_of points) gs)
faces_are points [] name ss ls is fs = λ i. plain name ss ls is (sym (append-nil fs) i)
faces_are points (g ∷ gs) name ss ls is fs = faces_are points gs name ss ls is (fs ++ ids_of points g ∷ []) ∙ (λ i. plain name ss ls is (append_assoc fs (ids_of points g ∷ []) (map (ids_of points) gs) i))

-- the whole

-- what is written of the lines: the rings, then the breaklines
abbrev pub courses : Exported → List Course
courses e = ring_courses e e.lines ++ open_courses e e.lines

-- what is written of the points
abbrev pub sites : Exported → List Site
sites e = map (site_in e.head.origin) e.points

abbrev pub final_sketch : Exported → Sketch
final_sketch e = plain e.head.name ((flat_map sites_of (courses e) ++ sites e) ++ sites e) (courses e) (tagged e.head.origin 1 e.points) (map (ids_of e.points) e.faces)

pub whole_is : (e : Exported) → whole_sketch e ≡ final_sketch e
whole_is e =
    let rc = ring_courses e e.lines in
    let oc = open_courses e e.lines in
    let rings = rings_are e e.lines (bare_sketch e.head.name) ∙ courses_are rc e.head.name [] [] [] [] in
    let lines = ap (with_opens e e.lines) rings ∙ opens_are e e.lines (plain e.head.name (flat_map sites_of rc) rc [] []) ∙ courses_are oc e.head.name (flat_map sites_of rc) rc [] []
    ∙ (λ i. plain e.head.name (sym (flat_map-append sites_of rc oc) i) (courses e) [] []) in
    let all = flat_map sites_of (courses e) in
    let base = plain e.head.name all (courses e) [] [] in
    let surveyed = ap (with_sites (sites e)) lines ∙ sites_are (sites e) base ∙ (λ i. record (plain e.head.name (all ++ sites e) (courses e) [] []) { line = none_open (sites e) base refl i }) in
    let points = ap (with_points e.head.origin 1 e.points) surveyed ∙ points_are e.head.origin 1 e.points e.head.name (all ++ sites e) (courses e) [] [] in
    ap (with_faces e.points e.faces) points ∙ faces_are e.points e.faces e.head.name ((all ++ sites e) ++ sites e) (courses e) (tagged e.head.origin 1 e.points) []
