-- How long the text of a surface is at the most.
use Rattle.std.proofs.Common.{◌≡◌, ℕ, zero, suc, ◌+◌, ◌*◌, ◌≤◌, ◌<◌, ◌^◌, ℤ, List, [], ◌∷◌, ◌++◌, length, take, Bool, true, false, cond, ◌==◌, ◌&&◌, Option, Some, ⊎_elim, refl, sym, ap, subst, ◌∙◌, arith, length-append}
use Rattle.std.specs.Prelude.{slice_get, codes, ◌+ℤ◌, not}
use Rattle.std.specs.List.{flat_map, sum_by, list_all}
use Rattle.std.specs.Fmt.{decimal}
use Rattle.std.proofs.lemmas.Grind.{flat_map-append}
use Rattle.std.proofs.lemmas.List.Sums.{sum_by-cons, prefix_len-le-length}
use Rattle.std.proofs.Math.Nat.{eq-or-lt_of_le}
use Rattle.ground_num.specs.declared.head.LinearUnit.{LinearUnit}
use Rattle.ground_num.specs.declared.head.LinearUnit.TheVariants.{Meter, Foot, USSurveyFoot}
use Rattle.ground_num.specs.declared.head.Origin.{Origin}
use Rattle.ground_num.specs.Decimal.{thousandths_text}
use Rattle.ground_num.specs.Names.{IsName, escape}
use Rattle.ground_model.specs.declared.line.LineKind.{LineKind}
use Rattle.ground_model.specs.declared.line.LineKind.TheVariants.{Breakline, Outer, Void, Island}
use Rattle.ground_model.specs.Place.{Coords, is_same}
use Rattle.ground_model.specs.Line.{Line}
use Rattle.landxml_write.specs.Exports.{Vertex, Face, Exported, IsExport, is_vertex}
use Rattle.landxml_write.specs.Sizes.{AreShort, AreShortTo, places_in}
use Rattle.landxml_write.specs.Text as text
use Rattle.landxml_write.specs.Text.{vertex_text, place_text, next_text, list_text, closed, ring_text, boundary_of, boundary_text, open_text, breakline_of, breakline_text, data_text, point_text, points_text, id_of, face_tag, face_text, unit_text, opening_text, head_text, source_text, definition_text, document}
use Rattle.landxml_write.proofs.Digits.{few_digits}
use Rattle.landxml_write.proofs.Found.{same_some, within-all, level-is}

-- ---- lists

-- each element has a text that its weight bounds
flat_short : {X : Type 0} (w : X → ℕ) (f : X → List ℕ) (xs : List X) → ((k : ℕ) (x : X) → slice_get xs k ≡ Some x → length (f x) ≤ 256 + 128 * w x) → length (flat_map f xs) ≤ 256 * length xs + 128 * sum_by w xs
flat_short w f [] h = omega arith
flat_short w f (x ∷ xs) h =
    let long : length (flat_map f (x ∷ xs)) ≡ length (f x) + length (flat_map f xs) = length-append (f x) (flat_map f xs) in
    omega (arith, long, sum_by-cons w x xs, h 0 x refl, flat_short w f xs (λ k y at. h (suc k) y at))

-- each element has a short text
flat_even : {X : Type 0} (f : X → List ℕ) (xs : List X) → ((k : ℕ) (x : X) → slice_get xs k ≡ Some x → length (f x) ≤ 256) → length (flat_map f xs) ≤ 256 * length xs
flat_even f [] h = omega arith
flat_even f (x ∷ xs) h =
    let long : length (flat_map f (x ∷ xs)) ≡ length (f x) + length (flat_map f xs) = length-append (f x) (flat_map f xs) in
    omega (arith, long, h 0 x refl, flat_even f xs (λ k y at. h (suc k) y at))

both_true : (a b : Bool) → (a && b) ≡ true → (a ≡ true) × (b ≡ true)
both_true true b e = (refl, e)
both_true false b e = cc

-- ---- points

pub vertex_short : (origin : Origin) (p : Coords) (z : ℤ) → length (thousandths_text (p.n +ℤ origin.n.0)) ≤ 25 → length (thousandths_text (p.e +ℤ origin.e.0)) ≤ 25 → length (thousandths_text z) ≤ 25 → length (vertex_text origin (p, z)) ≤ 80
vertex_short origin p z n e level = simp length-append (omega (arith, n, e, level))

-- one point more
pub short_more : (e : Exported) (k : ℕ) (v : Vertex) → slice_get e.points k ≡ Some v → length (vertex_text e.head.origin v) ≤ 80 → AreShortTo e k → AreShortTo e (k + 1)
short_more e k v at one before j w less there =
    ⊎_elim
    (λ (same : j ≡ k). subst (λ (u : Vertex). length (vertex_text e.head.origin u) ≤ 80) (same_some v w (sym at ∙ ap (slice_get e.points) (sym same) ∙ there)) one)
    (λ (earlier : j < k). before j w earlier there)
    (eq-or-lt_of_le (omega (arith, less)))

data_short : (e : Exported) (v : Vertex) → length (vertex_text e.head.origin v) ≤ 80 → length (data_text e v) ≤ 256
unfolding data_text
data_short e v short = rw (length-append (vertex_text e.head.origin v) (10 ∷ [])) (omega (arith, short))

point_short : (e : Exported) (id : ℕ) (v : Vertex) → length (vertex_text e.head.origin v) ≤ 80 → id < 2 ^ 64 → length (point_text e id v) ≤ 256
unfolding point_text
point_short e id v short small =
    let tail = codes "</P>\n" in
    let one : length (vertex_text e.head.origin v ++ tail) ≤ 90 = rw (length-append (vertex_text e.head.origin v) tail) (omega (arith, short)) in
    let two : length (codes "\">" ++ (vertex_text e.head.origin v ++ tail)) ≤ 100 = omega (arith, one, length-append (codes "\">") (vertex_text e.head.origin v ++ tail)) in
    let three : length (decimal id ++ (codes "\">" ++ (vertex_text e.head.origin v ++ tail))) ≤ 120 = omega (arith, two, few_digits id small, length-append (decimal id) (codes "\">" ++ (vertex_text e.head.origin v ++ tail))) in
    omega (arith, three, length-append (codes "<P id=\"") (decimal id ++ (codes "\">" ++ (vertex_text e.head.origin v ++ tail))))

points_short : (e : Exported) (id : ℕ) (vs : List Vertex) → ((k : ℕ) (v : Vertex) → slice_get vs k ≡ Some v → length (vertex_text e.head.origin v) ≤ 80) → id + length vs < 2 ^ 64 → length (points_text e id vs) ≤ 256 * length vs
unfolding points_text
points_short e id [] h small = omega arith
points_short e id (v ∷ vs) h small =
    let long : length (points_text e id (v ∷ vs)) ≡ length (point_text e id v) + length (points_text e (id + 1) vs) = length-append (point_text e id v) (points_text e (id + 1) vs) in
    omega (arith, long, point_short e id v (h 0 v refl) (omega (arith, small)), points_short e (id + 1) vs (λ k w at. h (suc k) w at) (omega (arith, small)))

-- ---- faces

id_small : (points : List Vertex) (p : Coords) → length points < 2 ^ 32 → id_of points p < 2 ^ 64
id_small points p few = omega (arith, few, prefix_len-le-length (λ (v : Vertex). not (is_same p v.0)) points)

tag_short : (is_kept : Bool) → length (face_tag is_kept) ≤ 9
tag_short true = omega arith
tag_short false = omega arith

face_short : (e : Exported) (f : Face) → length e.points < 2 ^ 32 → length (face_text e f) ≤ 256
unfolding face_text
face_short e f few =
    let id : Coords → List ℕ = λ p. decimal (id_of e.points p) in
    let short : (p : Coords) → length (decimal (id_of e.points p)) ≤ 20 = λ p. few_digits (id_of e.points p) (id_small e.points p few) in
    let last : List ℕ = id f.0.c ++ codes "</F>\n" in
    let middle : List ℕ = id f.0.b ++ (32 ∷ last) in
    omega (arith, tag_short f.1, short f.0.a, short f.0.b, short f.0.c, length-append (id f.0.c) (codes "</F>\n"), length-append (id f.0.b) (32 ∷ last), length-append (id f.0.a) (32 ∷ middle), length-append (face_tag f.1) (id f.0.a ++ (32 ∷ middle)))

-- ---- lines

module _ (e : Exported) (lawful : IsExport e) (short : AreShort e) where
  place_short : (p : Coords) → is_vertex e.points p ≡ true → length (place_text e p) ≤ 80
  place_short p there =
      let w = within-all e.points p there in
      subst (λ (z : ℤ). length (vertex_text e.head.origin (p, z)) ≤ 80) (sym (level-is e.points lawful.points p w.index w.level w.at)) (short w.index (p, w.level) w.at)

  rest_short : (ps : List Coords) → list_all (is_vertex e.points) ps ≡ true → length (flat_map (next_text e) ps) ≤ 81 * length ps
  rest_short [] there = omega arith
  rest_short (p ∷ ps) there =
      let each = both_true (is_vertex e.points p) (list_all (is_vertex e.points) ps) there in
      let long : length (flat_map (next_text e) (p ∷ ps)) ≡ length (next_text e p) + length (flat_map (next_text e) ps) = length-append (next_text e p) (flat_map (next_text e) ps) in
      omega (arith, long, place_short p each.0, rest_short ps each.1)

  list_short : (ps : List Coords) → list_all (is_vertex e.points) ps ≡ true → length (list_text e ps) ≤ 81 * length ps
  list_short [] there = omega arith
  list_short (p ∷ ps) there =
      let each = both_true (is_vertex e.points p) (list_all (is_vertex e.points) ps) there in
      omega (arith, length-append (place_text e p) (flat_map (next_text e) ps), place_short p each.0, rest_short ps each.1)

  closed_short : (ps : List Coords) → list_all (is_vertex e.points) ps ≡ true → length (list_text e (closed ps)) ≤ 81 * length ps + 81
  closed_short [] there = omega arith
  closed_short (p ∷ ps) there =
      let each = both_true (is_vertex e.points p) (list_all (is_vertex e.points) ps) there in
      let last : flat_map (next_text e) (ps ++ p ∷ []) ≡ flat_map (next_text e) ps ++ (next_text e p ++ []) = flat_map-append (next_text e) ps (p ∷ []) in
      omega (arith, length-append (place_text e p) (flat_map (next_text e) (ps ++ p ∷ [])), ap length last, length-append (flat_map (next_text e) ps) (next_text e p ++ []), length-append (next_text e p) [], place_short p each.0, rest_short ps each.1)

  ring_short : (kind : List ℕ) (ps : List Coords) → length kind ≤ 6 → list_all (is_vertex e.points) ps ≡ true → length (ring_text e kind ps) ≤ 256 + 128 * length ps
  ring_short kind ps few there =
      let tail : List ℕ = list_text e (closed ps) ++ codes "</PntList3D></Boundary>\n" in
      let rest : List ℕ = codes "\" edgeTrim=\"false\"><PntList3D>" ++ tail in
      omega (arith, few, closed_short ps there, length-append (list_text e (closed ps)) (codes "</PntList3D></Boundary>\n"), length-append (codes "\" edgeTrim=\"false\"><PntList3D>") tail, length-append kind rest, length-append (codes "<Boundary bndType=\"") (kind ++ rest))

  boundary_short : (kind : LineKind) (ps : List Coords) → list_all (is_vertex e.points) ps ≡ true → length (boundary_of e kind ps) ≤ 256 + 128 * length ps
  boundary_short Breakline ps there = omega arith
  boundary_short Outer ps there = ring_short (codes "outer") ps (omega arith) there
  boundary_short Void ps there = ring_short (codes "void") ps (omega arith) there
  boundary_short Island ps there = ring_short (codes "island") ps (omega arith) there

  open_short : (ps : List Coords) → list_all (is_vertex e.points) ps ≡ true → length (open_text e ps) ≤ 256 + 128 * length ps
  open_short ps there =
      omega (arith, list_short ps there, length-append (list_text e ps) (codes "</PntList3D></Breakline>\n"), length-append (codes "<Breakline brkType=\"standard\"><PntList3D>") (list_text e ps ++ codes "</PntList3D></Breakline>\n"))

  breakline_short : (kind : LineKind) (ps : List Coords) → list_all (is_vertex e.points) ps ≡ true → length (breakline_of e kind ps) ≤ 256 + 128 * length ps
  breakline_short Breakline ps there = open_short ps there
  breakline_short Outer ps there = omega arith
  breakline_short Void ps there = omega arith
  breakline_short Island ps there = omega arith

  boundaries_short : length (flat_map (boundary_text e) e.lines) ≤ 256 * length e.lines + 128 * places_in e.lines
  unfolding boundary_text
  boundaries_short = flat_short (λ (line : Line). length line.places) (boundary_text e) e.lines (λ k line at. boundary_short line.kind line.places (lawful.places k line at))

  breaklines_short : length (flat_map (breakline_text e) e.lines) ≤ 256 * length e.lines + 128 * places_in e.lines
  unfolding breakline_text
  breaklines_short = flat_short (λ (line : Line). length line.places) (breakline_text e) e.lines (λ k line at. breakline_short line.kind line.places (lawful.places k line at))

-- ---- the head

either_short : (t : Bool) (xs ys : List ℕ) → length xs ≤ 6 → length ys ≤ 6 → length (cond t xs ys) ≤ 6
either_short true xs ys x y = x
either_short false xs ys x y = y

escape_short : (b : ℕ) → length (escape b) ≤ 6
escape_short b =
    either_short (b == 38) _ _ (omega arith) (either_short (b == 60) _ _ (omega arith) (either_short (b == 62) _ _ (omega arith) (either_short (b == 34) _ _ (omega arith)
    (either_short (b == 9) _ _ (omega arith) (either_short (b == 10) _ _ (omega arith) (either_short (b == 13) _ _ (omega arith) (omega arith)))))))

name_short : (name : List ℕ) → length (flat_map escape name) ≤ 6 * length name
name_short [] = omega arith
name_short (b ∷ name) =
    let long : length (flat_map escape (b ∷ name)) ≡ length (escape b) + length (flat_map escape name) = length-append (escape b) (flat_map escape name) in
    omega (arith, long, escape_short b, name_short name)

unit_short : (unit : LinearUnit) → length (unit_text unit) ≤ 60
unit_short Meter = omega arith
unit_short Foot = omega arith
unit_short USSurveyFoot = omega arith

head_short : (e : Exported) → IsName e.head.name → length (head_text e.head) ≤ 2 ^ 12
unfolding head_text
head_short e name =
    let end : List ℕ = flat_map escape e.head.name ++ codes "\">\n" in
    let rest : List ℕ = codes "<Surfaces>\n<Surface name=\"" ++ end in
    omega (arith, name.short, name_short e.head.name, unit_short e.head.unit, length-append (flat_map escape e.head.name) (codes "\">\n"), length-append (codes "<Surfaces>\n<Surface name=\"") end, length-append (unit_text e.head.unit) rest, length-append opening_text (unit_text e.head.unit ++ rest))

-- ---- the document

module _ (e : Exported) (lawful : IsExport e) (short : AreShort e) (few_points : length e.points < 2 ^ 32) (few_lines : length e.lines < 2 ^ 32) (few_faces : length e.faces < 2 ^ 32) where
  source_short : length (source_text e) ≤ 2 ^ 45 + 256 * places_in e.lines
  unfolding source_text
  source_short =
      let rows = flat_map (data_text e) e.points in
      let tail = codes "</PntList3D></DataPoints>\n</SourceData>\n" in
      let three : List ℕ = codes "</Breaklines>\n<DataPoints><PntList3D>\n" ++ (rows ++ tail) in
      let breaks = flat_map (breakline_text e) e.lines in
      let two : List ℕ = codes "</Boundaries>\n<Breaklines>\n" ++ (breaks ++ three) in
      let rings = flat_map (boundary_text e) e.lines in
      omega (
        arith,
        few_points,
        few_lines,
        boundaries_short e lawful short,
        breaklines_short e lawful short,
        flat_even (data_text e) e.points (λ k v at. data_short e v (short k v at)),
        length-append rows tail,
        length-append (codes "</Breaklines>\n<DataPoints><PntList3D>\n") (rows ++ tail),
        length-append breaks three,
        length-append (codes "</Boundaries>\n<Breaklines>\n") (breaks ++ three),
        length-append rings two,
        length-append (codes "<SourceData>\n<Boundaries>\n") (rings ++ two),
      )

  definition_short : length (definition_text e) ≤ 2 ^ 45
  unfolding definition_text
  definition_short =
      let faces = flat_map (face_text e) e.faces in
      let tail = codes "</Faces>\n</Definition>\n" in
      let two : List ℕ = codes "</Pnts>\n<Faces>\n" ++ (faces ++ tail) in
      let points = points_text e 1 e.points in
      omega (
        arith,
        few_points,
        few_faces,
        points_short e 1 e.points short (omega (arith, few_points)),
        flat_even (face_text e) e.faces (λ k f at. face_short e f few_points),
        length-append faces tail,
        length-append (codes "</Pnts>\n<Faces>\n") (faces ++ tail),
        length-append points two,
        length-append (codes "<Definition surfType=\"TIN\">\n<Pnts>\n") (points ++ two),
      )

  pub document_short : IsName e.head.name → length (document e) ≤ 2 ^ 50 + 256 * places_in e.lines
  unfolding document
  document_short name =
      let tail = codes "</Surface>\n</Surfaces>\n</LandXML>\n" in
      omega (
        arith,
        head_short e name,
        source_short,
        definition_short,
        length-append (definition_text e) tail,
        length-append (source_text e) (definition_text e ++ tail),
        length-append (head_text e.head) (source_text e ++ (definition_text e ++ tail)),
      )
