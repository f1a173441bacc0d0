-- All that is written of a surveyed surface stands at its points.
use Rattle.std.proofs.Common.{◌≡◌, ℕ, zero, suc, Bool, true, false, cond, List, [], ◌∷◌, ◌++◌, map, flat_map, Option, None, Some, refl, sym, ◌∙◌, ap, subst, arith, ℤ}
use Rattle.std.proofs.lemmas.Grind.{flat_map-append}
use Rattle.std.specs.Prelude.{All, slice_get, option_map, unwrap_or}
use Rattle.std.specs.List.{list_all, find}
use Rattle.ground_num.specs.declared.head.Origin.{Origin}
use Rattle.ground_model.specs.declared.line.LineKind.{LineKind}
use Rattle.ground_model.specs.declared.line.LineKind.TheVariants as lines
use Rattle.ground_model.specs.Place.{Coords, is_before, is_same}
use Rattle.ground_model.specs.Line.{Line}
use Rattle.ground_model.proofs.LinePieces.{is_same_itself}
use Rattle.ground_model.proofs.Segments.{not_after}
use Rattle.ground_model.proofs.Ties.{same_of_is_same}
use Rattle.landxml_read.specs.declared.raw.Triple.{Triple}
use Rattle.landxml_read.proofs.Bytes.{both, clash}
use Rattle.landxml_write.specs.Exports.{Vertex, Exported, Ascend, is_vertex}
use Rattle.landxml_write.specs.Text.{closed}
use Rattle.document_law.specs.Drafts.{level_in, AreOnce}
use Rattle.document_law.specs.Surveyed.{IsWritable, IsSurveyed}
use Rattle.document_law.proofs.Holds.{Site, Course, site_of}
use Rattle.document_law.proofs.Sites.{site_in, site_at}
use Rattle.document_law.proofs.Lines.{ring_sites, open_sites_of}
use Rattle.document_law.proofs.Sketches.{ring_course, open_course, ring_courses, open_courses, courses, sites, sites_of}
use Rattle.document_law.proofs.Fitting.{point_at, level_written, AreOverPoints, over_points, closed_there}
use Rattle.document_law.proofs.Seen.{spot_back, AreKnown}
use Rattle.document_law.proofs.SamePoints.{AreAll, is_written, known_more}
use Rattle.document_law.proofs.Names.{neither}
use Rattle.landxml_surface.specs.Heights.{is_same_spot, spot_of}

-- points in order stand once

not_same : (p q : Coords) → is_before p q ≡ true → is_same p q ≡ false
not_same p q before = by (is_same p q) refl
  where
    by : (t : Bool) → is_same p q ≡ t → is_same p q ≡ false
    by false e = e
    by true e = absurd (clash (is_before p q) before (ap (is_before p) (sym (same_of_is_same p q e)) ∙ not_after p p (ap (is_before p) (same_of_is_same p q e) ∙ before)))

none_later : (p : Coords) (vs : List Vertex) → ((k : ℕ) (w : Vertex) → slice_get vs k ≡ Some w → is_before p w.0 ≡ true) → level_in vs p ≡ None
none_later p [] later = refl
none_later p (w ∷ vs) later = ap (λ t. option_map (λ (v : Vertex). v.1) (cond t (Some w) (find (λ (v : Vertex). is_same p v.0) vs))) (not_same p w.0 (later 0 w refl)) ∙ none_later p vs (λ k u e. later (suc k) u e)

pub once : (vs : List Vertex) → Ascend (λ v w. is_before v.0 w.0) vs → AreOnce vs
once [] ascend = tt
once (v ∷ vs) ascend = (none_later v.0 vs (λ k w e. ascend 0 (suc k) v w (omega arith) refl e), once vs (λ i j x y less a b. ascend (suc i) (suc j) x y (omega (arith, less)) a b))

-- so each has its own level

own_level : (vs : List Vertex) → AreOnce vs → (k : ℕ) (w : Vertex) → slice_get vs k ≡ Some w → level_in vs w.0 ≡ Some w.1
own_level [] are k w e = cc
own_level (v ∷ vs) are zero w e =
    let same : v ≡ w = some v w e in
    ap (λ (u : Vertex). level_in (v ∷ vs) u.0) (sym same) ∙ ap (λ t. option_map (λ (u : Vertex). u.1) (cond t (Some v) (find (λ (u : Vertex). is_same v.0 u.0) vs))) (is_same_itself v.0) ∙ ap (λ (u : Vertex). Some u.1) same
  where
    some : (x y : Vertex) → Some x ≡ Some y → x ≡ y
    some x y e = ap (λ o. unwrap_or o x) e
own_level (v ∷ vs) are (suc k) w e =
    let rest = own_level vs are.1 k w e in
    ap (λ t. option_map (λ (u : Vertex). u.1) (cond t (Some v) (find (λ (u : Vertex). is_same w.0 u.0) vs))) (other (is_same w.0 v.0) refl rest) ∙ rest
  where
    other : (t : Bool) → is_same w.0 v.0 ≡ t → level_in vs w.0 ≡ Some w.1 → is_same w.0 v.0 ≡ false
    other false same rest = same
    other true same rest = absurd (both_ways (level_in vs w.0) rest (ap (level_in vs) (same_of_is_same w.0 v.0 same) ∙ are.0))
      where
        both_ways : (o : Option ℤ) → o ≡ Some w.1 → o ≡ None → ⊥
        both_ways None a b = cc
        both_ways (Some z) a b = cc

-- what is written of the points is known

known_points : (origin : Origin) (points vs : List Vertex) → ((k : ℕ) (w : Vertex) → slice_get vs k ≡ Some w → level_in points w.0 ≡ Some w.1) → AreKnown origin points (map (site_in origin) vs)
known_points origin points [] all = tt
known_points origin points (v ∷ vs) all = (ap (level_in points) (spot_back origin v.0) ∙ all 0 v refl, known_points origin points vs (λ k w e. all (suc k) w e))

pub known_sites : (origin : Origin) (points : List Vertex) → AreOnce points → AreKnown origin points (map (site_in origin) points)
known_sites origin points are = known_points origin points points (own_level points are)

-- and what is written of the lines

known_places : (e : Exported) → All (IsWritable e.head.origin) e.points → (ps : List Coords) → list_all (is_vertex e.points) ps ≡ true → AreKnown e.head.origin e.points (map (site_at e) ps)
known_places e all [] is = tt
known_places e all (p ∷ ps) is =
    let h = both (is_vertex e.points p) (list_all (is_vertex e.points) ps) is in
    let a = point_at e.head.origin e.points p all h.0 in
    (ap (level_in e.points) (spot_back e.head.origin p) ∙ a.found ∙ ap Some (sym (level_written e.head.origin e.points p a)), known_places e all ps h.1)

known_ring : (e : Exported) → All (IsWritable e.head.origin) e.points → (kind : LineKind) (ps : List Coords) → list_all (is_vertex e.points) ps ≡ true → AreKnown e.head.origin e.points (flat_map sites_of (ring_course e kind ps))
known_ring e all lines.Breakline ps is = tt
known_ring e all lines.Outer ps is = known_more e.head.origin e.points (ring_sites e ps) [] (known_places e all (closed ps) (closed_there (is_vertex e.points) ps is)) tt
known_ring e all lines.Void ps is = known_more e.head.origin e.points (ring_sites e ps) [] (known_places e all (closed ps) (closed_there (is_vertex e.points) ps is)) tt
known_ring e all lines.Island ps is = known_more e.head.origin e.points (ring_sites e ps) [] (known_places e all (closed ps) (closed_there (is_vertex e.points) ps is)) tt

known_open : (e : Exported) → All (IsWritable e.head.origin) e.points → (kind : LineKind) (ps : List Coords) → list_all (is_vertex e.points) ps ≡ true → AreKnown e.head.origin e.points (flat_map sites_of (open_course e kind ps))
known_open e all lines.Breakline ps is = known_more e.head.origin e.points (open_sites_of e ps) [] (known_places e all ps is) tt
known_open e all lines.Outer ps is = tt
known_open e all lines.Void ps is = tt
known_open e all lines.Island ps is = tt

known_both : (e : Exported) (cs ds : List Course) → AreKnown e.head.origin e.points (flat_map sites_of cs) → AreKnown e.head.origin e.points (flat_map sites_of ds) → AreKnown e.head.origin e.points (flat_map sites_of (cs ++ ds))
known_both e cs ds a b =
    let P : List Site → Type 0 = AreKnown e.head.origin e.points in
    subst P (sym (flat_map-append sites_of cs ds)) (known_more e.head.origin e.points (flat_map sites_of cs) (flat_map sites_of ds) a b)

known_rings : (e : Exported) → All (IsWritable e.head.origin) e.points → (ls : List Line) → AreOverPoints e.points ls → AreKnown e.head.origin e.points (flat_map sites_of (ring_courses e ls))
known_rings e all [] over = tt
known_rings e all (l ∷ ls) over = known_both e (ring_course e l.kind l.places) (ring_courses e ls) (known_ring e all l.kind l.places over.0) (known_rings e all ls over.1)

known_opens : (e : Exported) → All (IsWritable e.head.origin) e.points → (ls : List Line) → AreOverPoints e.points ls → AreKnown e.head.origin e.points (flat_map sites_of (open_courses e ls))
known_opens e all [] over = tt
known_opens e all (l ∷ ls) over = known_both e (open_course e l.kind l.places) (open_courses e ls) (known_open e all l.kind l.places over.0) (known_opens e all ls over.1)

pub known_all : (e : Exported) → IsSurveyed e → AreKnown e.head.origin e.points ((flat_map sites_of (courses e) ++ sites e) ++ sites e)
known_all e is =
    let origin = e.head.origin in
    let over = over_points e.points e.lines is.lawful.places in
    let points = known_sites origin e.points (once e.points is.lawful.points) in
    known_more origin e.points (flat_map sites_of (courses e) ++ sites e) (sites e)
    (known_more origin e.points (flat_map sites_of (courses e)) (sites e) (known_both e (ring_courses e e.lines) (open_courses e e.lines) (known_rings e is.points e.lines over) (known_opens e is.points e.lines over)) points) points

-- the triples of a written document
pub all_written : (e : Exported) → IsSurveyed e → (ts : List Triple) → map site_of ts ≡ (flat_map sites_of (courses e) ++ sites e) ++ sites e → AreAll e.head.origin e.points ts
all_written e is ts same =
    let P : List Site → Type 0 = AreKnown e.head.origin e.points in
    record {
      known = subst P (sym same) (known_all e is);
      written = λ q none. last (flat_map sites_of (courses e) ++ sites e) (sites e) q (ap (λ ss. is_written ss q) (sym same) ∙ none);
    }
  where
    last : (xs ys : List Site) (q : Triple) → is_written (xs ++ ys) q ≡ false → is_written ys q ≡ false
    last [] ys q none = none
    last (x ∷ xs) ys q none = last xs ys q (neither (is_same_spot (spot_of q) (record { n = x.0; e = x.1 })) (is_written (xs ++ ys) q) none).1
