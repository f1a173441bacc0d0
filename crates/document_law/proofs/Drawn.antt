-- The lines of a draft are those that were written.
use Rattle.std.proofs.Common.{◌≡◌, ◌-◌, Bool, true, false, not, cond, List, [], ◌∷◌, ◌++◌, length, map, take, drop, Option, None, Some, refl, sym, ◌∙◌, ap, arith, length-append}
use Rattle.std.proofs.lemmas.Bool.Decides.{nat_tests}
use Rattle.std.proofs.lemmas.List.{map-append}
use Rattle.std.proofs.lemmas.List.Sums.{length-filter}
use Rattle.std.specs.Prelude.{All, slice_get, option_map, unwrap_or, count_by}
use Rattle.std.specs.List.{list_any, filter, filter_map, cons_option, dedup, dedup_from, zip}
use Rattle.ground_num.specs.declared.head.Origin.{Origin}
use Rattle.ground_model.specs.declared.line.LineKind.{LineKind}
use Rattle.ground_model.specs.declared.line.LineKind.TheVariants as lines
use Rattle.ground_model.specs.Kind.{is_ring}
use Rattle.ground_model.specs.Place.{Coords, is_same}
use Rattle.ground_model.specs.Line.{Line, links}
use Rattle.ground_model.proofs.LinePieces.{is_same_itself}
use Rattle.ground_model.proofs.Ties.{same_of_is_same}
use Rattle.landxml_read.specs.declared.raw.RawLine.{RawLine}
use Rattle.landxml_read.specs.declared.raw.RawSurface.{RawSurface}
use Rattle.landxml_read.specs.declared.raw.RawVertex.{RawVertex}
use Rattle.landxml_read.specs.declared.raw.RawVertex.TheVariants as vertex
use Rattle.landxml_read.specs.declared.raw.Triple.{Triple}
use Rattle.landxml_surface.specs.Drafts.{kind_of, vertex_place, ends_at, opened, cleaned, DraftLine, line_of, is_short}
use Rattle.landxml_surface.specs.Heights.{spot_of}
use Rattle.landxml_surface.specs.Origins.{from_origin}
use Rattle.landxml_write.specs.Exports.{Exported}
use Rattle.landxml_write.specs.Text.{closed}
use Rattle.document_law.specs.Drafts.{drafted, rings_first}
use Rattle.document_law.specs.Surveyed.{IsWholeLine}
use Rattle.document_law.proofs.Holds.{Site, Course, site_of, look, IsLine, AreLines}
use Rattle.document_law.proofs.Sites.{site_at}
use Rattle.document_law.proofs.Sketches.{ring_course, open_course, ring_courses, open_courses, courses}
use Rattle.document_law.proofs.Fitting.{all_first, all_rest}
use Rattle.document_law.proofs.Seen.{spot_back}
use Rattle.document_law.proofs.Names.{neither}
use Rattle.landxml_read.proofs.Bytes.{clash}

-- a site as it is seen from the origin
abbrev pub seen : Origin → Site → Coords
seen origin s = from_origin origin (record { n = s.0; e = s.1 })

-- vertices

pub triple_seen : (origin : Origin) (o : Option Triple) (s : Site) → option_map site_of o ≡ Some s → option_map (from_origin origin) (option_map spot_of o) ≡ Some (seen origin s)
triple_seen origin None s e = cc
triple_seen origin (Some t) s e = let same : site_of t ≡ s = cc in ap (λ s. Some (seen origin s)) same

vertex_seen : (origin : Origin) (s : RawSurface) (v : RawVertex) (site : Site) → look s.triples v ≡ Some site → vertex_place origin s v ≡ Some (seen origin site)
vertex_seen origin s (vertex.Triple k) site e = triple_seen origin (slice_get s.triples k) site e
vertex_seen origin s (vertex.Pair k) site e = cc

vertices_seen : (origin : Origin) (s : RawSurface) (vs : List RawVertex) (ss : List Site) → map (look s.triples) vs ≡ map Some ss → filter_map (vertex_place origin s) vs ≡ map (seen origin) ss
vertices_seen origin s [] [] e = refl
vertices_seen origin s [] (x ∷ ss) e = cc
vertices_seen origin s (v ∷ vs) [] e = cc
vertices_seen origin s (v ∷ vs) (x ∷ ss) e =
    let a : look s.triples v ≡ Some x = cc in
    let b : map (look s.triples) vs ≡ map Some ss = cc in
    λ i. cons_option (vertex_seen origin s v x a i) (vertices_seen origin s vs ss b i)

-- the line that comes of a course
abbrev line_by : Origin → Course → DraftLine
line_by origin c = (kind_of c.0, cleaned (kind_of c.0) (map (seen origin) c.1))

line_is : (origin : Origin) (s : RawSurface) (r : RawLine) (c : Course) → IsLine s.triples r c → line_of origin s r ≡ line_by origin c
unfolding line_of
line_is origin s r c is = λ i. (kind_of (is.kind i), cleaned (kind_of (is.kind i)) (vertices_seen origin s r.vertices c.1 is.sites i))

lines_are : (origin : Origin) (s : RawSurface) (rs : List RawLine) (cs : List Course) → AreLines s.triples rs cs → map (line_of origin s) rs ≡ map (line_by origin) cs
lines_are origin s [] [] are = refl
lines_are origin s [] (c ∷ cs) are = absurd are
lines_are origin s (r ∷ rs) [] are = absurd are
lines_are origin s (r ∷ rs) (c ∷ cs) are = λ i. line_is origin s r c are.0 i ∷ lines_are origin s rs cs are.1 i

-- cleaning leaves a whole line as it was

other_way : (p q : Coords) → is_same p q ≡ false → is_same q p ≡ false
other_way p q e = by (is_same q p) refl
  where
    by : (t : Bool) → is_same q p ≡ t → is_same q p ≡ false
    by false f = f
    by true f = absurd (clash (is_same p q) (ap (is_same p) (same_of_is_same q p f) ∙ is_same_itself p) e)

-- whether a link is without length
abbrev is_point_link : Coords × Coords → Bool
is_point_link link = is_same link.0 link.1

open_apart : (k : Coords) (qs : List Coords) → list_any is_point_link (zip (k ∷ qs) (qs ++ [])) ≡ false → dedup_from is_same k qs ≡ k ∷ qs
open_apart k [] e = refl
open_apart k (q ∷ qs) e =
    let h = neither (is_same k q) (list_any is_point_link (zip (q ∷ qs) (qs ++ []))) e in
    ap (λ t. cond t (dedup_from is_same k qs) (k ∷ dedup_from is_same q qs)) (other_way k q h.0) ∙ ap (λ w. k ∷ w) (open_apart q qs h.1)

ring_apart : (first k : Coords) (qs : List Coords) → list_any is_point_link (zip (k ∷ qs) (qs ++ first ∷ [])) ≡ false → dedup_from is_same k (qs ++ first ∷ []) ≡ k ∷ (qs ++ first ∷ [])
ring_apart first k [] e =
    let h = neither (is_same k first) false e in
    ap (λ t. cond t (k ∷ []) (k ∷ first ∷ [])) (other_way k first h.0)
ring_apart first k (q ∷ qs) e =
    let h = neither (is_same k q) (list_any is_point_link (zip (q ∷ qs) (qs ++ first ∷ []))) e in
    ap (λ t. cond t (dedup_from is_same k (qs ++ first ∷ [])) (k ∷ dedup_from is_same q (qs ++ first ∷ []))) (other_way k q h.0) ∙ ap (λ w. k ∷ w) (ring_apart first q qs h.1)

last_of : (p : Coords) (qs : List Coords) → slice_get (qs ++ p ∷ []) (length qs) ≡ Some p
last_of p [] = refl
last_of p (q ∷ qs) = last_of p qs

front_of : (p : Coords) (qs : List Coords) → take (length qs) (qs ++ p ∷ []) ≡ qs
front_of p [] = refl
front_of p (q ∷ qs) = ap (λ w. q ∷ w) (front_of p qs)

opened_again : (p : Coords) (qs : List Coords) → opened (p ∷ (qs ++ p ∷ [])) ≡ p ∷ qs
opened_again p qs =
    let size : length (qs ++ p ∷ []) - 1 ≡ length qs = omega (arith, length-append qs (p ∷ [])) in
    let test : ends_at p (qs ++ p ∷ []) ≡ true = ap (λ k. unwrap_or (option_map (is_same p) (slice_get (qs ++ p ∷ []) k)) false) size ∙ ap (λ o. unwrap_or (option_map (is_same p) o) false) (last_of p qs) ∙ is_same_itself p in
    (λ i. cond (test i) (p ∷ take (size i) (qs ++ p ∷ [])) (p ∷ (qs ++ p ∷ []))) ∙ ap (λ w. p ∷ w) (front_of p qs)

ring_cleaned : (ps : List Coords) → list_any is_point_link (zip ps (drop 1 ps ++ take 1 ps)) ≡ false → opened (dedup is_same (closed ps)) ≡ ps
ring_cleaned [] e = refl
ring_cleaned (p ∷ qs) e = ap opened (ring_apart p p qs e) ∙ opened_again p qs

open_cleaned : (ps : List Coords) → list_any is_point_link (zip ps (drop 1 ps ++ [])) ≡ false → dedup is_same ps ≡ ps
open_cleaned [] e = refl
open_cleaned (p ∷ qs) e = open_apart p qs e

seen_again : (e : Exported) (ps : List Coords) → map (seen e.head.origin) (map (site_at e) ps) ≡ ps
seen_again e [] = refl
seen_again e (p ∷ ps) = λ i. spot_back e.head.origin p i ∷ seen_again e ps i

-- all lines

ring_drawn : (e : Exported) (kind : LineKind) (ps : List Coords) → list_any is_point_link (links (record { kind = kind; places = ps })) ≡ false
    → map (line_by e.head.origin) (ring_course e kind ps) ≡ map drafted (filter (λ l. is_ring l.kind) (record { kind = kind; places = ps } ∷ []))
ring_drawn e lines.Breakline ps apart = refl
ring_drawn e lines.Outer ps apart = ap (λ w. (lines.Outer, w) ∷ []) (ap (λ w. opened (dedup is_same w)) (seen_again e (closed ps)) ∙ ring_cleaned ps apart)
ring_drawn e lines.Void ps apart = ap (λ w. (lines.Void, w) ∷ []) (ap (λ w. opened (dedup is_same w)) (seen_again e (closed ps)) ∙ ring_cleaned ps apart)
ring_drawn e lines.Island ps apart = ap (λ w. (lines.Island, w) ∷ []) (ap (λ w. opened (dedup is_same w)) (seen_again e (closed ps)) ∙ ring_cleaned ps apart)

open_drawn : (e : Exported) (kind : LineKind) (ps : List Coords) → list_any is_point_link (links (record { kind = kind; places = ps })) ≡ false
    → map (line_by e.head.origin) (open_course e kind ps) ≡ map drafted (filter (λ l. not (is_ring l.kind)) (record { kind = kind; places = ps } ∷ []))
open_drawn e lines.Breakline ps apart = ap (λ w. (lines.Breakline, w) ∷ []) (ap (dedup is_same) (seen_again e ps) ∙ open_cleaned ps apart)
open_drawn e lines.Outer ps apart = refl
open_drawn e lines.Void ps apart = refl
open_drawn e lines.Island ps apart = refl

filter_one : (p : Line → Bool) (l : Line) (ls : List Line) → filter p (l ∷ ls) ≡ filter p (l ∷ []) ++ filter p ls
filter_one p l ls = by (p l)
  where
    by : (t : Bool) → cond t (l ∷ filter p ls) (filter p ls) ≡ cond t (l ∷ []) [] ++ filter p ls
    by true = refl
    by false = refl

drawn_both : (e : Exported) (c cs : List Course) (p : Line → Bool) (l : Line) (ls : List Line) → map (line_by e.head.origin) c ≡ map drafted (filter p (l ∷ [])) → map (line_by e.head.origin) cs ≡ map drafted (filter p ls)
    → map (line_by e.head.origin) (c ++ cs) ≡ map drafted (filter p (l ∷ ls))
drawn_both e c cs p l ls a b =
    map-append (line_by e.head.origin) c cs ∙ (λ i. a i ++ b i) ∙ sym (map-append drafted (filter p (l ∷ [])) (filter p ls)) ∙ ap (map drafted) (sym (filter_one p l ls))

rings_drawn : (e : Exported) (ls : List Line) → All IsWholeLine ls → map (line_by e.head.origin) (ring_courses e ls) ≡ map drafted (filter (λ l. is_ring l.kind) ls)
rings_drawn e [] whole = refl
rings_drawn e (l ∷ ls) whole =
    drawn_both e (ring_course e l.kind l.places) (ring_courses e ls) (λ l. is_ring l.kind) l ls (ring_drawn e l.kind l.places (all_first IsWholeLine l ls whole).links) (rings_drawn e ls (all_rest IsWholeLine l ls whole))

opens_drawn : (e : Exported) (ls : List Line) → All IsWholeLine ls → map (line_by e.head.origin) (open_courses e ls) ≡ map drafted (filter (λ l. not (is_ring l.kind)) ls)
opens_drawn e [] whole = refl
opens_drawn e (l ∷ ls) whole =
    drawn_both e (open_course e l.kind l.places) (open_courses e ls) (λ l. not (is_ring l.kind)) l ls (open_drawn e l.kind l.places (all_first IsWholeLine l ls whole).links) (opens_drawn e ls (all_rest IsWholeLine l ls whole))

pub all_drawn : (e : Exported) (s : RawSurface) → All IsWholeLine e.lines → AreLines s.triples s.lines (courses e) → map (line_of e.head.origin s) s.lines ≡ map drafted (rings_first e.lines)
all_drawn e s whole are =
    lines_are e.head.origin s s.lines (courses e) are
    ∙ map-append (line_by e.head.origin) (ring_courses e e.lines) (open_courses e e.lines)
    ∙ (λ i. rings_drawn e e.lines whole i ++ opens_drawn e e.lines whole i)
    ∙ sym (map-append drafted (filter (λ l. is_ring l.kind) e.lines) (filter (λ l. not (is_ring l.kind)) e.lines))

-- none is short

abbrev AreLong : List Line → Type 0
AreLong [] = Unit {0}
AreLong (l ∷ ls) = (is_short (drafted l) ≡ false) × AreLong ls

long_more : (xs ys : List Line) → AreLong xs → AreLong ys → AreLong (xs ++ ys)
long_more [] ys a b = b
long_more (x ∷ xs) ys a b = (a.0, long_more xs ys a.1 b)

long_filter : (p : Line → Bool) (ls : List Line) → AreLong ls → AreLong (filter p ls)
long_filter p [] are = tt
long_filter p (l ∷ ls) are = by (p l) (long_filter p ls are.1)
  where
    by : (t : Bool) → AreLong (filter p ls) → AreLong (cond t (l ∷ filter p ls) (filter p ls))
    by true rest = (are.0, rest)
    by false rest = rest

long_lines : (ls : List Line) → All IsWholeLine ls → AreLong ls
long_lines [] whole = tt
long_lines (l ∷ ls) whole = let enough = (all_first IsWholeLine l ls whole).enough in (grind (arith, nat_tests, enough), long_lines ls (all_rest IsWholeLine l ls whole))

long_kept : (ls : List Line) → AreLong ls → filter (λ l. not (is_short l)) (map drafted ls) ≡ map drafted ls
long_kept [] are = refl
long_kept (l ∷ ls) are = (λ i. cond (not (are.0 i)) (drafted l ∷ filter (λ l. not (is_short l)) (map drafted ls)) (filter (λ l. not (is_short l)) (map drafted ls))) ∙ ap (λ w. drafted l ∷ w) (long_kept ls are.1)

none_short : (ls : List Line) → AreLong ls → filter is_short (map drafted ls) ≡ []
none_short [] are = refl
none_short (l ∷ ls) are = (λ i. cond (are.0 i) (drafted l ∷ filter is_short (map drafted ls)) (filter is_short (map drafted ls))) ∙ none_short ls are.1

rings_long : (ls : List Line) → All IsWholeLine ls → AreLong (rings_first ls)
rings_long ls whole = let are = long_lines ls whole in long_more (filter (λ l. is_ring l.kind) ls) (filter (λ l. not (is_ring l.kind)) ls) (long_filter (λ l. is_ring l.kind) ls are) (long_filter (λ l. not (is_ring l.kind)) ls are)

pub all_kept : (ls : List Line) → All IsWholeLine ls → filter (λ l. not (is_short l)) (map drafted (rings_first ls)) ≡ map drafted (rings_first ls)
all_kept ls whole = long_kept (rings_first ls) (rings_long ls whole)

pub none_left_out : (ls : List Line) → All IsWholeLine ls → count_by is_short (map drafted (rings_first ls)) ≡ 0
none_left_out ls whole = sym (length-filter is_short (map drafted (rings_first ls))) ∙ ap length (none_short (rings_first ls) (rings_long ls whole))
