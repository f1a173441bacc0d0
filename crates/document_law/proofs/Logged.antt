-- Points and lines that are added to a history one after the other.
use Rattle.std.proofs.Common.{◌≡◌, ℕ, zero, suc, ◌+◌, ◌<◌, ◌≤◌, ◌⊎◌, Bool, true, false, ◌||◌, ◌&&◌, not, nat_lt, cond, List, [], ◌∷◌, ◌++◌, length, map, take, None, Some, inl, inr, ⊎_elim, refl, sym, ◌∙◌, ap, subst, arith, append_assoc, length-append}
use Rattle.std.proofs.Math.Seq.{take-append_seam}
use Rattle.std.proofs.lemmas.Bool.Decides.{nat_tests}
use Rattle.std.proofs.lemmas.List.{take-append-le, append-nil, length-map}
use Rattle.std.proofs.lemmas.List.Sums.{fold-append, sum_by-append, sum_by-cons}
use Rattle.std.proofs.lemmas.Option.{slice_get_within}
use Rattle.std.specs.Prelude.{slice_get, option_map, nat_le, sum_by, is_some}
use Rattle.std.specs.List.{find, list_any, list_all, position_from, enumerate_from}
use Rattle.std.specs.FinMap as finmap
use Rattle.ground_model.specs.declared.edit.Edit.{Edit}
use Rattle.ground_model.specs.declared.edit.Edit.TheVariants.{AddPoint, AddLine}
use Rattle.ground_model.specs.declared.entry.Entry.{Entry}
use Rattle.ground_model.specs.declared.limits.Limits.{Limits}
use Rattle.ground_model.specs.declared.refusal.Refusal.TheVariants.{Occupied, PointsFull, TooShort, Repeated, NotPoint, VerticesFull, LinesFull, SelfCross, Crosses, LogFull}
use Rattle.ground_model.specs.Answer.{next_entry}
use Rattle.ground_model.specs.Content.{Content, empty, after, points_of, lines_of}
use Rattle.ground_model.specs.Crossings.{any_cross, lines_cross, self_cross, links_cross, link_crosses, cross_between, pieces_on_link, is_on_points}
use Rattle.ground_model.specs.History.{content_of, IsLegal, IsNext}
use Rattle.ground_model.specs.Kind.{least_places}
use Rattle.ground_model.specs.Line.{Line, Segment, links, is_point, pairs}
use Rattle.ground_model.specs.Place.{Coords, is_same}
use Rattle.ground_model.specs.Refusal.{when, first_of, because, id, repeated, line_refusal, edit_refusal, refusal}
use Rattle.ground_model.specs.Table.{numbered, least_where, places_together}
use Rattle.ground_model.proofs.Contents.{places_total}
use Rattle.ground_model.proofs.Crossings.{lines_cross-links, pieces_on_link-links}
use Rattle.ground_model.proofs.Elements.{In, none_at, in_map, of_pairs, in_first, in_second}
use Rattle.ground_model.proofs.LinePieces.{ends_on, is_point_in}
use Rattle.ground_model.proofs.Planar.{is_point-keys, planar-legal}
use Rattle.landxml_write.specs.Exports.{Vertex}
use Rattle.document_law.specs.Drafts.{AreOnce}
use Rattle.document_law.specs.Reloaded.{logged}
use Rattle.document_law.specs.Surveyed.{IsWholeLine}
use Rattle.document_law.proofs.Insertions.{Points, inserted, AreNew, first_new, rest_new}
use Rattle.document_law.proofs.Tables.{live_more}
use Rattle.landxml_read.proofs.Bytes.{both}

-- one entry more

get_more : {X : Type 0} (xs : List X) (x y : X) (k : ℕ) → slice_get (xs ++ x ∷ []) k ≡ Some y → (slice_get xs k ≡ Some y) ⊎ ((k ≡ length xs) × (x ≡ y))
get_more [] x y zero e = inr (refl, cc)
get_more [] x y (suc k) e = cc
get_more (z ∷ xs) x y zero e = inl e
get_more (z ∷ xs) x y (suc k) e = ⊎_elim (λ h. inl h) (λ h. inr (ap suc h.0, h.1)) (get_more xs x y k e)

content_more : (h : List Entry) (x : Entry) → content_of (h ++ x ∷ []) ≡ after (content_of h) x.edit
unfolding content_of
content_more h x = fold-append (λ c entry. after c entry.edit) empty h (x ∷ [])

legal_more : (limits : Limits) (h : List Entry) (x : Entry) → IsLegal limits h → IsNext limits h x → IsLegal limits (h ++ x ∷ [])
legal_more limits h x legal next k y e =
    elim (get_more h x y k e) [
      | inl was ↦
          let within : k ≤ length h = omega (arith, slice_get_within h k y was) in
          rw (take-append-le k h (x ∷ []) within) (legal k y was)
      | inr is ↦
          let front : take k (h ++ x ∷ []) ≡ h = rw is.0 (take-append_seam h (x ∷ [])) in
          rw front (subst (IsNext limits h) is.1 next)
    ]

pub logged_more : (past : List Entry) (xs ys : List Edit) → logged past (xs ++ ys) ≡ logged (logged past xs) ys
logged_more past [] ys = refl
logged_more past (x ∷ xs) ys = logged_more (past ++ next_entry 0 past x ∷ []) xs ys

-- points

abbrev pub point_edits : List Vertex → List Edit
point_edits vs = map (λ v. AddPoint v.0 v.1) vs

pub record PointsAdded (limits : Limits) (past : List Entry) (vs : List Vertex) : Type 0 where
  pub legal : IsLegal limits (logged past (point_edits vs))
  pub content : content_of (logged past (point_edits vs)) ≡ record (content_of past) { points = inserted (content_of past).points vs }
  pub size : length (logged past (point_edits vs)) ≡ length past + length vs

point_lawful : (limits : Limits) (c : Content) (k : ℕ) (v : Vertex) → finmap.get c.points v.0 ≡ None → finmap.len c.points < limits.points → k < limits.log → refusal c k limits (AddPoint v.0 v.1) ≡ None
unfolding refusal edit_refusal
point_lawful limits c k v none room log =
    let full : nat_le limits.points (finmap.len c.points) ≡ false = grind (arith, nat_tests, room) in
    let last : nat_le limits.log k ≡ false = grind (arith, nat_tests, log) in
    λ i. first_of (first_of (because Occupied (none i) ∷ when (full i) PointsFull ∷ []) ∷ when (last i) LogFull ∷ [])

pub add_points : (limits : Limits) (vs : List Vertex) (past : List Entry) → IsLegal limits past → AreNew (content_of past).points vs → AreOnce vs → finmap.len (content_of past).points + length vs ≤ limits.points → length past + length vs ≤ limits.log → PointsAdded limits past vs
unfolding after
add_points limits [] past legal new once room log = record { legal = legal; content = refl; size = omega arith }
add_points limits (v ∷ vs) past legal new once room log =
    let c = content_of past in
    let x = next_entry 0 past (AddPoint v.0 v.1) in
    let there = content_more past x in
    let lawful = point_lawful limits c (length past) v (first_new c.points v vs new) (omega (arith, room)) (omega (arith, log)) in
    let P : Content → Type 0 = λ d. AreNew d.points vs in
    let Q : Content → Type 0 = λ d. finmap.len d.points + length vs ≤ limits.points in
    let size = length-append past (x ∷ []) in
    let one = finmap.len-insert places_total c.points v.0 v.1 ∙ ap (λ o. cond (is_some o) (finmap.len c.points) (finmap.len c.points + 1)) (first_new c.points v vs new) in
    let rest = add_points limits vs (past ++ x ∷ []) (legal_more limits past x legal (lawful, refl)) (subst P (sym there) (rest_new c.points v vs new once)) once.1 (subst Q (sym there) (omega (arith, room, one))) (omega (arith, log, size)) in
    let s = rest.size in
    record {
      legal = rest.legal;
      content = rest.content ∙ ap (λ (d : Content). record d { points = inserted d.points vs }) there;
      size = omega (arith, s, size);
    }

-- lines

abbrev pub line_edits : List Line → List Edit
line_edits ls = map (λ l. AddLine l.kind l.places) ls

-- what is true of all lines that are to be there
pub record AreAddable (limits : Limits) (points : Points) (all : List Line) : Type 0 where
  pub whole : (l : Line) → In l all → IsWholeLine l
  pub on_points : (l : Line) → In l all → is_on_points (finmap.keys points) l ≡ true
  pub apart : (l m : Line) → In l all → In m all → lines_cross (finmap.keys points) l m ≡ false
  pub places : (l : Line) → In l all → length l.places ≤ limits.places
  pub vertices : sum_by (λ (l : Line). length l.places) all ≤ limits.vertices
  pub few : length all ≤ limits.lines

pub record LinesAdded (limits : Limits) (past : List Entry) (points : Points) (before ls : List Line) : Type 0 where
  pub legal : IsLegal limits (logged past (line_edits ls))
  pub points_are : (content_of (logged past (line_edits ls))).points ≡ points
  pub lines : lines_of (content_of (logged past (line_edits ls))) ≡ before ++ ls

no_repeat : (test : Segment → Bool) (n : ℕ) (xs : List Segment) → list_any test xs ≡ false → position_from test n xs ≡ None
no_repeat test n [] e = refl
no_repeat test n (x ∷ xs) e = by (test x) e (no_repeat test (n + 1) xs)
  where
    by : (t : Bool) → (t || list_any test xs) ≡ false → (list_any test xs ≡ false → position_from test (n + 1) xs ≡ None) → cond t (Some n) (position_from test (n + 1) xs) ≡ None
    by true e again = cc
    by false e again = again e

none_missing : (points : Points) (n : ℕ) (ps : List Coords) → list_all (is_point (finmap.keys points)) ps ≡ true → position_from (λ p. not (finmap.contains_key points p)) n ps ≡ None
none_missing points n [] e = refl
none_missing points n (p ∷ ps) e =
    let h = both (is_point (finmap.keys points) p) (list_all (is_point (finmap.keys points)) ps) e in
    ap (λ t. cond (not t) (Some n) (position_from (λ p. not (finmap.contains_key points p)) (n + 1) ps)) (sym (is_point-keys points p) ∙ h.0) ∙ none_missing points (n + 1) ps h.1

none_where : {X : Type 0} (test : X → Bool) (xs : List X) → ((x : X) → In x xs → test x ≡ false) → find test xs ≡ None
none_where test [] none = refl
none_where test (x ∷ xs) none = ap (λ t. cond t (Some x) (find test xs)) (none x (inl refl)) ∙ none_where test xs (λ y i. none y (inr i))

-- a line none of whose pieces cross doesn't cross itself
of_numbered : {X : Type 0} (n : ℕ) (xs : List X) (z : ℕ × X) → In z (enumerate_from n xs) → In z.1 xs
of_numbered n [] z i = i
of_numbered n (x ∷ xs) z (inl e) = inl (ap (λ w. w.1) e)
of_numbered n (x ∷ xs) z (inr i) = inr (of_numbered (n + 1) xs z i)

alone : (points : List Coords) (line : Line) → is_on_points points line ≡ true → lines_cross points line line ≡ false → self_cross points line ≡ None
unfolding self_cross links_cross link_crosses
alone points line on free =
    ap (option_map (λ found. (found.0.0, found.1.0)))
    (none_where (λ pair. nat_lt pair.0.0 pair.1.0 && any_cross (pieces_on_link points pair.0.1) (pieces_on_link points pair.1.1)) (pairs (enumerate_from 1 (links line)))
    (λ z i. let two = of_pairs (enumerate_from 1 (links line)) z i in second (nat_lt z.0.0 z.1.0) _ (apart z.0.1 z.1.1 (of_numbered 1 (links line) z.0 two.0) (of_numbered 1 (links line) z.1 two.1))))
  where
    second : (a b : Bool) → b ≡ false → (a && b) ≡ false
    second true b e = e
    second false b e = refl

    clear : list_any (λ s. list_any (cross_between points s) (links line)) (links line) ≡ false
    clear = sym (lines_cross-links points line line on on) ∙ free

    apart : (s t : Segment) → In s (links line) → In t (links line) → any_cross (pieces_on_link points s) (pieces_on_link points t) ≡ false
    apart s t i j =
        let p = ends_on points line on s i in
        let q = ends_on points line on t j in
        pieces_on_link-links points s t (is_point_in points s.0 p.0) (is_point_in points s.1 p.1) (is_point_in points t.0 q.0) (is_point_in points t.1 q.1)
        ∙ none_at (cross_between points s) (links line) t (none_at (λ s. list_any (cross_between points s) (links line)) (links line) s clear i) j

line_lawful : (limits : Limits) (c : Content) (k : ℕ) (before rest all : List Line) (l : Line) → AreAddable limits c.points all → before ++ l ∷ rest ≡ all → lines_of c ≡ before → k < limits.log → refusal c k limits (AddLine l.kind l.places) ≡ None
unfolding refusal edit_refusal line_refusal is_on_points
line_lawful limits c k before rest all l can split lines log =
    let P : List Line → Type 0 = In l in
    let here : In l all = subst P split (in_second before (l ∷ rest) l (inl refl)) in
    let whole = can.whole l here in
    let on = can.on_points l here in
    let f = λ (l : Line). length l.places in
    let sums = ap (sum_by f) (sym split) ∙ sum_by-append f before (l ∷ rest) in
    let next = sum_by-cons f l rest in
    let most = can.vertices in
    let together = ap (sum_by f) lines in
    let sizes = ap length (sym split) ∙ length-append before (l ∷ rest) in
    let few = can.few in
    let entries = finmap.len-entries c.table.lines ∙ sym (length-map (numbered c.table) (λ e. e.1)) ∙ ap length lines in
    let enough = whole.enough in
    let own = can.places l here in
    let short : nat_lt (length l.places) (least_places l.kind) ≡ false = grind (arith, nat_tests, enough) in
    let again : repeated l ≡ None = ap (option_map _) (no_repeat (λ link. is_same link.0 link.1) 2 (links l) whole.links) in
    let place = none_missing c.points 1 l.places on in
    let long : nat_lt limits.places (length l.places) ≡ false = grind (arith, nat_tests, own) in
    let fits : places_together c.table + length l.places ≤ limits.vertices = omega (arith, sums, next, most, together) in
    let full : nat_lt limits.vertices (places_together c.table + length l.places) ≡ false = grind (arith, nat_tests, fits) in
    let less : finmap.len c.table.lines < limits.lines = omega (arith, sizes, few, entries) in
    let many : nat_le limits.lines (finmap.len c.table.lines) ≡ false = grind (arith, nat_tests, less) in
    let itself = alone (points_of c) l on (can.apart l l here here) in
    let other : least_where (lines_cross (points_of c) l) c.table ≡ None = ap (option_map (λ found. found.0)) (none_where (λ entry. lines_cross (points_of c) l entry.1) (numbered c.table) (λ e i. can.apart l e.1 here (earlier e i))) in
    let last : nat_le limits.log k ≡ false = grind (arith, nat_tests, log) in
    λ i. first_of (
    first_of (
    when (short i) TooShort
    ∷ because Repeated (again i)
    ∷ because NotPoint (place i)
    ∷ when (long i || full i) VerticesFull
    ∷ when (many i) LinesFull
    ∷ because (λ pair. SelfCross pair.0 pair.1) (itself i)
    ∷ because (λ k. Crosses (id k)) (other i)
    ∷ []
    )
    ∷ when (last i) LogFull
    ∷ []
    )
  where
    earlier : (e : ℕ × Line) → In e (numbered c.table) → In e.1 all
    earlier e i =
        let P : List Line → Type 0 = In e.1 in
        subst P split (in_first before (l ∷ rest) e.1 (subst P lines (in_map (λ e. e.1) (numbered c.table) e i)))

pub add_lines : (limits : Limits) (points : Points) (all before ls : List Line) (past : List Entry) → IsLegal limits past → AreAddable limits points all → before ++ ls ≡ all → (content_of past).points ≡ points → lines_of (content_of past) ≡ before → length past + length ls ≤ limits.log
    → LinesAdded limits past points before ls
unfolding after
add_lines limits points all before [] past legal can split same lines log = record { legal = legal; points_are = same; lines = lines ∙ sym (append-nil before) }
add_lines limits points all before (l ∷ ls) past legal can split same lines log =
    let c = content_of past in
    let x = next_entry 0 past (AddLine l.kind l.places) in
    let there = content_more past x in
    let P : Points → Type 0 = λ p. AreAddable limits p all in
    let lawful = line_lawful limits c (length past) before ls all l (subst P (sym same) can) split lines (omega (arith, log)) in
    let more = live_more c l (planar-legal limits past legal) in
    let size = length-append past (x ∷ []) in
    let rest = add_lines limits points all (before ++ l ∷ []) ls (past ++ x ∷ []) (legal_more limits past x legal (lawful, refl)) can (append_assoc before (l ∷ []) ls ∙ split) (ap (λ (d : Content). d.points) there ∙ same)
    (ap (λ (d : Content). lines_of d) there ∙ more ∙ ap (λ w. w ++ l ∷ []) lines) (omega (arith, log, size)) in
    record { legal = rest.legal; points_are = rest.points_are; lines = rest.lines ∙ append_assoc before (l ∷ []) ls }
