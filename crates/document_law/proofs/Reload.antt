-- What is loaded from the draft of a written document is lawful, and is written as the same text.
use Rattle.std.proofs.Common.{◌≡◌, ℕ, ◌≤◌, false, not, List, [], ◌∷◌, ◌++◌, length, map, Option, None, Some, ⊎_elim, refl, sym, ◌∙◌, ap, subst, arith, ℤ}
use Rattle.std.proofs.lemmas.List.{length-map}
use Rattle.std.proofs.lemmas.List.Sums.{sum_by-cons}
use Rattle.std.specs.Option.{option_or}
use Rattle.std.specs.Prelude.{All, sum_by}
use Rattle.std.specs.List.{filter}
use Rattle.std.specs.Ordering.{nat_cmp}
use Rattle.std.specs.FinMap as finmap
use Rattle.ground_model.specs.declared.edit.Edit.TheVariants.{AddLine}
use Rattle.ground_model.specs.declared.entry.Entry.{Entry}
use Rattle.ground_model.specs.declared.limits.Limits.{Limits}
use Rattle.ground_model.specs.Content.{Content, empty, points_of, lines_of}
use Rattle.ground_model.specs.History.{content_of, IsLegal}
use Rattle.ground_model.specs.Kept.{is_kept}
use Rattle.ground_model.specs.Kind.{is_ring}
use Rattle.ground_model.specs.Line.{Line}
use Rattle.ground_model.specs.Place.{Coords, place_cmp}
use Rattle.ground_model.specs.Planar.{IsPlanar}
use Rattle.ground_model.specs.Table.{numbered, pieces_on}
use Rattle.ground_model.specs.Tri.{facets, tri}
use Rattle.ground_model.specs.Crossings.{lines_cross}
use Rattle.ground_model.proofs.Contents.{places_total}
use Rattle.ground_model.proofs.Elements.{In, each_at, of_filter, in_append}
use Rattle.ground_model.proofs.Planar.{on_at}
use Rattle.landxml_surface.specs.declared.draft.Draft.{Draft}
use Rattle.landxml_write.specs.Exports.{Vertex}
use Rattle.landxml_write.specs.Text.{document}
use Rattle.document_law.specs.Drafts.{level_in, AreOnce, drafted, rings_first, IsSameSurface}
use Rattle.document_law.specs.Reloaded.{edits_of, logged, faces_of, AreNoLess, ReloadLaw}
use Rattle.document_law.specs.Surveyed.{IsWholeLine}
use Rattle.document_law.proofs.Histories.{surveyed, room_for_points, places_apart}
use Rattle.document_law.proofs.Insertions.{Points, inserted, AreNew, inserted_levels, inserted_count, entry_levels}
use Rattle.document_law.proofs.Logged.{logged_more, point_edits, line_edits, add_points, AreAddable, add_lines}
use Rattle.document_law.proofs.Partition.{sum_same, pieces_same, kept_same, document_same}
use Rattle.document_law.proofs.ReadBack.{document_law}
use Rattle.document_law.proofs.Rooms.{IsRoomy, roomy}

-- the points of the draft are those of the content

none_or : (o : Option ℤ) → option_or o None ≡ o
none_or None = refl
none_or (Some z) = refl

no_points : Points
no_points = finmap.empty

none_there : (vs : List Vertex) → AreNew no_points vs
unfolding no_points
none_there vs q z e = finmap.get-empty place_cmp q

all_inserted : (m : Points) (vs : List Vertex) → AreOnce vs → ((q : Coords) → level_in vs q ≡ finmap.get m q) → inserted no_points vs ≡ m
unfolding no_points
all_inserted m vs once same = finmap.same_map places_total places_apart (inserted no_points vs) m (λ q. inserted_levels no_points vs once q ∙ ap (option_or (level_in vs q)) (finmap.get-empty place_cmp q) ∙ none_or (level_in vs q) ∙ same q)

as_many : (m : Points) (vs : List Vertex) → AreOnce vs → ((q : Coords) → level_in vs q ≡ finmap.get m q) → finmap.len m ≡ length vs
unfolding no_points
as_many m vs once same =
    let a = ap finmap.len (all_inserted m vs once same) in
    let b = inserted_count no_points vs (none_there vs) once in
    let c = finmap.len-empty place_cmp ℤ in
    omega (arith, a, b, c)

-- the lines of the draft may be added

in_rings_first : (ls : List Line) (l : Line) → In l (rings_first ls) → In l ls
in_rings_first ls l i = ⊎_elim (λ j. (of_filter (λ line. is_ring line.kind) ls l j).0) (λ j. (of_filter (λ line. not (is_ring line.kind)) ls l j).0) (in_append (filter (λ line. is_ring line.kind) ls) (filter (λ line. not (is_ring line.kind)) ls) l i)

length_same : (ls : List Line) → length (rings_first ls) ≡ length ls
length_same ls = sym (ones (rings_first ls)) ∙ sum_same (λ l. 1) ls ∙ ones ls
  where
    ones : (xs : List Line) → sum_by (λ (l : Line). 1) xs ≡ length xs
    ones [] = refl
    ones (x ∷ xs) = let e = sum_by-cons (λ (l : Line). 1) x xs in let rest = ones xs in omega (arith, e, rest)

apart_at : (c : Content) → IsPlanar c → (l m : Line) → In l (lines_of c) → In m (lines_of c) → lines_cross (points_of c) l m ≡ false
apart_at c planar l m i j = each_at (λ m. lines_cross (points_of c) l m ≡ false) (lines_of c) m (each_at (λ l. All (λ m. lines_cross (points_of c) l m ≡ false) (lines_of c)) (lines_of c) l planar.apart i) j

addable : (limits more : Limits) (k : ℕ) (c : Content) → AreNoLess limits more → IsRoomy limits k c → All IsWholeLine (lines_of c) → AreAddable more c.points (rings_first (lines_of c))
addable limits more k c less room whole =
    let lines_less = less.lines in
    let places_less = less.places in
    let vertices_less = less.vertices in
    let vertices = room.vertices in
    let sum = sum_same (λ (l : Line). length l.places) (lines_of c) in
    let lines = room.lines in
    let few = length_same (lines_of c) ∙ length-map (numbered c.table) (λ e. e.1) ∙ sym (finmap.len-entries c.table.lines) in
    record {
      whole = λ l i. each_at IsWholeLine (lines_of c) l whole (in_rings_first (lines_of c) l i);
      on_points = λ l i. on_at c room.planar l (in_rings_first (lines_of c) l i);
      apart = λ l m i j. apart_at c room.planar l m (in_rings_first (lines_of c) l i) (in_rings_first (lines_of c) m j);
      places = λ l i. let fits = room.places l (in_rings_first (lines_of c) l i) in omega (arith, fits, places_less);
      vertices = omega (arith, vertices, sum, vertices_less);
      few = omega (arith, lines, few, lines_less);
    }

-- what is loaded

record IsLoaded (limits : Limits) (c : Content) (draft : Draft) : Type 0 where
  legal : IsLegal limits (logged [] (edits_of draft))
  points : (content_of (logged [] (edits_of draft))).points ≡ c.points
  lines : lines_of (content_of (logged [] (edits_of draft))) ≡ rings_first (lines_of c)

drafted_edits : (ls : List Line) → map (λ l. AddLine l.0 l.1) (map drafted ls) ≡ line_edits ls
drafted_edits [] = refl
drafted_edits (l ∷ ls) = ap (λ w. AddLine l.kind l.places ∷ w) (drafted_edits ls)

first_legal : (limits : Limits) → IsLegal limits []
first_legal limits k entry e = cc

loaded : (limits more : Limits) (h : List Entry) (draft : Draft) → AreNoLess limits more → IsRoomy limits (length h) (content_of h) → All IsWholeLine (lines_of (content_of h)) → finmap.len (content_of h).points ≤ limits.points → AreOnce draft.points → ((q : Coords) → level_in draft.points q ≡ finmap.get (content_of h).points q) → draft.lines ≡ map drafted (rings_first (lines_of (content_of h)))
    → IsLoaded more (content_of h) draft
unfolding content_of empty no_points
loaded limits more h draft less room whole few once same lines =
    let points_less = less.points in
    let log_less = less.log in
    let c = content_of h in
    let ls = rings_first (lines_of c) in
    let many = as_many c.points draft.points once same in
    let sizes = length_same (lines_of c) ∙ length-map (numbered c.table) (λ e. e.1) ∙ sym (finmap.len-entries c.table.lines) in
    let entries = room.entries in
    let log = room.log in
    let none = finmap.len-empty place_cmp ℤ in
    let first = add_points more draft.points [] (first_legal more) (none_there draft.points) once (omega (arith, many, few, none, points_less)) (omega (arith, many, entries, log, log_less)) in
    let size = first.size in
    let points = ap (λ (d : Content). d.points) first.content ∙ all_inserted c.points draft.points once same in
    let lines_none = ap (λ (d : Content). lines_of d) first.content ∙ no_lines in
    let second = add_lines more c.points ls [] ls (logged [] (point_edits draft.points)) first.legal (addable limits more (length h) c less room whole) refl points lines_none (omega (arith, size, many, sizes, entries, log, log_less)) in
    let all : logged [] (edits_of draft) ≡ logged (logged [] (point_edits draft.points)) (line_edits ls) =
    ap (λ w. logged [] (point_edits draft.points ++ map (λ l. AddLine l.0 l.1) w)) lines ∙ ap (λ w. logged [] (point_edits draft.points ++ w)) (drafted_edits ls) ∙ logged_more [] (point_edits draft.points) (line_edits ls) in
    record {
      legal = subst (IsLegal more) (sym all) second.legal;
      points = ap (λ g. (content_of g).points) all ∙ second.points_are;
      lines = ap (λ g. lines_of (content_of g)) all ∙ second.lines;
    }
  where
    no_lines : finmap.values (finmap.empty {X = Line} {R = nat_cmp}) ≡ []
    no_lines = ap (map (λ e. e.1)) (nothing (finmap.entries (finmap.empty {X = Line} {R = nat_cmp})) (sym (finmap.len-entries (finmap.empty {X = Line} {R = nat_cmp})) ∙ finmap.len-empty nat_cmp Line))
      where
        nothing : (xs : List (ℕ × Line)) → length xs ≡ 0 → xs ≡ []
        nothing [] e = refl
        nothing (x ∷ xs) e = absurd (omega (arith, e))

-- the text

faces_same : (c d : Content) → d.points ≡ c.points → lines_of d ≡ rings_first (lines_of c) → faces_of d ≡ faces_of c
faces_same c d points lines =
    let keys = ap (λ (m : Points). finmap.keys m) points in
    let pieces = (λ i. pieces_on (keys i) (lines i)) ∙ pieces_same (points_of c) (lines_of c) in
    (λ i. map (λ f. (f, is_kept (lines i) f)) (facets (keys i) (pieces i)))
    ∙ (λ i. map (λ f. (f, kept_same (lines_of c) f i)) (tri c))

pub reload_law : ReloadLaw
reload_law limits more h e draft less shown faces numbers are =
    let c = content_of h in
    let is = surveyed limits h e shown numbers in
    let back = document_law e is in
    let one : draft ≡ back.draft = first draft back.draft (back.only (draft ∷ []) are) in
    let P : Draft → Type 0 = λ d. IsSameSurface d e in
    let same = subst P (sym one) back.same in
    let room = roomy limits h shown.legal in
    let levels = λ (q : Coords). same.points.levels q ∙ ap (λ vs. level_in vs q) shown.points ∙ sym (entry_levels c.points q) in
    let whole = subst (All IsWholeLine) shown.lines is.lines in
    let g = loaded limits more h draft less room whole (room_for_points limits h e shown) same.points.once levels (same.lines ∙ ap (λ ls. map drafted (rings_first ls)) shown.lines) in
    record {
      legal = g.legal;
      text = λ other all.
          ap document (λ i. record {
            head = all.head_is i;
            points = (all.points ∙ ap (λ (m : Points). finmap.entries m) g.points ∙ sym shown.points) i;
            lines = (all.lines ∙ g.lines ∙ ap rings_first (sym shown.lines)) i;
            faces = (all.faces ∙ faces_same c (content_of (logged [] (edits_of draft))) g.points g.lines ∙ sym faces) i;
          })
          ∙ document_same e;
    }
  where
    first : (x y : Draft) → ◌≡◌ {A = List Draft} (x ∷ []) (y ∷ []) → x ≡ y
    first x y e = cc
