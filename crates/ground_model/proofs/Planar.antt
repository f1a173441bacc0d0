-- No lawful edit makes two pieces cross.
use Rattle.std.proofs.Common.{◌≡◌, ℕ, zero, suc, ◌<◌, ◌≤◌, refl, sym, ap, ◌∙◌, subst, arith, Bool, true, false, [], ◌∷◌, List, inl, inr, ◌⊎◌, ⊎_elim, cond, Some, None}
use Rattle.std.specs.Prelude.{ℤ, map, take, slice_get, not, ◌&&◌, IsTrue, Option, is_some, nat_le, nat_lt, length}
use Rattle.std.specs.List.{All, list_any, enumerate_from, position_from}
use Rattle.std.specs.declared.cmp.Ordering.{Ordering}
use Rattle.std.specs.declared.cmp.Ordering.TheVariants.{Less, Equal, Greater}
use Rattle.std.specs.Ordering.{is_eq, int_cmp, eq_by_cmp, nat_cmp, ordering_then}
use Rattle.std.specs.FinMap as finmap
use Rattle.std.proofs.lemmas.Bool.{and_parts, and_from, and_left, lt-ltb, cases_order, both_ways, le-leb, ltb-true, cases_lt, cond-false, not-true, not-false, not_from_false, false_from_ne_true}
use Rattle.std.proofs.lemmas.Cmp.{nat_cmp_total}
use Rattle.std.proofs.Math.Seq.{take-length}
use Rattle.ground_model.specs.declared.limits.Limits.{Limits}
use Rattle.ground_model.specs.declared.piece.Piece.{Piece}
use Rattle.ground_model.specs.declared.entry.Entry.{Entry}
use Rattle.ground_model.specs.declared.edit.Edit.{Edit}
use Rattle.ground_model.specs.declared.edit.Edit.TheVariants.{AddPoint, RemovePoint, SetLevel, AddLine, RemoveLine}
use Rattle.ground_model.specs.Place.{Coords, place_cmp, is_same}
use Rattle.ground_model.specs.Side.{crosses, is_on_segment}
use Rattle.ground_model.specs.Line.{Line, Segment, links, has_place, is_point, has_piece, pieces_of, pairs}
use Rattle.ground_model.specs.Table.{numbered, with_line, without_line, count_on, pieces_on}
use Rattle.ground_model.specs.Content.{Content, empty, after, points_of, lines_of, count, pieces}
use Rattle.ground_model.specs.History.{content_of, IsLegal}
use Rattle.ground_model.specs.Refusal.{line_refusal, edit_refusal, refusal}
use Rattle.ground_model.proofs.Contents.{places_total}
use Rattle.ground_model.proofs.Past.{content_of-next}
use Rattle.ground_model.proofs.Ties.{same_of_is_same}
use Rattle.ground_model.specs.Crossings.{any_cross, lines_cross, joint, self_cross, pieces_on_link, cross_between, link_crosses, links_cross, is_on_points}
use Rattle.ground_model.specs.Planar.{IsPlanar, NoneCross}
use Rattle.ground_model.proofs.Elements.{In, any_gives, none_at, none_from, all_at, all_from, any_agrees, none_placed, number_of, one_numbered, some_counted, of_filter, of_map, in_map, each_at, each_from, entry_of_insert, entry_of_remove, no_entry}
use Rattle.ground_model.proofs.Causes.{no_line_where, no_least_pair, line_parts, point_parts, lawful_edit}
use Rattle.ground_model.proofs.LinePieces.{is_same_itself, in_points, is_point_in, on_more, ends_on, piece_of, in_pieces}
use Rattle.ground_model.proofs.Crossings.{crosses_itself, lines_cross_turned, cross_between_turned, lines_cross-links, pieces_on_link-links}

-- pieces of two lines that don't cross
pieces_apart : (points : List Coords) (l m : Line) (s t : Segment) → In s (pieces_of points l) → In t (pieces_of points m) → lines_cross points l m ≡ false → crosses s.0 s.1 t.0 t.1 ≡ false
unfolding any_cross
pieces_apart points l m s t i j free = none_at (λ q. crosses s.0 s.1 q.0 q.1) (pieces_of points m) t (none_at (λ p. list_any (λ q. crosses p.0 p.1 q.0 q.1) (pieces_of points m)) (pieces_of points l) s free i) j

-- ---- the fact by elements
planar_by : (c : Content) → ((l : Line) → In l (lines_of c) → is_on_points (points_of c) l ≡ true) → ((l m : Line) → In l (lines_of c) → In m (lines_of c) → lines_cross (points_of c) l m ≡ false)
    → ((e : ℕ × Line) → In e (numbered c.table) → e.0 < c.table.next) → IsPlanar c
planar_by c on apart fresh = record {
  on_points = each_from (λ l. IsTrue (is_on_points (points_of c) l)) (lines_of c) on;
  apart = each_from (λ l. All (λ m. lines_cross (points_of c) l m ≡ false) (lines_of c)) (lines_of c) (λ l i. each_from (λ m. lines_cross (points_of c) l m ≡ false) (lines_of c) (λ m j. apart l m i j));
  fresh = each_from (λ e. e.0 < c.table.next) (numbered c.table) fresh;
}

module _ (c : Content) (planar : IsPlanar c) where
  pub on_at : (l : Line) → In l (lines_of c) → is_on_points (points_of c) l ≡ true
  on_at l i = each_at (λ l. IsTrue (is_on_points (points_of c) l)) (lines_of c) l planar.on_points i

  pub apart_at : (l m : Line) → In l (lines_of c) → In m (lines_of c) → lines_cross (points_of c) l m ≡ false
  apart_at l m i j = each_at (λ m. lines_cross (points_of c) l m ≡ false) (lines_of c) m (each_at (λ l. All (λ m. lines_cross (points_of c) l m ≡ false) (lines_of c)) (lines_of c) l planar.apart i) j

  fresh_at : (e : ℕ × Line) → In e (numbered c.table) → e.0 < c.table.next
  fresh_at e i = each_at (λ e. e.0 < c.table.next) (numbered c.table) e planar.fresh i

pub planar-empty : IsPlanar empty
unfolding empty
planar-empty = planar_by empty (λ l i. absurd (none l i)) (λ l m i j. absurd (none l i)) (λ e i. absurd (no_entry (finmap.empty {R = nat_cmp}) (finmap.len-empty nat_cmp Line) e i))
  where
    none : (l : Line) → In l (finmap.values (finmap.empty {X = Line} {R = nat_cmp})) → ⊥
    none l i = let found = of_map (λ e. e.1) (finmap.entries (finmap.empty {X = Line} {R = nat_cmp})) l i in no_entry (finmap.empty {R = nat_cmp}) (finmap.len-empty nat_cmp Line) found.0 found.1

-- ---- more points
pub same_test : (p q : Coords) → eq_by_cmp place_cmp p q ≡ is_same p q
same_test p q = by_first (int_cmp p.e q.e) (int_cmp p.n q.n)
  where
    by_first : (r s : Ordering) → is_eq (ordering_then r s) ≡ (is_eq r && is_eq s)
    by_first Less s = refl
    by_first Equal s = refl
    by_first Greater s = refl

pub is_point-keys : (m : finmap.FinMap place_cmp ℤ) (p : Coords) → is_point (finmap.keys m) p ≡ is_some (finmap.get m p)
is_point-keys m p = any_agrees (is_same p) (eq_by_cmp place_cmp p) (finmap.keys m) (λ q i. sym (same_test p q)) ∙ sym (finmap.contains_key-keys m p)

still_a_point : (m : finmap.FinMap place_cmp ℤ) (p : Coords) (z : ℤ) (q : Coords) → is_point (finmap.keys m) q ≡ true → is_point (finmap.keys (finmap.insert m p z)) q ≡ true
still_a_point m p z q h = is_point-keys (finmap.insert m p z) q ∙ ap is_some (finmap.get-insert places_total m p z q) ∙ either (eq_by_cmp place_cmp q p) (finmap.get m q) (sym (is_point-keys m q) ∙ h)
  where
    either : (t : Bool) (o : Option ℤ) → is_some o ≡ true → is_some (cond t (Some z) o) ≡ true
    either true o e = refl
    either false o e = e

-- lines that cross nowhere don't where there are more points
module _ (fewer points : List Coords) (more : (x : Coords) → is_point fewer x ≡ true → is_point points x ≡ true) where
  fewer_between : (a b : Segment) → cross_between fewer a b ≡ false → cross_between points a b ≡ false
  fewer_between a b free = false_from_ne_true (cross_between points a b) (λ h.
      let parts = and_parts (crosses a.0 a.1 b.0 b.1) (not (list_any (λ x. is_on_segment a.0 a.1 x && is_on_segment b.0 b.1 x) points)) h in
      both_ways (cross_between fewer a b) free (and_from (crosses a.0 a.1 b.0 b.1) _ parts.0 (not_from_false _ (none_from (λ x. is_on_segment a.0 a.1 x && is_on_segment b.0 b.1 x) fewer
      (λ x i. none_at (λ x. is_on_segment a.0 a.1 x && is_on_segment b.0 b.1 x) points x (not-true _ parts.1) (in_points points x (more x (is_point_in fewer x i))))))))

  fewer_cross : (l m : Line) → is_on_points fewer l ≡ true → is_on_points fewer m ≡ true → lines_cross fewer l m ≡ false → lines_cross points l m ≡ false
  unfolding links_cross link_crosses
  fewer_cross l m on on' free =
      let none = sym (lines_cross-links fewer l m on on') ∙ free in
      lines_cross-links points l m (on_more fewer points l more on) (on_more fewer points m more on')
      ∙ none_from (λ s. list_any (cross_between points s) (links m)) (links l) (λ a i. none_from (cross_between points a) (links m)
      (λ b j. fewer_between a b (none_at (cross_between fewer a) (links m) b (none_at (λ s. list_any (cross_between fewer s) (links m)) (links l) a none i) j)))

more_points : (c : Content) (p : Coords) (z : ℤ) → IsPlanar c → IsPlanar (record c { points = finmap.insert c.points p z })
more_points c p z h =
    let more = still_a_point c.points p z in
    planar_by (record c { points = finmap.insert c.points p z })
    (λ l i. on_more (points_of c) (finmap.keys (finmap.insert c.points p z)) l more (on_at c h l i))
    (λ l m i j. fewer_cross (points_of c) (finmap.keys (finmap.insert c.points p z)) more l m (on_at c h l i) (on_at c h m j) (apart_at c h l m i j))
    (fresh_at c h)

rest_of : (s t : Bool) → s ≡ true → (s && t) ≡ false → t ≡ false
rest_of true t e h = h
rest_of false t e h = cc

-- ---- a point less
no_joint : (c : Content) → joint (points_of c) c.table ≡ None → (l m : Line) → In l (lines_of c) → In m (lines_of c) → lines_cross (points_of c) l m ≡ false
unfolding joint
no_joint c none l m i j =
    let e = of_map (λ entry. entry.1) (numbered c.table) l i in
    let f = of_map (λ entry. entry.1) (numbered c.table) m j in
    let free = no_least_pair (λ l m. nat_le l.0 m.0 && lines_cross (points_of c) l.1 m.1) (numbered c.table) none in
    (λ t. lines_cross (points_of c) (e.2 t) (f.2 t)) ∙ ⊎_elim
    (λ lt. rest_of (nat_le e.0.0 f.0.0) (lines_cross (points_of c) e.0.1 f.0.1) (le-leb e.0.0 f.0.0 (omega (arith, lt))) (free e.0 f.0 e.1 f.1))
    (λ le. lines_cross_turned (points_of c) e.0.1 f.0.1 ∙ rest_of (nat_le f.0.0 e.0.0) (lines_cross (points_of c) f.0.1 e.0.1) (le-leb f.0.0 e.0.0 le) (free f.0 e.0 f.1 e.1))
    (cases_lt e.0.0 f.0.0)

pub still_on : (m : finmap.FinMap place_cmp ℤ) (p : Coords) (line : Line) → is_on_points (finmap.keys m) line ≡ true → list_any (is_same p) line.places ≡ false → is_on_points (finmap.keys (finmap.remove m p)) line ≡ true
unfolding is_on_points
still_on m p line on free = all_from (is_point (finmap.keys (finmap.remove m p))) line.places (λ q i.
    is_point-keys (finmap.remove m p) q ∙ ap is_some (finmap.get-remove places_total m p q ∙ cond-false (eq_by_cmp place_cmp q p) None (finmap.get m q) (other q i)) ∙ sym (is_point-keys m q) ∙ all_at (is_point (finmap.keys m)) line.places q on i)
  where
    other : (q : Coords) → In q line.places → eq_by_cmp place_cmp q p ≡ false
    other q i = false_from_ne_true _ (λ h. both_ways (is_same p q) (none_at (is_same p) line.places q free i) (ap (is_same p) (same_of_is_same q p (sym (same_test q p) ∙ h)) ∙ is_same_itself p))

point_less : (c : Content) (p : Coords) → IsPlanar c → ((l : Line) → In l (lines_of c) → list_any (is_same p) l.places ≡ false)
    → joint (points_of (after c (RemovePoint p))) (after c (RemovePoint p)).table ≡ None → IsPlanar (after c (RemovePoint p))
unfolding after
point_less c p h held none = planar_by (after c (RemovePoint p)) (λ l i. still_on c.points p l (on_at c h l i) (held l i)) (no_joint (after c (RemovePoint p)) none) (fresh_at c h)

-- ---- a line more, a line less
line_less : (c : Content) (k : ℕ) → IsPlanar c → IsPlanar (record c { table = without_line c.table k })
line_less c k h =
    planar_by (record c { table = without_line c.table k }) (λ l i. on_at c h l (before l i)) (λ l m i j. apart_at c h l m (before l i) (before m j)) (λ e i. fresh_at c h e (entry_of_remove nat_cmp_total finmap.nat_cmp-IsAntisymmetric c.table.lines k e i))
  where
    before : (l : Line) → In l (finmap.values (finmap.remove c.table.lines k)) → In l (lines_of c)
    before l i =
        let e = of_map (λ entry. entry.1) (finmap.entries (finmap.remove c.table.lines k)) l i in
        subst (λ t. In t (lines_of c)) (sym e.2) (in_map (λ entry. entry.1) (numbered c.table) e.0 (entry_of_remove nat_cmp_total finmap.nat_cmp-IsAntisymmetric c.table.lines k e.0 e.1))

line_more : (c : Content) (line : Line) → IsPlanar c → is_on_points (points_of c) line ≡ true → ((l : Line) → In l (lines_of c) → lines_cross (points_of c) line l ≡ false) → lines_cross (points_of c) line line ≡ false
    → IsPlanar (record c { table = with_line c.table line })
line_more c line h on free alone = planar_by (record c { table = with_line c.table line })
    (λ l i. ⊎_elim (λ e. ap (is_on_points (points_of c)) e ∙ on) (on_at c h l) (either l i))
    (λ l m i j. ⊎_elim
    (λ e. ⊎_elim (λ f. (λ t. lines_cross (points_of c) (e t) (f t)) ∙ alone) (λ k. ap (λ t. lines_cross (points_of c) t m) e ∙ free m k) (either m j))
    (λ k. ⊎_elim (λ f. ap (lines_cross (points_of c) l) f ∙ lines_cross_turned (points_of c) l line ∙ free l k) (apart_at c h l m k) (either m j)) (either l i))
    (λ e i. ⊎_elim (λ f. omega (arith, f.0)) (λ j. omega (arith, fresh_at c h e j)) (entry_of_insert nat_cmp_total finmap.nat_cmp-IsAntisymmetric c.table.lines c.table.next line e i))
  where
    either : (l : Line) → In l (finmap.values (finmap.insert c.table.lines c.table.next line)) → (l ≡ line) ⊎ In l (lines_of c)
    either l i =
        let e = of_map (λ entry. entry.1) (finmap.entries (finmap.insert c.table.lines c.table.next line)) l i in
        ⊎_elim (λ f. inl (e.2 ∙ f.1)) (λ j. inr (subst (λ t. In t (lines_of c)) (sym e.2) (in_map (λ entry. entry.1) (numbered c.table) e.0 j)))
        (entry_of_insert nat_cmp_total finmap.nat_cmp-IsAntisymmetric c.table.lines c.table.next line e.0 e.1)

-- ---- a line that may be added
on_each : (c : Content) (line : Line) → ((p : Coords) → In p line.places → is_point (points_of c) p ≡ true) → is_on_points (points_of c) line ≡ true
unfolding is_on_points
on_each c line each = all_from (is_point (points_of c)) line.places each

-- where no place is missing, all are points
pub places_on : (c : Content) (line : Line) → position_from (λ p. not (finmap.contains_key c.points p)) 1 line.places ≡ None → is_on_points (points_of c) line ≡ true
places_on c line none = on_each c line (λ p i. is_point-keys c.points p ∙ not-false _ (none_placed (λ p. not (finmap.contains_key c.points p)) 1 line.places p none i))

module _ (points : List Coords) (line : Line) (on : is_on_points points line ≡ true) (none : self_cross points line ≡ None) where
  links_apart : (z w : ℕ × Segment) → In z (enumerate_from 1 (links line)) → In w (enumerate_from 1 (links line)) → In z.1 (links line) → In w.1 (links line) → z.0 < w.0 → cross_between points z.1 w.1 ≡ false
  unfolding self_cross
  links_apart z w i j a b lt =
      let p = ends_on points line on z.1 a in
      let q = ends_on points line on w.1 b in
      sym (pieces_on_link-links points z.1 w.1 (is_point_in points z.1.0 p.0) (is_point_in points z.1.1 p.1) (is_point_in points w.1.0 q.0) (is_point_in points w.1.1 q.1))
      ∙ rest_of (nat_lt z.0 w.0) (any_cross (pieces_on_link points z.1) (pieces_on_link points w.1)) (lt-ltb z.0 w.0 lt)
      (no_least_pair (λ l m. nat_lt l.0 m.0 && any_cross (pieces_on_link points l.1) (pieces_on_link points m.1)) (enumerate_from 1 (links line)) none z w i j)

  each_apart : (a b : Segment) → In a (links line) → In b (links line) → cross_between points a b ≡ false
  each_apart a b i j =
      let z = number_of 1 (links line) a i in
      let w = number_of 1 (links line) b j in
      ⊎_elim
      (λ e. and_left (crosses a.0 a.1 b.0 b.1) _ (ap (λ k. crosses a.0 a.1 k.0 k.1) (sym (one_numbered 1 (links line) (z.0, a) (w.0, b) z.1 w.1 e)) ∙ crosses_itself a.0 a.1))
      (λ apart. ⊎_elim (links_apart (z.0, a) (w.0, b) z.1 w.1 i j) (λ lt. cross_between_turned points a b ∙ links_apart (w.0, b) (z.0, a) w.1 z.1 j i lt) apart)
      (cases_order z.0 w.0)

  pub crosses_not_itself : lines_cross points line line ≡ false
  unfolding links_cross link_crosses
  crosses_not_itself = lines_cross-links points line line on on
      ∙ none_from (λ s. list_any (cross_between points s) (links line)) (links line) (λ a i. none_from (cross_between points a) (links line) (λ b j. each_apart a b i j))

line_added : (c : Content) (limits : Limits) (line : Line) → IsPlanar c → line_refusal c limits line ≡ None
    → IsPlanar (record c { table = with_line c.table line })
line_added c limits line h lawful =
    let parts = line_parts c limits line lawful in
    line_more c line h on (no_line_where (lines_cross (points_of c) line) c.table parts.2) (crosses_not_itself (points_of c) line on parts.1)
  where
    on : is_on_points (points_of c) line ≡ true
    on = places_on c line (line_parts c limits line lawful).0

-- ---- each lawful edit
by_edit : (c : Content) (limits : Limits) (edit : Edit) → IsPlanar c → edit_refusal c limits edit ≡ None → IsPlanar (after c edit)
unfolding after edit_refusal
by_edit c limits (AddPoint p z) h lawful = more_points c p z h
by_edit c limits (RemovePoint p) h lawful = let parts = point_parts c limits p lawful in point_less c p h (no_line_where (has_place p) c.table parts.0) parts.1
by_edit c limits (SetLevel p z) h lawful = more_points c p z h
by_edit c limits (AddLine kind places) h lawful = line_added c limits (record { kind = kind; places = places }) h lawful
by_edit c limits (RemoveLine line) h lawful = line_less c line.0 h

pub planar-after : (c : Content) (entries : ℕ) (limits : Limits) (edit : Edit) → IsPlanar c → refusal c entries limits edit ≡ None → IsPlanar (after c edit)
planar-after c entries limits edit h lawful = by_edit c limits edit h (lawful_edit c entries limits edit lawful)

-- ---- each legal history
get_within : {X : Type 0} (xs : List X) (k : ℕ) → k < length xs → (x : X) × (slice_get xs k ≡ Some x)
get_within [] k lt = absurd (omega (arith, lt))
get_within (x ∷ xs) zero lt = (x, refl)
get_within (x ∷ xs) (suc k) lt = get_within xs k (omega (arith, lt))

planar_start : (h : List Entry) → IsPlanar (content_of (take zero h))
unfolding content_of
planar_start h = planar-empty

planar_next : (limits : Limits) (h : List Entry) → IsLegal limits h → (k : ℕ) (x : Entry) → slice_get h k ≡ Some x → IsPlanar (content_of (take k h)) → IsPlanar (content_of (take (suc k) h))
planar_next limits h legal k x e planar = subst IsPlanar (sym (content_of-next h k x e)) (planar-after (content_of (take k h)) (length (take k h)) limits x.edit planar (legal k x e).0)

planar_front : (limits : Limits) (h : List Entry) → IsLegal limits h → (k : ℕ) → k ≤ length h → IsPlanar (content_of (take k h))
planar_front limits h legal zero le = planar_start h
planar_front limits h legal (suc k) le =
    let last = get_within h k (omega (arith, le)) in
    planar_next limits h legal k last.0 last.1 (planar_front limits h legal k (omega (arith, le)))

pub planar-legal : (limits : Limits) (h : List Entry) → IsLegal limits h → IsPlanar (content_of h)
planar-legal limits h legal = subst (λ t. IsPlanar (content_of t)) (take-length h) (planar_front limits h legal (length h) (omega arith))

-- ---- the pieces of a content
counted : Content → Segment → Piece
counted c s = record { p = s.0; q = s.1; count = count c s.0 s.1 }

counts : (c : Content) (s : Segment) → 0 < count c s.0 s.1 → list_any (λ line. has_piece (points_of c) line s.0 s.1) (lines_of c) ≡ true
unfolding count_on
counts c s lt = some_counted (λ line. has_piece (points_of c) line s.0 s.1) (lines_of c) lt

piece_in : (c : Content) (x : Piece) → In x (pieces c) → (l : Line) × In l (lines_of c) × In (x.p, x.q) (pieces_of (points_of c) l)
unfolding pieces_on counted
piece_in c x i =
    let kept = of_filter (λ y. nat_lt 0 y.count) (map (counted c) (pairs (points_of c))) x i in
    let pair = of_map (counted c) (pairs (points_of c)) x kept.0 in
    let some = ltb-true 0 (count c pair.0.0 pair.0.1) (sym (ap (λ y. nat_lt 0 y.count) pair.2) ∙ kept.1) in
    let line = any_gives (λ line. has_piece (points_of c) line pair.0.0 pair.0.1) (lines_of c) (counts c pair.0 some) in (
      line.0,
      line.1,
      subst (λ y. In (y.p, y.q) (pieces_of (points_of c) line.0)) (sym pair.2)
          (in_pieces (points_of c) line.0 pair.0.0 pair.0.1 (piece_of (points_of c) line.0 pair.0.0 pair.0.1 line.2)),
    )

pub none_cross : (c : Content) → IsPlanar c → NoneCross (pieces c)
none_cross c h = each_from (λ x. All (λ y. crosses x.p x.q y.p y.q ≡ false) (pieces c)) (pieces c) (λ x i. each_from (λ y. crosses x.p x.q y.p y.q ≡ false) (pieces c) (λ y j. apart x y (piece_in c x i) (piece_in c y j)))
  where
    apart : (x y : Piece) → (l : Line) × In l (lines_of c) × In (x.p, x.q) (pieces_of (points_of c) l) → (m : Line) × In m (lines_of c) × In (y.p, y.q) (pieces_of (points_of c) m) → crosses x.p x.q y.p y.q ≡ false
    apart x y (l, i, p) (m, j, q) = pieces_apart (points_of c) l m (x.p, x.q) (y.p, y.q) p q (apart_at c h l m i j)
