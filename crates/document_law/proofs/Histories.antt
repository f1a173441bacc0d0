-- What a legal history makes is a surveyed surface.
use Rattle.std.proofs.Common.{◌≡◌, ℕ, zero, suc, ◌+◌, ◌-◌, ◌<◌, ◌≤◌, Bool, true, false, ◌||◌, not, nat_lt, cond, List, [], ◌∷◌, length, take, Option, None, Some, ⊎_elim, refl, sym, ◌∙◌, ap, subst, arith, ℤ}
use Rattle.std.proofs.lemmas.Bool.Decides.{nat_tests}
use Rattle.std.proofs.lemmas.Cmp.{nat_cmp_total}
use Rattle.std.proofs.Math.Seq.{take-length}
use Rattle.std.specs.Prelude.{All, slice_get, option_map, nat_le}
use Rattle.std.specs.List.{list_any, position_from}
use Rattle.std.specs.Ordering.{is_eq, eq_by_cmp, nat_cmp}
use Rattle.std.specs.FinMap as finmap
use Rattle.ground_model.specs.declared.edit.Edit.{Edit}
use Rattle.ground_model.specs.declared.edit.Edit.TheVariants.{AddPoint, RemovePoint, SetLevel, AddLine, RemoveLine}
use Rattle.ground_model.specs.declared.entry.Entry.{Entry}
use Rattle.ground_model.specs.declared.limits.Limits.{Limits}
use Rattle.ground_model.specs.declared.refusal.Refusal.{Refusal}
use Rattle.ground_model.specs.declared.refusal.Refusal.TheVariants.{Occupied, PointsFull, TooShort, Absent}
use Rattle.ground_model.specs.Content.{Content, empty, after, lines_of, level_of}
use Rattle.ground_model.specs.History.{content_of, IsLegal}
use Rattle.ground_model.specs.Kind.{least_places}
use Rattle.ground_model.specs.Line.{Line, Segment, links}
use Rattle.ground_model.specs.Place.{Coords, IsPlace, IsLevel, is_same, place_cmp}
use Rattle.ground_model.specs.Refusal.{when, first_of, because, line_refusal, edit_refusal}
use Rattle.ground_model.specs.Table.{numbered}
use Rattle.ground_model.proofs.Causes.{lawful_edit}
use Rattle.ground_model.proofs.Contents.{places_total}
use Rattle.ground_model.proofs.Elements.{In, of_map, in_map, each_at, each_from, entry_of_insert, entry_of_remove, get_of_entry, no_entry}
use Rattle.ground_model.proofs.Past.{content_of-next}
use Rattle.ground_model.proofs.Planar.{same_test}
use Rattle.ground_model.proofs.Ties.{same_of_is_same}
use Rattle.landxml_write.specs.Exports.{Vertex, Exported}
use Rattle.document_law.specs.Surveyed.{IsWritable, IsWholeLine, IsSurveyed}
use Rattle.document_law.specs.Version.{IsTyped, IsShownBy, IsNumbered, VersionLaw}
use Rattle.document_law.proofs.ReadBack.{document_law}

-- places and levels are within their limits, there is room for the points, and lines are whole
record IsWhole (limits : Limits) (c : Content) : Type 0 where
  points : (p : Coords) (z : ℤ) → finmap.get c.points p ≡ Some z → IsPlace p × IsLevel z
  few : finmap.len c.points ≤ limits.points
  lines : (l : Line) → In l (lines_of c) → IsWholeLine l

-- causes that don't hold

pub first_none : (found : Option Refusal) (rest : List (Option Refusal)) → first_of (found ∷ rest) ≡ None → (found ≡ None) × (first_of rest ≡ None)
first_none None rest e = (refl, e)
first_none (Some cause) rest e = cc

pub when_none : (t : Bool) (cause : Refusal) → when t cause ≡ None → t ≡ false
when_none true cause e = cc
when_none false cause e = refl

unfound : {X Y : Type 0} (f : X → Y) (o : Option X) → option_map f o ≡ None → o ≡ None
unfound f None e = refl
unfound f (Some x) e = cc

none_at : (test : Segment → Bool) (n : ℕ) (xs : List Segment) → position_from test n xs ≡ None → list_any test xs ≡ false
none_at test n [] e = refl
none_at test n (x ∷ xs) e = by (test x) e (none_at test (n + 1) xs)
  where
    by : (t : Bool) → cond t (Some n) (position_from test (n + 1) xs) ≡ None → (position_from test (n + 1) xs ≡ None → list_any test xs ≡ false) → (t || list_any test xs) ≡ false
    by true e again = cc
    by false e again = again e

-- a lawful line is whole
line_whole : (c : Content) (limits : Limits) (line : Line) → line_refusal c limits line ≡ None → IsWholeLine line
unfolding line_refusal
line_whole c limits line lawful =
    let short = first_none _ _ lawful in
    let again = first_none _ _ short.1 in
    let test = when_none (nat_lt (length line.places) (least_places line.kind)) TooShort short.0 in
    record {
      enough = grind (arith, nat_tests, test);
      links = none_at (λ link. is_same link.0 link.1) 2 (links line) (unfound _ _ (unfound _ _ again.0));
    }

-- edits

points_added : (c : Content) (p : Coords) (z : ℤ) → ((q : Coords) (y : ℤ) → finmap.get c.points q ≡ Some y → IsPlace q × IsLevel y) → IsPlace p × IsLevel z
    → (q : Coords) (y : ℤ) → finmap.get (finmap.insert c.points p z) q ≡ Some y → IsPlace q × IsLevel y
points_added c p z all own q y e = by (eq_by_cmp place_cmp q p) refl (sym (finmap.get-insert places_total c.points p z q) ∙ e)
  where
    by : (t : Bool) → eq_by_cmp place_cmp q p ≡ t → cond t (Some z) (finmap.get c.points q) ≡ Some y → IsPlace q × IsLevel y
    by true t f =
        let place : q ≡ p = same_of_is_same q p (sym (same_test q p) ∙ t) in
        let level : z ≡ y = cc in
        let P : Coords → Type 0 = λ r. IsPlace r × IsLevel y in
        let Q : ℤ → Type 0 = λ x. IsPlace p × IsLevel x in
        subst P (sym place) (subst Q level own)
    by false t f = all q y f

points_less : (c : Content) (p : Coords) → ((q : Coords) (y : ℤ) → finmap.get c.points q ≡ Some y → IsPlace q × IsLevel y) → (q : Coords) (y : ℤ) → finmap.get (finmap.remove c.points p) q ≡ Some y → IsPlace q × IsLevel y
points_less c p all q y e = by (eq_by_cmp place_cmp q p) (sym (finmap.get-remove places_total c.points p q) ∙ e)
  where
    by : (t : Bool) → cond t None (finmap.get c.points q) ≡ Some y → IsPlace q × IsLevel y
    by true f = cc
    by false f = all q y f

room_more : (c : Content) (p : Coords) (z : ℤ) (n : ℕ) → finmap.len c.points < n → finmap.len (finmap.insert c.points p z) ≤ n
room_more c p z n less = by (finmap.contains_key c.points p) (finmap.len-insert places_total c.points p z)
  where
    by : (t : Bool) → finmap.len (finmap.insert c.points p z) ≡ cond t (finmap.len c.points) (finmap.len c.points + 1) → finmap.len (finmap.insert c.points p z) ≤ n
    by true e = omega (arith, e, less)
    by false e = omega (arith, e, less)

room_same : (c : Content) (p : Coords) (z : ℤ) (n : ℕ) → finmap.contains_key c.points p ≡ true → finmap.len c.points ≤ n → finmap.len (finmap.insert c.points p z) ≤ n
room_same c p z n there le = let e = finmap.len-insert places_total c.points p z ∙ ap (λ t. cond t (finmap.len c.points) (finmap.len c.points + 1)) there in omega (arith, e, le)

room_less : (c : Content) (p : Coords) (n : ℕ) → finmap.len c.points ≤ n → finmap.len (finmap.remove c.points p) ≤ n
room_less c p n le = by (finmap.contains_key c.points p) (finmap.len-remove places_total c.points p)
  where
    by : (t : Bool) → finmap.len (finmap.remove c.points p) ≡ cond t (finmap.len c.points - 1) (finmap.len c.points) → finmap.len (finmap.remove c.points p) ≤ n
    by true e = omega (arith, e, le)
    by false e = omega (arith, e, le)

not_not : (t : Bool) → not t ≡ false → t ≡ true
not_not true e = refl
not_not false e = cc

by_edit : (c : Content) (limits : Limits) (edit : Edit) → IsWhole limits c → IsTyped edit → edit_refusal c limits edit ≡ None → IsWhole limits (after c edit)
unfolding after edit_refusal
by_edit c limits (AddPoint p z) h typed lawful =
    let full = when_none (nat_le limits.points (finmap.len c.points)) PointsFull (first_none (when (nat_le limits.points (finmap.len c.points)) PointsFull) [] (first_none (because Occupied (level_of c p)) (when (nat_le limits.points (finmap.len c.points)) PointsFull ∷ []) lawful).1).0 in
    let room : finmap.len c.points < limits.points = grind (arith, nat_tests, full) in
    record { points = points_added c p z h.points typed; few = room_more c p z limits.points room; lines = h.lines }
by_edit c limits (RemovePoint p) h typed lawful = record { points = points_less c p h.points; few = room_less c p limits.points h.few; lines = h.lines }
by_edit c limits (SetLevel p z) h typed lawful =
    record { points = points_added c p z h.points typed; few = room_same c p z limits.points (not_not (finmap.contains_key c.points p) (when_none (not (finmap.contains_key c.points p)) (Absent p) lawful)) h.few; lines = h.lines }
by_edit c limits (AddLine kind places) h typed lawful =
    let line : Line = record { kind = kind; places = places } in
    let own = line_whole c limits line lawful in
    record { points = h.points; few = h.few; lines = λ l i. either line own l i }
  where
    either : (line : Line) → IsWholeLine line → (l : Line) → In l (finmap.values (finmap.insert c.table.lines c.table.next line)) → IsWholeLine l
    either line own l i =
        let e = of_map (λ entry. entry.1) (finmap.entries (finmap.insert c.table.lines c.table.next line)) l i in
        ⊎_elim (λ f. subst IsWholeLine (sym (e.2 ∙ f.1)) own) (λ j. h.lines l (subst (λ t. In t (lines_of c)) (sym e.2) (in_map (λ entry. entry.1) (numbered c.table) e.0 j)))
        (entry_of_insert nat_cmp_total finmap.nat_cmp-IsAntisymmetric c.table.lines c.table.next line e.0 e.1)
by_edit c limits (RemoveLine id) h typed lawful = record { points = h.points; few = h.few; lines = λ l i. h.lines l (before l i) }
  where
    before : (l : Line) → In l (finmap.values (finmap.remove c.table.lines id.0)) → In l (lines_of c)
    before l i =
        let e = of_map (λ entry. entry.1) (finmap.entries (finmap.remove c.table.lines id.0)) l i in
        subst (λ t. In t (lines_of c)) (sym e.2) (in_map (λ entry. entry.1) (numbered c.table) e.0 (entry_of_remove nat_cmp_total finmap.nat_cmp-IsAntisymmetric c.table.lines id.0 e.0 e.1))

-- histories

pub places_apart : finmap.IsAntisymmetric place_cmp
places_apart p q e = same_of_is_same p q (sym (same_test p q) ∙ ap is_eq e)

pub get_within : {X : Type 0} (xs : List X) (k : ℕ) → k < length xs → (x : X) × (slice_get xs k ≡ Some x)
get_within [] k lt = absurd (omega (arith, lt))
get_within (x ∷ xs) zero lt = (x, refl)
get_within (x ∷ xs) (suc k) lt = get_within xs k (omega (arith, lt))

module _ (limits : Limits) (h : List Entry) (legal : IsLegal limits h) (typed : (k : ℕ) (entry : Entry) → slice_get h k ≡ Some entry → IsTyped entry.edit) where
  at_start : IsWhole limits (content_of (take zero h))
  unfolding content_of empty
  at_start = record {
    points = λ p z e. absurd (never (sym (finmap.get-empty place_cmp p) ∙ e));
    few = let e = finmap.len-empty place_cmp ℤ in omega (arith, e);
    lines = λ l i. let e = of_map (λ entry. entry.1) (numbered (content_of (take zero h)).table) l i in absurd (no_entry (content_of (take zero h)).table.lines (finmap.len-empty nat_cmp Line) e.0 e.1);
  }
    where
      never : {z : ℤ} → None ≡ Some z → ⊥
      never e = cc

  front : (k : ℕ) → k ≤ length h → IsWhole limits (content_of (take k h))
  front zero le = at_start
  front (suc k) le =
      let last = get_within h k (omega (arith, le)) in
      subst (IsWhole limits) (sym (content_of-next h k last.0 last.1))
      (by_edit (content_of (take k h)) limits last.0.edit (front k (omega (arith, le))) (typed k last.0 last.1) (lawful_edit (content_of (take k h)) (length (take k h)) limits last.0.edit (legal k last.0 last.1).0))

  whole : IsWhole limits (content_of h)
  whole = subst (λ t. IsWhole limits (content_of t)) (take-length h) (front (length h) (omega arith))

-- there are no more points than the limit
pub room_for_points : (limits : Limits) (h : List Entry) (e : Exported) → IsShownBy limits h e → finmap.len (content_of h).points ≤ limits.points
room_for_points limits h e shown = (whole limits h shown.legal shown.typed).few

-- what such a history makes

pub surveyed : (limits : Limits) (h : List Entry) (e : Exported) → IsShownBy limits h e → All (IsNumbered e.head.origin) e.points → IsSurveyed e
surveyed limits h e shown numbers =
    let w = whole limits h shown.legal shown.typed in
    let size = ap length shown.points ∙ sym (finmap.len-entries (content_of h).points) in
    let few = shown.few in
    let room = w.few in
    record {
      name = shown.name;
      lawful = shown.lawful;
      few = omega (arith, size, few, room);
      points = each_from (IsWritable e.head.origin) e.points (λ v i. point w v i);
      lines = each_from IsWholeLine e.lines (λ l i. w.lines l (subst (In l) shown.lines i));
    }
  where
    point : IsWhole limits (content_of h) → (v : Vertex) → In v e.points → IsWritable e.head.origin v
    point w v i =
        let number = each_at (IsNumbered e.head.origin) e.points v numbers i in
        let there = w.points v.0 v.1 (get_of_entry places_total places_apart (content_of h).points v (subst (In v) shown.points i)) in
        record { place = there.0; level = there.1; n = number.n; e = number.e }

pub version_law : VersionLaw
version_law limits h e shown numbers = document_law e (surveyed limits h e shown numbers)
