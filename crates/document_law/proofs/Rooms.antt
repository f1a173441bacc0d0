-- A legal history has room for what it makes.
use Rattle.std.proofs.Common.{◌≡◌, ℕ, zero, suc, ◌+◌, ◌-◌, ◌<◌, ◌≤◌, Bool, true, false, ◌||◌, not, nat_lt, cond, List, [], ◌∷◌, length, take, Option, None, inl, ⊎_elim, refl, sym, ◌∙◌, ap, subst, arith, ℤ}
use Rattle.std.proofs.lemmas.Bool.Decides.{nat_tests}
use Rattle.std.proofs.lemmas.Cmp.{nat_cmp_total}
use Rattle.std.proofs.lemmas.List.{length-take-le}
use Rattle.std.proofs.lemmas.List.Sums.{sum_by-append, sum_by-cons}
use Rattle.std.proofs.Math.Seq.{take-length}
use Rattle.std.specs.Prelude.{nat_le, sum_by}
use Rattle.std.specs.List.{position_from}
use Rattle.std.specs.Ordering.{nat_cmp}
use Rattle.std.specs.FinMap as finmap
use Rattle.ground_model.specs.declared.edit.Edit.{Edit}
use Rattle.ground_model.specs.declared.edit.Edit.TheVariants.{AddPoint, RemovePoint, SetLevel, AddLine, RemoveLine}
use Rattle.ground_model.specs.declared.entry.Entry.{Entry}
use Rattle.ground_model.specs.declared.limits.Limits.{Limits}
use Rattle.ground_model.specs.declared.refusal.Refusal.{Refusal}
use Rattle.ground_model.specs.declared.refusal.Refusal.TheVariants.{TooShort, Repeated, NotPoint, VerticesFull, LinesFull, SelfCross, Crosses, LogFull}
use Rattle.ground_model.specs.Content.{Content, empty, after, points_of, lines_of}
use Rattle.ground_model.specs.History.{content_of, IsLegal}
use Rattle.ground_model.specs.Line.{Line}
use Rattle.ground_model.specs.Place.{place_cmp}
use Rattle.ground_model.specs.Planar.{IsPlanar}
use Rattle.ground_model.specs.Refusal.{when, first_of, because, id, repeated, line_refusal, edit_refusal, refusal}
use Rattle.ground_model.specs.Table.{numbered, live, least_where, places_together}
use Rattle.ground_model.specs.Crossings.{lines_cross, self_cross}
use Rattle.ground_model.specs.Kind.{least_places}
use Rattle.ground_model.proofs.Causes.{lawful_edit}
use Rattle.ground_model.proofs.Contents.{places_total}
use Rattle.ground_model.proofs.Elements.{In, of_map, in_map, entry_of_insert, entry_of_remove, no_entry}
use Rattle.ground_model.proofs.Past.{content_of-next}
use Rattle.ground_model.proofs.Planar.{planar-empty, planar-after}
use Rattle.document_law.proofs.Histories.{first_none, when_none, get_within}
use Rattle.document_law.proofs.Tables.{live_more, sum_less}
use Rattle.document_law.proofs.Names.{neither}

-- lines, their places and entries are within their limits after so many entries, and there is an entry for each point and line
pub record IsRoomy (limits : Limits) (k : ℕ) (c : Content) : Type 0 where
  pub planar : IsPlanar c
  pub lines : finmap.len c.table.lines ≤ limits.lines
  pub places : (l : Line) → In l (lines_of c) → length l.places ≤ limits.places
  pub vertices : places_together c.table ≤ limits.vertices
  pub entries : finmap.len c.points + finmap.len c.table.lines ≤ k
  pub log : k ≤ limits.log

-- what a lawful line has room for
record IsRoomFor (c : Content) (limits : Limits) (line : Line) : Type 0 where
  places : length line.places ≤ limits.places
  vertices : places_together c.table + length line.places ≤ limits.vertices
  lines : finmap.len c.table.lines < limits.lines

full_of : (short again place full many itself other : Option Refusal) → first_of (short ∷ again ∷ place ∷ full ∷ many ∷ itself ∷ other ∷ []) ≡ None → (full ≡ None) × (many ≡ None)
full_of short again place full many itself other h =
    let a = first_none short (again ∷ place ∷ full ∷ many ∷ itself ∷ other ∷ []) h in
    let b = first_none again (place ∷ full ∷ many ∷ itself ∷ other ∷ []) a.1 in
    let c = first_none place (full ∷ many ∷ itself ∷ other ∷ []) b.1 in
    let d = first_none full (many ∷ itself ∷ other ∷ []) c.1 in
    (d.0, (first_none many (itself ∷ other ∷ []) d.1).0)

room_for : (c : Content) (limits : Limits) (line : Line) → line_refusal c limits line ≡ None → IsRoomFor c limits line
unfolding line_refusal
room_for c limits line lawful =
    let causes = full_of (when (nat_lt (length line.places) (least_places line.kind)) TooShort) (because Repeated (repeated line))
    (because NotPoint (position_from (λ p. not (finmap.contains_key c.points p)) 1 line.places))
    (when (nat_lt limits.places (length line.places) || nat_lt limits.vertices (places_together c.table + length line.places)) VerticesFull) (when (nat_le limits.lines (finmap.len c.table.lines)) LinesFull)
    (because (λ pair. SelfCross pair.0 pair.1) (self_cross (points_of c) line)) (because (λ k. Crosses (id k)) (least_where (lines_cross (points_of c) line) c.table)) lawful in
    let f = neither (nat_lt limits.places (length line.places)) (nat_lt limits.vertices (places_together c.table + length line.places)) (when_none (nat_lt limits.places (length line.places) || nat_lt limits.vertices (places_together c.table + length line.places)) VerticesFull causes.0) in
    let p = f.0 in
    let v = f.1 in
    let m = when_none (nat_le limits.lines (finmap.len c.table.lines)) LinesFull causes.1 in
    record { places = grind (arith, nat_tests, p); vertices = grind (arith, nat_tests, v); lines = grind (arith, nat_tests, m) }

log_room : (c : Content) (k : ℕ) (limits : Limits) (edit : Edit) → refusal c k limits edit ≡ None → k < limits.log
unfolding refusal
log_room c k limits edit lawful = let full = when_none (nat_le limits.log k) LogFull (first_none (when (nat_le limits.log k) LogFull) [] (first_none (edit_refusal c limits edit) (when (nat_le limits.log k) LogFull ∷ []) lawful).1).0 in grind (arith, nat_tests, full)

more_keys : (t : Bool) (n m : ℕ) → m ≡ cond t n (n + 1) → m ≤ n + 1
more_keys true n m e = omega (arith, e)
more_keys false n m e = omega (arith, e)

fewer_keys : (t : Bool) (n m : ℕ) → m ≡ cond t (n - 1) n → m ≤ n
fewer_keys true n m e = omega (arith, e)
fewer_keys false n m e = omega (arith, e)

by_edit : (limits : Limits) (k : ℕ) (c : Content) (edit : Edit) → IsRoomy limits k c → refusal c k limits edit ≡ None → IsRoomy limits (suc k) (after c edit)
unfolding after edit_refusal
by_edit limits k c (AddPoint p z) h lawful =
    let log = log_room c k limits (AddPoint p z) lawful in
    let more = more_keys (finmap.contains_key c.points p) (finmap.len c.points) (finmap.len (finmap.insert c.points p z)) (finmap.len-insert places_total c.points p z) in
    let e = h.entries in
    record { planar = planar-after c k limits (AddPoint p z) h.planar lawful; lines = h.lines; places = h.places; vertices = h.vertices; entries = omega (arith, more, e); log = omega (arith, log) }
by_edit limits k c (RemovePoint p) h lawful =
    let log = log_room c k limits (RemovePoint p) lawful in
    let less = fewer_keys (finmap.contains_key c.points p) (finmap.len c.points) (finmap.len (finmap.remove c.points p)) (finmap.len-remove places_total c.points p) in
    let e = h.entries in
    record { planar = planar-after c k limits (RemovePoint p) h.planar lawful; lines = h.lines; places = h.places; vertices = h.vertices; entries = omega (arith, less, e); log = omega (arith, log) }
by_edit limits k c (SetLevel p z) h lawful =
    let log = log_room c k limits (SetLevel p z) lawful in
    let more = more_keys (finmap.contains_key c.points p) (finmap.len c.points) (finmap.len (finmap.insert c.points p z)) (finmap.len-insert places_total c.points p z) in
    let e = h.entries in
    record { planar = planar-after c k limits (SetLevel p z) h.planar lawful; lines = h.lines; places = h.places; vertices = h.vertices; entries = omega (arith, more, e); log = omega (arith, log) }
by_edit limits k c (AddLine kind places) h lawful =
    let line : Line = record { kind = kind; places = places } in
    let log = log_room c k limits (AddLine kind places) lawful in
    let room = room_for c limits line (lawful_edit c k limits (AddLine kind places) lawful) in
    let more = more_keys (finmap.contains_key c.table.lines c.table.next) (finmap.len c.table.lines) (finmap.len (finmap.insert c.table.lines c.table.next line)) (finmap.len-insert nat_cmp_total c.table.lines c.table.next line) in
    let e = h.entries in
    let l = room.lines in
    let v = room.vertices in
    let sum = ap (sum_by (λ (l : Line). length l.places)) (live_more c line h.planar) ∙ sum_by-append (λ (l : Line). length l.places) (live c.table) (line ∷ []) in
    let one = sum_by-cons (λ (l : Line). length l.places) line [] in
    record {
      planar = planar-after c k limits (AddLine kind places) h.planar lawful;
      lines = omega (arith, more, l);
      places = λ m i. either line room.places m i;
      vertices = omega (arith, sum, one, v);
      entries = omega (arith, more, e);
      log = omega (arith, log);
    }
  where
    either : (line : Line) → length line.places ≤ limits.places → (l : Line) → In l (finmap.values (finmap.insert c.table.lines c.table.next line)) → length l.places ≤ limits.places
    either line own l i =
        let e = of_map (λ entry. entry.1) (finmap.entries (finmap.insert c.table.lines c.table.next line)) l i in
        ⊎_elim (λ f. let P : Line → Type 0 = λ l. length l.places ≤ limits.places in subst P (sym (e.2 ∙ f.1)) own) (λ j. h.places l (subst (λ t. In t (lines_of c)) (sym e.2) (in_map (λ entry. entry.1) (numbered c.table) e.0 j)))
        (entry_of_insert nat_cmp_total finmap.nat_cmp-IsAntisymmetric c.table.lines c.table.next line e.0 e.1)
by_edit limits k c (RemoveLine id) h lawful =
    let log = log_room c k limits (RemoveLine id) lawful in
    let less = fewer_keys (finmap.contains_key c.table.lines id.0) (finmap.len c.table.lines) (finmap.len (finmap.remove c.table.lines id.0)) (finmap.len-remove nat_cmp_total c.table.lines id.0) in
    let e = h.entries in
    let l = h.lines in
    let v = h.vertices in
    let sum = sum_less (λ (l : Line). length l.places) c.table.lines id.0 in
    record {
      planar = planar-after c k limits (RemoveLine id) h.planar lawful;
      lines = omega (arith, less, l);
      places = λ m i. h.places m (before m i);
      vertices = omega (arith, sum, v);
      entries = omega (arith, less, e);
      log = omega (arith, log);
    }
  where
    before : (l : Line) → In l (finmap.values (finmap.remove c.table.lines id.0)) → In l (lines_of c)
    before l i =
        let e = of_map (λ entry. entry.1) (finmap.entries (finmap.remove c.table.lines id.0)) l i in
        subst (λ t. In t (lines_of c)) (sym e.2) (in_map (λ entry. entry.1) (numbered c.table) e.0 (entry_of_remove nat_cmp_total finmap.nat_cmp-IsAntisymmetric c.table.lines id.0 e.0 e.1))

module _ (limits : Limits) (h : List Entry) (legal : IsLegal limits h) where
  at_start : IsRoomy limits zero (content_of (take zero h))
  unfolding content_of empty
  at_start =
      let points = finmap.len-empty place_cmp ℤ in
      let lines = finmap.len-empty nat_cmp Line in
      record {
        planar = planar-empty;
        lines = omega (arith, lines);
        places = λ l i. let e = of_map (λ entry. entry.1) (numbered (content_of (take zero h)).table) l i in absurd (no_entry (content_of (take zero h)).table.lines lines e.0 e.1);
        vertices = nothing (live (content_of (take zero h)).table) (λ l i. let e = of_map (λ entry. entry.1) (numbered (content_of (take zero h)).table) l i in no_entry (content_of (take zero h)).table.lines lines e.0 e.1);
        entries = omega (arith, points, lines);
        log = omega arith;
      }
    where
      nothing : (ls : List Line) → ((l : Line) → In l ls → ⊥) → sum_by (λ (l : Line). length l.places) ls ≤ limits.vertices
      nothing [] none = omega arith
      nothing (l ∷ ls) none = absurd (none l (inl refl))

  front : (k : ℕ) → k ≤ length h → IsRoomy limits k (content_of (take k h))
  front zero le = at_start
  front (suc k) le =
      let last = get_within h k (omega (arith, le)) in
      let size : length (take k h) ≡ k = length-take-le k h (omega (arith, le)) in
      subst (IsRoomy limits (suc k)) (sym (content_of-next h k last.0 last.1))
      (by_edit limits k (content_of (take k h)) last.0.edit (front k (omega (arith, le))) (ap (λ n. refusal (content_of (take k h)) n limits last.0.edit) (sym size) ∙ (legal k last.0 last.1).0))

  pub roomy : IsRoomy limits (length h) (content_of h)
  roomy = subst (λ t. IsRoomy limits (length h) (content_of t)) (take-length h) (front (length h) (omega arith))
