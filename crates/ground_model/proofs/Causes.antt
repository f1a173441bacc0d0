-- What is known of an edit that isn't refused: no cause holds.
use Rattle.std.proofs.Common.{◌≡◌, ℕ, ◌+◌, refl, ap, ◌∙◌, Bool, false, [], ◌∷◌, List, Some, None}
use Rattle.std.specs.Prelude.{not, ◌||◌, Option, nat_le, nat_lt, length, find, option_map}
use Rattle.std.specs.List.{position_from}
use Rattle.std.specs.FinMap as finmap
use Rattle.ground_model.specs.declared.limits.Limits.{Limits}
use Rattle.ground_model.specs.declared.edit.Edit.{Edit}
use Rattle.ground_model.specs.declared.edit.Edit.TheVariants.{RemovePoint}
use Rattle.ground_model.specs.declared.refusal.Refusal.{Refusal}
use Rattle.ground_model.specs.declared.refusal.Refusal.TheVariants.{Absent, Held, Joint, TooShort, Repeated, NotPoint, VerticesFull, LinesFull, SelfCross, Crosses, LogFull}
use Rattle.ground_model.specs.Place.{Coords}
use Rattle.ground_model.specs.Line.{Line, pairs, has_place}
use Rattle.ground_model.specs.Content.{Content, after, points_of}
use Rattle.ground_model.specs.Kind.{least_places}
use Rattle.ground_model.specs.Table.{Table, numbered, live, least_where, places_together}
use Rattle.ground_model.specs.Crossings.{least_pair, lines_cross, joint, self_cross}
use Rattle.ground_model.specs.Refusal.{when, first_of, because, line_refusal, edit_refusal, refusal, id, repeated}
use Rattle.ground_model.proofs.Elements.{In, none_found, of_map, in_pairs}

first_parts : (found : Option Refusal) (rest : List (Option Refusal)) → first_of (found ∷ rest) ≡ None → (found ≡ None) × (first_of rest ≡ None)
first_parts None rest e = (refl, e)
first_parts (Some cause) rest e = cc

because_none : {X : Type 0} (cause : X → Refusal) (found : Option X) → because cause found ≡ None → found ≡ None
because_none cause None e = refl
because_none cause (Some x) e = cc

mapped_none : {X Y : Type 0} (f : X → Y) (found : Option X) → option_map f found ≡ None → found ≡ None
mapped_none f None e = refl
mapped_none f (Some x) e = cc

pub no_line_where : (test : Line → Bool) (t : Table) → least_where test t ≡ None → (l : Line) → In l (live t) → test l ≡ false
no_line_where test t e l i =
    let found = of_map (λ entry. entry.1) (numbered t) l i in
    ap test found.2 ∙ none_found (λ entry. test entry.1) (numbered t) found.0 (mapped_none (λ found. found.0) (find (λ entry. test entry.1) (numbered t)) e) found.1

pub no_least_pair : {X : Type 0} (test : ℕ × X → ℕ × X → Bool) (xs : List (ℕ × X)) → least_pair test xs ≡ None → (x y : ℕ × X) → In x xs → In y xs → test x y ≡ false
no_least_pair test xs e x y i j = none_found (λ pair. test pair.0 pair.1) (pairs xs) (x, y) (mapped_none (λ found. (found.0.0, found.1.0)) (find (λ pair. test pair.0 pair.1) (pairs xs)) e) (in_pairs xs x y i j)

-- what a lawful line says of its places, of itself and of the others
three_of : (short again place full many itself other : Option Refusal) → first_of (short ∷ again ∷ place ∷ full ∷ many ∷ itself ∷ other ∷ []) ≡ None → (place ≡ None) × (itself ≡ None) × (other ≡ None)
three_of short again place full many itself other h =
    let from_place = first_parts place (full ∷ many ∷ itself ∷ other ∷ []) (first_parts again (place ∷ full ∷ many ∷ itself ∷ other ∷ []) (first_parts short (again ∷ place ∷ full ∷ many ∷ itself ∷ other ∷ []) h).1).1 in
    let from_itself = first_parts itself (other ∷ []) (first_parts many (itself ∷ other ∷ []) (first_parts full (many ∷ itself ∷ other ∷ []) from_place.1).1).1 in
    (from_place.0, from_itself.0, (first_parts other [] from_itself.1).0)

pub line_parts : (c : Content) (limits : Limits) (line : Line) → line_refusal c limits line ≡ None
    → (position_from (λ p. not (finmap.contains_key c.points p)) 1 line.places ≡ None) × (self_cross (points_of c) line ≡ None) × (least_where (lines_cross (points_of c) line) c.table ≡ None)
unfolding line_refusal
line_parts c limits line lawful =
    let parts = three_of (when (nat_lt (length line.places) (least_places line.kind)) TooShort) (because Repeated (repeated line))
    (because NotPoint (position_from (λ p. not (finmap.contains_key c.points p)) 1 line.places))
    (when (nat_lt limits.places (length line.places) || nat_lt limits.vertices (places_together c.table + length line.places)) VerticesFull) (when (nat_le limits.lines (finmap.len c.table.lines)) LinesFull)
    (because (λ pair. SelfCross pair.0 pair.1) (self_cross (points_of c) line)) (because (λ k. Crosses (id k)) (least_where (lines_cross (points_of c) line) c.table)) lawful in
    (because_none NotPoint _ parts.0, because_none (λ pair. SelfCross pair.0 pair.1) _ parts.1, because_none (λ k. Crosses (id k)) _ parts.2)

pub lawful_edit : (c : Content) (entries : ℕ) (limits : Limits) (edit : Edit) → refusal c entries limits edit ≡ None → edit_refusal c limits edit ≡ None
unfolding refusal
lawful_edit c entries limits edit h = (first_parts (edit_refusal c limits edit) (when (nat_le limits.log entries) LogFull ∷ []) h).0

pub point_parts : (c : Content) (limits : Limits) (p : Coords) → edit_refusal c limits (RemovePoint p) ≡ None → (least_where (has_place p) c.table ≡ None) × (joint (points_of (after c (RemovePoint p))) (after c (RemovePoint p)).table ≡ None)
unfolding edit_refusal
point_parts c limits p lawful =
    let rest = first_parts (when (not (finmap.contains_key c.points p)) (Absent p)) (because (λ k. Held (id k)) (least_where (has_place p) c.table) ∷ because (λ pair. Joint (id pair.0) (id pair.1)) (joint (points_of (after c (RemovePoint p))) (after c (RemovePoint p)).table) ∷ []) lawful in
    let both = first_parts (because (λ k. Held (id k)) (least_where (has_place p) c.table)) (because (λ pair. Joint (id pair.0) (id pair.1)) (joint (points_of (after c (RemovePoint p))) (after c (RemovePoint p)).table) ∷ []) rest.1 in
    (because_none (λ k. Held (id k)) _ both.0, because_none (λ pair. Joint (id pair.0) (id pair.1)) _ (first_parts (because (λ pair. Joint (id pair.0) (id pair.1)) (joint (points_of (after c (RemovePoint p))) (after c (RemovePoint p)).table)) [] both.1).0)
