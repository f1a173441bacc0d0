-- The table of causes, where none but limits can hold.
use Rattle.std.proofs.Common.{◌≡◌, ℕ, ◌+◌, ◌<◌, ◌≤◌, ◌⊎◌, inl, inr, refl, ◌∙◌, sym, ap, arith, List, [], ◌∷◌, Bool, true, false, Some, None}
use Rattle.std.specs.Prelude.{ℤ, not, ◌||◌, Option, option_map, min, nat_lt, nat_le, length, if◌then◌else◌}
use Rattle.std.specs.List.{position_from}
use Rattle.std.specs.FinMap as finmap
use Rattle.std.proofs.lemmas.Bool.{cases_lt, lt-ltb, both_ways as clash}
use Rattle.ground_model.specs.declared.limits.Limits.{Limits}
use Rattle.ground_model.specs.declared.line.LineId.{LineId}
use Rattle.ground_model.specs.declared.line.LineKind.{LineKind}
use Rattle.ground_model.specs.declared.edit.Edit.TheVariants.{AddPoint, RemovePoint, AddLine, RemoveLine}
use Rattle.ground_model.specs.declared.refusal.Refusal.{Refusal}
use Rattle.ground_model.specs.declared.refusal.Refusal.TheVariants.{Occupied, Absent, Held, Joint, TooShort, Repeated, NotPoint, Crosses, SelfCross, NoLine, PointsFull, LinesFull, VerticesFull, LogFull}
use Rattle.ground_model.specs.Place.{Coords, is_same}
use Rattle.ground_model.specs.Kind.{is_ring, least_places}
use Rattle.ground_model.specs.Line.{Line, links, has_place}
use Rattle.ground_model.specs.Table.{least_where, places_together}
use Rattle.ground_model.specs.Crossings.{lines_cross, joint, self_cross}
use Rattle.ground_model.specs.Content.{Content, after, points_of, level_of}
use Rattle.ground_model.specs.Refusal.{when, first_of, because, id, repeated, line_refusal, edit_refusal, refusal}
use Rattle.cdt_law.specs.Limits.{is_limit}

-- if there is a cause, it is a limit
unfoldable pub OnlyLimits : Option Refusal → Type 0
OnlyLimits o = (cause : Refusal) → o ≡ Some cause → is_limit cause ≡ true

only-none : (o : Option Refusal) → o ≡ None → OnlyLimits o
unfolding OnlyLimits
only-none None e cause f = cc
only-none (Some x) e cause f = cc

only-when : (t : Bool) (x : Refusal) → is_limit x ≡ true → OnlyLimits (when t x)
unfolding OnlyLimits
only-when true x e cause f = let same : x ≡ cause = cc in sym (ap is_limit same) ∙ e
only-when false x e cause f = cc

only-first : (o : Option Refusal) (rest : List (Option Refusal)) → OnlyLimits o → OnlyLimits (first_of rest) → OnlyLimits (first_of (o ∷ rest))
unfolding OnlyLimits
only-first None rest h g cause f = g cause f
only-first (Some x) rest h g cause f = h cause f

never-because : {X : Type 0} (cause : X → Refusal) (o : Option X) → o ≡ None → because cause o ≡ None
never-because cause None e = refl
never-because cause (Some x) e = cc

never-when : (t : Bool) (x : Refusal) → t ≡ false → when t x ≡ None
never-when false x e = refl
never-when true x e = cc

-- ---- what a line that is lawful says of itself
first-none : (o : Option Refusal) (rest : List (Option Refusal)) → first_of (o ∷ rest) ≡ None → (o ≡ None) × (first_of rest ≡ None)
first-none None rest e = (refl, e)
first-none (Some x) rest e = cc

because-none : {X : Type 0} (cause : X → Refusal) (o : Option X) → because cause o ≡ None → o ≡ None
because-none cause None e = refl
because-none cause (Some x) e = cc

when-none : (t : Bool) (x : Refusal) → when t x ≡ None → t ≡ false
when-none false x e = refl
when-none true x e = cc

-- a new line has places enough, and no link without length
pub record IsLong (line : Line) : Type 0 where
  pub enough : nat_lt (length line.places) (least_places line.kind) ≡ false
  pub apart : repeated line ≡ None

two-at-least : (t : Bool) (n : ℕ) → nat_lt n (if t then 3 else 2) ≡ false → 2 ≤ n
two-at-least true n e = by (cases_lt n 3)
  where
    by : (n < 3) ⊎ (3 ≤ n) → 2 ≤ n
    by (inl lt) = absurd (clash (nat_lt n 3) e (lt-ltb n 3 lt))
    by (inr ge) = omega (arith, ge)
two-at-least false n e = by (cases_lt n 2)
  where
    by : (n < 2) ⊎ (2 ≤ n) → 2 ≤ n
    by (inl lt) = absurd (clash (nat_lt n 2) e (lt-ltb n 2 lt))
    by (inr ge) = ge

pub two-places : (line : Line) → IsLong line → 2 ≤ length line.places
two-places line h = two-at-least (is_ring line.kind) (length line.places) h.enough

pub no-point-link : (line : Line) → IsLong line → position_from (λ link. is_same link.0 link.1) 2 (links line) ≡ None
no-point-link line h = by (position_from (λ link. is_same link.0 link.1) 2 (links line)) h.apart
  where
    by : (o : Option ℕ) → option_map (λ k. min k (length line.places)) o ≡ None → o ≡ None
    by None e = refl
    by (Some k) e = cc

pub long-of : (c : Content) (limits : Limits) (kind : LineKind) (places : List Coords) → edit_refusal c limits (AddLine kind places) ≡ None → IsLong (record { kind = kind; places = places })
unfolding edit_refusal line_refusal
long-of c limits kind places e =
    let first = first-none _ _ e in
    let second = first-none _ _ first.1 in
    record { enough = when-none (nat_lt (length places) (least_places kind)) TooShort first.0; apart = because-none Repeated (repeated (record { kind = kind; places = places })) second.0 }

-- ---- the causes of each kind of edit
log-only : (n : ℕ) (limits : Limits) → OnlyLimits (first_of (when (nat_le limits.log n) LogFull ∷ []))
log-only n limits = only-first (when (nat_le limits.log n) LogFull) [] (only-when (nat_le limits.log n) LogFull refl) (only-none None refl)

pub added-only : (c : Content) (n : ℕ) (limits : Limits) (p : Coords) (z : ℤ) → level_of c p ≡ None → OnlyLimits (refusal c n limits (AddPoint p z))
unfolding refusal edit_refusal
added-only c n limits p z none = only-first (edit_refusal c limits (AddPoint p z)) (when (nat_le limits.log n) LogFull ∷ [])
    (only-first (because Occupied (level_of c p)) (when (nat_le limits.points (finmap.len c.points)) PointsFull ∷ []) (only-none (because Occupied (level_of c p)) (never-because Occupied (level_of c p) none))
    (only-first (when (nat_le limits.points (finmap.len c.points)) PointsFull) [] (only-when (nat_le limits.points (finmap.len c.points)) PointsFull refl) (only-none None refl))) (log-only n limits)

pub removed-only : (c : Content) (n : ℕ) (limits : Limits) (p : Coords) → finmap.contains_key c.points p ≡ true → least_where (has_place p) c.table ≡ None
    → joint (points_of (after c (RemovePoint p))) (after c (RemovePoint p)).table ≡ None → OnlyLimits (refusal c n limits (RemovePoint p))
unfolding refusal edit_refusal
removed-only c n limits p there unheld apart = only-first (edit_refusal c limits (RemovePoint p)) (when (nat_le limits.log n) LogFull ∷ [])
    (only-first (when (not (finmap.contains_key c.points p)) (Absent p)) _ (only-none _ (never-when (not (finmap.contains_key c.points p)) (Absent p) (ap not there)))
    (only-first (because (λ k. Held (id k)) (least_where (has_place p) c.table)) _ (only-none _ (never-because (λ k. Held (id k)) (least_where (has_place p) c.table) unheld))
    (only-first (because (λ pair. Joint (id pair.0) (id pair.1)) (joint (points_of (after c (RemovePoint p))) (after c (RemovePoint p)).table)) []
    (only-none _ (never-because (λ pair. Joint (id pair.0) (id pair.1)) (joint (points_of (after c (RemovePoint p))) (after c (RemovePoint p)).table) apart)) (only-none None refl)))) (log-only n limits)

pub line-only : (c : Content) (n : ℕ) (limits : Limits) (kind : LineKind) (places : List Coords) → IsLong (record { kind = kind; places = places })
    → position_from (λ p. not (finmap.contains_key c.points p)) 1 places ≡ None → self_cross (points_of c) (record { kind = kind; places = places }) ≡ None
    → least_where (lines_cross (points_of c) (record { kind = kind; places = places })) c.table ≡ None → OnlyLimits (refusal c n limits (AddLine kind places))
unfolding refusal edit_refusal line_refusal
line-only c n limits kind places long on self others = only-first (edit_refusal c limits (AddLine kind places)) (when (nat_le limits.log n) LogFull ∷ [])
    (only-first (when (nat_lt (length places) (least_places kind)) TooShort) _ (only-none _ (never-when (nat_lt (length places) (least_places kind)) TooShort long.enough))
    (only-first (because Repeated (repeated (record { kind = kind; places = places }))) _ (only-none _ (never-because Repeated (repeated (record { kind = kind; places = places })) long.apart))
    (only-first (because NotPoint (position_from (λ p. not (finmap.contains_key c.points p)) 1 places)) _ (only-none _ (never-because NotPoint (position_from (λ p. not (finmap.contains_key c.points p)) 1 places) on))
    (only-first (when (nat_lt limits.places (length places) || nat_lt limits.vertices (places_together c.table + length places)) VerticesFull) _
    (only-when (nat_lt limits.places (length places) || nat_lt limits.vertices (places_together c.table + length places)) VerticesFull refl)
    (only-first (when (nat_le limits.lines (finmap.len c.table.lines)) LinesFull) _ (only-when (nat_le limits.lines (finmap.len c.table.lines)) LinesFull refl)
    (only-first (because (λ pair. SelfCross pair.0 pair.1) (self_cross (points_of c) (record { kind = kind; places = places }))) _
    (only-none _ (never-because (λ pair. SelfCross pair.0 pair.1) (self_cross (points_of c) (record { kind = kind; places = places })) self))
    (only-first (because (λ k. Crosses (id k)) (least_where (lines_cross (points_of c) (record { kind = kind; places = places })) c.table)) []
    (only-none _ (never-because (λ k. Crosses (id k)) (least_where (lines_cross (points_of c) (record { kind = kind; places = places })) c.table) others)) (only-none None refl)))))))) (log-only n limits)

pub taken-only : (c : Content) (n : ℕ) (limits : Limits) (line : LineId) → finmap.contains_key c.table.lines line.0 ≡ true → OnlyLimits (refusal c n limits (RemoveLine line))
unfolding refusal edit_refusal
taken-only c n limits line there = only-first (edit_refusal c limits (RemoveLine line)) (when (nat_le limits.log n) LogFull ∷ [])
    (only-none (edit_refusal c limits (RemoveLine line)) (never-when (not (finmap.contains_key c.table.lines line.0)) (NoLine line) (ap not there))) (log-only n limits)
