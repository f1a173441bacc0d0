-- Why an edit is refused: the first cause that holds.
use Rattle.std.specs.Prelude.{ℕ, ◌+◌, ◌≡◌, Bool, true, false, not, ◌||◌, List, [], ◌∷◌, length, min, Option, Some, None, nat_lt, nat_le, option_map}
use Rattle.std.specs.List.{position_from}
use Rattle.std.specs.FinMap as map
use Rattle.ground_model.specs.declared.line.LineId.{LineId}
use Rattle.ground_model.specs.declared.limits.Limits.{Limits}
use Rattle.ground_model.specs.declared.edit.Edit.{Edit}
use Rattle.ground_model.specs.declared.edit.Edit.TheVariants.{AddPoint, RemovePoint, SetLevel, AddLine, RemoveLine}
use Rattle.ground_model.specs.declared.refusal.Refusal.{Refusal}
use Rattle.ground_model.specs.declared.refusal.Refusal.TheVariants.{Occupied, Absent, Held, Joint, TooShort, Repeated, NotPoint, Crosses, SelfCross, NoLine, PointsFull, LinesFull, VerticesFull, LogFull}
use Rattle.ground_model.specs.Place.{is_same}
use Rattle.ground_model.specs.Kind.{least_places}
use Rattle.ground_model.specs.Line.{Line, links, has_place}
use Rattle.ground_model.specs.Table.{least_where, places_together}
use Rattle.ground_model.specs.Crossings.{lines_cross, joint, self_cross}
use Rattle.ground_model.specs.Content.{Content, after, points_of, level_of}

-- the cause, where the test says so
abbrev pub when : Bool → Refusal → Option Refusal
when true cause = Some cause
when false cause = None

-- the first of some causes
abbrev pub first_of : List (Option Refusal) → Option Refusal
first_of [] = None
first_of (None ∷ causes) = first_of causes
first_of (Some cause ∷ causes) = Some cause

-- the cause that stands for what was found, if anything was
abbrev pub because : {X : Type 0} → (X → Refusal) → Option X → Option Refusal
because cause found = option_map cause found

-- the line of this number
abbrev pub id : ℕ → LineId
id n = record { 0 = n }

-- the number of the place, counted from 1, at which the first link without length ends; for a ring's last link that of the last place
abbrev pub repeated : Line → Option ℕ
repeated line = option_map (λ k. min k (length line.places)) (position_from (λ link. is_same link.0 link.1) 2 (links line))

-- why a new line is refused
unfoldable pub line_refusal : Content → Limits → Line → Option Refusal
line_refusal c limits line = first_of (
    when (nat_lt (length line.places) (least_places line.kind)) TooShort
    ∷ because Repeated (repeated line)
    ∷ because NotPoint (position_from (λ p. not (map.contains_key c.points p)) 1 line.places)
    ∷ when (nat_lt limits.places (length line.places) || nat_lt limits.vertices (places_together c.table + length line.places)) VerticesFull
    ∷ when (nat_le limits.lines (map.len c.table.lines)) LinesFull
    ∷ because (λ pair. SelfCross pair.0 pair.1) (self_cross (points_of c) line)
    ∷ because (λ k. Crosses (id k)) (least_where (lines_cross (points_of c) line) c.table)
    ∷ [])

-- why the edit itself is refused
unfoldable pub edit_refusal : Content → Limits → Edit → Option Refusal
edit_refusal c limits (AddPoint p z) = first_of (
    because Occupied (level_of c p)
    ∷ when (nat_le limits.points (map.len c.points)) PointsFull
    ∷ [])
edit_refusal c limits (RemovePoint p) = first_of (
    when (not (map.contains_key c.points p)) (Absent p)
    ∷ because (λ k. Held (id k)) (least_where (has_place p) c.table)
    ∷ because (λ pair. Joint (id pair.0) (id pair.1)) (joint (points_of (after c (RemovePoint p))) (after c (RemovePoint p)).table)
    ∷ [])
edit_refusal c limits (SetLevel p z) = when (not (map.contains_key c.points p)) (Absent p)
edit_refusal c limits (AddLine kind places) = line_refusal c limits (record { kind = kind; places = places })
edit_refusal c limits (RemoveLine line) = when (not (map.contains_key c.table.lines line.0)) (NoLine line)

-- why the edit is refused at a content and after so many entries
unfoldable pub refusal : Content → ℕ → Limits → Edit → Option Refusal
refusal c entries limits edit = first_of (edit_refusal c limits edit ∷ when (nat_le limits.log entries) LogFull ∷ [])

-- the edit may be made: there is no cause against it
abbrev pub IsLawful : Content → ℕ → Limits → Edit → Type 0
IsLawful c entries limits edit = refusal c entries limits edit ≡ None
