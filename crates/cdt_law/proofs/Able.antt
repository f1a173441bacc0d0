-- What an edit finds at a content where it can be made, whatever the limits.
use Rattle.std.proofs.Common.{◌≡◌, refl, ◌∙◌, List, [], ◌∷◌, Bool, true, false, Some, None}
use Rattle.std.specs.Prelude.{ℤ, not, Option, is_some, nat_le}
use Rattle.std.specs.List.{All}
use Rattle.std.specs.FinMap as finmap
use Rattle.ground_model.specs.declared.limits.Limits.{Limits}
use Rattle.ground_model.specs.declared.line.LineId.{LineId}
use Rattle.ground_model.specs.declared.line.LineKind.{LineKind}
use Rattle.ground_model.specs.declared.edit.Edit.{Edit}
use Rattle.ground_model.specs.declared.edit.Edit.TheVariants.{AddPoint, RemovePoint, SetLevel, AddLine, RemoveLine}
use Rattle.ground_model.specs.declared.refusal.Refusal.{Refusal}
use Rattle.ground_model.specs.declared.refusal.Refusal.TheVariants.{Occupied, Absent, NoLine, PointsFull}
use Rattle.ground_model.specs.Place.{Coords}
use Rattle.ground_model.specs.Line.{Line, is_point, has_place}
use Rattle.ground_model.specs.Crossings.{is_on_points}
use Rattle.ground_model.specs.Content.{Content, points_of, lines_of, level_of}
use Rattle.ground_model.specs.Refusal.{when, because, first_of, edit_refusal}
use Rattle.ground_model.proofs.Elements.{each_from}
use Rattle.ground_model.proofs.Planar.{is_point-keys, places_on}
use Rattle.ground_model.proofs.Causes.{line_parts, point_parts, no_line_where}

-- a point's place is free, or taken and of no line; a line's places are points, and it is there when it is taken
abbrev pub Able : Content → Edit → Type 0
Able c (AddPoint p z) = is_point (points_of c) p ≡ false
Able c (RemovePoint p) = (is_point (points_of c) p ≡ true) × All (λ line. has_place p line ≡ false) (lines_of c)
Able c (SetLevel p z) = is_point (points_of c) p ≡ true
Able c (AddLine kind places) = is_on_points (points_of c) (record { kind = kind; places = places }) ≡ true
Able c (RemoveLine id) = (line : Line) × (finmap.get c.table.lines id.0 ≡ Some line)

module _ (c : Content) (limits : Limits) where
  free-place : (p : Coords) (z : ℤ) → edit_refusal c limits (AddPoint p z) ≡ None → is_point (points_of c) p ≡ false
  unfolding edit_refusal
  free-place p z e = is_point-keys c.points p ∙ by (level_of c p) e
    where
      by : (o : Option ℤ) → first_of (because Occupied o ∷ when (nat_le limits.points (finmap.len c.points)) PointsFull ∷ []) ≡ None → is_some o ≡ false
      by None e = refl
      by (Some y) e = cc

  there-place : (p : Coords) → edit_refusal c limits (RemovePoint p) ≡ None → is_point (points_of c) p ≡ true
  unfolding edit_refusal
  there-place p e = is_point-keys c.points p ∙ by (finmap.contains_key c.points p) _ e
    where
      by : (t : Bool) (rest : List (Option Refusal)) → first_of (when (not t) (Absent p) ∷ rest) ≡ None → t ≡ true
      by true rest e = refl
      by false rest e = cc

  level-place : (p : Coords) (z : ℤ) → edit_refusal c limits (SetLevel p z) ≡ None → is_point (points_of c) p ≡ true
  unfolding edit_refusal
  level-place p z e = is_point-keys c.points p ∙ by (finmap.contains_key c.points p) e
    where
      by : (t : Bool) → when (not t) (Absent p) ≡ None → t ≡ true
      by true e = refl
      by false e = cc

  unused-place : (p : Coords) → edit_refusal c limits (RemovePoint p) ≡ None → All (λ line. has_place p line ≡ false) (lines_of c)
  unused-place p e = each_from (λ line. has_place p line ≡ false) (lines_of c) (no_line_where (has_place p) c.table (point_parts c limits p e).0)

  on-its-points : (kind : LineKind) (places : List Coords) → edit_refusal c limits (AddLine kind places) ≡ None → is_on_points (points_of c) (record { kind = kind; places = places }) ≡ true
  unfolding edit_refusal
  on-its-points kind places e = places_on c (record { kind = kind; places = places }) (line_parts c limits (record { kind = kind; places = places }) e).0

  there-line : (id : LineId) → edit_refusal c limits (RemoveLine id) ≡ None → (line : Line) × (finmap.get c.table.lines id.0 ≡ Some line)
  unfolding edit_refusal
  there-line id e = by (finmap.get c.table.lines id.0) refl e
    where
      by : (o : Option Line) → finmap.get c.table.lines id.0 ≡ o → when (not (is_some o)) (NoLine id) ≡ None → (line : Line) × (finmap.get c.table.lines id.0 ≡ Some line)
      by None f e = cc
      by (Some line) f e = (line, f)

  pub able-of : (edit : Edit) → edit_refusal c limits edit ≡ None → Able c edit
  able-of (AddPoint p z) e = free-place p z e
  able-of (RemovePoint p) e = (there-place p e, unused-place p e)
  able-of (SetLevel p z) e = level-place p z e
  able-of (AddLine kind places) e = on-its-points kind places e
  able-of (RemoveLine id) e = there-line id e
