-- Why a point is not removed or its level not set, and why a line is not added.
use Rattle.std.proofs.Common.{◌≡◌, ℕ, refl, sym, ap, subst, ◌∙◌, List, Bool, true, false, cond, Some, None}
use Rattle.std.specs.Prelude.{ℤ, Option, is_some, IsSome, not, ◌&&◌, IsTrue, All}
use Rattle.std.specs.Cmp.{eq_by_cmp_equiv}
use Rattle.std.specs.Ordering.{eq_by_cmp}
use Rattle.std.specs.FinMap as finmap
use Rattle.ground_model.specs.declared.limits.Limits.{Limits}
use Rattle.ground_model.specs.declared.line.LineKind.{LineKind}
use Rattle.ground_model.specs.declared.edit.Edit.TheVariants.{RemovePoint, SetLevel, AddLine}
use Rattle.ground_model.specs.declared.refusal.Refusal.{Refusal}
use Rattle.ground_model.specs.declared.refusal.Refusal.TheVariants.{Absent, Joint}
use Rattle.ground_model.specs.Place.{Coords, place_cmp, is_same}
use Rattle.ground_model.specs.Line.{Line, has_place}
use Rattle.ground_model.specs.Content.{Content, after, points_of, lines_of, level_of}
use Rattle.ground_model.specs.Refusal.{edit_refusal, line_refusal, when, because, id}
use Rattle.ground_model.specs.Crossings.{joint, lines_cross, AreWithout, is_on_points}
use Rattle.ground_model.specs.Table.{least_where, Table, live}
use Rattle.ground_model.proofs.Contents.{places_total}
use Rattle.ground_model.specs.Planar.{IsPlanar}
use Rattle.ground_model.proofs.Causes.{no_line_where}
use Rattle.ground_model.proofs.Elements.{each_from}
use Rattle.ground_model.proofs.Planar.{is_point-keys, same_test, still_on, on_at}
use Rattle.store.proofs.Causes.{first_alone}

gone : (t : Bool) (o : Option ℤ) → is_some (cond t None o) ≡ (is_some o && not t)
gone true (Some z) = refl
gone true None = refl
gone false (Some z) = refl
gone false None = refl

-- the points after p is removed
points_without : (m : finmap.FinMap place_cmp ℤ) (p : Coords) → AreWithout (finmap.keys (finmap.remove m p)) (finmap.keys m) p
points_without m p = record {
  are = λ x.
      is_point-keys (finmap.remove m p) x ∙ ap is_some (finmap.get-remove places_total m p x) ∙ gone (eq_by_cmp place_cmp x p) (finmap.get m x)
      ∙ ap (λ t. is_some (finmap.get m x) && not t) ((eq_by_cmp_equiv places_total).symm x p ∙ same_test p x)
      ∙ ap (λ t. t && not (is_same p x)) (sym (is_point-keys m x));
}

-- what is found where the points without p are known
IsJoint : Option (ℕ × ℕ) → Coords → Table → Type 0
IsJoint found p t = (points rest : List Coords) → AreWithout rest points p → All (λ l. All (λ m. lines_cross points l m ≡ false) (live t)) (live t) → All (λ line. IsTrue (is_on_points rest line)) (live t) → found ≡ joint rest t

-- the least pair of lines that would cross, where no line has the place
pub joint-removed : (c : Content) (t : Table) (p : Coords) (found : Option (ℕ × ℕ)) → IsPlanar c → t ≡ c.table → least_where (has_place p) c.table ≡ None
    → ((points rest : List Coords) → AreWithout rest points p → All (λ l. All (λ m. lines_cross points l m ≡ false) (live t)) (live t) → All (λ line. IsTrue (is_on_points rest line)) (live t) → found ≡ joint rest t)
    → found ≡ joint (points_of (after c (RemovePoint p))) (after c (RemovePoint p)).table
unfolding after IsJoint
joint-removed c t p found planar same held clause =
    subst (IsJoint found p) same clause (points_of c) (finmap.keys (finmap.remove c.points p)) (points_without c.points p) planar.apart
    (each_from (λ line. IsTrue (is_on_points (finmap.keys (finmap.remove c.points p)) line)) (lines_of c) (λ l i. still_on c.points p l (on_at c planar l i) (no_line_where (has_place p) c.table held l i)))

-- what is left, where there is the point and no line has it
pub removal-joint : (c : Content) (limits : Limits) (p : Coords) → is_some (level_of c p) ≡ true → least_where (has_place p) c.table ≡ None
    → edit_refusal c limits (RemovePoint p) ≡ because (λ pair. Joint (id pair.0) (id pair.1)) (joint (points_of (after c (RemovePoint p))) (after c (RemovePoint p)).table)
unfolding edit_refusal
removal-joint c limits p there held = rw (there, held) (first_alone (because (λ pair. Joint (id pair.0) (id pair.1)) (joint (points_of (after c (RemovePoint p))) (after c (RemovePoint p)).table)))

-- a level that may be set is that of a point
pub level-there : (c : Content) (limits : Limits) (p : Coords) (z : ℤ) → edit_refusal c limits (SetLevel p z) ≡ None → IsSome (level_of c p)
unfolding edit_refusal
level-there c limits p z lawful = by_level (level_of c p) lawful
  where
    by_level : (o : Option ℤ) → when (not (is_some o)) (Absent p) ≡ None → IsSome o
    by_level None e = cc
    by_level (Some z) e = refl

line-edit : (c : Content) (limits : Limits) (kind : LineKind) (places : List Coords) → line_refusal c limits (record { kind = kind; places = places }) ≡ edit_refusal c limits (AddLine kind places)
unfolding edit_refusal
line-edit c limits kind places = refl

-- the cause of a line, as that of the edit which adds it
pub line-cause : (c d : Content) (limits : Limits) (line : Line) (kind : LineKind) (places : List Coords) (own : Option Refusal) → own ≡ line_refusal c limits line → line ≡ record { kind = kind; places = places } → c ≡ d → own ≡ edit_refusal d limits (AddLine kind places)
line-cause c d limits line kind places own is made same =
    is ∙ ap (line_refusal c limits) made ∙ ap (λ e. line_refusal e limits (record { kind = kind; places = places })) same ∙ line-edit d limits kind places
