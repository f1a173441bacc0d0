-- An illegal edge can be flipped: its quadrilateral is strictly convex. The flip keeps a sheet, and lowers its volume.
use Rattle.std.proofs.Common.{◌≡◌, sym, ap, subst}
use Rattle.std.specs.Prelude.{pos, ◌<ℤ◌}
use Rattle.ground_model.specs.declared.corner.Corner.{Corner}
use Rattle.ground_model.specs.Corner.{corner_at, corner_side}
use Rattle.ground_model.proofs.Circle.{side-turned}
use Rattle.predicates.specs.Net.{Net}
use Rattle.predicates.specs.Sheet.{IsSheet}
use Rattle.predicates.proofs.Signs.{never-level, positive-along, negative-neg}
use Rattle.predicates.proofs.FlatSides.{flat_ab, flat_bc, flat_ca, side-back}
use Rattle.predicates.proofs.Heights.{lift, deep}
use Rattle.predicates.proofs.InsideDepths.{inside-deep}
use Rattle.predicates.proofs.OneEdgeBeyond.{beyond_ab-bc, beyond_ab-ca}
use Rattle.predicates.proofs.PlanesBelow.{leans, lean_e, lean_n}
use Rattle.predicates.proofs.FarTriangle.{sheet-valid}
use Rattle.predicates.proofs.Tiling.{left-of}
use Rattle.predicates.proofs.Owners.{IsTurn, Owner, turn-side}
use Rattle.predicates.proofs.HasTriangles.{HasOwner, has-owner}
use Rattle.cdt_law.specs.Flips.{IsIllegal, FallLaw}
use Rattle.cdt_law.proofs.Walk.{AllValid, turn-valid}
use Rattle.cdt_law.proofs.FlipKept.{flip-sheet}
use Rattle.cdt_law.proofs.FlipFalls.{sum-falls}

-- ---- four corners, two triangles over one edge, the fourth below the plane of the first
record Over (a b c d : Corner) : Type 0 where
  left_in : AllValid a b c
  right_in : AllValid b a d
  left : pos 0 <ℤ corner_side a b c
  right : pos 0 <ℤ corner_side b a d
  below : pos 0 <ℤ deep a b c d

not_ab : (a b c : Corner) → pos 0 <ℤ corner_side a b c → a ≡ b → ⊥
not_ab a b c h e = never-level (corner_side a b c) h (flat_ab (corner_at a) (corner_at b) (corner_at c) (ap corner_at e))

not_bc : (a b c : Corner) → pos 0 <ℤ corner_side a b c → b ≡ c → ⊥
not_bc a b c h e = never-level (corner_side a b c) h (flat_bc (corner_at a) (corner_at b) (corner_at c) (ap corner_at e))

not_ca : (a b c : Corner) → pos 0 <ℤ corner_side a b c → c ≡ a → ⊥
not_ca a b c h e = never-level (corner_side a b c) h (flat_ca (corner_at a) (corner_at b) (corner_at c) (ap corner_at e))

convex_b : (a b c d : Corner) → Over a b c d → pos 0 <ℤ corner_side d b c
convex_b a b c d o =
    positive-along (corner_side d b c) (corner_side b c d) (side-turned (corner_at d) (corner_at b) (corner_at c))
    (beyond_ab-bc (lift a) (lift b) (lift c) (lift d) o.left o.below (negative-neg (corner_side b a d) (corner_side a b d) (side-back (corner_at b) (corner_at a) (corner_at d)) o.right)
    (record {
      k = lean_e b;
      l = lean_n b;
      x_above = leans b a o.left_in.b_in o.left_in.a_in (not_ab a b c o.left);
      y_above = leans b c o.left_in.b_in o.left_in.c_in (λ e. not_bc a b c o.left (sym e));
      z_above = leans b d o.left_in.b_in o.right_in.c_in (not_ca b a d o.right);
    }))

convex_a : (a b c d : Corner) → Over a b c d → pos 0 <ℤ corner_side a d c
convex_a a b c d o =
    positive-along (corner_side a d c) (corner_side c a d) (sym (side-turned (corner_at c) (corner_at a) (corner_at d)))
    (beyond_ab-ca (lift a) (lift b) (lift c) (lift d) o.left o.below (negative-neg (corner_side b a d) (corner_side a b d) (side-back (corner_at b) (corner_at a) (corner_at d)) o.right)
    (record {
      k = lean_e a;
      l = lean_n a;
      x_above = leans a b o.left_in.a_in o.left_in.b_in (λ e. not_ab a b c o.left (sym e));
      y_above = leans a c o.left_in.a_in o.left_in.c_in (not_ca a b c o.left);
      z_above = leans a d o.left_in.a_in o.right_in.c_in (λ e. not_bc b a d o.right (sym e));
    }))

illegal-over : (net : Net) → IsSheet net → (a b c d : Corner) → IsIllegal net a b c d → Over a b c d
illegal-over net sheet a b c d illegal = record {
  left_in = turn-valid l.triangle a b c turn_l (sheet-valid net sheet l.index l.triangle l.at);
  right_in = turn-valid r.triangle b a d turn_r (sheet-valid net sheet r.index r.triangle r.at);
  left = turn-side l.triangle a b c turn_l (left-of net sheet l.index l.triangle l.at);
  right = turn-side r.triangle b a d turn_r (left-of net sheet r.index r.triangle r.at);
  below = inside-deep a b c d illegal.inside;
}
  where
    first : HasOwner net a b c
    first = has-owner net a b c illegal.left

    second : HasOwner net b a d
    second = has-owner net b a d illegal.right

    l : Owner net.triangles a b
    l = first.owner

    r : Owner net.triangles b a
    r = second.owner

    turn_l : IsTurn l.triangle a b c
    turn_l = subst (λ (k : Corner). IsTurn l.triangle a b k) first.third l.turn

    turn_r : IsTurn r.triangle b a d
    turn_r = subst (λ (k : Corner). IsTurn r.triangle b a k) second.third r.turn

pub fall_law : FallLaw
fall_law net after sheet a b c d illegal f = (kept, sum-falls net after kept a b c d f o.below)
  where
    o : Over a b c d
    o = illegal-over net sheet a b c d illegal

    kept : IsSheet after
    kept = flip-sheet net after sheet a b c d f illegal.free (convex_a a b c d o) (convex_b a b c d o)
