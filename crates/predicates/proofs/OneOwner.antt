-- The triangle on the left of an edge is one, and so is its third corner.
use Rattle.std.proofs.Common.{◌≡◌, ℕ, ◌+◌, refl, sym, ap, subst, ◌∙◌, arith, [], ◌∷◌}
use Rattle.std.specs.Prelude.{pos, ◌+ℤ◌, ◌<ℤ◌, unsigned_abs, Some, slice_get}
use Rattle.std.proofs.lemmas.Int.{ints}
use Rattle.ground_model.specs.declared.corner.Corner.{Corner}
use Rattle.ground_model.specs.Place.{Coords}
use Rattle.ground_model.specs.Side.{side}
use Rattle.ground_model.specs.Corner.{corner_at, corner_side}
use Rattle.ground_model.proofs.Ring.{var, num, ◌⊕◌, ring}
use Rattle.predicates.specs.Net.{Net, Triangle}
use Rattle.predicates.specs.Sheet.{IsSheet}
use Rattle.predicates.specs.Tiling.{OneOnEdge}
use Rattle.predicates.specs.Weighted.{Weighted, weighted_side, once, joined, repeated}
use Rattle.predicates.proofs.WeightedSides.{pointE, placeE, weighted_side-once}
use Rattle.predicates.proofs.Nudged.{Shared, many-left, many-within, many-some}
use Rattle.predicates.proofs.Tiling.{left-of}
use Rattle.predicates.proofs.FarTriangle.{packed}
use Rattle.predicates.proofs.HasTriangles.{has-owner}
use Rattle.predicates.proofs.Owners.{IsTurn, Still, Once, Twice, Owner, turn-side, turn-inside}
use Rattle.predicates.proofs.Signs.{level-up, never-level, positive-along}
use Rattle.predicates.proofs.FlatSides.{flat_ab, flat_ca}

-- ---- two triangles on one side of an edge share a point
abbrev middle : Coords → Coords → Weighted
middle a b = joined (once a) (once b)

middle-ab : (a b : Coords) → weighted_side a b (middle a b) ≡ pos 0
unfolding weighted_side
middle-ab a b = ring (a.e ∷ a.n ∷ b.e ∷ b.n ∷ []) (pointE 0 1 (var 0 ⊕ var 2) (var 1 ⊕ var 3) (num (pos 1) ⊕ num (pos 1))) (num (pos 0)) refl

middle-bc : (a b c : Coords) → weighted_side b c (middle a b) ≡ side a b c
unfolding weighted_side side
middle-bc a b c = ring (a.e ∷ a.n ∷ b.e ∷ b.n ∷ c.e ∷ c.n ∷ []) (pointE 1 2 (var 0 ⊕ var 2) (var 1 ⊕ var 3) (num (pos 1) ⊕ num (pos 1))) (placeE 0 1 2) refl

middle-ca : (a b c : Coords) → weighted_side c a (middle a b) ≡ side a b c
unfolding weighted_side side
middle-ca a b c = ring (a.e ∷ a.n ∷ b.e ∷ b.n ∷ c.e ∷ c.n ∷ []) (pointE 2 0 (var 0 ⊕ var 2) (var 1 ⊕ var 3) (num (pos 1) ⊕ num (pos 1))) (placeE 0 1 2) refl

-- so many times as outweigh the sides of c
abbrev enough : Coords → Coords → Coords → Coords → ℕ
enough a b c d = 1 + unsigned_abs (weighted_side b c (once c)) + unsigned_abs (weighted_side c a (once c)) + unsigned_abs (weighted_side b d (once c)) + unsigned_abs (weighted_side d a (once c))

pub on_one_side : (a b c d : Coords) → pos 0 <ℤ side a b c → pos 0 <ℤ side a b d → Shared a b c a b d
on_one_side a b c d turned_c turned_d =
    record {
      point = joined (repeated (pos (enough a b c d)) (middle a b)) (once c);
      some = many-some (enough a b c d) (pos 1 +ℤ pos 1) (pos 1) (omega arith) (omega (arith, ints)) (omega (arith, ints));
      first = record {
        ab = above;
        bc = many-left b c (enough a b c d) (middle a b) (once c) (omega arith) (positive-along (weighted_side b c (middle a b)) (side a b c) (middle-bc a b c) turned_c);
        ca = many-left c a (enough a b c d) (middle a b) (once c) (omega arith) (positive-along (weighted_side c a (middle a b)) (side a b c) (middle-ca a b c) turned_c);
      };
      second = record {
        ab = above;
        bc = many-left b d (enough a b c d) (middle a b) (once c) (omega arith) (positive-along (weighted_side b d (middle a b)) (side a b d) (middle-bc a b d) turned_d);
        ca = many-left d a (enough a b c d) (middle a b) (once c) (omega arith) (positive-along (weighted_side d a (middle a b)) (side a b d) (middle-ca a b d) turned_d);
      };
    }
  where
    above : pos 0 <ℤ weighted_side a b (joined (repeated (pos (enough a b c d)) (middle a b)) (once c))
    above = many-within a b (enough a b c d) (middle a b) (once c) (level-up (weighted_side a b (middle a b)) (middle-ab a b)) (positive-along (weighted_side a b (once c)) (side a b c) (weighted_side-once a b c) turned_c)

-- ---- two turns of one triangle that begin with the same edge are the same
pub turned-third : (t : Triangle) (a b c u v w : Corner) → IsTurn t a b c → IsTurn t u v w → u ≡ a → pos 0 <ℤ corner_side a b c → w ≡ c
turned-third t a b c u v w p q e h = by t a b c u v w p q (λ k. never-level (corner_side a b c) h (flat_ab (corner_at a) (corner_at b) (corner_at c) (ap corner_at k))) (λ k. never-level (corner_side a b c) h (flat_ca (corner_at a) (corner_at b) (corner_at c) (ap corner_at k))) e
  where
    by : (t : Triangle) (a b c u v w : Corner) → IsTurn t a b c → IsTurn t u v w → (a ≡ b → ⊥) → (c ≡ a → ⊥) → u ≡ a → w ≡ c
    by t a b c u v w Still Still ab ca e = refl
    by t a b c u v w Still Once ab ca e = absurd (ab (sym e))
    by t a b c u v w Still Twice ab ca e = absurd (ca e)
    by t a b c u v w Once Still ab ca e = absurd (ca e)
    by t a b c u v w Once Once ab ca e = refl
    by t a b c u v w Once Twice ab ca e = absurd (ab (sym e))
    by t a b c u v w Twice Still ab ca e = absurd (ab (sym e))
    by t a b c u v w Twice Once ab ca e = absurd (ca e)
    by t a b c u v w Twice Twice ab ca e = refl

-- the owner of an edge is one
pub owners-one : (net : Net) → IsSheet net → (a b : Corner) (o p : Owner net.triangles a b) → (o.index ≡ p.index) × (o.third ≡ p.third)
owners-one net sheet a b o p =
    let turned_o = turn-side o.triangle a b o.third o.turn (left-of net sheet o.index o.triangle o.at) in
    let turned_p = turn-side p.triangle a b p.third p.turn (left-of net sheet p.index p.triangle p.at) in
    let shared = on_one_side (corner_at a) (corner_at b) (corner_at o.third) (corner_at p.third) turned_o turned_p in
    let same_index : o.index ≡ p.index = packed net sheet shared.point shared.some o.index p.index o.triangle p.triangle o.at p.at (turn-inside o.triangle a b o.third shared.point o.turn shared.first) (turn-inside p.triangle a b p.third shared.point p.turn shared.second) in
    let same : Some o.triangle ≡ Some p.triangle = sym o.at ∙ ap (slice_get net.triangles) same_index ∙ p.at in
    let one : o.triangle ≡ p.triangle = cc in
    (same_index, sym (turned-third o.triangle a b o.third a b p.third o.turn (subst (λ (t : Triangle). IsTurn t a b p.third) (sym one) p.turn) refl turned_o))

pub one_on_edge : OneOnEdge
one_on_edge net sheet a b c d at_c at_d =
    let o = has-owner net a b c at_c in
    let p = has-owner net a b d at_d in
    sym o.third ∙ (owners-one net sheet a b o.owner p.owner).1 ∙ p.third
