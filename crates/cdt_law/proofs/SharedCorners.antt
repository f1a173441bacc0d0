-- A point that both sheets have, and that is a corner of what one has alone, is a corner of what the other has alone.
use Rattle.std.proofs.Common.{◌≡◌, ℕ, zero, suc, ◌+◌, ◌<◌, ◌≤◌, inl, inr, ◌⊎◌, refl, sym, ap, subst, ◌∙◌, arith, List, [], ◌∷◌, true, Some}
use Rattle.std.specs.Prelude.{ℤ, pos, neg_ℤ, ◌+ℤ◌, ◌*ℤ◌, ◌<ℤ◌, ◌≤ℤ◌, unsigned_abs, slice_get}
use Rattle.std.proofs.lemmas.Int.{ints, by_lt_z}
use Rattle.ground_model.specs.declared.corner.Corner.{Corner}
use Rattle.ground_model.specs.declared.corner.Corner.TheVariants.{At}
use Rattle.ground_model.specs.Place.{Coords}
use Rattle.ground_model.specs.Side.{side}
use Rattle.ground_model.specs.Line.{is_point}
use Rattle.ground_model.specs.Corner.{corner_at}
use Rattle.ground_model.proofs.ZLaws.{mul_comm}
use Rattle.ground_model.proofs.ZOrder.{outweighs_below}
use Rattle.ground_model.proofs.Circle.{side-turned}
use Rattle.predicates.specs.Net.{Net, Triangle}
use Rattle.predicates.specs.Sheet.{IsSheet}
use Rattle.predicates.specs.Weighted.{Weighted, weighted_side, once, joined, repeated}
use Rattle.predicates.specs.Tiling.{HasWithin}
use Rattle.predicates.proofs.Tiling.{closed, left-of, covered_inside}
use Rattle.predicates.proofs.Nudged.{Inside, Shared, nudged, side-many, many-left, many-within, many-some}
use Rattle.predicates.proofs.WeightedSides.{weighted_side-once, weighted_side-joined}
use Rattle.predicates.proofs.FarTriangle.{closed-far}
use Rattle.predicates.proofs.Owners.{IsTurn, Still, Once, Twice, turn-side, turn-inside}
use Rattle.predicates.proofs.FlatSides.{flat_bc, flat_ca}
use Rattle.predicates.proofs.Signs.{level-up, positive-along}
use Rattle.cdt_law.specs.Patch.{is_in}
use Rattle.cdt_law.specs.Hull.{Encloses}
use Rattle.cdt_law.specs.Boundary.{gone}
use Rattle.cdt_law.specs.Corners.{IsCornerOfGone, CornerLaw}
use Rattle.cdt_law.proofs.GoodInSheet.{sheet-only}
use Rattle.cdt_law.proofs.GoneFacets.{Gone, gone-of}
use Rattle.cdt_law.proofs.Overlaps.{overlap-gone}
use Rattle.cdt_law.proofs.Renewed.{in-turned}

-- ---- a point near p, into the triangle p, y, z
abbrev pub both : Coords → Coords → Weighted
both y z = joined (once y) (once z)

abbrev pub near : Coords → Coords → Coords → ℕ → Weighted
near p y z k = joined (repeated (pos k) (once p)) (both y z)

both-side : (a b y z : Coords) → weighted_side a b (both y z) ≡ side a b y +ℤ side a b z
both-side a b y z = weighted_side-joined a b (once y) (once z) ∙ (λ i. weighted_side-once a b y i +ℤ weighted_side-once a b z i)

pub near-inside : (p y z : Coords) (k : ℕ) → pos 0 <ℤ side p y z → unsigned_abs (weighted_side y z (both y z)) < k → Inside p y z (near p y z k)
near-inside p y z k turned less = record {
  ab = many-within p y k (once p) (both y z) (level-up (weighted_side p y (once p)) (weighted_side-once p y p ∙ flat_ca p y p refl))
      (second (weighted_side p y (both y z)) (side p y y) (side p y z) (both-side p y y z) (flat_bc p y y refl) turned);
  bc = many-left y z k (once p) (both y z) less (positive-along (weighted_side y z (once p)) (side p y z) (weighted_side-once y z p ∙ sym (side-turned p y z)) turned);
  ca = many-within z p k (once p) (both y z) (level-up (weighted_side z p (once p)) (weighted_side-once z p p ∙ flat_bc z p p refl))
      (first (weighted_side z p (both y z)) (side z p y) (side z p z) (both-side z p y z) (flat_ca z p z refl) (positive-along (side z p y) (side p y z) (side-turned z p y) turned));
}
  where
    second : (s x y : ℤ) → s ≡ x +ℤ y → x ≡ pos 0 → pos 0 <ℤ y → pos 0 <ℤ s
    second s x y e f h = omega (arith, ints, e, f, h)

    first : (s x y : ℤ) → s ≡ x +ℤ y → y ≡ pos 0 → pos 0 <ℤ x → pos 0 <ℤ s
    first s x y e f h = omega (arith, ints, e, f, h)

-- ---- how near is near enough for all triangles of a list
abbrev pub size : Weighted → Triangle → ℕ
size g t = unsigned_abs (weighted_side (corner_at t.a) (corner_at t.b) g) + unsigned_abs (weighted_side (corner_at t.b) (corner_at t.c) g) + unsigned_abs (weighted_side (corner_at t.c) (corner_at t.a) g)

pub bound : Weighted → List Triangle → ℕ
bound g [] = 0
bound g (t ∷ ts) = size g t + bound g ts

pub bounded : (g : Weighted) (ts : List Triangle) (k : ℕ) (t : Triangle) → slice_get ts k ≡ Some t → size g t ≤ bound g ts
unfolding bound
bounded g [] k t at = cc
bounded g (u ∷ ts) zero t at = let same : u ≡ t = cc in first (size g u) (size g t) (bound g ts) (ap (size g) same)
  where
    first : (m n r : ℕ) → m ≡ n → n ≤ m + r
    first m n r e = omega (arith, e)
bounded g (u ∷ ts) (suc k) t at = later (size g u) (size g t) (bound g ts) (bounded g ts k t at)
  where
    later : (m n r : ℕ) → n ≤ r → n ≤ m + r
    later m n r h = omega (arith, h)

-- what has the near point has p
pub near-side : (a b p y z : Coords) (k : ℕ) → unsigned_abs (weighted_side a b (both y z)) < k → pos 0 ≤ℤ weighted_side a b (near p y z k) → pos 0 ≤ℤ side a b p
near-side a b p y z k less h = by_lt_z (side a b p) (pos 0)
    (λ lt. absurd (under (weighted_side a b (near p y z k)) (pos k *ℤ weighted_side a b (once p)) (side a b p *ℤ pos k) (weighted_side a b (both y z))
    (side-many a b k (once p) (both y z)) (ap (λ s. pos k *ℤ s) (weighted_side-once a b p) ∙ mul_comm (pos k) (side a b p))
    (outweighs_below (side a b p) (neg_ℤ (weighted_side a b (both y z))) k (opposite (weighted_side a b (both y z)) less) lt) h)) (λ ge. ge)
  where
    opposite : (s : ℤ) → unsigned_abs s < k → unsigned_abs (neg_ℤ s) < k
    opposite s h = omega (arith, ints, h)

    under : (l m n g : ℤ) → l ≡ m +ℤ g → m ≡ n → n <ℤ neg_ℤ g → pos 0 ≤ℤ l → ⊥
    under l m n g e f h k = omega (arith, ints, e, f, h, k)

module _ (base planned : Net) (sheet : IsSheet base) (sheet' : IsSheet planned) (out : Encloses base planned) (p : Coords) (m : IsCornerOfGone planned base p) where
  g : Gone planned base (At p) m.y m.z
  g = gone-of planned base (At p) m.y m.z m.there

  abbrev y : Coords
  y = corner_at m.y

  abbrev z : Coords
  z = corner_at m.z

  turned : pos 0 <ℤ side p y z
  turned = turn-side g.triangle (At p) m.y m.z g.turn (left-of planned sheet' g.index g.triangle g.at)

  abbrev enough : ℕ
  enough = 1 + unsigned_abs (weighted_side y z (both y z)) + bound (both y z) base.triangles

  abbrev x : Weighted
  x = near p y z enough

  inside : Inside p y z x
  inside = near-inside p y z enough turned (more (unsigned_abs (weighted_side y z (both y z))) (bound (both y z) base.triangles))
    where
      more : (n r : ℕ) → n < 1 + n + r
      more n r = omega arith

  some : pos 0 <ℤ x.weight
  some = many-some enough (pos 1) (pos 1 +ℤ pos 1) (more (unsigned_abs (weighted_side y z (both y z))) (bound (both y z) base.triangles)) (omega (arith, ints)) (omega (arith, ints))
    where
      more : (n r : ℕ) → 0 < 1 + n + r
      more n r = omega arith

  held : HasWithin base x
  held = covered_inside base sheet x some (closed-far planned (closed planned sheet') g.index g.triangle g.at x (turn-inside g.triangle (At p) m.y m.z x g.turn inside))

  abbrev s : Triangle
  s = held.triangle

  shared : Shared p y z (corner_at s.a) (corner_at s.b) (corner_at s.c)
  shared = nudged p y z (corner_at s.a) (corner_at s.b) (corner_at s.c) x some inside (record { ab = held.within.ab; bc = held.within.bc; ca = held.within.ca }) (left-of base sheet held.index s held.at)

  lost : is_in (gone base planned) s.a s.b s.c ≡ true
  lost = overlap-gone base planned sheet sheet' out (At p) m.y m.z g held.index s held.at shared.point shared.some
      (record { ab = shared.second.ab; bc = shared.second.bc; ca = shared.second.ca }) (turn-inside g.triangle (At p) m.y m.z shared.point g.turn shared.first)

  -- a destroyed triangle of the base covers p
  pub record Covered : Type 0 where
    pub index : ℕ
    pub triangle : Triangle
    pub at : slice_get base.triangles index ≡ Some triangle
    pub gone : is_in (gone base planned) triangle.a triangle.b triangle.c ≡ true
    pub ab : pos 0 ≤ℤ side (corner_at triangle.a) (corner_at triangle.b) p
    pub bc : pos 0 ≤ℤ side (corner_at triangle.b) (corner_at triangle.c) p
    pub ca : pos 0 ≤ℤ side (corner_at triangle.c) (corner_at triangle.a) p

  pub covered-by : Covered
  covered-by = record {
    index = held.index;
    triangle = s;
    at = held.at;
    gone = lost;
    ab = near-side (corner_at s.a) (corner_at s.b) p y z enough (less_a _ _ _ _ _ small) held.within.ab;
    bc = near-side (corner_at s.b) (corner_at s.c) p y z enough (less_b _ _ _ _ _ small) held.within.bc;
    ca = near-side (corner_at s.c) (corner_at s.a) p y z enough (less_c _ _ _ _ _ small) held.within.ca;
  }
    where
      small : size (both y z) s ≤ bound (both y z) base.triangles
      small = bounded (both y z) base.triangles held.index s held.at

      less_a : (a b c n r : ℕ) → a + b + c ≤ r → a < 1 + n + r
      less_a a b c n r h = omega (arith, h)

      less_b : (a b c n r : ℕ) → a + b + c ≤ r → b < 1 + n + r
      less_b a b c n r h = omega (arith, h)

      less_c : (a b c n r : ℕ) → a + b + c ≤ r → c < 1 + n + r
      less_c a b c n r h = omega (arith, h)

module _ (base planned : Net) (sheet : IsSheet base) (sheet' : IsSheet planned) (out : Encloses base planned) (p : Coords) (at_p : is_point base.points p ≡ true) (m : IsCornerOfGone planned base p) where
  c : Covered base planned sheet sheet' out p m
  c = covered-by base planned sheet sheet' out p m

  of-gone : IsCornerOfGone base planned p
  of-gone = by (sheet-only base sheet c.index c.triangle c.triangle.a c.triangle.b c.triangle.c c.at Still p at_p c.ab c.bc c.ca)
    where
      begins : (u v w : Corner) → IsTurn c.triangle u v w → At p ≡ u → IsCornerOfGone base planned p
      begins u v w turn e = record { y = v; z = w; there = subst (λ k. is_in (gone base planned) k v w ≡ true) (sym e) (in-turned (gone base planned) c.triangle c.triangle.a c.triangle.b c.triangle.c u v w Still turn c.gone) }

      by : (At p ≡ c.triangle.a) ⊎ ((At p ≡ c.triangle.b) ⊎ (At p ≡ c.triangle.c)) → IsCornerOfGone base planned p
      by (inl e) = begins c.triangle.a c.triangle.b c.triangle.c Still e
      by (inr (inl e)) = begins c.triangle.b c.triangle.c c.triangle.a Once e
      by (inr (inr e)) = begins c.triangle.c c.triangle.a c.triangle.b Twice e

pub corner_law : CornerLaw
corner_law base planned sheet sheet' out p at_p m = of-gone base planned sheet sheet' out p at_p m
