-- What lies strictly inside a triangle of the sheet lies strictly inside the far triangle.
use Rattle.std.proofs.Common.{◌≡◌, ℕ, zero, suc, ◌<◌, ◌⊎◌, inl, inr, refl, sym, subst, ◌∙◌, arith, List, true}
use Rattle.std.specs.Prelude.{ℤ, pos, ◌+ℤ◌, ◌*ℤ◌, ◌<ℤ◌, ◌≤ℤ◌, ◌&&◌, Some, slice_get}
use Rattle.std.specs.List.{All, list_any}
use Rattle.std.proofs.lemmas.Int.{ints, by_lt_z}
use Rattle.std.proofs.lemmas.Bool.{and_parts, ltb-true}
use Rattle.ground_model.specs.declared.corner.Corner.{Corner}
use Rattle.ground_model.specs.declared.corner.Corner.TheVariants.{At, Far}
use Rattle.ground_model.specs.Place.{Coords, IsPlace, is_same}
use Rattle.ground_model.specs.Side.{side}
use Rattle.ground_model.specs.Corner.{corner_at}
use Rattle.ground_model.proofs.Ties.{same_of_is_same}
use Rattle.ground_model.proofs.Elements.{any_gives, each_at}
use Rattle.ground_model.proofs.Circle.{side-turned}
use Rattle.ground_model.proofs.ZOrder.{mul-positive}
use Rattle.predicates.specs.Net.{Net, Triangle}
use Rattle.predicates.specs.Sheet.{IsSheet, IsClosed, is_over, are_over}
use Rattle.predicates.specs.Weighted.{Weighted, weighted_side}
use Rattle.predicates.specs.Tiling.{IsInside, far_triangle, Packs}
use Rattle.predicates.proofs.Signs.{mul-nonneg, mul-mixed, level-up, never-level, never-low, positive-along, weaken}
use Rattle.predicates.proofs.WeightedSides.{weighted_side-mixed}
use Rattle.predicates.proofs.FarSides.{f0, f1, f2, far-side01, far-side12, far-side20, far-turned}
use Rattle.predicates.proofs.Tiling.{each-passes, closed, closed-left, closed-packed}
use Rattle.predicates.proofs.FlatSides.{flat_ab, flat_bc, flat_ca}
use Rattle.predicates.proofs.Valid.{IsValid, Place, Far0, Far1, Far2}

-- z lies to the left of pq, or is one of the two
pub data Outer (p q z : Coords) : Type 0 where
  Left : pos 0 <ℤ side p q z → Outer p q z
  First : z ≡ p → Outer p q z
  Second : z ≡ q → Outer p q z

pub outer-nonneg : (p q z : Coords) → Outer p q z → pos 0 ≤ℤ side p q z
outer-nonneg p q z (Left h) = weaken (side p q z) h
outer-nonneg p q z (First e) = level-up (side p q z) (flat_ca p q z e)
outer-nonneg p q z (Second e) = level-up (side p q z) (flat_bc p q z (sym e))

-- ---- of three corners that turn one lies strictly to the left
some_left : (p q a b c : Coords) → pos 0 <ℤ side a b c → Outer p q a → Outer p q b → Outer p q c → (pos 0 <ℤ side p q a) ⊎ ((pos 0 <ℤ side p q b) ⊎ (pos 0 <ℤ side p q c))
some_left p q a b c h (Left x) y z = inl x
some_left p q a b c h x (Left y) z = inr (inl y)
some_left p q a b c h x y (Left z) = inr (inr z)
some_left p q a b c h (First x) (First y) z = absurd (never-level (side a b c) h (flat_ab a b c (x ∙ sym y)))
some_left p q a b c h (Second x) (Second y) z = absurd (never-level (side a b c) h (flat_ab a b c (x ∙ sym y)))
some_left p q a b c h (First x) (Second y) (First z) = absurd (never-level (side a b c) h (flat_ca a b c (z ∙ sym x)))
some_left p q a b c h (First x) (Second y) (Second z) = absurd (never-level (side a b c) h (flat_bc a b c (y ∙ sym z)))
some_left p q a b c h (Second x) (First y) (First z) = absurd (never-level (side a b c) h (flat_bc a b c (y ∙ sym z)))
some_left p q a b c h (Second x) (First y) (Second z) = absurd (never-level (side a b c) h (flat_ca a b c (z ∙ sym x)))

-- ---- a point strictly inside three such corners lies strictly to the left
positive_factor : (s w : ℤ) → pos 0 <ℤ s → pos 0 <ℤ (s *ℤ w) → pos 0 <ℤ w
positive_factor s w h k = by_lt_z (pos 0) w (λ lt. lt) (λ le. absurd (never-low (s *ℤ w) k (mul-mixed s w (weaken s h) le)))

mixed-left : (p q a b c : Coords) (x : Weighted) → pos 0 <ℤ side a b c → pos 0 <ℤ weighted_side b c x → pos 0 <ℤ weighted_side c a x → pos 0 <ℤ weighted_side a b x
    → Outer p q a → Outer p q b → Outer p q c → pos 0 <ℤ weighted_side p q x
mixed-left p q a b c x turned la lb lc oa ob oc =
    positive_factor (side a b c) (weighted_side p q x) turned (by (some_left p q a b c turned oa ob oc))
  where
    na : pos 0 ≤ℤ (weighted_side b c x *ℤ side p q a)
    na = mul-nonneg (weighted_side b c x) (side p q a) (weaken (weighted_side b c x) la) (outer-nonneg p q a oa)

    nb : pos 0 ≤ℤ (weighted_side c a x *ℤ side p q b)
    nb = mul-nonneg (weighted_side c a x) (side p q b) (weaken (weighted_side c a x) lb) (outer-nonneg p q b ob)

    nc : pos 0 ≤ℤ (weighted_side a b x *ℤ side p q c)
    nc = mul-nonneg (weighted_side a b x) (side p q c) (weaken (weighted_side a b x) lc) (outer-nonneg p q c oc)

    sum_a : (s u v w : ℤ) → s ≡ u +ℤ v +ℤ w → pos 0 <ℤ u → pos 0 ≤ℤ v → pos 0 ≤ℤ w → pos 0 <ℤ s
    sum_a s u v w e h k l = omega (arith, ints, e, h, k, l)

    sum_b : (s u v w : ℤ) → s ≡ u +ℤ v +ℤ w → pos 0 ≤ℤ u → pos 0 <ℤ v → pos 0 ≤ℤ w → pos 0 <ℤ s
    sum_b s u v w e h k l = omega (arith, ints, e, h, k, l)

    sum_c : (s u v w : ℤ) → s ≡ u +ℤ v +ℤ w → pos 0 ≤ℤ u → pos 0 ≤ℤ v → pos 0 <ℤ w → pos 0 <ℤ s
    sum_c s u v w e h k l = omega (arith, ints, e, h, k, l)

    by : (pos 0 <ℤ side p q a) ⊎ ((pos 0 <ℤ side p q b) ⊎ (pos 0 <ℤ side p q c)) → pos 0 <ℤ (side a b c *ℤ weighted_side p q x)
    by (inl h) = sum_a (side a b c *ℤ weighted_side p q x) (weighted_side b c x *ℤ side p q a) (weighted_side c a x *ℤ side p q b) (weighted_side a b x *ℤ side p q c) (weighted_side-mixed p q a b c x) (mul-positive (weighted_side b c x) (side p q a) la h) nb nc
    by (inr (inl h)) = sum_b (side a b c *ℤ weighted_side p q x) (weighted_side b c x *ℤ side p q a) (weighted_side c a x *ℤ side p q b) (weighted_side a b x *ℤ side p q c) (weighted_side-mixed p q a b c x) na (mul-positive (weighted_side c a x) (side p q b) lb h) nc
    by (inr (inr h)) = sum_c (side a b c *ℤ weighted_side p q x) (weighted_side b c x *ℤ side p q a) (weighted_side c a x *ℤ side p q b) (weighted_side a b x *ℤ side p q c) (weighted_side-mixed p q a b c x) na nb (mul-positive (weighted_side a b x) (side p q c) lc h)

-- ---- the corners of a sheet
pub outer01 : (z : Corner) → IsValid z → Outer f0 f1 (corner_at z)
outer01 z (Place p h) = Left (far-side01 p h)
outer01 z Far0 = First refl
outer01 z Far1 = Second refl
outer01 z Far2 = Left far-turned

pub outer12 : (z : Corner) → IsValid z → Outer f1 f2 (corner_at z)
outer12 z (Place p h) = Left (far-side12 p h)
outer12 z Far0 = Left (positive-along (side f1 f2 f0) (side f0 f1 f2) (sym (side-turned f0 f1 f2)) far-turned)
outer12 z Far1 = First refl
outer12 z Far2 = Second refl

pub outer20 : (z : Corner) → IsValid z → Outer f2 f0 (corner_at z)
outer20 z (Place p h) = Left (far-side20 p h)
outer20 z Far0 = Second refl
outer20 z Far1 = Left (positive-along (side f2 f0 f1) (side f0 f1 f2) (side-turned f2 f0 f1) far-turned)
outer20 z Far2 = First refl

pub listed-place : (ps : List Coords) → All IsPlace ps → (p : Coords) → list_any (is_same p) ps ≡ true → IsPlace p
listed-place ps all p e =
    let found = any_gives (is_same p) ps e in
    subst IsPlace (sym (same_of_is_same p found.0 found.2)) (each_at IsPlace ps found.0 all found.1)

pub closed-corner : (net : Net) → IsClosed net → (z : Corner) → is_over net.points z ≡ true → IsValid z
closed-corner net closed (At p) e = Place p (listed-place net.points closed.places p e)
closed-corner net closed (Far zero) e = Far0
closed-corner net closed (Far (suc zero)) e = Far1
closed-corner net closed (Far (suc (suc zero))) e = Far2
closed-corner net closed (Far (suc (suc (suc k)))) e = absurd (beyond k (ltb-true (suc (suc (suc k))) 3 e))
  where
    beyond : (k : ℕ) → suc (suc (suc k)) < 3 → ⊥
    beyond k h = omega (arith, h)

pub record AreValid (t : Triangle) : Type 0 where
  pub a : IsValid t.a
  pub b : IsValid t.b
  pub c : IsValid t.c

pub closed-valid : (net : Net) → IsClosed net → (k : ℕ) (t : Triangle) → slice_get net.triangles k ≡ Some t → AreValid t
closed-valid net closed k t at =
    let over = each-passes (are_over net.points) net.triangles closed.over k t at in
    let front = and_parts (is_over net.points t.a && is_over net.points t.b) (is_over net.points t.c) over in
    let first = and_parts (is_over net.points t.a) (is_over net.points t.b) front.0 in
    record { a = closed-corner net closed t.a first.0; b = closed-corner net closed t.b first.1; c = closed-corner net closed t.c front.1 }

-- strictly inside a triangle of the sheet is strictly inside the far triangle
pub closed-far : (net : Net) → IsClosed net → (k : ℕ) (t : Triangle) → slice_get net.triangles k ≡ Some t → (x : Weighted) → IsInside t x → IsInside far_triangle x
closed-far net closed k t at x h =
    let v = closed-valid net closed k t at in
    let turned = closed-left net closed k t at in
    record {
      ab = mixed-left f0 f1 (corner_at t.a) (corner_at t.b) (corner_at t.c) x turned h.bc h.ca h.ab (outer01 t.a v.a) (outer01 t.b v.b) (outer01 t.c v.c);
      bc = mixed-left f1 f2 (corner_at t.a) (corner_at t.b) (corner_at t.c) x turned h.bc h.ca h.ab (outer12 t.a v.a) (outer12 t.b v.b) (outer12 t.c v.c);
      ca = mixed-left f2 f0 (corner_at t.a) (corner_at t.b) (corner_at t.c) x turned h.bc h.ca h.ab (outer20 t.a v.a) (outer20 t.b v.b) (outer20 t.c v.c);
    }

-- no weighted point lies strictly inside two triangles
pub closed-packs : (net : Net) → IsClosed net → (x : Weighted) → pos 0 <ℤ x.weight
    → (j k : ℕ) (t u : Triangle) → slice_get net.triangles j ≡ Some t → slice_get net.triangles k ≡ Some u → IsInside t x → IsInside u x → j ≡ k
closed-packs net closed x some j k t u at_t at_u in_t in_u =
    closed-packed net closed x some (closed-far net closed j t at_t x in_t) j k t u at_t at_u in_t in_u

-- ---- a sheet is closed
pub sheet-valid : (net : Net) → IsSheet net → (k : ℕ) (t : Triangle) → slice_get net.triangles k ≡ Some t → AreValid t
sheet-valid net sheet = closed-valid net (closed net sheet)

pub packed : Packs
packed net sheet = closed-packs net (closed net sheet)
