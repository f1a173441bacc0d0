-- Of the triangles at a place one alone has an edge into its angle.
use Rattle.std.specs.Prelude.{ℤ, pos, neg_ℤ, ◌+ℤ◌, ◌*ℤ◌, ◌<ℤ◌, ◌≤ℤ◌, unsigned_abs, Some, slice_get}
use Rattle.std.proofs.Common.{◌≡◌, ◌+◌, ℕ, List, [], ◌∷◌, refl, sym, ap, subst, ◌∙◌, arith}
use Rattle.std.proofs.lemmas.Int.{ints, by_lt_z}
use Rattle.ground_model.specs.declared.corner.Corner.{Corner}
use Rattle.ground_model.specs.declared.corner.Corner.TheVariants.{At}
use Rattle.ground_model.specs.declared.facet.Facet.{Facet}
use Rattle.ground_model.specs.Corner.{corner_at as place_of, corner_side}
use Rattle.ground_model.specs.Place.{Coords}
use Rattle.ground_model.specs.Side.{side}
use Rattle.ground_model.proofs.Circle.{env, sideE, side-turned}
use Rattle.ground_model.proofs.Ring.{◌⊕◌, ◌⊗◌, ring}
use Rattle.ground_model.proofs.ZOrder.{mul-positive}
use Rattle.predicates.specs.Net.{Net, Triangle}
use Rattle.predicates.specs.Sheet.{IsSheet}
use Rattle.predicates.specs.Weighted.{weighted_side, once, repeated}
use Rattle.predicates.proofs.FlatSides.{flat_bc, flat_ca, side-back}
use Rattle.predicates.proofs.NearCorners.{InNet, Left, Onward, in-side, met, spread, zero-times}
use Rattle.predicates.proofs.Nudged.{many-left, many-within}
use Rattle.predicates.proofs.OneOwner.{turned-third}
use Rattle.predicates.proofs.Owners.{IsTurn}
use Rattle.predicates.proofs.Signs.{level-up, mul-mixed, never-low, positive-along, weaken}
use Rattle.predicates.proofs.Tiling.{closed}
use Rattle.predicates.proofs.WeightedSides.{weighted_side-once, weighted_side-repeated}
use Rattle.tri_pages.specs.declared.tri_slot.TriSlot.{TriSlot}
use Rattle.tri_pages.specs.Slots.{State, triangle_at}
use Rattle.mesh.specs.Acrosses.{apex}
use Rattle.mesh.specs.Net.{Side, first, second, third, after, corner_at, edge, edge_of}
use Rattle.mesh.specs.Sheets.{net_in, IsSheetMesh}
use Rattle.mesh.proofs.Corners.{thrice}
use Rattle.mesh.proofs.InSheets.{in_net}
use Rattle.mesh.proofs.NamedEdges.{same_in}
use Rattle.mesh.proofs.NetOfMesh.{sheet_in}
use Rattle.mesh.proofs.SheetLaw.{standing}
use Rattle.locate.specs.Facets.{IsFacetAt, HasFacet, IsInAngle}

-- ---- b lies in the angle xay; where it lies on its first leg, the triangle abc lies on the side of y
crossed : (a x y b c : Coords) → side a x c *ℤ side a b y ≡ side a x b *ℤ side a c y +ℤ side a x y *ℤ side a b c
unfolding side
crossed a x y b c = ring (env (a ∷ x ∷ y ∷ b ∷ c ∷ [])) (sideE 0 1 4 ⊗ sideE 0 3 2) (sideE 0 1 3 ⊗ sideE 0 4 2 ⊕ sideE 0 1 2 ⊗ sideE 0 3 4) refl

same_side : (a x y b c : Coords) → pos 0 <ℤ side a x y → pos 0 <ℤ side a b c → pos 0 <ℤ side a b y → side a x b ≡ pos 0 → pos 0 <ℤ side a x c
same_side a x y b c turned left on flat =
    factor (side a x c) (side a b y) on
    (sum (side a x c *ℤ side a b y) (side a x b *ℤ side a c y) (side a x y *ℤ side a b c) (crossed a x y b c) (zero-times (side a x b) (side a c y) flat) (mul-positive (side a x y) (side a b c) turned left))
  where
    sum : (s t u : ℤ) → s ≡ t +ℤ u → t ≡ pos 0 → pos 0 <ℤ u → pos 0 <ℤ s
    sum s t u e f h = omega (arith, ints, e, f, h)

    swap : (x y : ℤ) → pos 0 <ℤ y → x ≤ℤ pos 0 → (x *ℤ y) ≤ℤ pos 0
    swap x y h k = omega (arith, ints, mul-mixed y x (weaken y h) k)

    factor : (x y : ℤ) → pos 0 <ℤ y → pos 0 <ℤ (x *ℤ y) → pos 0 <ℤ x
    factor x y h k = by_lt_z (pos 0) x (λ lt. lt) (λ le. absurd (never-low (x *ℤ y) k (swap x y h le)))

-- ---- so many times b as outweigh the sides of c
abbrev much : Coords → Coords → Coords → Coords → ℕ
much a x y c = 1 + unsigned_abs (weighted_side a x (repeated (pos 1) (once c))) + unsigned_abs (weighted_side y a (repeated (pos 1) (once c)))

one_side : (a b c : Coords) → weighted_side a b (repeated (pos 1) (once c)) ≡ pos 1 *ℤ side a b c
one_side a b c = weighted_side-repeated a b (pos 1) (once c) ∙ ap (λ s. pos 1 *ℤ s) (weighted_side-once a b c)

along_first : (a x y b c : Coords) → pos 0 <ℤ side a x y → pos 0 <ℤ side a b c → pos 0 <ℤ side a b y → pos 0 ≤ℤ side a x b → pos 0 <ℤ weighted_side a x (spread (much a x y c) 1 b c)
along_first a x y b c turned left on leg = by_lt_z (pos 0) (side a x b)
    (λ lt. many-left a x (much a x y c) (once b) (repeated (pos 1) (once c)) (omega arith) (positive-along (weighted_side a x (once b)) (side a x b) (weighted_side-once a x b) lt))
    (λ le.
    let flat = zero (side a x b) le leg in
    many-within a x (much a x y c) (once b) (repeated (pos 1) (once c)) (level-up (weighted_side a x (once b)) (weighted_side-once a x b ∙ flat)) (many (weighted_side a x (repeated (pos 1) (once c))) (side a x c) (one_side a x c) (same_side a x y b c turned left on flat)))
  where
    zero : (x : ℤ) → x ≤ℤ pos 0 → pos 0 ≤ℤ x → x ≡ pos 0
    zero x h k = omega (arith, ints, h, k)

    many : (s x : ℤ) → s ≡ pos 1 *ℤ x → pos 0 <ℤ x → pos 0 <ℤ s
    many s x e h = omega (arith, ints, e, h)

along_other : (a x y b c : Coords) → pos 0 <ℤ side a b y → pos 0 <ℤ weighted_side y a (spread (much a x y c) 1 b c)
along_other a x y b c on =
    many-left y a (much a x y c) (once b) (repeated (pos 1) (once c)) (omega arith)
    (positive-along (weighted_side y a (once b)) (side a b y) (weighted_side-once y a b ∙ side-turned y a b) on)

-- ---- two triangles of the net at a, where the one has an edge into the angle of the other: they are one
on_leg : (a b y : Coords) → side a y b <ℤ pos 0 → pos 0 <ℤ side a b y
on_leg a b y h = sum (side a y b) (side y b a) (side b y a) (side a b y) (side-turned a y b) (side-back y b a) (side-turned a b y) h
  where
    sum : (s t u v : ℤ) → s ≡ t → u ≡ neg_ℤ t → v ≡ u → s <ℤ pos 0 → pos 0 <ℤ v
    sum s t u v e f g h = omega (arith, ints, e, f, g, h)

one_index : (net : Net) → IsSheet net → (a : Coords) (b c x y : Corner) (t : InNet net (At a) b c) (u : InNet net (At a) x y)
    → pos 0 ≤ℤ corner_side (At a) x b → corner_side (At a) y b <ℤ pos 0 → t.index ≡ u.index
one_index net sheet a b c x y t u leg other =
    met net (closed net sheet) a b c (At a) x y t u (much a (place_of x) (place_of y) (place_of c)) 1 (omega arith) (omega arith)
    (Onward (flat_ca a (place_of x) a refl) (along_first a (place_of x) (place_of y) (place_of b) (place_of c) turned left on leg))
    (Left (positive-along (side (place_of x) (place_of y) a) (side a (place_of x) (place_of y)) (sym (side-turned a (place_of x) (place_of y))) turned))
    (Onward (flat_bc (place_of y) a a refl) (along_other a (place_of x) (place_of y) (place_of b) (place_of c) on))
  where
    turned : pos 0 <ℤ side a (place_of x) (place_of y)
    turned = in-side net (closed net sheet) (At a) x y u

    left : pos 0 <ℤ side a (place_of b) (place_of c)
    left = in-side net (closed net sheet) (At a) b c t

    on : pos 0 <ℤ side a (place_of b) (place_of y)
    on = on_leg a (place_of b) (place_of y) other

-- so their last corners are
one_third : (net : Net) → IsSheet net → (a : Coords) (b c x y : Corner) (t : InNet net (At a) b c) (u : InNet net (At a) x y)
    → pos 0 ≤ℤ corner_side (At a) x b → corner_side (At a) y b <ℤ pos 0 → y ≡ c
one_third net sheet a b c x y t u leg other =
    let index = one_index net sheet a b c x y t u leg other in
    let both : Some t.triangle ≡ Some u.triangle = sym t.at ∙ ap (slice_get net.triangles) index ∙ u.at in
    let one = same_in t.triangle u.triangle both in
    turned-third t.triangle (At a) b c (At a) x y t.turn (subst (λ (z : Triangle). IsTurn z (At a) x y) (sym one) u.turn) refl (in-side net (closed net sheet) (At a) b c t)

-- ---- of a mesh: the facet, where there is one, is the triangle whose angle its next corner lies in
pub three_on : (k : Side) → after (after (after k)) ≡ k
three_on first = refl
three_on second = refl
three_on third = refl

module _ (slots : List State) (m : IsSheetMesh slots) where
  -- two triangles with one last edge are one
  pub last_side : (s s' : ℕ) (k k' : Side) (t t' : TriSlot) → triangle_at slots s ≡ Some t → triangle_at slots s' ≡ Some t' → corner_at t k ≡ corner_at t' k' → apex t k ≡ apex t' k' → (s ≡ s') × (k ≡ k')
  last_side s s' k k' t t' here there a c =
      let same = m.mesh.net.one s s' (after (after k)) (after (after k')) (edge t (after (after k))) (edge t' (after (after k')))
      (ap (λ o. edge_of o (after (after k))) (standing slots m.mesh s t here)) (ap (λ o. edge_of o (after (after k'))) (standing slots m.mesh s' t' there))
      c (thrice t k ∙ a ∙ sym (thrice t' k')) in
      (same.0, sym (three_on k) ∙ ap after same.1 ∙ three_on k')

  -- of two triangles at a place the one has an edge into the angle of the other: they are one
  pub one_angle : (a : Coords) (s s' : ℕ) (k k' : Side) (t t' : TriSlot) → triangle_at slots s ≡ Some t → triangle_at slots s' ≡ Some t' → corner_at t k ≡ At a → corner_at t' k' ≡ At a
      → pos 0 ≤ℤ corner_side (At a) (corner_at t (after k)) (corner_at t' (after k')) → corner_side (At a) (apex t k) (corner_at t' (after k')) <ℤ pos 0 → (s ≡ s') × (k ≡ k')
  one_angle a s s' k k' t t' here there at_a at_a' leg other =
      last_side s s' k k' t t' here there (at_a ∙ sym at_a')
      (one_third (net_in slots) (sheet_in slots m) a (corner_at t' (after k')) (apex t' k') (corner_at t (after k)) (apex t k)
      (subst (λ (z : Corner). InNet (net_in slots) z (corner_at t' (after k')) (apex t' k')) at_a' (in_net slots m s' t' k' there))
      (subst (λ (z : Corner). InNet (net_in slots) z (corner_at t (after k)) (apex t k)) at_a (in_net slots m s t k here)) leg other)

  pub one_facet : (s : ℕ) (k : Side) (t : TriSlot) (f : Facet) → triangle_at slots s ≡ Some t → corner_at t k ≡ At f.a → IsInAngle t k f.b → (s' : ℕ) → HasFacet slots s' f → IsFacetAt t k f
  one_facet s k t f here a angle s' h =
      let x = h.is.is in
      let same = one_angle f.a s s' k h.is.side t h.tri here h.there a x.a
      (subst (λ z. z) (λ i. pos 0 ≤ℤ corner_side (a i) (corner_at t (after k)) (sym x.b i)) angle.first_leg)
      (subst (λ z. z) (λ i. corner_side (a i) (apex t k) (sym x.b i) <ℤ pos 0) angle.other_leg) in
      let tri = same_in t h.tri (sym here ∙ ap (triangle_at slots) same.0 ∙ h.there) in
      subst (λ z. z) (λ i. IsFacetAt (sym tri i) (sym same.1 i) f) x
