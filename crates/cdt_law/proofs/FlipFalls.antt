-- The volume below the lifted triangles falls with the flip of an illegal edge.
use Rattle.std.proofs.Common.{◌≡◌, ℕ, zero, suc, ◌^◌, ◌<◌, refl, sym, ap, ◌∙◌, arith, List, [], ◌∷◌}
use Rattle.std.specs.Prelude.{ℤ, pos, neg_ℤ, ◌+ℤ◌, ◌*ℤ◌, ◌<ℤ◌, ◌≤ℤ◌, unsigned_abs, Some, slice_get}
use Rattle.std.proofs.lemmas.Int.{ints}
use Rattle.ground_model.specs.declared.corner.Corner.{Corner}
use Rattle.ground_model.specs.declared.corner.Corner.TheVariants.{At, Far}
use Rattle.ground_model.specs.Side.{side}
use Rattle.ground_model.specs.Height.{base, top}
use Rattle.ground_model.specs.Lifted.{Lifted}
use Rattle.ground_model.specs.Corner.{corner_at, corner_side}
use Rattle.ground_model.proofs.Ring.{Expr, var, ◌⊕◌, ◌⊖◌, ◌⊗◌, ring}
use Rattle.ground_model.proofs.Circle.{sideE, side-turned}
use Rattle.predicates.specs.Sums.{total}
use Rattle.predicates.specs.Depth.{depth}
use Rattle.predicates.specs.Net.{Net, Triangle}
use Rattle.predicates.specs.Sheet.{IsSheet}
use Rattle.predicates.proofs.Signs.{mul-nonneg, weaken}
use Rattle.predicates.proofs.Heights.{lift, corner_height, deep}
use Rattle.predicates.proofs.Valid.{IsValid}
use Rattle.predicates.proofs.PlanesBelow.{height-low}
use Rattle.predicates.proofs.FarTriangle.{sheet-valid}
use Rattle.predicates.proofs.Tiling.{left-of}
use Rattle.predicates.proofs.Owners.{IsTurn, Still, Once, Twice}
use Rattle.predicates.proofs.HasTriangles.{turn-of}
use Rattle.cdt_law.specs.Flips.{IsFlip, height_over, volume_below, lifted_sum}
use Rattle.cdt_law.proofs.Exchanged.{total-exchanged}

-- ---- the volume of a triangle turned
over-is : (z : Corner) → height_over z ≡ corner_height z +ℤ pos (base ^ top)
over-is (At p) = refl
over-is (Far k) = refl

abbrev below : Corner → Corner → Corner → ℤ
below a b c = corner_side a b c *ℤ (height_over a +ℤ height_over b +ℤ height_over c)

below-turned : (a b c : Corner) → below a b c ≡ below b c a
below-turned a b c = (λ i. side-turned (corner_at a) (corner_at b) (corner_at c) i *ℤ (turned (height_over a) (height_over b) (height_over c) i))
  where
    turned : (x y z : ℤ) → x +ℤ y +ℤ z ≡ y +ℤ z +ℤ x
    turned x y z = omega (arith, ints)

turn-below : (t : Triangle) (a b c : Corner) → IsTurn t a b c → volume_below t ≡ below a b c
turn-below t a b c Still = refl
turn-below t a b c Once = below-turned t.a t.b t.c
turn-below t a b c Twice = sym (below-turned t.c t.a t.b)

-- ---- what a flip takes away is the depth
lowered-by : (a b c d : Lifted) (s : ℤ)
    → side a.at b.at c.at *ℤ ((a.height +ℤ s) +ℤ (b.height +ℤ s) +ℤ (c.height +ℤ s)) +ℤ side b.at a.at d.at *ℤ ((b.height +ℤ s) +ℤ (a.height +ℤ s) +ℤ (d.height +ℤ s))
    ≡ (side a.at d.at c.at *ℤ ((a.height +ℤ s) +ℤ (d.height +ℤ s) +ℤ (c.height +ℤ s)) +ℤ side d.at b.at c.at *ℤ ((d.height +ℤ s) +ℤ (b.height +ℤ s) +ℤ (c.height +ℤ s))) +ℤ depth a b c d
unfolding side depth
lowered-by a b c d s =
    ring (a.at.e ∷ a.at.n ∷ b.at.e ∷ b.at.n ∷ c.at.e ∷ c.at.n ∷ d.at.e ∷ d.at.n ∷ a.height ∷ b.height ∷ c.height ∷ d.height ∷ s ∷ [])
    (sideE 0 1 2 ⊗ (v 8 ⊕ v 9 ⊕ v 10) ⊕ sideE 1 0 3 ⊗ (v 9 ⊕ v 8 ⊕ v 11))
    ((sideE 0 3 2 ⊗ (v 8 ⊕ v 11 ⊕ v 10) ⊕ sideE 3 1 2 ⊗ (v 11 ⊕ v 9 ⊕ v 10)) ⊕ (var 8 ⊗ sideE 1 2 3 ⊕ var 9 ⊗ sideE 2 0 3 ⊕ var 10 ⊗ sideE 0 1 3 ⊖ var 11 ⊗ sideE 0 1 2)) refl
  where
    v : ℕ → Expr
    v i = var i ⊕ var 12

lowered : (a b c d : Lifted) (h i j k s : ℤ) → h ≡ a.height +ℤ s → i ≡ b.height +ℤ s → j ≡ c.height +ℤ s → k ≡ d.height +ℤ s
    → side a.at b.at c.at *ℤ (h +ℤ i +ℤ j) +ℤ side b.at a.at d.at *ℤ (i +ℤ h +ℤ k) ≡ (side a.at d.at c.at *ℤ (h +ℤ k +ℤ j) +ℤ side d.at b.at c.at *ℤ (k +ℤ i +ℤ j)) +ℤ depth a b c d
lowered a b c d h i j k s eh ei ej ek =
    (λ t. side a.at b.at c.at *ℤ (eh t +ℤ ei t +ℤ ej t) +ℤ side b.at a.at d.at *ℤ (ei t +ℤ eh t +ℤ ek t))
    ∙ lowered-by a b c d s
    ∙ sym (λ t. (side a.at d.at c.at *ℤ (eh t +ℤ ek t +ℤ ej t) +ℤ side d.at b.at c.at *ℤ (ek t +ℤ ei t +ℤ ej t)) +ℤ depth a b c d)

pub flip-volume : (net after : Net) (a b c d : Corner) → IsFlip net after a b c d → total volume_below net.triangles ≡ total volume_below after.triangles +ℤ deep a b c d
flip-volume net after a b c d f =
    sum (total volume_below after.triangles) (total volume_below net.triangles) (volume_below f.left.triangle) (volume_below f.right.triangle) (volume_below f.first) (volume_below f.second) (below a b c) (below b a d) (below a d c) (below d b c) (deep a b c d)
    (ap (λ ts. total volume_below ts +ℤ (volume_below f.left.triangle +ℤ volume_below f.right.triangle)) f.triangles
    ∙ total-exchanged volume_below net.triangles f.left.index f.right.index f.left.triangle f.right.triangle f.first f.second f.left.at f.right.at f.apart)
    (turn-below f.left.triangle a b c (turn-of a b c f.left.triangle f.left.is)) (turn-below f.right.triangle b a d (turn-of b a d f.right.triangle f.right.is))
    (turn-below f.first a d c (turn-of a d c f.first f.first_is)) (turn-below f.second d b c (turn-of d b c f.second f.second_is))
    (lowered (lift a) (lift b) (lift c) (lift d) (height_over a) (height_over b) (height_over c) (height_over d) (pos (base ^ top)) (over-is a) (over-is b) (over-is c) (over-is d))
  where
    sum : (s r t u x y t' u' x' y' d : ℤ) → s +ℤ (t +ℤ u) ≡ r +ℤ (x +ℤ y) → t ≡ t' → u ≡ u' → x ≡ x' → y ≡ y' → t' +ℤ u' ≡ (x' +ℤ y') +ℤ d → r ≡ s +ℤ d
    sum s r t u x y t' u' x' y' d e f g h i j = omega (arith, ints, e, f, g, h, i, j)

-- ---- no volume is negative
high : (z : Corner) → IsValid z → pos 0 ≤ℤ height_over z
high z v = up (height_over z) (corner_height z) (base ^ top) (over-is z) (height-low z v)
  where
    up : (x h : ℤ) (s : ℕ) → x ≡ h +ℤ pos s → neg_ℤ (pos s) ≤ℤ h → pos 0 ≤ℤ x
    up x h s e l = omega (arith, ints, e, l)

total-nonneg : {X : Type 0} (f : X → ℤ) (xs : List X) → ((k : ℕ) (x : X) → slice_get xs k ≡ Some x → pos 0 ≤ℤ f x) → pos 0 ≤ℤ total f xs
total-nonneg f [] each = omega (arith, ints)
total-nonneg f (x ∷ xs) each = sum (f x) (total f xs) (each zero x refl) (total-nonneg f xs (λ k y at. each (suc k) y at))
  where
    sum : (s t : ℤ) → pos 0 ≤ℤ s → pos 0 ≤ℤ t → pos 0 ≤ℤ (s +ℤ t)
    sum s t h k = omega (arith, ints, h, k)

sheet-volume : (net : Net) → IsSheet net → pos 0 ≤ℤ total volume_below net.triangles
sheet-volume net sheet = total-nonneg volume_below net.triangles (λ k t at.
    let v = sheet-valid net sheet k t at in
    mul-nonneg (corner_side t.a t.b t.c) (height_over t.a +ℤ height_over t.b +ℤ height_over t.c) (weaken (corner_side t.a t.b t.c) (left-of net sheet k t at))
    (three (height_over t.a) (height_over t.b) (height_over t.c) (high t.a v.a) (high t.b v.b) (high t.c v.c)))
  where
    three : (x y z : ℤ) → pos 0 ≤ℤ x → pos 0 ≤ℤ y → pos 0 ≤ℤ z → pos 0 ≤ℤ (x +ℤ y +ℤ z)
    three x y z h k l = omega (arith, ints, h, k, l)

pub sum-falls : (net after : Net) → IsSheet after → (a b c d : Corner) → IsFlip net after a b c d → pos 0 <ℤ deep a b c d → lifted_sum after < lifted_sum net
sum-falls net after sheet a b c d f deep_d =
    less (total volume_below after.triangles) (total volume_below net.triangles) (deep a b c d) (flip-volume net after a b c d f) (sheet-volume after sheet) deep_d
  where
    less : (s r d : ℤ) → r ≡ s +ℤ d → pos 0 ≤ℤ s → pos 0 <ℤ d → unsigned_abs s < unsigned_abs r
    less s r d e h k = omega (arith, ints, e, h, k)
