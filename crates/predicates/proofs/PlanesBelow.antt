-- Through each lifted corner goes a plane that lies below all other lifted corners.
use Rattle.std.proofs.Common.{◌≡◌, ℕ, zero, suc, ◌*◌, ◌^◌, ◌-◌, ◌≤◌, ◌<◌, refl, sym, ap, ◌∙◌, arith, [], ◌∷◌}
use Rattle.std.specs.Prelude.{ℤ, pos, negsuc, neg_ℤ, ◌+ℤ◌, ◌-ℤ◌, ◌*ℤ◌, ◌<ℤ◌, ◌≤ℤ◌, unsigned_abs}
use Rattle.std.proofs.lemmas.Int.{ints}
use Rattle.std.proofs.lemmas.Nat.{pow-add}
use Rattle.std.proofs.Math.Nat.{one-le-pow}
use Rattle.ground_model.specs.declared.corner.Corner.{Corner}
use Rattle.ground_model.specs.declared.corner.Corner.TheVariants.{At, Far}
use Rattle.ground_model.specs.Place.{Coords, IsPlace}
use Rattle.ground_model.specs.Side.{side}
use Rattle.ground_model.specs.Height.{base, top, code, square, height}
use Rattle.ground_model.specs.Lifted.{Lifted}
use Rattle.ground_model.specs.Corner.{corner_at, direction, far, far_height}
use Rattle.ground_model.proofs.Ring.{var, num, ◌⊕◌, ◌⊖◌, ◌⊗◌, ring}
use Rattle.ground_model.proofs.ZOrder.{size-mul, next_power}
use Rattle.ground_model.proofs.Circle.{sideE, same_coords, side-turned}
use Rattle.ground_model.proofs.Lifted.{base_is, top_is, lowering, code_range}
use Rattle.predicates.proofs.FarNumbers.{outgrows, far_is, height0_is, height1_is, height2_is}
use Rattle.predicates.proofs.FarSides.{f0, f1, f2, far-side01, far-side12, far-side20, far-turned, far-large}
use Rattle.predicates.proofs.Valid.{IsValid, Place, Far0, Far1, Far2}
use Rattle.predicates.proofs.OneEdgeBeyond.{excess}
use Rattle.predicates.proofs.Heights.{lift, corner_height}
use Rattle.predicates.proofs.Signs.{positive-along}
use Rattle.predicates.proofs.FlatSides.{flat_bc, flat_ca}

-- ---- the numbers of places
some_base : 0 < base
some_base = omega (arith, base_is)

-- what outweighs the lowerings
abbrev pub scale : ℕ
scale = base ^ top

pub lowering-small : (p : Coords) → IsPlace p → lowering p < scale
lowering-small p h =
    let range = code_range p h in
    less base (lowering p) scale base_is (one-le-pow (top - code p) base some_base) (next_power base top (top - code p) some_base (omega (arith, top_is, range)))
  where
    less : (b l s : ℕ) → b ≡ 2 ^ 64 → 1 ≤ l → b * l ≤ s → l < s
    less b l s e some le =
        let e' : b * l ≡ 2 ^ 64 * l = ap (λ k. k * l) e in
        omega (arith, e', some, le)

pub height_is : (p : Coords) → height p ≡ square p *ℤ pos scale -ℤ pos (lowering p)
unfolding height
height_is p = refl

-- a positive multiple is not less
times : (q : ℤ) (s : ℕ) → pos 0 <ℤ q → pos s ≤ℤ (q *ℤ pos s)
times (pos zero) s h = absurd (omega (arith, ints, h))
times (pos (suc n)) s h = omega (arith, ints)
times (negsuc n) s h = absurd (omega (arith, ints, h))

-- ---- a plane through a place
gap-square : (x y : ℤ) → (x ≡ pos 0 → y ≡ pos 0 → ⊥) → pos 0 <ℤ (x *ℤ x +ℤ y *ℤ y)
gap-square (pos zero) (pos zero) h = absurd (h refl refl)
gap-square (pos zero) (pos (suc n)) h = omega (arith, ints)
gap-square (pos zero) (negsuc n) h = omega (arith, ints)
gap-square (pos (suc m)) (pos n) h = omega (arith, ints)
gap-square (pos (suc m)) (negsuc n) h = omega (arith, ints)
gap-square (negsuc m) (pos n) h = omega (arith, ints)
gap-square (negsuc m) (negsuc n) h = omega (arith, ints)

-- the plane that touches the squares' surface over b
abbrev touching : ℤ → Coords → Coords → ℤ → ℤ → ℤ
touching s b x lb lx = (square x *ℤ s -ℤ lx) -ℤ (square b *ℤ s -ℤ lb) -ℤ (pos 2 *ℤ (s *ℤ b.e)) *ℤ (x.e -ℤ b.e) -ℤ (pos 2 *ℤ (s *ℤ b.n)) *ℤ (x.n -ℤ b.n)

touching-is : (s : ℤ) (b x : Coords) (lb lx : ℤ) → touching s b x lb lx ≡ ((x.e -ℤ b.e) *ℤ (x.e -ℤ b.e) +ℤ (x.n -ℤ b.n) *ℤ (x.n -ℤ b.n)) *ℤ s -ℤ lx +ℤ lb
touching-is s b x lb lx =
    ring (b.e ∷ b.n ∷ x.e ∷ x.n ∷ s ∷ lb ∷ lx ∷ [])
    ((((var 2 ⊗ var 2 ⊕ var 3 ⊗ var 3) ⊗ var 4 ⊖ var 6) ⊖ ((var 0 ⊗ var 0 ⊕ var 1 ⊗ var 1) ⊗ var 4 ⊖ var 5)) ⊖ (num (pos 2) ⊗ (var 4 ⊗ var 0)) ⊗ (var 2 ⊖ var 0) ⊖ (num (pos 2) ⊗ (var 4 ⊗ var 1)) ⊗ (var 3 ⊖ var 1))
    (((var 2 ⊖ var 0) ⊗ (var 2 ⊖ var 0) ⊕ (var 3 ⊖ var 1) ⊗ (var 3 ⊖ var 1)) ⊗ var 4 ⊖ var 6 ⊕ var 5) refl

-- how a plane through a corner leans
abbrev pub lean_e : Corner → ℤ
lean_e (At b) = pos 2 *ℤ (pos scale *ℤ b.e)
lean_e (Far zero) = pos (base ^ (25 * top)) *ℤ (f1.n -ℤ f2.n)
lean_e (Far (suc zero)) = pos (base ^ (25 * top)) *ℤ (f2.n -ℤ f0.n)
lean_e (Far (suc (suc k))) = pos (base ^ (25 * top)) *ℤ (f0.n -ℤ f1.n)

abbrev pub lean_n : Corner → ℤ
lean_n (At b) = pos 2 *ℤ (pos scale *ℤ b.n)
lean_n (Far zero) = pos (base ^ (25 * top)) *ℤ (f2.e -ℤ f1.e)
lean_n (Far (suc zero)) = pos (base ^ (25 * top)) *ℤ (f0.e -ℤ f2.e)
lean_n (Far (suc (suc k))) = pos (base ^ (25 * top)) *ℤ (f1.e -ℤ f0.e)

place_over_place : (b x : Coords) → IsPlace x → (x ≡ b → ⊥) → pos 0 <ℤ excess (lift (At b)) (lean_e (At b)) (lean_n (At b)) (lift (At x))
place_over_place b x hx differ =
    over (excess (lift (At b)) (lean_e (At b)) (lean_n (At b)) (lift (At x))) ((x.e -ℤ b.e) *ℤ (x.e -ℤ b.e) +ℤ (x.n -ℤ b.n) *ℤ (x.n -ℤ b.n)) scale (lowering x) (lowering b)
    ((λ i. height_is x i -ℤ height_is b i -ℤ (pos 2 *ℤ (pos scale *ℤ b.e)) *ℤ (x.e -ℤ b.e) -ℤ (pos 2 *ℤ (pos scale *ℤ b.n)) *ℤ (x.n -ℤ b.n)) ∙ touching-is (pos scale) b x (pos (lowering b)) (pos (lowering x)))
    (gap-square (x.e -ℤ b.e) (x.n -ℤ b.n) apart) (lowering-small x hx)
  where
    equal : (s t : ℤ) → s -ℤ t ≡ pos 0 → s ≡ t
    equal s t e = omega (arith, ints, e)

    apart : x.e -ℤ b.e ≡ pos 0 → x.n -ℤ b.n ≡ pos 0 → ⊥
    apart f g = differ (same_coords x b (equal x.e b.e f) (equal x.n b.n g))

    sum : (z p : ℤ) (s l m : ℕ) → z ≡ p -ℤ pos l +ℤ pos m → pos s ≤ℤ p → l < s → pos 0 <ℤ z
    sum z p s l m e h k = omega (arith, ints, e, h, k)

    over : (z q : ℤ) (s l m : ℕ) → z ≡ q *ℤ pos s -ℤ pos l +ℤ pos m → pos 0 <ℤ q → l < s → pos 0 <ℤ z
    over z q s l m e h k = sum z (q *ℤ pos s) s l m e (times q s h) k

-- ---- and far corners over it
square-size : (p : Coords) → IsPlace p → unsigned_abs (square p) ≤ 2 ^ 59
square-size p h = sum (p.e *ℤ p.e) (p.n *ℤ p.n) (size-mul p.e p.e (2 ^ 29) (2 ^ 29) he he) (size-mul p.n p.n (2 ^ 29) (2 ^ 29) hn hn)
  where
    he : unsigned_abs p.e ≤ 2 ^ 29
    he = omega (arith, ints, h.west, h.east)

    hn : unsigned_abs p.n ≤ 2 ^ 29
    hn = omega (arith, ints, h.south, h.north)

    sum : (x y : ℤ) → unsigned_abs x ≤ 2 ^ 58 → unsigned_abs y ≤ 2 ^ 58 → unsigned_abs (x +ℤ y) ≤ 2 ^ 59
    sum x y h k = omega (arith, ints, h, k)

pub height-size : (p : Coords) → IsPlace p → unsigned_abs (height p) ≤ 2 ^ 60 * scale
height-size p h = by (height p) (square p *ℤ pos scale) scale (lowering p) (height_is p) (size-mul (square p) (pos scale) (2 ^ 59) scale (square-size p h) (omega arith)) (lowering-small p h)
  where
    by : (z q : ℤ) (s l : ℕ) → z ≡ q -ℤ pos l → unsigned_abs q ≤ 2 ^ 59 * s → l < s → unsigned_abs z ≤ 2 ^ 60 * s
    by z q s l e h k = omega (arith, ints, e, h, k)

swapped : (x : ℤ) (f : ℕ) → unsigned_abs x ≤ f * 2 ^ 32 → unsigned_abs x ≤ 2 ^ 32 * f
swapped x f h = omega (arith, h)

-- the coordinates of corners
pub corner-size : (z : Corner) → IsValid z → (unsigned_abs (corner_at z).e ≤ 2 ^ 32 * far) × (unsigned_abs (corner_at z).n ≤ 2 ^ 32 * far)
corner-size z (Place p h) = (near p.e far far-large (omega (arith, ints, h.west, h.east)), near p.n far far-large (omega (arith, ints, h.south, h.north)))
  where
    near : (x : ℤ) (f : ℕ) → 2 ^ 64 ≤ f → unsigned_abs x ≤ 2 ^ 29 → unsigned_abs x ≤ 2 ^ 32 * f
    near x f h k = omega (arith, h, k)
corner-size z Far0 = (swapped ((pos far) *ℤ (direction 0).e) far (size-mul (pos far) (direction 0).e far (2 ^ 32) (omega arith) (omega arith)), swapped ((pos far) *ℤ (direction 0).n) far (size-mul (pos far) (direction 0).n far (2 ^ 32) (omega arith) (omega arith)))
corner-size z Far1 = (swapped ((pos far) *ℤ (direction 1).e) far (size-mul (pos far) (direction 1).e far (2 ^ 32) (omega arith) (omega arith)), swapped ((pos far) *ℤ (direction 1).n) far (size-mul (pos far) (direction 1).n far (2 ^ 32) (omega arith) (omega arith)))
corner-size z Far2 = (swapped ((pos far) *ℤ (direction 2).e) far (size-mul (pos far) (direction 2).e far (2 ^ 32) (omega arith) (omega arith)), swapped ((pos far) *ℤ (direction 2).n) far (size-mul (pos far) (direction 2).n far (2 ^ 32) (omega arith) (omega arith)))

-- the height of a far corner outweighs every plane through a place
far_over_place : (b x : Coords) (h : ℕ) → IsPlace b → (unsigned_abs x.e ≤ 2 ^ 32 * far) × (unsigned_abs x.n ≤ 2 ^ 32 * far) → 2 ^ 120 * base ^ (3 * top) < h
    → pos 0 <ℤ excess (lift (At b)) (lean_e (At b)) (lean_n (At b)) (record { at = x; height = pos h })
far_over_place b x h hb size high =
    rest (height b) ((pos 2 *ℤ (pos scale *ℤ b.e)) *ℤ (x.e -ℤ b.e)) ((pos 2 *ℤ (pos scale *ℤ b.n)) *ℤ (x.n -ℤ b.n)) scale (scale * far) h (base ^ (3 * top)) both (least far scale far-large)
    (height-size b hb)
    (product b.e x.e (omega (arith, ints, hb.west, hb.east)) size.0) (product b.n x.n (omega (arith, ints, hb.south, hb.north)) size.1) high
  where
    both : scale * far ≡ base ^ (3 * top)
    both = ap (λ k. scale * k) far_is ∙ sym (pow-add base top (2 * top)) ∙ ap (λ k. base ^ k) (omega arith)

    least : (f s : ℕ) → 2 ^ 64 ≤ f → s ≤ s * f
    least zero s h = absurd (omega (arith, h))
    least (suc f) s h = omega arith

    gap : (x b : ℤ) (f : ℕ) → 2 ^ 64 ≤ f → unsigned_abs b ≤ 2 ^ 29 → unsigned_abs x ≤ 2 ^ 32 * f → unsigned_abs (x -ℤ b) ≤ 2 ^ 33 * f
    gap x b f l h k = omega (arith, ints, l, h, k)

    double : (y : ℤ) (s : ℕ) → unsigned_abs y ≤ s * 2 ^ 29 → unsigned_abs (pos 2 *ℤ y) ≤ 2 ^ 30 * s
    double y s h = omega (arith, ints, h)

    flat : (p : ℤ) (s f : ℕ) → unsigned_abs p ≤ 2 ^ 30 * s * (2 ^ 33 * f) → unsigned_abs p ≤ 2 ^ 63 * (s * f)
    flat p s f h = omega (arith, h)

    product : (y z : ℤ) → unsigned_abs y ≤ 2 ^ 29 → unsigned_abs z ≤ 2 ^ 32 * far → unsigned_abs ((pos 2 *ℤ (pos scale *ℤ y)) *ℤ (z -ℤ y)) ≤ 2 ^ 63 * (scale * far)
    product y z h k =
        flat ((pos 2 *ℤ (pos scale *ℤ y)) *ℤ (z -ℤ y)) scale far
        (size-mul (pos 2 *ℤ (pos scale *ℤ y)) (z -ℤ y) (2 ^ 30 * scale) (2 ^ 33 * far)
        (double (pos scale *ℤ y) scale (size-mul (pos scale) y scale (2 ^ 29) (omega arith) h)) (gap z y far far-large h k))

    rest : (hb p q : ℤ) (s t h w : ℕ) → t ≡ w → s ≤ t → unsigned_abs hb ≤ 2 ^ 60 * s → unsigned_abs p ≤ 2 ^ 63 * t → unsigned_abs q ≤ 2 ^ 63 * t → 2 ^ 120 * w < h → pos 0 <ℤ (pos h -ℤ hb -ℤ p -ℤ q)
    rest hb p q s t h w e le a b c d = omega (arith, ints, e, le, a, b, c, d)

-- ---- a plane through a far corner
-- how far x is above the steep plane through b
steep-is : (i j : Coords) (b x : Lifted) (w : ℤ) → excess b (w *ℤ (j.n -ℤ i.n)) (w *ℤ (i.e -ℤ j.e)) x ≡ (side i b.at x.at +ℤ side b.at j x.at) *ℤ w +ℤ x.height -ℤ b.height
unfolding side
steep-is i j b x w =
    ring (i.e ∷ i.n ∷ b.at.e ∷ b.at.n ∷ j.e ∷ j.n ∷ x.at.e ∷ x.at.n ∷ b.height ∷ x.height ∷ w ∷ [])
    (var 9 ⊖ var 8 ⊖ (var 10 ⊗ (var 5 ⊖ var 1)) ⊗ (var 6 ⊖ var 2) ⊖ (var 10 ⊗ (var 0 ⊖ var 4)) ⊗ (var 7 ⊖ var 3))
    ((sideE 0 1 3 ⊕ sideE 1 2 3) ⊗ var 10 ⊕ var 9 ⊖ var 8) refl

above : (h s : ℕ) → neg_ℤ (pos s) ≤ℤ pos h
above h s = omega (arith, ints)

-- heights are not far below zero
pub height-low : (z : Corner) → IsValid z → neg_ℤ (pos scale) ≤ℤ corner_height z
height-low z (Place p h) = by (height p) (square p *ℤ pos scale) scale (lowering p) (height_is p) (nonneg (square p) scale (squares p.e p.n)) (lowering-small p h)
  where
    by : (z q : ℤ) (s l : ℕ) → z ≡ q -ℤ pos l → pos 0 ≤ℤ q → l < s → neg_ℤ (pos s) ≤ℤ z
    by z q s l e h k = omega (arith, ints, e, h, k)

    nonneg : (q : ℤ) (s : ℕ) → pos 0 ≤ℤ q → pos 0 ≤ℤ (q *ℤ pos s)
    nonneg (pos n) s h = omega (arith, ints)
    nonneg (negsuc n) s h = absurd (omega (arith, ints, h))

    one : (x : ℤ) → pos 0 ≤ℤ (x *ℤ x)
    one (pos n) = omega (arith, ints)
    one (negsuc n) = omega (arith, ints)

    sum : (x y : ℤ) → pos 0 ≤ℤ x → pos 0 ≤ℤ y → pos 0 ≤ℤ (x +ℤ y)
    sum x y h k = omega (arith, ints, h, k)

    squares : (x y : ℤ) → pos 0 ≤ℤ (x *ℤ x +ℤ y *ℤ y)
    squares x y = sum (x *ℤ x) (y *ℤ y) (one x) (one y)
height-low z Far0 = above (far_height 0) scale
height-low z Far1 = above (far_height 1) scale
height-low z Far2 = above (far_height 2) scale

-- a steep plane through a far corner, whose height is h, is below what lies on the inner side
steep-over : (i j : Coords) (b : Lifted) (x : Corner) (h : ℕ) → IsValid x → b.height ≡ pos h → h ≤ base ^ (24 * top) → pos 0 <ℤ (side i b.at (corner_at x) +ℤ side b.at j (corner_at x))
    → pos 0 <ℤ excess b (pos (base ^ (25 * top)) *ℤ (j.n -ℤ i.n)) (pos (base ^ (25 * top)) *ℤ (i.e -ℤ j.e)) (lift x)
steep-over i j b x h v eh le inner =
    over (excess b (pos (base ^ (25 * top)) *ℤ (j.n -ℤ i.n)) (pos (base ^ (25 * top)) *ℤ (i.e -ℤ j.e)) (lift x)) (side i b.at (corner_at x) +ℤ side b.at j (corner_at x)) (base ^ (25 * top)) (corner_height x) b.height
    h scale (base ^ (24 * top)) (steep-is i j b (lift x) (pos (base ^ (25 * top)))) inner (height-low x v) eh le
    (outgrows (24 * top) (25 * top) (omega (arith, top_is))) (outgrows top (24 * top) (omega (arith, top_is)))
  where
    sum : (z p hx hb : ℤ) (w h s m : ℕ) → z ≡ p +ℤ hx -ℤ hb → pos w ≤ℤ p → neg_ℤ (pos s) ≤ℤ hx → hb ≡ pos h → h ≤ m → 2 ^ 120 * m < w → 2 ^ 120 * s < m → pos 0 <ℤ z
    sum z p hx hb w h s m e a b c d f g = omega (arith, ints, e, a, b, c, d, f, g)

    over : (z q : ℤ) (w : ℕ) (hx hb : ℤ) (h s m : ℕ) → z ≡ q *ℤ pos w +ℤ hx -ℤ hb → pos 0 <ℤ q → neg_ℤ (pos s) ≤ℤ hx → hb ≡ pos h → h ≤ m → 2 ^ 120 * m < w → 2 ^ 120 * s < m → pos 0 <ℤ z
    over z q w hx hb h s m e a b c d f g = sum z (q *ℤ pos w) hx hb w h s m e (times q w a) b c d f g

-- ---- the inner side of the two edges at a far corner
both-left : (s t : ℤ) → pos 0 <ℤ s → pos 0 <ℤ t → pos 0 <ℤ (s +ℤ t)
both-left s t h k = omega (arith, ints, h, k)

first-level : (s t : ℤ) → s ≡ pos 0 → pos 0 <ℤ t → pos 0 <ℤ (s +ℤ t)
first-level s t h k = omega (arith, ints, h, k)

second-level : (s t : ℤ) → pos 0 <ℤ s → t ≡ pos 0 → pos 0 <ℤ (s +ℤ t)
second-level s t h k = omega (arith, ints, h, k)

turned12 : pos 0 <ℤ side f0 f1 f2 → pos 0 <ℤ side f1 f2 f0
turned12 h = positive-along (side f1 f2 f0) (side f0 f1 f2) (sym (side-turned f0 f1 f2)) h

turned20 : pos 0 <ℤ side f0 f1 f2 → pos 0 <ℤ side f2 f0 f1
turned20 h = positive-along (side f2 f0 f1) (side f0 f1 f2) (side-turned f2 f0 f1) h

over_far0 : (x : Corner) → IsValid x → (x ≡ Far 0 → ⊥) → pos 0 <ℤ (side f2 f0 (corner_at x) +ℤ side f0 f1 (corner_at x))
over_far0 x (Place p h) differ = both-left (side f2 f0 p) (side f0 f1 p) (far-side20 p h) (far-side01 p h)
over_far0 x Far0 differ = absurd (differ refl)
over_far0 x Far1 differ = second-level (side f2 f0 f1) (side f0 f1 f1) (turned20 far-turned) (flat_bc f0 f1 f1 refl)
over_far0 x Far2 differ = first-level (side f2 f0 f2) (side f0 f1 f2) (flat_ca f2 f0 f2 refl) far-turned

over_far1 : (x : Corner) → IsValid x → (x ≡ Far 1 → ⊥) → pos 0 <ℤ (side f0 f1 (corner_at x) +ℤ side f1 f2 (corner_at x))
over_far1 x (Place p h) differ = both-left (side f0 f1 p) (side f1 f2 p) (far-side01 p h) (far-side12 p h)
over_far1 x Far0 differ = first-level (side f0 f1 f0) (side f1 f2 f0) (flat_ca f0 f1 f0 refl) (turned12 far-turned)
over_far1 x Far1 differ = absurd (differ refl)
over_far1 x Far2 differ = second-level (side f0 f1 f2) (side f1 f2 f2) far-turned (flat_bc f1 f2 f2 refl)

over_far2 : (x : Corner) → IsValid x → (x ≡ Far 2 → ⊥) → pos 0 <ℤ (side f1 f2 (corner_at x) +ℤ side f2 f0 (corner_at x))
over_far2 x (Place p h) differ = both-left (side f1 f2 p) (side f2 f0 p) (far-side12 p h) (far-side20 p h)
over_far2 x Far0 differ = second-level (side f1 f2 f0) (side f2 f0 f0) (turned12 far-turned) (flat_bc f2 f0 f0 refl)
over_far2 x Far1 differ = first-level (side f1 f2 f1) (side f2 f0 f1) (flat_ca f1 f2 f1 refl) (turned20 far-turned)
over_far2 x Far2 differ = absurd (differ refl)

-- ---- the planes of all corners
high : (h m s : ℕ) → h ≡ m → 2 ^ 120 * s < m → 2 ^ 120 * s < h
high h m s e lt = omega (arith, e, lt)

over_a_place : (b : Coords) (x : Corner) → IsPlace b → IsValid x → (x ≡ At b → ⊥) → pos 0 <ℤ excess (lift (At b)) (lean_e (At b)) (lean_n (At b)) (lift x)
over_a_place b x hb (Place p h) differ = place_over_place b p h (λ e. differ (ap At e))
over_a_place b x hb Far0 differ = far_over_place b f0 (far_height 0) hb (corner-size (Far 0) Far0) (high (far_height 0) (base ^ (24 * top)) (base ^ (3 * top)) height0_is (outgrows (3 * top) (24 * top) (omega (arith, top_is))))
over_a_place b x hb Far1 differ = far_over_place b f1 (far_height 1) hb (corner-size (Far 1) Far1) (high (far_height 1) (base ^ (16 * top)) (base ^ (3 * top)) height1_is (outgrows (3 * top) (16 * top) (omega (arith, top_is))))
over_a_place b x hb Far2 differ = far_over_place b f2 (far_height 2) hb (corner-size (Far 2) Far2) (high (far_height 2) (base ^ (8 * top)) (base ^ (3 * top)) height2_is (outgrows (3 * top) (8 * top) (omega (arith, top_is))))

highest : (h m n : ℕ) → h ≡ m → 2 ^ 120 * m < n → h ≤ n
highest h m n e lt = omega (arith, e, lt)

-- the plane through b lies below every other lifted corner
pub leans : (b x : Corner) → IsValid b → IsValid x → (x ≡ b → ⊥) → pos 0 <ℤ excess (lift b) (lean_e b) (lean_n b) (lift x)
leans b x (Place p h) v differ = over_a_place p x h v differ
leans b x Far0 v differ = steep-over f2 f1 (lift (Far 0)) x (far_height 0) v refl (omega (arith, height0_is)) (over_far0 x v differ)
leans b x Far1 v differ = steep-over f0 f2 (lift (Far 1)) x (far_height 1) v refl (highest (far_height 1) (base ^ (16 * top)) (base ^ (24 * top)) height1_is (outgrows (16 * top) (24 * top) (omega (arith, top_is)))) (over_far1 x v differ)
leans b x Far2 v differ = steep-over f1 f0 (lift (Far 2)) x (far_height 2) v refl (highest (far_height 2) (base ^ (8 * top)) (base ^ (24 * top)) height2_is (outgrows (8 * top) (24 * top) (omega (arith, top_is)))) (over_far2 x v differ)
