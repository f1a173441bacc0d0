-- A point near a corner of a triangle of a closed net, strictly inside it: another triangle that has it is the same.
use Rattle.std.proofs.Common.{◌≡◌, ℕ, ◌+◌, ◌<◌, ◌⊎◌, inl, inr, refl, sym, ap, subst, ◌∙◌, arith, [], ◌∷◌}
use Rattle.std.specs.Prelude.{ℤ, pos, neg_ℤ, ◌+ℤ◌, ◌*ℤ◌, ◌<ℤ◌, unsigned_abs, Some, slice_get}
use Rattle.std.proofs.lemmas.Int.{ints}
use Rattle.ground_model.specs.declared.corner.Corner.{Corner}
use Rattle.ground_model.specs.declared.corner.Corner.TheVariants.{At}
use Rattle.ground_model.specs.Place.{Coords}
use Rattle.ground_model.specs.Side.{side}
use Rattle.ground_model.specs.Corner.{corner_at, corner_side}
use Rattle.ground_model.proofs.ZLaws.{mul_comm}
use Rattle.ground_model.proofs.ZOrder.{mul-positive, outweighs}
use Rattle.ground_model.proofs.Ring.{var, num, ◌⊗◌, ring}
use Rattle.ground_model.proofs.Circle.{side-turned}
use Rattle.predicates.specs.Net.{Net, Triangle}
use Rattle.predicates.specs.Sheet.{IsClosed}
use Rattle.predicates.specs.Tiling.{IsInside}
use Rattle.predicates.specs.Weighted.{Weighted, weighted_side, once, joined, repeated}
use Rattle.predicates.proofs.Signs.{level-up, positive-along}
use Rattle.predicates.proofs.FlatSides.{flat_bc, flat_ca}
use Rattle.predicates.proofs.WeightedSides.{weighted_side-once, weighted_side-joined, weighted_side-repeated}
use Rattle.predicates.proofs.Nudged.{Inside, many-left, many-within, many-some}
use Rattle.predicates.proofs.Valid.{IsValid}
use Rattle.predicates.proofs.FarTriangle.{closed-packs, AreValid}
use Rattle.predicates.proofs.Tiling.{closed-left}
use Rattle.predicates.proofs.Owners.{IsTurn, Still, Once, Twice, turn-side, turn-inside, turn-next}

-- the net's triangle a, b, c
pub record InNet (net : Net) (a b c : Corner) : Type 0 where
  pub index : ℕ
  pub triangle : Triangle
  pub at : slice_get net.triangles index ≡ Some triangle
  pub turn : IsTurn triangle a b c

pub in-turned : (net : Net) (a b c : Corner) → InNet net a b c → InNet net b c a
in-turned net a b c t = record { index = t.index; triangle = t.triangle; at = t.at; turn = turn-next t.triangle a b c t.turn }

pub in-side : (net : Net) → IsClosed net → (a b c : Corner) → InNet net a b c → pos 0 <ℤ corner_side a b c
in-side net closed a b c t = turn-side t.triangle a b c t.turn (closed-left net closed t.index t.triangle t.at)

pub record Corners (a b c : Corner) : Type 0 where
  pub a_in : IsValid a
  pub b_in : IsValid b
  pub c_in : IsValid c

pub turn-corners : (t : Triangle) (a b c : Corner) → IsTurn t a b c → AreValid t → Corners a b c
turn-corners t a b c Still v = record { a_in = v.a; b_in = v.b; c_in = v.c }
turn-corners t a b c Once v = record { a_in = v.b; b_in = v.c; c_in = v.a }
turn-corners t a b c Twice v = record { a_in = v.c; b_in = v.a; c_in = v.b }

pub times-zero : (f s : ℤ) → s ≡ pos 0 → f *ℤ s ≡ pos 0
times-zero f s e = ap (λ k. f *ℤ k) e ∙ ring (f ∷ []) (var 0 ⊗ num (pos 0)) (num (pos 0)) refl

pub zero-times : (s f : ℤ) → s ≡ pos 0 → s *ℤ f ≡ pos 0
zero-times s f e = mul_comm s f ∙ times-zero f s e

-- ---- a point near p, into the triangle p, y, z: v times y and w times z
abbrev pub spread : ℕ → ℕ → Coords → Coords → Weighted
spread v w y z = joined (repeated (pos v) (once y)) (repeated (pos w) (once z))

spread-side : (a b y z : Coords) (v w : ℕ) → weighted_side a b (spread v w y z) ≡ pos v *ℤ side a b y +ℤ pos w *ℤ side a b z
spread-side a b y z v w =
    weighted_side-joined a b (repeated (pos v) (once y)) (repeated (pos w) (once z))
    ∙ (λ i. weighted_side-repeated a b (pos v) (once y) i +ℤ weighted_side-repeated a b (pos w) (once z) i)
    ∙ (λ i. pos v *ℤ weighted_side-once a b y i +ℤ pos w *ℤ weighted_side-once a b z i)

-- p lies to the left of ab, or on its line while what is spread lies to the left
pub data Leaves (a b p : Coords) (g : Weighted) : Type 0 where
  Left : pos 0 <ℤ side a b p → Leaves a b p g
  Onward : side a b p ≡ pos 0 → pos 0 <ℤ weighted_side a b g → Leaves a b p g

pub leaves-left : (a b p : Coords) (g : Weighted) (k : ℕ) → unsigned_abs (weighted_side a b g) < k → Leaves a b p g → pos 0 <ℤ weighted_side a b (joined (repeated (pos k) (once p)) g)
leaves-left a b p g k less (Left h) = many-left a b k (once p) g less (positive-along (weighted_side a b (once p)) (side a b p) (weighted_side-once a b p) h)
leaves-left a b p g k less (Onward e h) = many-within a b k (once p) g (level-up (weighted_side a b (once p)) (weighted_side-once a b p ∙ e)) h

-- so many times p as outweigh the sides of what is spread
abbrev enough : Coords → Coords → Coords → Coords → Coords → Coords → Weighted → ℕ
enough p y z a b c g =
    1 + unsigned_abs (weighted_side p y g) + unsigned_abs (weighted_side y z g) + unsigned_abs (weighted_side z p g) + unsigned_abs (weighted_side a b g) + unsigned_abs (weighted_side b c g) + unsigned_abs (weighted_side c a g)

-- strictly inside the triangle at p
inside-own : (p y z : Coords) (v w k : ℕ) → 0 < v → 0 < w → pos 0 <ℤ side p y z
    → unsigned_abs (weighted_side p y (spread v w y z)) < k → unsigned_abs (weighted_side y z (spread v w y z)) < k → unsigned_abs (weighted_side z p (spread v w y z)) < k
    → Inside p y z (joined (repeated (pos k) (once p)) (spread v w y z))
inside-own p y z v w k some_v some_w turned less_py less_yz less_zp = record {
  ab = leaves-left p y p (spread v w y z) k less_py (Onward (flat_ca p y p refl) (second (weighted_side p y (spread v w y z)) (pos v *ℤ side p y y) (pos w *ℤ side p y z) (spread-side p y y z v w) (times-zero (pos v) (side p y y) (flat_bc p y y refl)) (many w (side p y z) some_w turned)));
  bc = leaves-left y z p (spread v w y z) k less_yz (Left (positive-along (side y z p) (side p y z) (sym (side-turned p y z)) turned));
  ca = leaves-left z p p (spread v w y z) k less_zp (Onward (flat_bc z p p refl) (first (weighted_side z p (spread v w y z)) (pos v *ℤ side z p y) (pos w *ℤ side z p z) (spread-side z p y z v w) (times-zero (pos w) (side z p z) (flat_ca z p z refl)) (many v (side z p y) some_v (positive-along (side z p y) (side p y z) (side-turned z p y) turned))));
}
  where
    many : (n : ℕ) (x : ℤ) → 0 < n → pos 0 <ℤ x → pos 0 <ℤ (pos n *ℤ x)
    many n x h k = mul-positive (pos n) x (omega (arith, ints, h)) k

    second : (s x y : ℤ) → s ≡ x +ℤ y → x ≡ pos 0 → pos 0 <ℤ y → pos 0 <ℤ s
    second s x y e f h = omega (arith, ints, e, f, h)

    first : (s x y : ℤ) → s ≡ x +ℤ y → y ≡ pos 0 → pos 0 <ℤ x → pos 0 <ℤ s
    first s x y e f h = omega (arith, ints, e, f, h)

-- the triangle at p and another share such a point: they are one
pub met : (net : Net) → IsClosed net → (p : Coords) (y z a b c : Corner) (s : InNet net (At p) y z) (t : InNet net a b c) (v w : ℕ) → 0 < v → 0 < w
    → Leaves (corner_at a) (corner_at b) p (spread v w (corner_at y) (corner_at z)) → Leaves (corner_at b) (corner_at c) p (spread v w (corner_at y) (corner_at z)) → Leaves (corner_at c) (corner_at a) p (spread v w (corner_at y) (corner_at z))
    → s.index ≡ t.index
met net closed p y z a b c s t v w some_v some_w ab bc ca =
    by (corner_at y) (corner_at z) (corner_at a) (corner_at b) (corner_at c)
    (in-side net closed (At p) y z s) (λ x h. turn-inside s.triangle (At p) y z x s.turn h) (λ x h. turn-inside t.triangle a b c x t.turn h) ab bc ca
  where
    by : (y z a b c : Coords) → pos 0 <ℤ side p y z → ((x : Weighted) → Inside p y z x → IsInside s.triangle x) → ((x : Weighted) → Inside a b c x → IsInside t.triangle x)
        → Leaves a b p (spread v w y z) → Leaves b c p (spread v w y z) → Leaves c a p (spread v w y z) → s.index ≡ t.index
    by y z a b c turned own other ab bc ca =
        closed-packs net closed (joined (repeated (pos (enough p y z a b c (spread v w y z))) (once p)) (spread v w y z))
        (many-some (enough p y z a b c (spread v w y z)) (pos 1) (pos v *ℤ pos 1 +ℤ pos w *ℤ pos 1) (omega arith) (omega (arith, ints)) (omega (arith, ints)))
        s.index t.index s.triangle t.triangle s.at t.at
        (own (joined (repeated (pos (enough p y z a b c (spread v w y z))) (once p)) (spread v w y z)) (inside-own p y z v w (enough p y z a b c (spread v w y z)) some_v some_w turned (omega arith) (omega arith) (omega arith)))
        (other (joined (repeated (pos (enough p y z a b c (spread v w y z))) (once p)) (spread v w y z)) (record {
          ab = leaves-left a b p (spread v w y z) (enough p y z a b c (spread v w y z)) (omega arith) ab;
          bc = leaves-left b c p (spread v w y z) (enough p y z a b c (spread v w y z)) (omega arith) bc;
          ca = leaves-left c a p (spread v w y z) (enough p y z a b c (spread v w y z)) (omega arith) ca;
        }))

-- ---- the two triangles are one where some corner y or z lies to the left of the edge on which p lies
turn-member : (t : Triangle) (x y z a b c : Corner) → IsTurn t x y z → IsTurn t a b c → (x ≡ a) ⊎ ((x ≡ b) ⊎ (x ≡ c))
turn-member t x y z a b c Still Still = inl refl
turn-member t x y z a b c Still Once = inr (inr refl)
turn-member t x y z a b c Still Twice = inr (inl refl)
turn-member t x y z a b c Once Still = inr (inl refl)
turn-member t x y z a b c Once Once = inl refl
turn-member t x y z a b c Once Twice = inr (inr refl)
turn-member t x y z a b c Twice Still = inr (inr refl)
turn-member t x y z a b c Twice Once = inr (inl refl)
turn-member t x y z a b c Twice Twice = inl refl

pub member : (net : Net) (p : Coords) (y z a b c : Corner) (s : InNet net (At p) y z) (t : InNet net a b c) → s.index ≡ t.index → (At p ≡ a) ⊎ ((At p ≡ b) ⊎ (At p ≡ c))
member net p y z a b c s t same =
    let both : Some s.triangle ≡ Some t.triangle = sym s.at ∙ ap (slice_get net.triangles) same ∙ t.at in
    let one : s.triangle ≡ t.triangle = cc in
    turn-member t.triangle (At p) y z a b c (subst (λ (x : Triangle). IsTurn x (At p) y z) one s.turn) t.turn

-- the weights with which what is spread lies to the left
weigh-first : (x y : ℤ) → pos 0 <ℤ x → pos 0 <ℤ (pos (1 + unsigned_abs y) *ℤ x +ℤ pos 1 *ℤ y)
weigh-first x y h = sum (pos (1 + unsigned_abs y) *ℤ x) (x *ℤ pos (1 + unsigned_abs y)) y (mul_comm (pos (1 + unsigned_abs y)) x) (outweighs x (neg_ℤ y) (1 + unsigned_abs y) (less y) h)
  where
    less : (y : ℤ) → unsigned_abs (neg_ℤ y) < 1 + unsigned_abs y
    less y = omega (arith, ints)

    sum : (s t y : ℤ) → s ≡ t → neg_ℤ y <ℤ t → pos 0 <ℤ (s +ℤ pos 1 *ℤ y)
    sum s t y e h = omega (arith, ints, e, h)

weigh-second : (x y : ℤ) → pos 0 <ℤ y → pos 0 <ℤ (pos 1 *ℤ x +ℤ pos (1 + unsigned_abs x) *ℤ y)
weigh-second x y h = sum (pos (1 + unsigned_abs x) *ℤ y) (y *ℤ pos (1 + unsigned_abs x)) x (mul_comm (pos (1 + unsigned_abs x)) y) (outweighs y (neg_ℤ x) (1 + unsigned_abs x) (less x) h)
  where
    less : (y : ℤ) → unsigned_abs (neg_ℤ y) < 1 + unsigned_abs y
    less y = omega (arith, ints)

    sum : (s t y : ℤ) → s ≡ t → neg_ℤ y <ℤ t → pos 0 <ℤ (pos 1 *ℤ y +ℤ s)
    sum s t y e h = omega (arith, ints, e, h)

-- p lies on the line of ab, and strictly inside the other two edges
pub record OnEdge (a b c : Corner) (p : Coords) : Type 0 where
  pub flat : corner_side a b (At p) ≡ pos 0
  pub bc : pos 0 <ℤ corner_side b c (At p)
  pub ca : pos 0 <ℤ corner_side c a (At p)

pub towards : (net : Net) → IsClosed net → (p : Coords) (y z a b c : Corner) (s : InNet net (At p) y z) (t : InNet net a b c) → OnEdge a b c p
    → (pos 0 <ℤ corner_side a b y) ⊎ (pos 0 <ℤ corner_side a b z) → (At p ≡ a) ⊎ ((At p ≡ b) ⊎ (At p ≡ c))
towards net closed p y z a b c s t on (inl h) =
    member net p y z a b c s t (met net closed p y z a b c s t (1 + unsigned_abs (corner_side a b z)) 1 (omega arith) (omega arith)
    (Onward on.flat (positive-along (weighted_side (corner_at a) (corner_at b) (spread (1 + unsigned_abs (corner_side a b z)) 1 (corner_at y) (corner_at z))) (pos (1 + unsigned_abs (corner_side a b z)) *ℤ corner_side a b y +ℤ pos 1 *ℤ corner_side a b z)
    (spread-side (corner_at a) (corner_at b) (corner_at y) (corner_at z) (1 + unsigned_abs (corner_side a b z)) 1) (weigh-first (corner_side a b y) (corner_side a b z) h)))
    (Left on.bc) (Left on.ca))
towards net closed p y z a b c s t on (inr h) =
    member net p y z a b c s t (met net closed p y z a b c s t 1 (1 + unsigned_abs (corner_side a b y)) (omega arith) (omega arith)
    (Onward on.flat (positive-along (weighted_side (corner_at a) (corner_at b) (spread 1 (1 + unsigned_abs (corner_side a b y)) (corner_at y) (corner_at z))) (pos 1 *ℤ corner_side a b y +ℤ pos (1 + unsigned_abs (corner_side a b y)) *ℤ corner_side a b z)
    (spread-side (corner_at a) (corner_at b) (corner_at y) (corner_at z) 1 (1 + unsigned_abs (corner_side a b y))) (weigh-second (corner_side a b y) (corner_side a b z) h)))
    (Left on.bc) (Left on.ca))
