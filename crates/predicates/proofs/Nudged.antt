-- A point strictly inside one triangle and in another's closed one: some point lies strictly inside both.
use Rattle.std.proofs.Common.{◌≡◌, ℕ, ◌+◌, ◌<◌, refl, ap, ◌∙◌, arith, [], ◌∷◌}
use Rattle.std.specs.Prelude.{ℤ, pos, ◌+ℤ◌, ◌*ℤ◌, neg_ℤ, ◌<ℤ◌, ◌≤ℤ◌, unsigned_abs}
use Rattle.std.proofs.lemmas.Int.{ints}
use Rattle.ground_model.specs.Place.{Coords}
use Rattle.ground_model.specs.Side.{side}
use Rattle.ground_model.proofs.Ring.{Expr, var, num, ◌⊕◌, ring}
use Rattle.ground_model.proofs.ZLaws.{mul_comm}
use Rattle.ground_model.proofs.ZOrder.{outweighs, mul-positive}
use Rattle.predicates.specs.Weighted.{Weighted, weighted_side, once, joined, repeated}
use Rattle.predicates.proofs.Signs.{mul-nonneg, positive-along}
use Rattle.predicates.proofs.WeightedSides.{pointE, placeE, weighted_side-joined, weighted_side-repeated}

-- strictly inside the three
pub record Inside (a b c : Coords) (x : Weighted) : Type 0 where
  pub ab : pos 0 <ℤ weighted_side a b x
  pub bc : pos 0 <ℤ weighted_side b c x
  pub ca : pos 0 <ℤ weighted_side c a x

pub record Within (a b c : Coords) (x : Weighted) : Type 0 where
  pub ab : pos 0 ≤ℤ weighted_side a b x
  pub bc : pos 0 ≤ℤ weighted_side b c x
  pub ca : pos 0 ≤ℤ weighted_side c a x

-- a point strictly inside both
pub record Shared (a b c p q r : Coords) : Type 0 where
  pub point : Weighted
  pub some : pos 0 <ℤ point.weight
  pub first : Inside a b c point
  pub second : Inside p q r point

-- ---- many times a point, and another
pub side-many : (a b : Coords) (k : ℕ) (x g : Weighted) → weighted_side a b (joined (repeated (pos k) x) g) ≡ pos k *ℤ weighted_side a b x +ℤ weighted_side a b g
side-many a b k x g = weighted_side-joined a b (repeated (pos k) x) g ∙ ap (λ s. s +ℤ weighted_side a b g) (weighted_side-repeated a b (pos k) x)

-- enough times outweigh
pub many-left : (a b : Coords) (k : ℕ) (x g : Weighted) → unsigned_abs (weighted_side a b g) < k → pos 0 <ℤ weighted_side a b x → pos 0 <ℤ weighted_side a b (joined (repeated (pos k) x) g)
many-left a b k x g less h =
    sum (weighted_side a b (joined (repeated (pos k) x) g)) (pos k *ℤ weighted_side a b x) (weighted_side a b x *ℤ pos k) (weighted_side a b g)
    (side-many a b k x g) (mul_comm (pos k) (weighted_side a b x)) (outweighs (weighted_side a b x) (neg_ℤ (weighted_side a b g)) k (opposite (weighted_side a b g) less) h)
  where
    opposite : (s : ℤ) → unsigned_abs s < k → unsigned_abs (neg_ℤ s) < k
    opposite s h = omega (arith, ints, h)

    sum : (t u u' s : ℤ) → t ≡ u +ℤ s → u ≡ u' → neg_ℤ s <ℤ u' → pos 0 <ℤ t
    sum t u u' s e f h = omega (arith, ints, e, f, h)

pub many-within : (a b : Coords) (k : ℕ) (x g : Weighted) → pos 0 ≤ℤ weighted_side a b x → pos 0 <ℤ weighted_side a b g → pos 0 <ℤ weighted_side a b (joined (repeated (pos k) x) g)
many-within a b k x g h l =
    sum (weighted_side a b (joined (repeated (pos k) x) g)) (pos k *ℤ weighted_side a b x) (weighted_side a b g)
    (side-many a b k x g) (mul-nonneg (pos k) (weighted_side a b x) (omega (arith, ints)) h) l
  where
    sum : (t u s : ℤ) → t ≡ u +ℤ s → pos 0 ≤ℤ u → pos 0 <ℤ s → pos 0 <ℤ t
    sum t u s e h l = omega (arith, ints, e, h, l)

pub many-some : (k : ℕ) (w v : ℤ) → 0 < k → pos 0 <ℤ w → pos 0 ≤ℤ v → pos 0 <ℤ (pos k *ℤ w +ℤ v)
many-some k w v h l m =
    let p = mul-positive (pos k) w (omega (arith, ints, h)) l in
    sum (pos k *ℤ w) v p m
  where
    sum : (t s : ℤ) → pos 0 <ℤ t → pos 0 ≤ℤ s → pos 0 <ℤ (t +ℤ s)
    sum t s h l = omega (arith, ints, h, l)

-- ---- the sum of the corners lies inside
abbrev pub center : Coords → Coords → Coords → Weighted
center p q r = joined (once p) (joined (once q) (once r))

abbrev centerE : ℕ → ℕ → Expr
centerE i j = pointE i j (var 0 ⊕ (var 2 ⊕ var 4)) (var 1 ⊕ (var 3 ⊕ var 5)) (num (pos 1) ⊕ (num (pos 1) ⊕ num (pos 1)))

pub center-pq : (p q r : Coords) → weighted_side p q (center p q r) ≡ side p q r
unfolding weighted_side side
center-pq p q r = ring (p.e ∷ p.n ∷ q.e ∷ q.n ∷ r.e ∷ r.n ∷ []) (centerE 0 1) (placeE 0 1 2) refl

pub center-qr : (p q r : Coords) → weighted_side q r (center p q r) ≡ side p q r
unfolding weighted_side side
center-qr p q r = ring (p.e ∷ p.n ∷ q.e ∷ q.n ∷ r.e ∷ r.n ∷ []) (centerE 1 2) (placeE 0 1 2) refl

pub center-rp : (p q r : Coords) → weighted_side r p (center p q r) ≡ side p q r
unfolding weighted_side side
center-rp p q r = ring (p.e ∷ p.n ∷ q.e ∷ q.n ∷ r.e ∷ r.n ∷ []) (centerE 2 0) (placeE 0 1 2) refl

-- so many times as outweigh the point's sides
abbrev enough : Coords → Coords → Coords → Weighted → ℕ
enough a b c g = 1 + unsigned_abs (weighted_side a b g) + unsigned_abs (weighted_side b c g) + unsigned_abs (weighted_side c a g)

-- moved a little from the closed triangle's point towards its middle
pub nudged : (a b c p q r : Coords) (x : Weighted) → pos 0 <ℤ x.weight → Inside a b c x → Within p q r x → pos 0 <ℤ side p q r → Shared a b c p q r
nudged a b c p q r x some inside within turned =
    record {
      point = joined (repeated (pos (enough a b c (center p q r))) x) (center p q r);
      some = many-some (enough a b c (center p q r)) x.weight (pos 3) (omega arith) some (omega (arith, ints));
      first = record {
        ab = many-left a b (enough a b c (center p q r)) x (center p q r) (omega arith) inside.ab;
        bc = many-left b c (enough a b c (center p q r)) x (center p q r) (omega arith) inside.bc;
        ca = many-left c a (enough a b c (center p q r)) x (center p q r) (omega arith) inside.ca;
      };
      second = record {
        ab = many-within p q (enough a b c (center p q r)) x (center p q r) within.ab (positive-along (weighted_side p q (center p q r)) (side p q r) (center-pq p q r) turned);
        bc = many-within q r (enough a b c (center p q r)) x (center p q r) within.bc (positive-along (weighted_side q r (center p q r)) (side p q r) (center-qr p q r) turned);
        ca = many-within r p (enough a b c (center p q r)) x (center p q r) within.ca (positive-along (weighted_side r p (center p q r)) (side p q r) (center-rp p q r) turned);
      };
    }
