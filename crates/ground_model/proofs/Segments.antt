-- Segments: which places lie on them, and where two of them cross.
use Rattle.std.proofs.Common.{◌≡◌, ℕ, zero, suc, ◌+◌, ◌<◌, refl, sym, ap, ◌∙◌, subst, arith, Bool, true, false, [], ◌∷◌, ◌++◌, inl, inr, ◌⊎◌, ⊎_elim}
use Rattle.std.specs.Prelude.{ℤ, pos, negsuc, ◌+ℤ◌, ◌-ℤ◌, ◌*ℤ◌, ◌<ℤ◌, ◌≤ℤ◌, not, ◌&&◌, ◌||◌}
use Rattle.std.specs.declared.cmp.Ordering.{Ordering}
use Rattle.std.specs.declared.cmp.Ordering.TheVariants.{Less, Equal, Greater}
use Rattle.std.specs.Ordering.{is_lt, is_eq, ordering_reverse}
use Rattle.std.proofs.lemmas.Int.{ints}
use Rattle.std.proofs.lemmas.Bool.{and_parts, and_from}
use Rattle.std.proofs.lemmas.Bool.Decides.{Decides-int_eq}
use Rattle.ground_model.specs.Place.{Coords, place_cmp, is_before}
use Rattle.ground_model.specs.Side.{side, orientation, oppose, crosses, is_on_segment}
use Rattle.ground_model.proofs.Ring.{Expr, var, num, ◌⊕◌, ◌⊖◌, ◌⊗◌, ring}
use Rattle.ground_model.proofs.ZLaws.{zero-mul}
use Rattle.ground_model.proofs.ZOrder.{mul-eq-zero}
use Rattle.ground_model.proofs.Circle.{env, sideE, side-same, side-turned, same_coords}
use Rattle.ground_model.proofs.Contents.{places_total}
use Rattle.ground_model.proofs.Along.{opposite_of, oppose_from, UpTo, up_to, not_before, not_square, Mean, mean_by, mean_turned}

-- ---- the order of places
reversed : (o : Ordering) → is_lt o ≡ true → is_lt (ordering_reverse o) ≡ false
reversed Less h = refl
reversed Equal h = refl
reversed Greater h = cc

pub not_after : (p q : Coords) → is_before p q ≡ true → is_before q p ≡ false
not_after p q h = ap is_lt (places_total.antisymm q p) ∙ reversed (place_cmp p q) h

less_of : (o : Ordering) → is_lt o ≡ true → o ≡ Less
less_of Less h = refl
less_of Equal h = cc
less_of Greater h = cc

pub before_trans : (p q r : Coords) → is_before p q ≡ true → is_before q r ≡ true → is_before p r ≡ true
before_trans p q r h k = ap is_lt (places_total.trans p q r (less_of (place_cmp p q) h) (less_of (place_cmp q r) k))

-- ---- a mean of two places lies on their segment
pub zero_of_share : (k : ℕ) (x : ℤ) → 0 < k → pos k *ℤ x ≡ pos 0 → x ≡ pos 0
zero_of_share k x some e = ⊎_elim (λ f. absurd (omega (arith, ints, f))) (λ f. f) (mul-eq-zero (pos k) x e)

share_of_zero : (k m : ℕ) (x u : ℤ) → 0 < k → pos k *ℤ x ≡ pos m *ℤ u → u ≡ pos 0 → x ≡ pos 0
share_of_zero k m x u some e none = zero_of_share k x some (e ∙ ap (λ z. pos m *ℤ z) none ∙ times_none (pos m))
  where
    times_none : (z : ℤ) → z *ℤ pos 0 ≡ pos 0
    times_none z = omega (arith, ints)

share_nonneg : (k m : ℕ) (x u : ℤ) → 0 < k → pos k *ℤ x ≡ pos m *ℤ u → pos 0 ≤ℤ u → pos 0 ≤ℤ x
share_nonneg k m (pos x) u some e h = omega (arith, ints)
share_nonneg k m (negsuc x) (pos u) some e h = absurd (omega (arith, ints, e))
share_nonneg k m (negsuc x) (negsuc u) some e h = absurd (omega (arith, ints, h))

share_positive : (k m : ℕ) (x u : ℤ) → 0 < k → 0 < m → pos k *ℤ x ≡ pos m *ℤ u → pos 0 <ℤ u → pos 0 <ℤ x
share_positive k m (pos zero) (pos zero) some more e h = absurd (omega (arith, ints, h))
share_positive k m (pos zero) (pos (suc u)) some more e h = absurd (omega (arith, ints, e))
share_positive k m (pos (suc x)) u some more e h = omega (arith, ints)
share_positive k m (pos zero) (negsuc u) some more e h = absurd (omega (arith, ints, h))
share_positive k m (negsuc x) (pos u) some more e h = absurd (omega (arith, ints, e))
share_positive k m (negsuc x) (negsuc u) some more e h = absurd (omega (arith, ints, h))

-- a vector that is a share of another does not point back
forward : (k m : ℕ) (x y u v : ℤ) → 0 < k → pos k *ℤ x ≡ pos m *ℤ u → pos k *ℤ y ≡ pos m *ℤ v → (pos 0 <ℤ u) ⊎ ((u ≡ pos 0) × (pos 0 ≤ℤ v)) → (pos 0 <ℤ x) ⊎ ((x ≡ pos 0) × (pos 0 ≤ℤ y))
forward k zero x y u v some e f (inl up) = inr (zero_of_share k x some (e ∙ zero-mul u), omega (arith, ints, zero_of_share k y some (f ∙ zero-mul v)))
forward k (suc m) x y u v some e f (inl up) = inl (share_positive k (suc m) x u some (omega arith) e up)
forward k m x y u v some e f (inr h) = inr (share_of_zero k m x u some e h.0, share_nonneg k m y v some f h.1)

from_first : (l m : ℕ) (x a b : ℤ) → pos (l + m) *ℤ x ≡ pos l *ℤ a +ℤ pos m *ℤ b → pos (l + m) *ℤ (x -ℤ a) ≡ pos m *ℤ (b -ℤ a)
from_first l m x a b e =
    ring (pos (l + m) ∷ x ∷ a ∷ []) (var 0 ⊗ (var 1 ⊖ var 2)) (var 0 ⊗ var 1 ⊖ var 0 ⊗ var 2) refl
    ∙ ap (λ k. k -ℤ pos (l + m) *ℤ a) e
    ∙ ring (pos l ∷ pos m ∷ a ∷ b ∷ []) ((var 0 ⊗ var 2 ⊕ var 1 ⊗ var 3) ⊖ (var 0 ⊕ var 1) ⊗ var 2) (var 1 ⊗ (var 3 ⊖ var 2)) refl

to_last : (l m : ℕ) (x a b : ℤ) → pos (l + m) *ℤ x ≡ pos l *ℤ a +ℤ pos m *ℤ b → pos (l + m) *ℤ (b -ℤ x) ≡ pos l *ℤ (b -ℤ a)
to_last l m x a b e =
    ring (pos (l + m) ∷ x ∷ b ∷ []) (var 0 ⊗ (var 2 ⊖ var 1)) (var 0 ⊗ var 2 ⊖ var 0 ⊗ var 1) refl
    ∙ ap (λ k. pos (l + m) *ℤ b -ℤ k) e
    ∙ ring (pos l ∷ pos m ∷ a ∷ b ∷ []) ((var 0 ⊕ var 1) ⊗ var 3 ⊖ (var 0 ⊗ var 2 ⊕ var 1 ⊗ var 3)) (var 0 ⊗ (var 3 ⊖ var 2)) refl

apart : (p q : Coords) → UpTo p q → (pos 0 <ℤ (q.e -ℤ p.e)) ⊎ ((q.e -ℤ p.e ≡ pos 0) × (pos 0 ≤ℤ (q.n -ℤ p.n)))
apart p q (inl lt) = inl (omega (arith, ints, lt))
apart p q (inr h) = inr (omega (arith, ints, h.0), omega (arith, ints, h.1))

together : (p q : Coords) → (pos 0 <ℤ (q.e -ℤ p.e)) ⊎ ((q.e -ℤ p.e ≡ pos 0) × (pos 0 ≤ℤ (q.n -ℤ p.n))) → UpTo p q
together p q (inl lt) = inl (omega (arith, ints, lt))
together p q (inr h) = inr (omega (arith, ints, h.0), omega (arith, ints, h.1))

pub mean_order : (u v x : Coords) → Mean u v x → UpTo u v → UpTo u x × UpTo x v
mean_order u v x p h = (
  together u x (forward (p.l + p.m) p.m (x.e -ℤ u.e) (x.n -ℤ u.n) (v.e -ℤ u.e) (v.n -ℤ u.n) p.some (from_first p.l p.m x.e u.e v.e p.e_is) (from_first p.l p.m x.n u.n v.n p.n_is) (apart u v h)),
  together x v (forward (p.l + p.m) p.l (v.e -ℤ x.e) (v.n -ℤ x.n) (v.e -ℤ u.e) (v.n -ℤ u.n) p.some (to_last p.l p.m x.e u.e v.e p.e_is) (to_last p.l p.m x.n u.n v.n p.n_is) (apart u v h)),
)

-- the side is affine: that of a mean is the mean of the sides
pub side_of_mean : (u v x : Coords) (p : Mean u v x) (s t : Coords) → pos (p.l + p.m) *ℤ side s t x ≡ pos p.l *ℤ side s t u +ℤ pos p.m *ℤ side s t v
unfolding side
side_of_mean u v x p s t =
    ring (pos (p.l + p.m) ∷ x.e ∷ x.n ∷ env (s ∷ t ∷ [])) (var 0 ⊗ sideT (var 1) (var 2) (var 3) (var 4) (var 5) (var 6))
    (weighed (var 0) (var 0 ⊗ var 1) (var 0 ⊗ var 2) (var 3) (var 4) (var 5) (var 6)) refl
    ∙ (λ i. (t.e -ℤ s.e) *ℤ (p.n_is i -ℤ pos (p.l + p.m) *ℤ s.n) -ℤ (t.n -ℤ s.n) *ℤ (p.e_is i -ℤ pos (p.l + p.m) *ℤ s.e))
    ∙ ring (pos p.l ∷ pos p.m ∷ env (u ∷ v ∷ []) ++ env (s ∷ t ∷ []))
    (weighed (var 0 ⊕ var 1) (var 0 ⊗ var 2 ⊕ var 1 ⊗ var 4) (var 0 ⊗ var 3 ⊕ var 1 ⊗ var 5) (var 6) (var 7) (var 8) (var 9))
    (var 0 ⊗ sideT (var 2) (var 3) (var 6) (var 7) (var 8) (var 9) ⊕ var 1 ⊗ sideT (var 4) (var 5) (var 6) (var 7) (var 8) (var 9)) refl
  where
    -- k times the side of a third place, by k times its coordinates
    weighed : Expr → Expr → Expr → Expr → Expr → Expr → Expr → Expr
    weighed k e n se sn te tn = (te ⊖ se) ⊗ (n ⊖ k ⊗ sn) ⊖ (tn ⊖ sn) ⊗ (e ⊖ k ⊗ se)

    sideT : Expr → Expr → Expr → Expr → Expr → Expr → Expr
    sideT e n se sn te tn = (te ⊖ se) ⊗ (n ⊖ sn) ⊖ (tn ⊖ sn) ⊗ (e ⊖ se)

-- places on one line turn as its ends do, by one factor
pub factor : {u v p q : Coords} → Mean u v p → Mean u v q → ℤ
factor a b = pos a.l *ℤ pos b.m -ℤ pos a.m *ℤ pos b.l

pub side_of_means : (u v p q : Coords) (a : Mean u v p) (b : Mean u v q) (y : Coords) → (pos (a.l + a.m) *ℤ pos (b.l + b.m)) *ℤ side p q y ≡ factor a b *ℤ side u v y
unfolding side factor
side_of_means u v p q a b y =
    ring (pos (a.l + a.m) ∷ pos (b.l + b.m) ∷ p.e ∷ p.n ∷ q.e ∷ q.n ∷ y.e ∷ y.n ∷ [])
    ((var 0 ⊗ var 1) ⊗ ((var 4 ⊖ var 2) ⊗ (var 7 ⊖ var 3) ⊖ (var 5 ⊖ var 3) ⊗ (var 6 ⊖ var 2)))
    (weighed (var 0) (var 1) (var 0 ⊗ var 2) (var 0 ⊗ var 3) (var 1 ⊗ var 4) (var 1 ⊗ var 5) (var 6) (var 7)) refl
    ∙ (λ i. (pos (a.l + a.m) *ℤ b.e_is i -ℤ pos (b.l + b.m) *ℤ a.e_is i) *ℤ y.n -ℤ (pos (a.l + a.m) *ℤ b.n_is i -ℤ pos (b.l + b.m) *ℤ a.n_is i) *ℤ y.e -ℤ (b.e_is i *ℤ a.n_is i -ℤ b.n_is i *ℤ a.e_is i))
    ∙ ring (pos a.l ∷ pos a.m ∷ pos b.l ∷ pos b.m ∷ u.e ∷ u.n ∷ v.e ∷ v.n ∷ y.e ∷ y.n ∷ [])
    (weighed (var 0 ⊕ var 1) (var 2 ⊕ var 3) (var 0 ⊗ var 4 ⊕ var 1 ⊗ var 6) (var 0 ⊗ var 5 ⊕ var 1 ⊗ var 7) (var 2 ⊗ var 4 ⊕ var 3 ⊗ var 6) (var 2 ⊗ var 5 ⊕ var 3 ⊗ var 7) (var 8) (var 9))
    ((var 0 ⊗ var 3 ⊖ var 1 ⊗ var 2) ⊗ ((var 6 ⊖ var 4) ⊗ (var 9 ⊖ var 5) ⊖ (var 7 ⊖ var 5) ⊗ (var 8 ⊖ var 4))) refl
  where
    -- k * l times the side, by k times the first place and l times the second
    weighed : Expr → Expr → Expr → Expr → Expr → Expr → Expr → Expr → Expr
    weighed k l pe pn qe qn ye yn = ((k ⊗ qe ⊖ l ⊗ pe) ⊗ yn ⊖ (k ⊗ qn ⊖ l ⊗ pn) ⊗ ye) ⊖ (qe ⊗ pn ⊖ qn ⊗ pe)

pub side-ends : (u v : Coords) → side u v u ≡ pos 0
unfolding side
side-ends u v = ring (env (u ∷ v ∷ [])) (sideE 0 1 0) (num (pos 0)) refl

or_join : (s a b c d : Bool) → s ≡ true → ((a ≡ false) × (b ≡ false)) ⊎ ((c ≡ false) × (d ≡ false)) → (s && (not a && not b || not c && not d)) ≡ true
or_join false a b c d e h = cc
or_join true false false c d e h = refl
or_join true false true false false e h = refl
or_join true true b false false e h = refl
or_join true false true c true e (inl h) = cc
or_join true false true true d e (inl h) = cc
or_join true true b c true e (inl h) = cc
or_join true true b true d e (inl h) = cc
or_join true a b c true e (inr h) = cc
or_join true a b true d e (inr h) = cc

pub on_of_mean : (u v x : Coords) → Mean u v x → is_on_segment u v x ≡ true
on_of_mean u v x p = or_join (is_eq (orientation u v x)) (is_before x u) (is_before v x) (is_before x v) (is_before u x) ((Decides-int_eq (side u v x) (pos 0)).1 flat) (by_order (is_before v u) refl)
  where
    flat : side u v x ≡ pos 0
    flat = zero_of_share (p.l + p.m) (side u v x) p.some (side_of_mean u v x p u v ∙ (λ i. pos p.l *ℤ side-ends u v i +ℤ pos p.m *ℤ (side-turned u v v ∙ side-same v u) i) ∙ none (pos p.l) (pos p.m))
      where
        none : (y z : ℤ) → y *ℤ pos 0 +ℤ z *ℤ pos 0 ≡ pos 0
        none y z = omega (arith, ints)

    by_order : (t : Bool) → is_before v u ≡ t → ((is_before x u ≡ false) × (is_before v x ≡ false)) ⊎ ((is_before x v ≡ false) × (is_before u x ≡ false))
    by_order false e = let h = mean_order u v x p (up_to u v e) in inl (not_before u x h.0, not_before x v h.1)
    by_order true e = let h = mean_order v u x (mean_turned u v x p) (up_to v u (not_after v u e)) in inr (not_before v x h.0, not_before x u h.1)

pub on_first : (u v : Coords) → is_on_segment u v u ≡ true
on_first u v = on_of_mean u v u (record { l = 1; m = 0; some = omega arith; e_is = alone u.e v.e; n_is = alone u.n v.n })
  where
    alone : (x y : ℤ) → pos 1 *ℤ x ≡ pos 1 *ℤ x +ℤ pos 0 *ℤ y
    alone x y = omega (arith, ints)

pub on_last : (u v : Coords) → is_on_segment u v v ≡ true
on_last u v = on_of_mean u v v (record { l = 0; m = 1; some = omega arith; e_is = alone u.e v.e; n_is = alone u.n v.n })
  where
    alone : (x y : ℤ) → pos 1 *ℤ y ≡ pos 0 *ℤ x +ℤ pos 1 *ℤ y
    alone x y = omega (arith, ints)

-- ---- where two segments cross
-- the ends of each lie on opposite sides of the other
pub record Crossed (a b c d : Coords) : Type 0 where
  pub first : (side a b c *ℤ side a b d) <ℤ pos 0
  pub second : (side c d a *ℤ side c d b) <ℤ pos 0

pub crossed_of : (a b c d : Coords) → crosses a b c d ≡ true → Crossed a b c d
crossed_of a b c d h =
    let both = and_parts (oppose (orientation a b c) (orientation a b d)) (oppose (orientation c d a) (orientation c d b)) h in
    record { first = opposite_of (side a b c) (side a b d) both.0; second = opposite_of (side c d a) (side c d b) both.1 }

pub crosses_from : (a b c d : Coords) → Crossed a b c d → crosses a b c d ≡ true
crosses_from a b c d h = and_from (oppose (orientation a b c) (orientation a b d)) (oppose (orientation c d a) (orientation c d b)) (oppose_from (side a b c) (side a b d) h.first) (oppose_from (side c d a) (side c d b) h.second)

pub crossed_turned : (a b c d : Coords) → Crossed a b c d → Crossed c d a b
crossed_turned a b c d h = record { first = h.second; second = h.first }

-- the place at which two lines meet, by the sides of the ends of one
meeting-e : (a b c d x : Coords) → (side c d a -ℤ side c d b) *ℤ x.e ≡ (side c d a *ℤ b.e -ℤ side c d b *ℤ a.e) +ℤ (side a b x *ℤ (d.e -ℤ c.e) -ℤ side c d x *ℤ (b.e -ℤ a.e))
unfolding side
meeting-e a b c d x = ring (env (a ∷ b ∷ c ∷ d ∷ x ∷ [])) ((sideE 2 3 0 ⊖ sideE 2 3 1) ⊗ var 8) ((sideE 2 3 0 ⊗ var 2 ⊖ sideE 2 3 1 ⊗ var 0) ⊕ (sideE 0 1 4 ⊗ (var 6 ⊖ var 4) ⊖ sideE 2 3 4 ⊗ (var 2 ⊖ var 0))) refl

meeting-n : (a b c d x : Coords) → (side c d a -ℤ side c d b) *ℤ x.n ≡ (side c d a *ℤ b.n -ℤ side c d b *ℤ a.n) +ℤ (side a b x *ℤ (d.n -ℤ c.n) -ℤ side c d x *ℤ (b.n -ℤ a.n))
unfolding side
meeting-n a b c d x = ring (env (a ∷ b ∷ c ∷ d ∷ x ∷ [])) ((sideE 2 3 0 ⊖ sideE 2 3 1) ⊗ var 9) ((sideE 2 3 0 ⊗ var 3 ⊖ sideE 2 3 1 ⊗ var 1) ⊕ (sideE 0 1 4 ⊗ (var 7 ⊖ var 5) ⊖ sideE 2 3 4 ⊗ (var 3 ⊖ var 1))) refl

-- the weights that it gives, of one sign or the other
above_below : (g h x a b : ℤ) → (g -ℤ h) *ℤ x ≡ g *ℤ b -ℤ h *ℤ a → ((pos 0 -ℤ h) +ℤ g) *ℤ x ≡ (pos 0 -ℤ h) *ℤ a +ℤ g *ℤ b
above_below g h x a b e =
    ring (g ∷ h ∷ x ∷ []) (((num (pos 0) ⊖ var 1) ⊕ var 0) ⊗ var 2) ((var 0 ⊖ var 1) ⊗ var 2) refl ∙ e
    ∙ ring (g ∷ h ∷ a ∷ b ∷ []) (var 0 ⊗ var 3 ⊖ var 1 ⊗ var 2) ((num (pos 0) ⊖ var 1) ⊗ var 2 ⊕ var 0 ⊗ var 3) refl

below_above : (g h x a b : ℤ) → (g -ℤ h) *ℤ x ≡ g *ℤ b -ℤ h *ℤ a → (h +ℤ (pos 0 -ℤ g)) *ℤ x ≡ h *ℤ a +ℤ (pos 0 -ℤ g) *ℤ b
below_above g h x a b e =
    ring (g ∷ h ∷ x ∷ []) ((var 1 ⊕ (num (pos 0) ⊖ var 0)) ⊗ var 2) (num (pos 0) ⊖ (var 0 ⊖ var 1) ⊗ var 2) refl ∙ ap (λ k. pos 0 -ℤ k) e
    ∙ ring (g ∷ h ∷ a ∷ b ∷ []) (num (pos 0) ⊖ (var 0 ⊗ var 3 ⊖ var 1 ⊗ var 2)) (var 1 ⊗ var 2 ⊕ (num (pos 0) ⊖ var 0) ⊗ var 3) refl

mean_by_sides : (a b x : Coords) (g h : ℤ) → (g *ℤ h) <ℤ pos 0 → (g -ℤ h) *ℤ x.e ≡ g *ℤ b.e -ℤ h *ℤ a.e → (g -ℤ h) *ℤ x.n ≡ g *ℤ b.n -ℤ h *ℤ a.n → Mean a b x
mean_by_sides a b x (pos zero) h lt e n = absurd (omega (arith, ints, lt))
mean_by_sides a b x (pos (suc g)) (pos h) lt e n = absurd (omega (arith, ints, lt))
mean_by_sides a b x (pos (suc g)) (negsuc h) lt e n = mean_by a b x (pos 0 -ℤ negsuc h) (pos (suc g)) (omega (arith, ints)) (omega (arith, ints)) (omega (arith, ints)) (above_below (pos (suc g)) (negsuc h) x.e a.e b.e e) (above_below (pos (suc g)) (negsuc h) x.n a.n b.n n)
mean_by_sides a b x (negsuc g) (pos zero) lt e n = absurd (omega (arith, ints, lt))
mean_by_sides a b x (negsuc g) (pos (suc h)) lt e n = mean_by a b x (pos (suc h)) (pos 0 -ℤ negsuc g) (omega (arith, ints)) (omega (arith, ints)) (omega (arith, ints)) (below_above (negsuc g) (pos (suc h)) x.e a.e b.e e) (below_above (negsuc g) (pos (suc h)) x.n a.n b.n n)
mean_by_sides a b x (negsuc g) (negsuc h) lt e n = absurd (omega (arith, ints, lt))

-- a place x on both lines is that one
module _ (a b c d x : Coords) (flat : side a b x ≡ pos 0) (flat' : side c d x ≡ pos 0) where
  met : (y s t : ℤ) → y +ℤ (side a b x *ℤ s -ℤ side c d x *ℤ t) ≡ y
  met y s t = (λ i. y +ℤ (flat i *ℤ s -ℤ flat' i *ℤ t)) ∙ left y s t
    where
      left : (y s t : ℤ) → y +ℤ (pos 0 *ℤ s -ℤ pos 0 *ℤ t) ≡ y
      left y s t = omega (arith, ints)

  meet-e : (side c d a -ℤ side c d b) *ℤ x.e ≡ side c d a *ℤ b.e -ℤ side c d b *ℤ a.e
  meet-e = meeting-e a b c d x ∙ met (side c d a *ℤ b.e -ℤ side c d b *ℤ a.e) (d.e -ℤ c.e) (b.e -ℤ a.e)

  meet-n : (side c d a -ℤ side c d b) *ℤ x.n ≡ side c d a *ℤ b.n -ℤ side c d b *ℤ a.n
  meet-n = meeting-n a b c d x ∙ met (side c d a *ℤ b.n -ℤ side c d b *ℤ a.n) (d.n -ℤ c.n) (b.n -ℤ a.n)

  -- it lies on the one segment, where the other's line parts its ends
  pub on_crossed : (side c d a *ℤ side c d b) <ℤ pos 0 → is_on_segment a b x ≡ true
  on_crossed lt = on_of_mean a b x (mean_by_sides a b x (side c d a) (side c d b) lt meet-e meet-n)

-- and it is one place
pub meet_once : (a b c d x y : Coords) → side a b x ≡ pos 0 → side c d x ≡ pos 0 → side a b y ≡ pos 0 → side c d y ≡ pos 0 → (side c d a *ℤ side c d b) <ℤ pos 0 → x ≡ y
meet_once a b c d x y p q r s lt = same_coords x y
    (one (side c d a) (side c d b) x.e y.e lt (meet-e a b c d x p q ∙ sym (meet-e a b c d y r s)))
    (one (side c d a) (side c d b) x.n y.n lt (meet-n a b c d x p q ∙ sym (meet-n a b c d y r s)))
  where
    differ : (g h : ℤ) → (g *ℤ h) <ℤ pos 0 → g -ℤ h ≡ pos 0 → ⊥
    differ g h lt e = not_square g (subst (λ k. (g *ℤ k) <ℤ pos 0) (alike g h e) lt)
      where
        alike : (g h : ℤ) → g -ℤ h ≡ pos 0 → h ≡ g
        alike g h e = omega (arith, ints, e)

    one : (g h x y : ℤ) → (g *ℤ h) <ℤ pos 0 → (g -ℤ h) *ℤ x ≡ (g -ℤ h) *ℤ y → x ≡ y
    one g h x y lt e = ⊎_elim (λ f. absurd (differ g h lt f)) (λ f. omega (arith, ints, f))
        (mul-eq-zero (g -ℤ h) (x -ℤ y) (ring (g ∷ h ∷ x ∷ y ∷ []) ((var 0 ⊖ var 1) ⊗ (var 2 ⊖ var 3)) ((var 0 ⊖ var 1) ⊗ var 2 ⊖ (var 0 ⊖ var 1) ⊗ var 3) refl ∙ none _ _ e))
      where
        none : (s t : ℤ) → s ≡ t → s -ℤ t ≡ pos 0
        none s t e = omega (arith, ints, e)
