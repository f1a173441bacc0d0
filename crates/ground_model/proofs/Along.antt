-- Collinear places: opposite signs, the order of places, and the means of two places.
use Rattle.std.proofs.Common.{◌≡◌, ℕ, zero, suc, ◌+◌, ◌*◌, ◌<◌, refl, sym, ap, ◌∙◌, subst, arith, Bool, true, false, cond, [], ◌∷◌, inl, inr, ◌⊎◌}
use Rattle.std.specs.Prelude.{ℤ, pos, negsuc, ◌+ℤ◌, ◌-ℤ◌, ◌*ℤ◌, ◌<ℤ◌, ◌≤ℤ◌, int_lt, not, ◌&&◌, ◌||◌}
use Rattle.std.specs.declared.cmp.Ordering.{Ordering}
use Rattle.std.specs.declared.cmp.Ordering.TheVariants.{Less, Equal, Greater}
use Rattle.std.specs.Ordering.{is_lt, is_eq, int_cmp, ordering_then, MatchOrdering}
use Rattle.std.proofs.lemmas.Int.{ints, by_lt_z}
use Rattle.std.proofs.lemmas.Cmp.{int_ranked}
use Rattle.std.proofs.lemmas.Bool.Decides.{Decides-int_eq}
use Rattle.ground_model.specs.Place.{Coords, is_before}
use Rattle.ground_model.specs.Side.{side, oppose, is_on_segment}
use Rattle.ground_model.proofs.Ring.{var, num, ◌⊕◌, ◌⊖◌, ◌⊗◌, ring}
use Rattle.ground_model.proofs.ZLaws.{zero-mul}
use Rattle.ground_model.proofs.ZOrder.{mul-positive}
use Rattle.ground_model.proofs.Circle.{env, sideE, same_coords}

-- ---- opposite signs: the product is negative
-- what a factor that isn't negative makes negative was so before
pub negative_factor : (k z : ℤ) → pos 0 ≤ℤ k → (k *ℤ z) <ℤ pos 0 → z <ℤ pos 0
negative_factor (pos k) (pos z) h lt = absurd (omega (arith, ints, lt))
negative_factor (pos k) (negsuc z) h lt = omega (arith, ints)
negative_factor (negsuc k) z h lt = absurd (omega (arith, ints, h))

pub times_negative : (k z : ℤ) → pos 0 <ℤ k → z <ℤ pos 0 → (k *ℤ z) <ℤ pos 0
times_negative (pos zero) z h lt = absurd (omega (arith, ints, h))
times_negative (pos (suc k)) (pos z) h lt = absurd (omega (arith, ints, lt))
times_negative (pos (suc k)) (negsuc z) h lt = omega (arith, ints)
times_negative (negsuc k) z h lt = absurd (omega (arith, ints, h))

alike_below : (x y : ℤ) → x <ℤ pos 0 → y <ℤ pos 0 → (x *ℤ y) <ℤ pos 0 → ⊥
alike_below (pos m) y h k lt = omega (arith, ints, h)
alike_below (negsuc m) (pos n) h k lt = omega (arith, ints, k)
alike_below (negsuc m) (negsuc n) h k lt = omega (arith, ints, lt)

alike_above : (x y : ℤ) → pos 0 <ℤ x → pos 0 <ℤ y → (x *ℤ y) <ℤ pos 0 → ⊥
alike_above x y h k lt = omega (arith, ints, lt, mul-positive x y h k)

pub not_zero_left : (x y : ℤ) → x ≡ pos 0 → (x *ℤ y) <ℤ pos 0 → ⊥
not_zero_left x y e lt = omega (arith, ints, lt, ap (λ k. k *ℤ y) e ∙ zero-mul y)

pub opposite_of : (x y : ℤ) → oppose (int_cmp x (pos 0)) (int_cmp y (pos 0)) ≡ true → (x *ℤ y) <ℤ pos 0
opposite_of x y e = both (int_cmp x (pos 0)) (int_cmp y (pos 0)) (int_ranked x (pos 0) _ refl) (int_ranked y (pos 0) _ refl) e
  where
    both : (s t : Ordering) → MatchOrdering s (x <ℤ pos 0) (x ≡ pos 0) (pos 0 <ℤ x) → MatchOrdering t (y <ℤ pos 0) (y ≡ pos 0) (pos 0 <ℤ y) → oppose s t ≡ true → (x *ℤ y) <ℤ pos 0
    both Less Less p q e = cc
    both Less Equal p q e = cc
    both Less Greater p q e = omega (arith, ints, times_negative y x q p)
    both Equal t p q e = cc
    both Greater Less p q e = times_negative x y p q
    both Greater Equal p q e = cc
    both Greater Greater p q e = cc

pub oppose_from : (x y : ℤ) → (x *ℤ y) <ℤ pos 0 → oppose (int_cmp x (pos 0)) (int_cmp y (pos 0)) ≡ true
oppose_from x y lt = both (int_cmp x (pos 0)) (int_cmp y (pos 0)) (int_ranked x (pos 0) _ refl) (int_ranked y (pos 0) _ refl)
  where
    both : (s t : Ordering) → MatchOrdering s (x <ℤ pos 0) (x ≡ pos 0) (pos 0 <ℤ x) → MatchOrdering t (y <ℤ pos 0) (y ≡ pos 0) (pos 0 <ℤ y) → oppose s t ≡ true
    both Less Less p q = absurd (alike_below x y p q lt)
    both Less Equal p q = absurd (not_zero_left y x q (omega (arith, ints, lt)))
    both Less Greater p q = refl
    both Equal t p q = absurd (not_zero_left x y p lt)
    both Greater Less p q = refl
    both Greater Equal p q = absurd (not_zero_left y x q (omega (arith, ints, lt)))
    both Greater Greater p q = absurd (alike_above x y p q lt)

pub square_positive : (x : ℤ) → ¬ (x ≡ pos 0) → pos 0 <ℤ (x *ℤ x)
square_positive (pos zero) some = absurd (some refl)
square_positive (pos (suc n)) some = omega (arith, ints)
square_positive (negsuc n) some = omega (arith, ints)

pub not_square : (x : ℤ) → (x *ℤ x) <ℤ pos 0 → ⊥
not_square (pos n) lt = omega (arith, ints, lt)
not_square (negsuc n) lt = omega (arith, ints, lt)

pub square_nonneg : (x : ℤ) → pos 0 ≤ℤ (x *ℤ x)
square_nonneg (pos n) = omega (arith, ints)
square_nonneg (negsuc n) = omega (arith, ints)

-- what isn't zero is opposite to one of two opposites
pub parted : (x y z : ℤ) → (x *ℤ z) <ℤ pos 0 → ¬ (y ≡ pos 0) → ((x *ℤ y) <ℤ pos 0) ⊎ ((y *ℤ z) <ℤ pos 0)
parted x y z lt some = by_lt_z (x *ℤ y) (pos 0) (λ less. inl less)
    (λ ge. inr (negative_factor (x *ℤ y) (y *ℤ z) ge
    (subst (λ k. k <ℤ pos 0) (ring (x ∷ y ∷ z ∷ []) ((var 1 ⊗ var 1) ⊗ (var 0 ⊗ var 2)) ((var 0 ⊗ var 1) ⊗ (var 1 ⊗ var 2)) refl)
    (times_negative (y *ℤ y) (x *ℤ z) (square_positive y some) lt))))

-- means of two numbers are opposite only where the numbers are
pub outer : (l m l' m' : ℕ) (a b x y : ℤ) → 0 < l + m → 0 < l' + m' → pos (l + m) *ℤ x ≡ pos l *ℤ a +ℤ pos m *ℤ b → pos (l' + m') *ℤ y ≡ pos l' *ℤ a +ℤ pos m' *ℤ b → (x *ℤ y) <ℤ pos 0 → (a *ℤ b) <ℤ pos 0
outer l m l' m' a b x y some some' e e' lt = by_lt_z (a *ℤ b) (pos 0) (λ less. less) (λ ge. absurd (none (square_nonneg a) (square_nonneg b) ge))
  where
    whole : pos ((l + m) * (l' + m')) *ℤ (x *ℤ y) ≡ pos (l * l') *ℤ (a *ℤ a) +ℤ pos (m * m') *ℤ (b *ℤ b) +ℤ pos (l * m' + m * l') *ℤ (a *ℤ b)
    whole =
        ring (pos (l + m) ∷ pos (l' + m') ∷ x ∷ y ∷ []) ((var 0 ⊗ var 1) ⊗ (var 2 ⊗ var 3)) ((var 0 ⊗ var 2) ⊗ (var 1 ⊗ var 3)) refl
        ∙ (λ i. e i *ℤ e' i)
        ∙ ring (pos l ∷ pos m ∷ pos l' ∷ pos m' ∷ a ∷ b ∷ []) ((var 0 ⊗ var 4 ⊕ var 1 ⊗ var 5) ⊗ (var 2 ⊗ var 4 ⊕ var 3 ⊗ var 5))
        ((var 0 ⊗ var 2) ⊗ (var 4 ⊗ var 4) ⊕ (var 1 ⊗ var 3) ⊗ (var 5 ⊗ var 5) ⊕ (var 0 ⊗ var 3 ⊕ var 1 ⊗ var 2) ⊗ (var 4 ⊗ var 5)) refl

    negative : (k : ℕ) (p q r : ℕ) (s t u z : ℤ) → 0 < k → pos k *ℤ z ≡ pos p *ℤ s +ℤ pos q *ℤ t +ℤ pos r *ℤ u → z <ℤ pos 0 → pos 0 ≤ℤ s → pos 0 ≤ℤ t → pos 0 ≤ℤ u → ⊥
    negative k p q r (pos s) (pos t) (pos u) z h e lt hs ht hu = omega (arith, ints, e, times_negative (pos k) z (omega (arith, ints)) lt)
    negative k p q r (pos s) (pos t) (negsuc u) z h e lt hs ht hu = omega (arith, ints, hu)
    negative k p q r (pos s) (negsuc t) u z h e lt hs ht hu = omega (arith, ints, ht)
    negative k p q r (negsuc s) t u z h e lt hs ht hu = omega (arith, ints, hs)

    many : (p q : ℕ) → 0 < p → 0 < q → 0 < p * q
    many zero q h k = omega arith
    many (suc p) zero h k = omega arith
    many (suc p) (suc q) h k = omega arith

    none : pos 0 ≤ℤ (a *ℤ a) → pos 0 ≤ℤ (b *ℤ b) → pos 0 ≤ℤ (a *ℤ b) → ⊥
    none = negative ((l + m) * (l' + m')) (l * l') (m * m') (l * m' + m * l') (a *ℤ a) (b *ℤ b) (a *ℤ b) (x *ℤ y) (many (l + m) (l' + m') some some') whole lt

-- ---- the order of places
-- q is not before p
abbrev pub UpTo : Coords → Coords → Type 0
UpTo p q = (p.e <ℤ q.e) ⊎ ((p.e ≡ q.e) × (p.n ≤ℤ q.n))

-- what a comparison of pairs says, by its four tests
abbrev by_tests : Bool → Bool → Bool → Bool → Ordering
by_tests a b c d = ordering_then (cond a Less (cond b Greater Equal)) (cond c Less (cond d Greater Equal))

not_less : (a b c d : Bool) → is_lt (by_tests a b c d) ≡ false → (a ≡ false) × ((b ≡ true) ⊎ (c ≡ false))
not_less true b c d h = cc
not_less false true c d h = (refl, inl refl)
not_less false false true d h = cc
not_less false false false d h = (refl, inr refl)

not_less_from : (a b c d : Bool) → a ≡ false → (b ≡ true) ⊎ (c ≡ false) → is_lt (by_tests a b c d) ≡ false
not_less_from true b c d p q = cc
not_less_from false true c d p q = refl
not_less_from false false c d p (inl e) = cc
not_less_from false false true d p (inr e) = cc
not_less_from false false false true p (inr e) = refl
not_less_from false false false false p (inr e) = refl

pub up_to : (p q : Coords) → is_before q p ≡ false → UpTo p q
up_to p q h = of_tests (not_less (int_lt q.e p.e) (int_lt p.e q.e) (int_lt q.n p.n) (int_lt p.n q.n) h)
  where
    of_tests : (int_lt q.e p.e ≡ false) × ((int_lt p.e q.e ≡ true) ⊎ (int_lt q.n p.n ≡ false)) → UpTo p q
    of_tests (e, inl lt) = inl (omega (arith, ints, sym lt))
    of_tests (e, inr n) = by_lt_z p.e q.e (λ lt. inl lt) (λ ge. inr (omega (arith, ints, sym e), omega (arith, ints, sym n)))

pub not_before : (p q : Coords) → UpTo p q → is_before q p ≡ false
not_before p q (inl lt) =
    let e : false ≡ int_lt q.e p.e = omega (arith, ints) in
    let f : true ≡ int_lt p.e q.e = omega (arith, ints) in
    not_less_from (int_lt q.e p.e) (int_lt p.e q.e) (int_lt q.n p.n) (int_lt p.n q.n) (sym e) (inl (sym f))
not_before p q (inr h) =
    let e : false ≡ int_lt q.e p.e = omega (arith, ints, h.0) in
    let f : false ≡ int_lt q.n p.n = omega (arith, ints, h.1) in
    not_less_from (int_lt q.e p.e) (int_lt p.e q.e) (int_lt q.n p.n) (int_lt p.n q.n) (sym e) (inr (sym f))

pub same_place : (p q : Coords) → is_before p q ≡ false → is_before q p ≡ false → p ≡ q
same_place p q h k = of_both (up_to q p h) (up_to p q k)
  where
    of_both : UpTo q p → UpTo p q → p ≡ q
    of_both (inl lt) (inl less) = absurd (omega (arith, ints, lt, less))
    of_both (inl lt) (inr f) = absurd (omega (arith, ints, lt, f.0))
    of_both (inr e) (inl less) = absurd (omega (arith, ints, e.0, less))
    of_both (inr e) (inr f) = same_coords p q f.0 (omega (arith, ints, e.1, f.1))

-- ---- means
-- x is a mean of u and v by the weights l and m
pub record Mean (u v x : Coords) : Type 0 where
  pub l : ℕ
  pub m : ℕ
  pub some : 0 < l + m
  pub e_is : pos (l + m) *ℤ x.e ≡ pos l *ℤ u.e +ℤ pos m *ℤ v.e
  pub n_is : pos (l + m) *ℤ x.n ≡ pos l *ℤ u.n +ℤ pos m *ℤ v.n

pub mean_by : (u v x : Coords) (l m : ℤ) → pos 0 ≤ℤ l → pos 0 ≤ℤ m → pos 0 <ℤ (l +ℤ m) → (l +ℤ m) *ℤ x.e ≡ l *ℤ u.e +ℤ m *ℤ v.e → (l +ℤ m) *ℤ x.n ≡ l *ℤ u.n +ℤ m *ℤ v.n → Mean u v x
mean_by u v x (pos l) (pos m) h k some e n = record { l = l; m = m; some = omega (arith, ints, some); e_is = e; n_is = n }
mean_by u v x (pos l) (negsuc m) h k some e n = absurd (omega (arith, ints, k))
mean_by u v x (negsuc l) m h k some e n = absurd (omega (arith, ints, h))

-- a mean by the differences along one coordinate
shares : (a b x : ℤ) → ((b -ℤ x) +ℤ (x -ℤ a)) *ℤ x ≡ (b -ℤ x) *ℤ a +ℤ (x -ℤ a) *ℤ b
shares a b x = ring (a ∷ b ∷ x ∷ []) (((var 1 ⊖ var 2) ⊕ (var 2 ⊖ var 0)) ⊗ var 2) ((var 1 ⊖ var 2) ⊗ var 0 ⊕ (var 2 ⊖ var 0) ⊗ var 1) refl

-- what both ends have alike
shares_same : (l m k x y z : ℤ) → x ≡ k → y ≡ k → z ≡ k → (l +ℤ m) *ℤ x ≡ l *ℤ y +ℤ m *ℤ z
shares_same l m k x y z p q r = ap (λ t. (l +ℤ m) *ℤ t) p ∙ ring (l ∷ m ∷ k ∷ []) ((var 0 ⊕ var 1) ⊗ var 2) (var 0 ⊗ var 2 ⊕ var 1 ⊗ var 2) refl ∙ (λ i. l *ℤ sym q i +ℤ m *ℤ sym r i)

shares_collinear : (u v x : Coords) → side u v x ≡ pos 0 → ((v.e -ℤ x.e) +ℤ (x.e -ℤ u.e)) *ℤ x.n ≡ (v.e -ℤ x.e) *ℤ u.n +ℤ (x.e -ℤ u.e) *ℤ v.n
unfolding side
shares_collinear u v x flat =
    ring (env (u ∷ v ∷ x ∷ [])) (((var 2 ⊖ var 4) ⊕ (var 4 ⊖ var 0)) ⊗ var 5) (((var 2 ⊖ var 4) ⊗ var 1 ⊕ (var 4 ⊖ var 0) ⊗ var 3) ⊕ sideE 0 1 2) refl
    ∙ ap (λ k. ((v.e -ℤ x.e) *ℤ u.n +ℤ (x.e -ℤ u.e) *ℤ v.n) +ℤ k) flat
    ∙ plus_none ((v.e -ℤ x.e) *ℤ u.n +ℤ (x.e -ℤ u.e) *ℤ v.n)
  where
    plus_none : (z : ℤ) → z +ℤ pos 0 ≡ z
    plus_none z = omega (arith, ints)

mean_up : (u v x : Coords) → side u v x ≡ pos 0 → UpTo u x → UpTo x v → Mean u v x
mean_up u v x flat h k = by_lt_z u.e v.e
    (λ lt. mean_by u v x (v.e -ℤ x.e) (x.e -ℤ u.e) (after k) (after_first h) (omega (arith, ints, lt)) (shares u.e v.e x.e) (shares_collinear u v x flat))
    (λ ge. level (east h) (east k) ge h k)
  where
    after : UpTo x v → pos 0 ≤ℤ (v.e -ℤ x.e)
    after (inl lt) = omega (arith, ints, lt)
    after (inr e) = omega (arith, ints, e.0)

    after_first : UpTo u x → pos 0 ≤ℤ (x.e -ℤ u.e)
    after_first (inl lt) = omega (arith, ints, lt)
    after_first (inr e) = omega (arith, ints, e.0)

    east : {p q : Coords} → UpTo p q → p.e ≤ℤ q.e
    east (inl lt) = omega (arith, ints, lt)
    east (inr e) = omega (arith, ints, e.0)

    level : u.e ≤ℤ x.e → x.e ≤ℤ v.e → v.e ≤ℤ u.e → UpTo u x → UpTo x v → Mean u v x
    level p q r (inl lt) k = absurd (omega (arith, ints, lt, q, r))
    level p q r (inr e) (inl lt) = absurd (omega (arith, ints, lt, p, r))
    level p q r (inr e) (inr f) = by_lt_z u.n v.n
        (λ lt. mean_by u v x (v.n -ℤ x.n) (x.n -ℤ u.n) (omega (arith, ints, f.1)) (omega (arith, ints, e.1)) (omega (arith, ints, lt))
        (shares_same (v.n -ℤ x.n) (x.n -ℤ u.n) x.e x.e u.e v.e refl e.0 (sym f.0)) (shares u.n v.n x.n))
        (λ ge. mean_by u v x (pos 1) (pos 0) (omega (arith, ints)) (omega (arith, ints)) (omega (arith, ints))
        (shares_same (pos 1) (pos 0) x.e x.e u.e v.e refl e.0 (sym f.0)) (shares_same (pos 1) (pos 0) x.n x.n u.n v.n refl (omega (arith, ints, e.1, f.1, ge)) (omega (arith, ints, e.1, f.1, ge))))

pub mean_turned : (u v x : Coords) → Mean u v x → Mean v u x
mean_turned u v x p = record { l = p.m; m = p.l; some = omega (arith, p.some); e_is = turned p.l p.m x.e u.e v.e p.e_is; n_is = turned p.l p.m x.n u.n v.n p.n_is }
  where
    turned : (l m : ℕ) (x a b : ℤ) → pos (l + m) *ℤ x ≡ pos l *ℤ a +ℤ pos m *ℤ b → pos (m + l) *ℤ x ≡ pos m *ℤ b +ℤ pos l *ℤ a
    turned l m x a b e = ring (pos l ∷ pos m ∷ x ∷ []) ((var 1 ⊕ var 0) ⊗ var 2) ((var 0 ⊕ var 1) ⊗ var 2) refl ∙ e ∙ ring (pos l ∷ pos m ∷ a ∷ b ∷ []) (var 0 ⊗ var 2 ⊕ var 1 ⊗ var 3) (var 1 ⊗ var 3 ⊕ var 0 ⊗ var 2) refl

side-back : (u v x : Coords) → side u v x ≡ pos 0 → side v u x ≡ pos 0
unfolding side
side-back u v x flat = negated (side u v x) (side v u x) (ring (env (u ∷ v ∷ x ∷ [])) (sideE 0 1 2 ⊕ sideE 1 0 2) (num (pos 0)) refl) flat
  where
    negated : (y z : ℤ) → y +ℤ z ≡ pos 0 → y ≡ pos 0 → z ≡ pos 0
    negated y z e f = omega (arith, ints)

or_split : (s a b c d : Bool) → (s && (not a && not b || not c && not d)) ≡ true → (s ≡ true) × (((a ≡ false) × (b ≡ false)) ⊎ ((c ≡ false) × (d ≡ false)))
or_split false a b c d h = cc
or_split true false false c d h = (refl, inl (refl, refl))
or_split true false true false false h = (refl, inr (refl, refl))
or_split true false true false true h = cc
or_split true false true true d h = cc
or_split true true b false false h = (refl, inr (refl, refl))
or_split true true b false true h = cc
or_split true true b true d h = cc

-- a place on a segment is collinear with its ends, and a mean of its ends
pub collinear_of_on : (u v x : Coords) → is_on_segment u v x ≡ true → side u v x ≡ pos 0
collinear_of_on u v x h = (Decides-int_eq (side u v x) (pos 0)).0 (or_split (is_eq (int_cmp (side u v x) (pos 0))) (is_before x u) (is_before v x) (is_before x v) (is_before u x) h).0

pub mean_of_on : (u v x : Coords) → is_on_segment u v x ≡ true → Mean u v x
mean_of_on u v x h = of_parts (or_split (is_eq (int_cmp (side u v x) (pos 0))) (is_before x u) (is_before v x) (is_before x v) (is_before u x) h).1
  where
    flat : side u v x ≡ pos 0
    flat = collinear_of_on u v x h

    of_parts : ((is_before x u ≡ false) × (is_before v x ≡ false)) ⊎ ((is_before x v ≡ false) × (is_before u x ≡ false)) → Mean u v x
    of_parts (inl p) = mean_up u v x flat (up_to u x p.0) (up_to x v p.1)
    of_parts (inr p) = mean_turned v u x (mean_up v u x (side-back u v x flat) (up_to v x p.0) (up_to x u p.1))
