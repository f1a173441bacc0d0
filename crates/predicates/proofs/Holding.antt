-- Whether a triangle has a place, or a corner: what the tests tell, and how they are met.
use Rattle.std.proofs.Common.{◌≡◌, ℕ, zero, suc, ◌⊎◌, inl, inr, refl, sym, ap, ◌∙◌, arith, List, [], ◌∷◌, Bool, true, false}
use Rattle.std.specs.Prelude.{ℤ, pos, ◌≤ℤ◌, int_lt, not, ◌&&◌, ◌||◌, Some, slice_get}
use Rattle.std.specs.List.{list_all}
use Rattle.std.proofs.lemmas.Int.{ints}
use Rattle.std.proofs.lemmas.Bool.{and_parts, and_from, or_left, or_right}
use Rattle.ground_model.specs.declared.corner.Corner.{Corner}
use Rattle.ground_model.specs.declared.corner.Corner.TheVariants.{At}
use Rattle.ground_model.specs.Place.{Coords}
use Rattle.ground_model.specs.Corner.{corner_side, is_same_corner}
use Rattle.predicates.specs.Net.{Triangle, is_beyond, covers, has_corner}
use Rattle.predicates.proofs.Edges.{corner-self}
use Rattle.predicates.proofs.Owners.{IsTurn, Still, Once, Twice}

-- ---- a test that each item passes
pub passes-each : {X : Type 0} (p : X → Bool) (xs : List X) → ((k : ℕ) (x : X) → slice_get xs k ≡ Some x → p x ≡ true) → list_all p xs ≡ true
passes-each p [] each = refl
passes-each p (x ∷ xs) each = and_from (p x) (list_all p xs) (each zero x refl) (passes-each p xs (λ k y at. each (suc k) y at))

-- ---- a corner
pub turn-has_corner : (t : Triangle) (a b c z : Corner) → IsTurn t a b c → (z ≡ a) ⊎ ((z ≡ b) ⊎ (z ≡ c)) → has_corner t z ≡ true
turn-has_corner t a b c z turn at = by turn at
  where
    same : (y : Corner) → z ≡ y → is_same_corner y z ≡ true
    same y e = ap (is_same_corner y) e ∙ corner-self y

    at_a : z ≡ t.a → has_corner t z ≡ true
    at_a e = or_left (is_same_corner t.a z || is_same_corner t.b z) (is_same_corner t.c z) (or_left (is_same_corner t.a z) (is_same_corner t.b z) (same t.a e))

    at_b : z ≡ t.b → has_corner t z ≡ true
    at_b e = or_left (is_same_corner t.a z || is_same_corner t.b z) (is_same_corner t.c z) (or_right (is_same_corner t.a z) (is_same_corner t.b z) (same t.b e))

    at_c : z ≡ t.c → has_corner t z ≡ true
    at_c e = or_right (is_same_corner t.a z || is_same_corner t.b z) (is_same_corner t.c z) (same t.c e)

    three_at : (z ≡ t.a) ⊎ ((z ≡ t.b) ⊎ (z ≡ t.c)) → has_corner t z ≡ true
    three_at (inl e) = at_a e
    three_at (inr (inl e)) = at_b e
    three_at (inr (inr e)) = at_c e

    turned : (x y w : Corner) → IsTurn t x y w → (z ≡ x) ⊎ ((z ≡ y) ⊎ (z ≡ w)) → (z ≡ t.a) ⊎ ((z ≡ t.b) ⊎ (z ≡ t.c))
    turned x y w Still h = h
    turned x y w Once (inl e) = inr (inl e)
    turned x y w Once (inr (inl e)) = inr (inr e)
    turned x y w Once (inr (inr e)) = inl e
    turned x y w Twice (inl e) = inr (inr e)
    turned x y w Twice (inr (inl e)) = inl e
    turned x y w Twice (inr (inr e)) = inr (inl e)

    by : IsTurn t a b c → (z ≡ a) ⊎ ((z ≡ b) ⊎ (z ≡ c)) → has_corner t z ≡ true
    by turn h = three_at (turned a b c turn h)

-- ---- a place
not_beyond : (s : ℤ) → not (int_lt s (pos 0)) ≡ true → pos 0 ≤ℤ s
not_beyond s e = by (int_lt s (pos 0)) refl e
  where
    by : (t : Bool) → int_lt s (pos 0) ≡ t → not t ≡ true → pos 0 ≤ℤ s
    by true f g = cc
    by false f g = omega (arith, ints, sym f)

pub record Held (a b c : Corner) (p : Coords) : Type 0 where
  pub ab : pos 0 ≤ℤ corner_side a b (At p)
  pub bc : pos 0 ≤ℤ corner_side b c (At p)
  pub ca : pos 0 ≤ℤ corner_side c a (At p)

pub turn-held : (t : Triangle) (a b c : Corner) (p : Coords) → IsTurn t a b c → covers t p ≡ true → Held a b c p
turn-held t a b c p turn e = by a b c turn
  where
    outer : ((not (is_beyond t.a t.b p) && not (is_beyond t.b t.c p)) ≡ true) × (not (is_beyond t.c t.a p) ≡ true)
    outer = and_parts (not (is_beyond t.a t.b p) && not (is_beyond t.b t.c p)) (not (is_beyond t.c t.a p)) e

    inner : (not (is_beyond t.a t.b p) ≡ true) × (not (is_beyond t.b t.c p) ≡ true)
    inner = and_parts (not (is_beyond t.a t.b p)) (not (is_beyond t.b t.c p)) outer.0

    ab : pos 0 ≤ℤ corner_side t.a t.b (At p)
    ab = not_beyond (corner_side t.a t.b (At p)) inner.0

    bc : pos 0 ≤ℤ corner_side t.b t.c (At p)
    bc = not_beyond (corner_side t.b t.c (At p)) inner.1

    ca : pos 0 ≤ℤ corner_side t.c t.a (At p)
    ca = not_beyond (corner_side t.c t.a (At p)) outer.1

    by : (x y z : Corner) → IsTurn t x y z → Held x y z p
    by x y z Still = record { ab = ab; bc = bc; ca = ca }
    by x y z Once = record { ab = bc; bc = ca; ca = ab }
    by x y z Twice = record { ab = ca; bc = ab; ca = bc }

pub must-corner : (t : Triangle) (p : Coords) → (covers t p ≡ true → has_corner t (At p) ≡ true) → (not (covers t p) || has_corner t (At p)) ≡ true
must-corner t p h = by (covers t p) refl
  where
    by : (s : Bool) → covers t p ≡ s → (not s || has_corner t (At p)) ≡ true
    by true e = h e
    by false e = refl
