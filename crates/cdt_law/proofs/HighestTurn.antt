-- A triangle with a far corner, in the turn that ends with its highest one.
use Rattle.std.proofs.Common.{◌≡◌, ℕ, ◌<◌, inl, inr, ◌⊎◌, ⊎_elim, refl, sym, ap, subst, ◌∙◌, arith, true}
use Rattle.std.specs.Prelude.{pos, ◌<ℤ◌}
use Rattle.std.proofs.lemmas.Bool.{lt-ltb, ltb-true, cases_order}
use Rattle.ground_model.specs.declared.corner.Corner.{Corner}
use Rattle.ground_model.specs.declared.corner.Corner.TheVariants.{At, Far}
use Rattle.ground_model.specs.Corner.{corner_at, corner_side}
use Rattle.predicates.specs.Net.{Triangle}
use Rattle.predicates.proofs.Owners.{IsTurn, Still, turn-next}
use Rattle.predicates.proofs.Signs.{never-level}
use Rattle.predicates.proofs.FlatSides.{flat_ab, flat_bc, flat_ca}
use Rattle.cdt_law.specs.Hull.{is_lower}
use Rattle.cdt_law.proofs.GoneFacets.{Places}

pub record HighTurn (t : Triangle) : Type 0 where
  pub a : Corner
  pub b : Corner
  pub k : ℕ
  pub turn : IsTurn t a b (Far k)
  pub low_a : is_lower a k ≡ true
  pub low_b : is_lower b k ≡ true

-- a corner is lower than a far one, or a far one of a lesser number
lower-or : (x : Corner) (k : ℕ) → (x ≡ Far k → ⊥) → (is_lower x k ≡ true) ⊎ ((j : ℕ) × ((x ≡ Far j) × (j < k)))
lower-or (At p) k differs = inl refl
lower-or (Far j) k differs = ⊎_elim (λ e. absurd (differs (ap Far e))) (λ apart. ⊎_elim (λ lt. inr (j, (refl, lt))) (λ gt. inl (lt-ltb k j gt)) apart) (cases_order j k)

lower-weaken : (x : Corner) (i k : ℕ) → i < k → is_lower x k ≡ true → is_lower x i ≡ true
lower-weaken (At p) i k lt e = refl
lower-weaken (Far j) i k lt e = lt-ltb i j (less i k j lt (ltb-true k j e))
  where
    less : (i k j : ℕ) → i < k → k < j → i < j
    less i k j h l = omega (arith, h, l)

last-high : (t : Triangle) (x y : Corner) (k : ℕ) → IsTurn t x y (Far k) → (x ≡ y → ⊥) → (x ≡ Far k → ⊥) → (y ≡ Far k → ⊥) → HighTurn t
last-high t x y k turn xy xk yk = by_x (lower-or x k xk)
  where
    second : IsTurn t y (Far k) x
    second = turn-next t x y (Far k) turn

    third : IsTurn t (Far k) x y
    third = turn-next t y (Far k) x second

    by_y : is_lower x k ≡ true → (is_lower y k ≡ true) ⊎ ((j : ℕ) × ((y ≡ Far j) × (j < k))) → HighTurn t
    by_y low_x (inl low_y) = record { a = x; b = y; k = k; turn = turn; low_a = low_x; low_b = low_y }
    by_y low_x (inr (i, (e, lt))) = record { a = Far k; b = x; k = i; turn = subst (λ w. IsTurn t (Far k) x w) e third; low_a = lt-ltb i k lt; low_b = lower-weaken x i k lt low_x }

    least : (j : ℕ) → x ≡ Far j → j < k → (is_lower y j ≡ true) ⊎ ((i : ℕ) × ((y ≡ Far i) × (i < j))) → HighTurn t
    least j e lt (inl low_y) = record { a = y; b = Far k; k = j; turn = subst (λ w. IsTurn t y (Far k) w) e second; low_a = low_y; low_b = lt-ltb j k lt }
    least j e lt (inr (i, (f, less))) = record {
      a = Far k;
      b = x;
      k = i;
      turn = subst (λ w. IsTurn t (Far k) x w) f third;
      low_a = lt-ltb i k (further i j k less lt);
      low_b = ap (λ w. is_lower w i) e ∙ lt-ltb i j less;
    }
      where
        further : (i j k : ℕ) → i < j → j < k → i < k
        further i j k h l = omega (arith, h, l)

    by_x : (is_lower x k ≡ true) ⊎ ((j : ℕ) × ((x ≡ Far j) × (j < k))) → HighTurn t
    by_x (inl low_x) = by_y low_x (lower-or y k yk)
    by_x (inr (j, (e, lt))) = least j e lt (lower-or y j (λ f. xy (e ∙ sym f)))

far-or-places : (t : Triangle) (x y z : Corner) → IsTurn t x y z → (x ≡ y → ⊥) → (y ≡ z → ⊥) → (z ≡ x → ⊥) → Places x y z ⊎ HighTurn t
far-or-places t (At p) (At q) (At r) turn xy yz zx = inl (record { p = p; q = q; r = r; first = refl; second = refl; third = refl })
far-or-places t x y (Far k) turn xy yz zx = inr (last-high t x y k turn xy (λ e. zx (sym e)) yz)
far-or-places t x (Far k) (At r) turn xy yz zx = inr (last-high t (At r) x k (turn-next t (Far k) (At r) x (turn-next t x (Far k) (At r) turn)) zx (λ e. yz (sym e)) xy)
far-or-places t (Far k) (At q) (At r) turn xy yz zx = inr (last-high t (At q) (At r) k (turn-next t (Far k) (At q) (At r) turn) yz (λ e. xy (sym e)) zx)

-- a counterclockwise triangle is of three places, or has a highest far corner
pub places-or-high : (t : Triangle) → pos 0 <ℤ corner_side t.a t.b t.c → Places t.a t.b t.c ⊎ HighTurn t
places-or-high t turned = far-or-places t t.a t.b t.c Still
    (λ e. never-level (corner_side t.a t.b t.c) turned (flat_ab (corner_at t.a) (corner_at t.b) (corner_at t.c) (ap corner_at e)))
    (λ e. never-level (corner_side t.a t.b t.c) turned (flat_bc (corner_at t.a) (corner_at t.b) (corner_at t.c) (ap corner_at e)))
    (λ e. never-level (corner_side t.a t.b t.c) turned (flat_ca (corner_at t.a) (corner_at t.b) (corner_at t.c) (ap corner_at e)))
