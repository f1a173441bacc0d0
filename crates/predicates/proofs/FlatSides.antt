-- Sides of places where one is given twice, or two are swapped.
use Rattle.std.proofs.Common.{◌≡◌, refl, ap, ◌∙◌, arith, [], ◌∷◌}
use Rattle.std.specs.Prelude.{ℤ, pos, neg_ℤ, ◌-ℤ◌, ◌<ℤ◌}
use Rattle.std.proofs.lemmas.Int.{ints}
use Rattle.ground_model.specs.Place.{Coords}
use Rattle.ground_model.specs.Side.{side}
use Rattle.ground_model.proofs.Ring.{num, ◌⊖◌, ring}
use Rattle.ground_model.proofs.Circle.{env, sideE, side-turned, side-same}
use Rattle.predicates.proofs.Signs.{positive-neg}

-- ---- sides of a corner given twice
pub flat_ab : (a b c : Coords) → a ≡ b → side a b c ≡ pos 0
flat_ab a b c e = ap (λ k. side k b c) e ∙ side-same b c

pub flat_bc : (a b c : Coords) → b ≡ c → side a b c ≡ pos 0
flat_bc a b c e = side-turned a b c ∙ flat_ab b c a e

pub flat_ca : (a b c : Coords) → c ≡ a → side a b c ≡ pos 0
flat_ca a b c e = side-turned a b c ∙ (side-turned b c a ∙ flat_ab c a b e)

-- ---- the other way
pub side-back : (a b p : Coords) → side b a p ≡ neg_ℤ (side a b p)
unfolding side
side-back a b p = ring (env (a ∷ b ∷ p ∷ [])) (sideE 1 0 2) (num (pos 0) ⊖ sideE 0 1 2) refl ∙ negated (side a b p)
  where
    negated : (y : ℤ) → pos 0 -ℤ y ≡ neg_ℤ y
    negated y = omega (arith, ints)

pub positive-back : (a b p : Coords) → side a b p <ℤ pos 0 → pos 0 <ℤ side b a p
positive-back a b p h = positive-neg (side a b p) (side b a p) (side-back a b p) h
