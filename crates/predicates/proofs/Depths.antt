-- What is below the plane of a triangle has a positive depth, and the converse.
use Rattle.std.proofs.Common.{◌≡◌, sym, arith, true, false}
use Rattle.std.specs.Prelude.{ℤ, pos, ◌+ℤ◌, ◌-ℤ◌, ◌*ℤ◌, ◌<ℤ◌, ◌≤ℤ◌, int_lt}
use Rattle.std.proofs.lemmas.Int.{ints}
use Rattle.ground_model.specs.Lifted.{Lifted, side_below, is_below}
use Rattle.predicates.specs.Depth.{depth}

pub deep_of_below : (a b c p : Lifted) → is_below a b c p ≡ true → pos 0 <ℤ depth a b c p
unfolding is_below depth
deep_of_below a b c p h = below (p.height *ℤ side_below a b c) (a.height *ℤ side_below b c p +ℤ b.height *ℤ side_below c a p +ℤ c.height *ℤ side_below a b p) h
  where
    below : (x y : ℤ) → int_lt x y ≡ true → pos 0 <ℤ (y -ℤ x)
    below x y e = omega (arith, ints, e)

pub below_of_deep : (a b c p : Lifted) → pos 0 <ℤ depth a b c p → is_below a b c p ≡ true
unfolding is_below depth
below_of_deep a b c p h = above (p.height *ℤ side_below a b c) (a.height *ℤ side_below b c p +ℤ b.height *ℤ side_below c a p +ℤ c.height *ℤ side_below a b p) h
  where
    above : (x y : ℤ) → pos 0 <ℤ (y -ℤ x) → int_lt x y ≡ true
    above x y e =
        let t : true ≡ int_lt x y = omega (arith, ints, e) in
        sym t

pub shallow_of_above : (a b c p : Lifted) → is_below a b c p ≡ false → depth a b c p ≤ℤ pos 0
unfolding is_below depth
shallow_of_above a b c p h = not_below (p.height *ℤ side_below a b c) (a.height *ℤ side_below b c p +ℤ b.height *ℤ side_below c a p +ℤ c.height *ℤ side_below a b p) h
  where
    not_below : (x y : ℤ) → int_lt x y ≡ false → (y -ℤ x) ≤ℤ pos 0
    not_below x y e = omega (arith, ints, e)

pub above_of_shallow : (a b c p : Lifted) → depth a b c p ≤ℤ pos 0 → is_below a b c p ≡ false
unfolding is_below depth
above_of_shallow a b c p h = not_below (p.height *ℤ side_below a b c) (a.height *ℤ side_below b c p +ℤ b.height *ℤ side_below c a p +ℤ c.height *ℤ side_below a b p) h
  where
    not_below : (x y : ℤ) → (y -ℤ x) ≤ℤ pos 0 → int_lt x y ≡ false
    not_below x y h =
        let t : false ≡ int_lt x y = omega (arith, ints, h) in
        sym t
