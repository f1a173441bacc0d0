-- What is inside a circle of corners lies below their lifted plane: by its depth.
use Rattle.std.proofs.Common.{◌≡◌, refl, sym, ◌∙◌, true, false}
use Rattle.std.specs.Prelude.{pos, ◌<ℤ◌, ◌≤ℤ◌}
use Rattle.ground_model.specs.declared.corner.Corner.{Corner}
use Rattle.ground_model.specs.declared.corner.Corner.TheVariants.{At, Far}
use Rattle.ground_model.specs.Lifted.{is_below}
use Rattle.ground_model.specs.Corner.{lifted_corner, is_corner_inside}
use Rattle.predicates.proofs.Depths.{deep_of_below, below_of_deep, shallow_of_above, above_of_shallow}
use Rattle.predicates.proofs.Heights.{lift, deep}

lift-is : (z : Corner) → lifted_corner z ≡ lift z
lift-is (At p) = refl
lift-is (Far k) = refl

inside-is : (a b c d : Corner) → is_corner_inside a b c d ≡ is_below (lift a) (lift b) (lift c) (lift d)
unfolding is_corner_inside
inside-is a b c d = (λ i. is_below (lift-is a i) (lift-is b i) (lift-is c i) (lift-is d i))

pub inside-deep : (a b c d : Corner) → is_corner_inside a b c d ≡ true → pos 0 <ℤ deep a b c d
inside-deep a b c d e = deep_of_below (lift a) (lift b) (lift c) (lift d) (sym (inside-is a b c d) ∙ e)

pub outside-shallow : (a b c d : Corner) → is_corner_inside a b c d ≡ false → deep a b c d ≤ℤ pos 0
outside-shallow a b c d e = shallow_of_above (lift a) (lift b) (lift c) (lift d) (sym (inside-is a b c d) ∙ e)

pub deep-inside : (a b c d : Corner) → pos 0 <ℤ deep a b c d → is_corner_inside a b c d ≡ true
deep-inside a b c d h = inside-is a b c d ∙ below_of_deep (lift a) (lift b) (lift c) (lift d) h

pub shallow-outside : (a b c d : Corner) → deep a b c d ≤ℤ pos 0 → is_corner_inside a b c d ≡ false
shallow-outside a b c d h = inside-is a b c d ∙ above_of_shallow (lift a) (lift b) (lift c) (lift d) h
