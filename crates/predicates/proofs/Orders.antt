-- The order that a sign came from.
use Rattle.std.proofs.Common.{◌≡◌, refl}
use Rattle.std.specs.declared.cmp.Ordering.{Ordering}
use Rattle.std.specs.declared.cmp.Ordering.TheVariants.{Less, Equal, Greater}
use Rattle.predicates.specs.Sign.{sign, order}

pub order_sign : (o : Ordering) → order (sign o) ≡ o
order_sign Less = refl
order_sign Equal = refl
order_sign Greater = refl
