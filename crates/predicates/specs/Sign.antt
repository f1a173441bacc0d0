-- The sign of a side.
use Rattle.std.specs.declared.cmp.Ordering.{Ordering}
use Rattle.std.specs.declared.cmp.Ordering.TheVariants.{Less, Equal, Greater}
use Rattle.predicates.specs.declared.sign.Sign.{Sign}
use Rattle.predicates.specs.declared.sign.Sign.TheVariants.{Negative, Zero, Positive}

-- by how a number compares with zero
abbrev pub sign : Ordering → Sign
sign Less = Negative
sign Equal = Zero
sign Greater = Positive

-- how a number of this sign compares with zero
abbrev pub order : Sign → Ordering
order Negative = Less
order Zero = Equal
order Positive = Greater
