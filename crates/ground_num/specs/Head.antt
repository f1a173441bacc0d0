-- Heads: which origins a surface may have, and the head of one that no document gave.
use Rattle.std.specs.Prelude.{◌^◌, ℕ, List, pos}
use Rattle.ground_num.specs.declared.head.Head.{Head}
use Rattle.ground_num.specs.declared.head.LinearUnit.TheVariants.{Meter}
use Rattle.ground_num.specs.declared.head.Origin.{Origin}
use Rattle.ground_num.specs.Decimal.{IsWithin}

-- both numbers of an origin are within 2 ^ 50 thousandths
pub record IsOrigin (origin : Origin) : Type 0 where
  pub n : IsWithin (2 ^ 50) origin.n.0
  pub e : IsWithin (2 ^ 50) origin.e.0

-- a surface of that name, in metres, with the origin 0 0
abbrev pub plain_head : List ℕ → Head
plain_head name = record { name = name; unit = Meter; origin = record { n = record { 0 = pos 0 }; e = record { 0 = pos 0 } } }
