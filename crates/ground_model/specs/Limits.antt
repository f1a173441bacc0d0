-- How large a surface of a program may grow.
use Rattle.std.specs.Prelude.{◌≡◌, ◌^◌}
use Rattle.ground_model.specs.declared.limits.Limits.{Limits}

-- the limits of every program
pub record AreFull (limits : Limits) : Type 0 where
  pub points : limits.points ≡ 2 ^ 20
  pub lines : limits.lines ≡ 65535
  pub places : limits.places ≡ 65536
  pub vertices : limits.vertices ≡ 2 ^ 20
  pub log : limits.log ≡ 2 ^ 24
