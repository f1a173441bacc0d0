-- Which counts two nets do not share.
use Rattle.std.specs.Prelude.{◌≡◌, ◌+◌}
use Rattle.ground_model.specs.declared.corner.Corner.TheVariants.{At}
use Rattle.ground_model.specs.Place.{Coords}
use Rattle.predicates.specs.Net.{Net}
use Rattle.mesh.specs.NetChanges.{HaveSamePoints, HaveSameCountsBut}

-- both nets have the same points; in the other net one line more runs over pq, and all further counts are the same
pub record HasOneLineMore (net other : Net) (p q : Coords) : Type 0 where
  pub points : HaveSamePoints net other
  pub count : other.count p q ≡ net.count p q + 1
  pub back : other.count q p ≡ net.count q p + 1
  pub others : HaveSameCountsBut net other (At p) (At q)
