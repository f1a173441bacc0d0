-- Which points and pieces two nets do not share.
use Rattle.std.specs.Prelude.{◌≡◌, ◌⊎◌, true, false}
use Rattle.ground_model.specs.declared.corner.Corner.{Corner}
use Rattle.ground_model.specs.declared.corner.Corner.TheVariants.{At}
use Rattle.ground_model.specs.Line.{is_point}
use Rattle.ground_model.specs.Place.{Coords}
use Rattle.predicates.specs.Net.{Net, count_of}

-- both have the same points
abbrev pub HaveSamePoints : Net → Net → Type 0
HaveSamePoints net other = (q : Coords) → is_point other.points q ≡ is_point net.points q

-- and the same counts between them
abbrev pub HaveSameCounts : Net → Net → Type 0
HaveSameCounts net other = (q r : Coords) → other.count q r ≡ net.count q r

-- the other net has the point p, the first has not; all further points are of both
pub record HasOneMore (net other : Net) (p : Coords) : Type 0 where
  pub there : is_point other.points p ≡ true
  pub absent : is_point net.points p ≡ false
  pub others : (q : Coords) → (q ≡ p → ⊥) → is_point other.points q ≡ is_point net.points q

-- q and r are x and y, in either order
abbrev pub IsPair : Corner → Corner → Corner → Corner → Type 0
IsPair x y q r = ((q ≡ x) × (r ≡ y)) ⊎ ((q ≡ y) × (r ≡ x))

-- the counts are the same, but between a and b
abbrev pub HaveSameCountsBut : Net → Net → Corner → Corner → Type 0
HaveSameCountsBut net other a b = (q r : Coords) → (IsPair a b (At q) (At r) → ⊥) → other.count q r ≡ net.count q r

-- in the other net the edge ab is split at its further point p: both parts have the count that ab has in the first
pub record HasSplitEdge (net other : Net) (a b : Corner) (p : Coords) : Type 0 where
  pub point : HasOneMore net other p
  pub start : count_of other a (At p) ≡ count_of net a b
  pub end : count_of other (At p) b ≡ count_of net a b
  pub whole : count_of other a b ≡ 0
  pub rest : (q r : Coords) → (IsPair a (At p) (At q) (At r) → ⊥) → (IsPair (At p) b (At q) (At r) → ⊥) → (IsPair a b (At q) (At r) → ⊥) → other.count q r ≡ net.count q r
