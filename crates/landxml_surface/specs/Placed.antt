-- That all of a surface lies within the limits, as it is seen from its origin.
use Rattle.std.specs.Prelude.{◌≡◌, ℕ, Some, slice_get}
use Rattle.ground_num.specs.declared.head.Origin.{Origin}
use Rattle.ground_model.specs.Place.{IsPlace, IsLevel}
use Rattle.landxml_read.specs.declared.raw.Triple.{Triple}
use Rattle.landxml_read.specs.declared.raw.Pair2.{Pair2}
use Rattle.landxml_read.specs.declared.raw.RawSurface.{RawSurface}
use Rattle.landxml_surface.specs.Faults.{pair_spot}
use Rattle.landxml_surface.specs.Heights.{spot_of}
use Rattle.landxml_surface.specs.Origins.{from_origin}

-- the triples' places and levels, and the pairs' places
pub record IsPlaced (origin : Origin) (s : RawSurface) : Type 0 where
  pub triples : (k : ℕ) (t : Triple) → slice_get s.triples k ≡ Some t → IsPlace (from_origin origin (spot_of t))
  pub levels : (k : ℕ) (t : Triple) → slice_get s.triples k ≡ Some t → IsLevel t.z.0
  pub pairs : (k : ℕ) (p : Pair2) → slice_get s.pairs k ≡ Some p → IsPlace (from_origin origin (pair_spot p))
