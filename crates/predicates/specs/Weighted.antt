-- Weighted points: sums of places and far corners.
use Rattle.std.specs.Prelude.{ℤ, pos, ◌+ℤ◌, ◌-ℤ◌, ◌*ℤ◌, List, [], ◌∷◌}
use Rattle.ground_model.specs.Place.{Coords}

-- a sum of places: its coordinates are the sums, its weight how many there are
pub record Weighted : Type 0 where
  pub e : ℤ
  pub n : ℤ
  pub weight : ℤ

-- the side of a, b and the weighted point, as many times as it weighs
unfoldable pub weighted_side : Coords → Coords → Weighted → ℤ
weighted_side a b x = (b.e -ℤ a.e) *ℤ (x.n -ℤ x.weight *ℤ a.n) -ℤ (b.n -ℤ a.n) *ℤ (x.e -ℤ x.weight *ℤ a.e)

-- a place or a far corner, once
abbrev pub once : Coords → Weighted
once p = record { e = p.e; n = p.n; weight = pos 1 }

-- both together
abbrev pub joined : Weighted → Weighted → Weighted
joined x y = record { e = x.e +ℤ y.e; n = x.n +ℤ y.n; weight = x.weight +ℤ y.weight }

-- k times as much
abbrev pub repeated : ℤ → Weighted → Weighted
repeated k x = record { e = k *ℤ x.e; n = k *ℤ x.n; weight = k *ℤ x.weight }

-- the sum of the places, with p before the others
abbrev pub gathered : Coords → List Coords → Weighted
gathered p [] = once p
gathered p (q ∷ ps) = joined (once p) (gathered q ps)
