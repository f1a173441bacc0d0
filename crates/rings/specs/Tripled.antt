-- Places in coordinates times three.
use Rattle.std.specs.Prelude.{◌*◌, pos, neg_ℤ, ◌≤ℤ◌}
use Rattle.ground_model.specs.Place.{Coords, place_limit}

-- both coordinates within three times the limit of a place
pub record IsTripled (p : Coords) : Type 0 where
  pub west : neg_ℤ (pos (3 * place_limit)) ≤ℤ p.e
  pub east : p.e ≤ℤ pos (3 * place_limit)
  pub south : neg_ℤ (pos (3 * place_limit)) ≤ℤ p.n
  pub north : p.n ≤ℤ pos (3 * place_limit)
