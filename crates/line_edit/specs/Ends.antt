-- The pieces at a point.
use Rattle.std.specs.Prelude.{◌≡◌, ◌<◌, ◌++◌, ℕ, List, [], ◌∷◌, map, nat_eq, if◌then◌else◌}
use Rattle.std.specs.List.{All, Contains}
use Rattle.ground_model.specs.declared.corner.Corner.{Corner}
use Rattle.ground_model.specs.declared.corner.Corner.TheVariants.{At, Far}
use Rattle.ground_model.specs.Place.{Coords}
use Rattle.predicates.specs.Net.{Net}
use Rattle.line_edit.specs.declared.pieces.PieceEnd.{PieceEnd}

-- the places at which these pieces end
abbrev pub ends_of : List PieceEnd → List Coords
ends_of found = map (λ x. x.end) found

-- no place stands twice
abbrev pub AreApart : List Coords → Type 0
AreApart [] = Unit {0}
AreApart (q ∷ qs) = (Contains qs q → ⊥) × AreApart qs

-- the pieces at p, each once, with their counts
pub record ArePiecesAt (net : Net) (p : Coords) (found : List PieceEnd) : Type 0 where
  pub each : All (λ x. (0 < x.count) × (net.count p x.end ≡ x.count)) found
  pub all : (q : Coords) → 0 < net.count p q → Contains (ends_of found) q
  pub once : AreApart (ends_of found)

-- the piece to this end, which is a place
abbrev pub piece_to : Corner → ℕ → List PieceEnd
piece_to (At q) n = record { end = q; count = n } ∷ []
piece_to (Far k) n = []

-- the pieces that were found, with an edge to this end and with this count more, if it is one
abbrev pub with_end : List PieceEnd → Corner → ℕ → List PieceEnd
with_end found end n = if nat_eq n 0 then found else found ++ piece_to end n
