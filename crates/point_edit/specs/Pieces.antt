-- What is met of the pieces at a point on the way round it.
use Rattle.std.specs.Prelude.{◌≡◌, ◌⊎◌, ◌<◌, ℕ, true, false, nat_eq, if◌then◌else◌, Some, List}
use Rattle.ground_model.specs.declared.corner.Corner.{Corner}
use Rattle.ground_model.specs.declared.corner.Corner.TheVariants.{At}
use Rattle.ground_model.specs.Place.{Coords}
use Rattle.tri_pages.specs.Slots.{State, triangle_at}
use Rattle.tri_pages.specs.declared.tri_slot.TriSlot.{TriSlot}
use Rattle.mesh.specs.Net.{Side, after, corner_at, count_at}
use Rattle.mesh.specs.Sheets.{HasCorner}
use Rattle.point_edit.specs.declared.pieces.Met.{Met}

-- the edge k of slot s goes to this end, with this count
abbrev pub IsEdgeTo : List State → ℕ → Side → Corner → ℕ → Type 0
IsEdgeTo slots s k end n = (t : TriSlot) → triangle_at slots s ≡ Some t → (corner_at t (after k) ≡ end) × (count_at t k ≡ n)

-- the pieces that were met, with an edge to this end and with this count more
abbrev pub met_with : Met → Corner → ℕ → Met
met_with met end n =
    if nat_eq n 0 then met
    else if nat_eq met.first 0 then record { first = n; first_end = end; second = met.second; second_end = met.second_end; more = met.more }
    else if nat_eq met.second 0 then record { first = met.first; first_end = met.first_end; second = n; second_end = end; more = met.more }
    else record { first = met.first; first_end = met.first_end; second = met.second; second_end = met.second_end; more = true }

-- a triangle at p, of those that were met, begins there with a piece to this end, of this count
pub record IsPieceAt (slots : List State) (p : Coords) (WasMet : HasCorner slots (At p) → Type 0) (end : Corner) (n : ℕ) : Type 0 where
  pub x : HasCorner slots (At p)
  pub was : WasMet x
  pub end_is : corner_at x.tri (after x.side) ≡ end
  pub count_is : count_at x.tri x.side ≡ n
  pub some : 0 < n

-- whether the triangle begins at p with a piece
abbrev pub IsCounted : (slots : List State) (p : Coords) → HasCorner slots (At p) → Type 0
IsCounted slots p x = 0 < count_at x.tri x.side

-- of the triangles at p that were met none, one, two or more begin with a piece; these are the first two
pub data AreMet (slots : List State) (p : Coords) (WasMet : HasCorner slots (At p) → Type 0) (met : Met) : Type 0 where
  NoPiece : met.first ≡ 0 → met.second ≡ 0 → met.more ≡ false → ((x : HasCorner slots (At p)) → WasMet x → IsCounted slots p x → ⊥) → AreMet slots p WasMet met
  OnePiece : IsPieceAt slots p WasMet met.first_end met.first → met.second ≡ 0 → met.more ≡ false → ((x : HasCorner slots (At p)) → WasMet x → IsCounted slots p x → corner_at x.tri (after x.side) ≡ met.first_end) → AreMet slots p WasMet met
  TwoPieces : IsPieceAt slots p WasMet met.first_end met.first → IsPieceAt slots p WasMet met.second_end met.second → (met.first_end ≡ met.second_end → ⊥) → met.more ≡ false
      → ((x : HasCorner slots (At p)) → WasMet x → IsCounted slots p x → (corner_at x.tri (after x.side) ≡ met.first_end) ⊎ (corner_at x.tri (after x.side) ≡ met.second_end)) → AreMet slots p WasMet met
  MorePieces : (end : Corner) (n : ℕ) → IsPieceAt slots p WasMet met.first_end met.first → IsPieceAt slots p WasMet met.second_end met.second → IsPieceAt slots p WasMet end n
      → (met.first_end ≡ met.second_end → ⊥) → (end ≡ met.first_end → ⊥) → (end ≡ met.second_end → ⊥) → met.more ≡ true → AreMet slots p WasMet met
