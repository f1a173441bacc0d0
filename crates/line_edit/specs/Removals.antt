-- A piece is taken out of a mesh.
use Rattle.std.specs.Prelude.{◌≡◌, ◌<◌, ℕ, List, []}
use Rattle.ground_model.specs.Place.{Coords}
use Rattle.tri_pages.specs.Slots.{State}
use Rattle.mesh.specs.FlipRuns.{FlipRun}
use Rattle.mesh.specs.Meshes.{MeshView, raised}
use Rattle.mesh.specs.Net.{side}
use Rattle.mesh.specs.Sheets.{net_in}
use Rattle.mesh.specs.Steps.{TakeStep}
use Rattle.point_edit.specs.Removals.{IsPointOf}
use Rattle.line_edit.specs.Edges.{IsFromTo}

-- a line runs over the edge from the one point to the other
abbrev pub IsPieceBetween : List State → ℕ → ℕ → Type 0
IsPieceBetween slots number other = (p q : Coords) → IsPointOf slots number p → IsPointOf slots other q → 0 < (net_in slots).count p q

-- one line less runs over pq, and then Lawson's flips; each is counted, and the script names the slots of all
pub record PieceRemoval (old new : MeshView) (p q : Coords) (script : List ℕ) : Type 0 where
  pub less : MeshView
  pub named : List ℕ
  pub slot : ℕ
  pub edge : ℕ
  pub is : IsFromTo old.slots slot edge p q
  pub taken : TakeStep old.slots less.slots slot (side edge) [] named
  pub counted : less.turns ≡ raised old.turns
  pub flips : FlipRun less new named script
