-- Pieces that an edit leaves are edges of what it makes of a newer net.
use Rattle.std.specs.Prelude.{◌≡◌, ◌<◌, ◌++◌}
use Rattle.ground_model.specs.declared.corner.Corner.TheVariants.{At}
use Rattle.ground_model.specs.Place.{Coords}
use Rattle.predicates.specs.Net.{Net, times_in, edges_in}
use Rattle.predicates.specs.Sheet.{IsSheet}
use Rattle.cdt_law.specs.Hull.{Encloses}
use Rattle.cdt_law.specs.Boundary.{gone}
use Rattle.cdt_law.specs.Stale.{without}

-- a piece of the newest net and of the planned one is an edge after the edit
abbrev pub PieceLaw : Type 0
PieceLaw = (base planned newest after : Net) → IsSheet base → IsSheet planned → IsSheet newest → Encloses planned base → after.triangles ≡ gone planned base ++ without newest (gone base planned)
    → (p q : Coords) → 0 < newest.count p q → 0 < planned.count p q → 0 < times_in (edges_in after) (At p, At q)
