-- How many lines run over the edges of what an edit makes, in the base and in a newer net.
use Rattle.std.specs.Prelude.{◌≡◌, true, ◌++◌}
use Rattle.std.specs.List.{All}
use Rattle.ground_model.specs.declared.corner.Corner.{Corner}
use Rattle.ground_model.specs.Place.{IsPlace}
use Rattle.predicates.specs.Net.{Net, count_of}
use Rattle.predicates.specs.Sheet.{IsSheet}
use Rattle.cdt_law.specs.Patch.{is_in}
use Rattle.cdt_law.specs.Hull.{Encloses}
use Rattle.cdt_law.specs.Boundary.{gone, IsInner}
use Rattle.cdt_law.specs.Stale.{without, IsUnchanged}
use Rattle.cdt_law.specs.Vertices.{AreCorners}

-- the two nets count alike over the edges of these facets
abbrev pub CountAlike : Net → Net → Net → Net → Type 0
CountAlike net other base planned = (a b c : Corner) → is_in (gone base planned) a b c ≡ true → count_of net a b ≡ count_of other a b

-- where the base and a newer net count alike over the edges of what an edit destroys, they do over those of what it makes
abbrev pub CountLaw : Type 0
CountLaw = (base planned newest after : Net) → IsSheet base → IsSheet planned → IsSheet newest → Encloses base planned → Encloses planned base → IsInner base planned → IsInner planned base → IsUnchanged base planned newest
    → after.triangles ≡ gone planned base ++ without newest (gone base planned) → All IsPlace after.points → AreCorners after
    → CountAlike base newest base planned → CountAlike base newest planned base
