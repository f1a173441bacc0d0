-- The triangle of the far corners, alone.
use Rattle.std.specs.Prelude.{List, [], ◌∷◌}
use Rattle.ground_model.specs.declared.corner.Corner.TheVariants.{Far}
use Rattle.tri_pages.specs.declared.tri_slot.TriSlot.{TriSlot}
use Rattle.tri_pages.specs.Slots.{State, holding}
use Rattle.mesh.specs.Net.{outside}

-- the triangle of the three far corners, with nothing beyond
abbrev pub far : TriSlot
far = record { corners = Far 0 ∷ Far 1 ∷ Far 2 ∷ []; counts = 0 ∷ 0 ∷ 0 ∷ []; next = outside ∷ outside ∷ outside ∷ []; stamp = 0 }

-- one slot, which has it
abbrev pub far_alone : List State
far_alone = holding far ∷ []
