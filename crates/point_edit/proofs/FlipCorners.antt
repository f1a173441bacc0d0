-- After the flip of an edge at a corner the slot has the corner as its first.
use Rattle.std.proofs.Common.{◌≡◌, ℕ, Some, List, get_or, sym, ap, ◌∙◌, arith}
use Rattle.ground_model.specs.declared.corner.Corner.TheVariants.{At, Far}
use Rattle.ground_model.specs.Place.{Coords}
use Rattle.tri_pages.specs.declared.tri_slot.TriSlot.{TriSlot}
use Rattle.tri_pages.specs.Slots.{State, triangle_at}
use Rattle.mesh.specs.Flips.{IsFlipped, flip_face_one}
use Rattle.mesh.specs.Meshes.{IsMesh}
use Rattle.mesh.specs.Net.{Side, first, corner_at, slots_of}
use Rattle.mesh.proofs.Filled.{faced}
use Rattle.mesh.proofs.NamedEdges.{same_in}
use Rattle.mesh.proofs.SheetLaw.{real}
use Rattle.mesh.proofs.Slots.{slot_in, is_some}
use Rattle.locate.specs.Facets.{IsCornerOf}

pub flip_corner : (old new : List State) (s : ℕ) (k : Side) (n : ℕ) (p : Coords) → IsMesh old → (is : IsFlipped old new s k n) → corner_at is.tri k ≡ At p → IsCornerOf new s 0 p
flip_corner old new s k n p mesh is at =
    let w = faced (slots_of new s) (flip_face_one is.tri k is.beyond is.back) is.in_s in
    let there : triangle_at new s ≡ Some w.tri = sym (slot_in new s (real old mesh s is.tri is.here)) ∙ w.is in
    record {
      live = is_some (triangle_at new s) w.tri there;
      corner = omega arith;
      at = λ t there'. ap (λ (u : TriSlot). corner_at u first) (same_in t w.tri (sym there' ∙ there)) ∙ ap (λ f. get_or f.corners 0 (Far 0)) w.same ∙ at;
    }
