-- Which edge is on the line through a corner.
use Rattle.std.specs.Prelude.{pos, nat_lt}
use Rattle.std.proofs.Common.{◌≡◌, ℕ, true, Some, List, refl, sym, ap, ◌∙◌, subst, arith}
use Rattle.ground_model.specs.declared.corner.Corner.{Corner}
use Rattle.ground_model.specs.declared.corner.Corner.TheVariants.{At, Far}
use Rattle.ground_model.specs.Corner.{corner_side, is_corner}
use Rattle.predicates.specs.Far.{IsKnown}
use Rattle.tri_pages.specs.declared.tri_slot.TriSlot.{TriSlot}
use Rattle.tri_pages.specs.Slots.{State, triangle_at}
use Rattle.mesh.specs.Acrosses.{apex, IsAcross}
use Rattle.mesh.specs.Meshes.{IsMesh}
use Rattle.mesh.specs.Net.{Side, corner_at, count_at, edge, edge_of}
use Rattle.mesh.specs.Straights.{IsThrough}
use Rattle.mesh.proofs.NamedEdges.{same_in}
use Rattle.mesh.proofs.SheetLaw.{standing}

pub known_corner : (c : Corner) → IsKnown c → is_corner c ≡ true
known_corner (At p) known = refl
known_corner (Far k) known = let t : true ≡ nat_lt k 3 = grind (arith, known) in sym t

-- one triangle stands across an edge
pub across_one : (slots : List State) → IsMesh slots → (t : TriSlot) (k : Side) (n : ℕ) (u : TriSlot) (j : Side) (n' : ℕ) (u' : TriSlot) (j' : Side) → IsAcross slots t k n u j → IsAcross slots t k n' u' j' → (u ≡ u') × (j ≡ j')
across_one slots mesh t k n u j n' u' j' a b =
    let slot : n ≡ n' = a.slot_is ∙ sym b.slot_is in
    let same = mesh.net.one n n' j j' (edge u j) (edge u' j') (ap (λ o. edge_of o j) (standing slots mesh n u a.there)) (ap (λ o. edge_of o j') (standing slots mesh n' u' b.there)) (a.starts ∙ sym b.starts) (a.ends ∙ sym b.ends) in
    (same_in u u' (sym a.there ∙ ap (triangle_at slots) slot ∙ b.there), same.1)

-- what is known of the line by the triangles that were read
pub through_is : (slots : List State) → IsMesh slots → (s : ℕ) (k : Side) (t : TriSlot) (n : ℕ) (u : TriSlot) (j : Side) → triangle_at slots s ≡ Some t → IsAcross slots t k n u j → IsThrough slots s k
    → (corner_side (apex t k) (corner_at t k) (apex u j) ≡ pos 0) × (count_at t k ≡ 0)
through_is slots mesh s k t n u j here across x =
    let tri : x.tri ≡ t = same_in x.tri t (sym x.here ∙ here) in
    let other = subst (λ y. IsAcross slots y k x.slot x.beyond x.back) tri x.across in
    let same = across_one slots mesh t k x.slot x.beyond x.back n u j other across in (
      subst (λ z. z) (λ i. corner_side (apex (tri i) k) (corner_at (tri i) k) (apex (same.0 i) (same.1 i)) ≡ pos 0) x.flat,
      subst (λ y. count_at y k ≡ 0) tri x.free,
    )
