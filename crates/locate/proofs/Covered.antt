-- The triangles of a mesh cover all places.
use Rattle.std.specs.Prelude.{pos, ◌<ℤ◌}
use Rattle.std.proofs.Common.{◌≡◌, ◌<◌, ◌≤◌, ◌+◌, ℕ, zero, suc, Some, None, List, [], ◌∷◌, length, refl, sym, ap, subst, ◌∙◌, arith, inl, inr}
use Rattle.std.specs.List.{slice_get, All}
use Rattle.std.proofs.lemmas.Bool.{cases_eq}
use Rattle.std.proofs.lemmas.Option.{none-some}
use Rattle.ground_model.specs.Corner.{corner_at as place_of}
use Rattle.ground_model.specs.Place.{Coords, IsPlace}
use Rattle.predicates.specs.Net.{Triangle}
use Rattle.predicates.specs.Tiling.{IsWithin}
use Rattle.predicates.specs.Weighted.{weighted_side, once}
use Rattle.predicates.proofs.Cover.{covered}
use Rattle.predicates.proofs.Signs.{never-high}
use Rattle.predicates.proofs.WeightedSides.{weighted_side-once}
use Rattle.tri_pages.specs.declared.tri_slot.TriSlot.{TriSlot}
use Rattle.tri_pages.specs.Slots.{State, triangle_at}
use Rattle.mesh.specs.Net.{Side, first, second, third, corner_at}
use Rattle.mesh.specs.Sheets.{triangle_of, triangles_of, net_in, IsSheetMesh}
use Rattle.mesh.proofs.NamedEdges.{same_in}
use Rattle.mesh.proofs.NetOfMesh.{sheet_in}
use Rattle.locate.specs.Parts.{IsBeyond}
use Rattle.locate.specs.Spots.{IsMissed, HasNoneBefore}

-- a slot with the triangle
pub record HasTri (states : List State) (x : Triangle) : Type 0 where
  pub slot : ℕ
  pub tri : TriSlot
  pub there : triangle_at states slot ≡ Some tri
  pub is : triangle_of tri ≡ x

further : (o : State) (states : List State) (x : Triangle) → HasTri states x → HasTri (o ∷ states) x
further o states x h = record { slot = suc h.slot; tri = h.tri; there = h.there; is = h.is }

-- the slot of a triangle in their list
pub slot_of : (states : List State) (j : ℕ) (x : Triangle) → slice_get (triangles_of states) j ≡ Some x → HasTri states x
slot_of [] j x e = absurd (none-some x e)
slot_of (None ∷ states) j x e = further None states x (slot_of states j x e)
slot_of (Some None ∷ states) j x e = further (Some None) states x (slot_of states j x e)
slot_of (Some (Some t) ∷ states) zero x e = record { slot = zero; tri = t; there = refl; is = same_in (triangle_of t) x e }
slot_of (Some (Some t) ∷ states) (suc j) x e = further (Some (Some t)) states x (slot_of states j x e)

pub within_slots : (states : List State) (s : ℕ) (t : TriSlot) → triangle_at states s ≡ Some t → s < length states
within_slots [] s t e = absurd (none-some t e)
within_slots (o ∷ states) zero t e = omega arith
within_slots (o ∷ states) (suc s) t e = let h = within_slots states s t e in omega (arith, h)

-- a place in a closed triangle is beyond none of its edges
not_beyond : (t : TriSlot) (p : Coords) (k : Side) → IsWithin (triangle_of t) (once p) → IsBeyond t k p → ⊥
not_beyond t p first w h = never-high (weighted_side (place_of (corner_at t first)) (place_of (corner_at t second)) (once p)) w.ab (subst (λ s. s <ℤ pos 0) (sym (weighted_side-once (place_of (corner_at t first)) (place_of (corner_at t second)) p)) h)
not_beyond t p second w h = never-high (weighted_side (place_of (corner_at t second)) (place_of (corner_at t third)) (once p)) w.bc (subst (λ s. s <ℤ pos 0) (sym (weighted_side-once (place_of (corner_at t second)) (place_of (corner_at t third)) p)) h)
not_beyond t p third w h = never-high (weighted_side (place_of (corner_at t third)) (place_of (corner_at t first)) (once p)) w.ca (subst (λ s. s <ℤ pos 0) (sym (weighted_side-once (place_of (corner_at t third)) (place_of (corner_at t first)) p)) h)

alone : (p : Coords) → IsPlace p → All IsPlace (p ∷ [])
alone p h zero d k = h
alone p h (suc n) d k = absurd (omega (arith, k))

-- so not all triangles miss it
pub somewhere : (slots : List State) (n : ℕ) (p : Coords) → IsSheetMesh slots → IsPlace p → HasNoneBefore slots n p → length slots ≤ n → ⊥
somewhere slots n p m place none all =
    let c = covered (net_in slots) (sheet_in slots m) p [] (alone p place) in
    let h = slot_of slots c.index c.triangle c.at in
    let missed = none h.slot h.tri (omega (arith, within_slots slots h.slot h.tri h.there, all)) h.there in
    not_beyond h.tri p missed.side (subst (λ (x : Triangle). IsWithin x (once p)) (sym h.is) c.within) missed.beyond

-- one slot further
pub missed_further : (slots : List State) (n : ℕ) (p : Coords) → HasNoneBefore slots n p → ((t : TriSlot) → triangle_at slots n ≡ Some t → IsMissed t p) → HasNoneBefore slots (n + 1) p
missed_further slots n p before here = λ s t h e. elim (cases_eq s n) as (λ _. IsMissed t p) [
  | inl same ↦ here t (sym (ap (triangle_at slots) same) ∙ e)
  | inr ne ↦ before s t (omega (arith, h, ne)) e
]
