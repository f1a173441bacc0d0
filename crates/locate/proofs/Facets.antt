-- The slot of a facet: round its first corner, and by a scan.
use Rattle.std.proofs.Common.{◌≡◌, ◌≤◌, ℕ, true, false, Option, Some, None, List, length, refl, sym, ap, ◌∙◌, arith, inr}
use Rattle.std.specs.Option.{IsSome}
use Rattle.ground_model.specs.declared.corner.Corner.TheVariants.{At}
use Rattle.ground_model.specs.declared.facet.Facet.{Facet}
use Rattle.ground_model.specs.Place.{Coords, IsPlace}
use Rattle.predicates.specs.Far.{is_far}
use Rattle.tri_pages.specs.declared.tri_slot.TriSlot.{TriSlot}
use Rattle.tri_pages.specs.Slots.{State, triangle_at}
use Rattle.mesh.specs.Acrosses.{IsAcross}
use Rattle.mesh.specs.Insides.{IsInSlot, IsOnSlot}
use Rattle.mesh.specs.Meshes.{IsLive, HasNoCorner}
use Rattle.mesh.specs.Net.{Side, after, corner_at, next_at, outside}
use Rattle.mesh.specs.Sheets.{IsSheetMesh}
use Rattle.mesh.proofs.Corners.{thrice}
use Rattle.mesh.proofs.NamedEdges.{same_in}
use Rattle.mesh.proofs.InSheets.{inside_no_corner, on_edge_no_corner}
use Rattle.mesh.proofs.SheetLaw.{standing}
use Rattle.mesh.proofs.Slots.{is_some}
use Rattle.mesh.proofs.Straights.{place_inner}
use Rattle.locate.specs.Facets.{HasNoFacet, HasNoFacetBefore}
use Rattle.locate.specs.Spots.{IsAtCorner}
use Rattle.locate.proofs.Covered.{within_slots}

-- the next triangle round a corner has it
pub next_live : (slots : List State) (t : TriSlot) (k : Side) (n : ℕ) (u : TriSlot) (j : Side) → IsAcross slots t k n u j → IsLive slots n
next_live slots t k n u j x = is_some (triangle_at slots n) u x.there

pub next_corner : (slots : List State) (t : TriSlot) (k : Side) (p : Coords) (n : ℕ) (u : TriSlot) (j : Side) → corner_at t k ≡ At p → IsAcross slots t (after (after k)) n u j → IsAtCorner slots n j p
next_corner slots t k p n u j is x = λ w there.
    ap (λ (z : TriSlot). corner_at z j) (same_in w u (sym there ∙ x.there)) ∙ x.starts ∙ thrice t k ∙ is

-- there is one
pub next_stands : (slots : List State) → IsSheetMesh slots → (s : ℕ) (t : TriSlot) (k : Side) (p : Coords) → triangle_at slots s ≡ Some t → corner_at t k ≡ At p → next_at t (after (after k)) ≡ outside → ⊥
next_stands slots m s t k p there is out = place_inner slots m s t (after (after k)) there (inr (ap is_far (thrice t k ∙ is))) out

-- a facet has its first corner, so it is none where that is a corner nowhere
no_facet : (slots : List State) (f : Facet) → IsSheetMesh slots → HasNoCorner slots (At f.a) → HasNoFacet slots f
no_facet slots f m none = λ s h. none s h.tri h.is.side (standing slots m.mesh s h.tri h.there) h.is.is.a

live_tri : (o : Option TriSlot) → IsSome o → (t : TriSlot) × (o ≡ Some t)
live_tri (Some t) h = (t, refl)
live_tri None h = absurd (nothing h)
  where
    nothing : false ≡ true → ⊥
    nothing h = cc

pub none_inside : (slots : List State) (f : Facet) → IsSheetMesh slots → IsPlace f.a → (s : ℕ) → IsLive slots s → IsInSlot slots s f.a → HasNoFacet slots f
none_inside slots f m place s live inside =
    let t = live_tri (triangle_at slots s) live in
    no_facet slots f m (inside_no_corner slots m s t.0 f.a t.1 place (inside t.0 t.1))

pub none_on_edge : (slots : List State) (f : Facet) → IsSheetMesh slots → IsPlace f.a → (s : ℕ) (k : Side) → IsLive slots s → IsOnSlot slots s k f.a → HasNoFacet slots f
none_on_edge slots f m place s k live on =
    let t = live_tri (triangle_at slots s) live in
    no_facet slots f m (on_edge_no_corner slots m s t.0 k f.a t.1 place (on t.0 t.1))

-- all slots were tried
pub none_at_all : (slots : List State) (n : ℕ) (f : Facet) → HasNoFacetBefore slots n f → length slots ≤ n → HasNoFacet slots f
none_at_all slots n f before all = λ s h. before s (omega (arith, within_slots slots s h.tri h.there, all)) h
