-- Corners of triangles, and what has none.
use Rattle.std.proofs.Common.{◌≡◌, ℕ, Option, Some, None, [], ◌∷◌, refl, sym, ap, ◌∙◌}
use Rattle.std.proofs.lemmas.Option.{none-some}
use Rattle.ground_model.specs.declared.corner.Corner.{Corner}
use Rattle.tri_pages.specs.declared.tri_slot.TriSlot.{TriSlot}
use Rattle.tri_pages.specs.Slots.{State}
use Rattle.std.specs.Prelude.{List}
use Rattle.mesh.specs.Corners.{Distinct}
use Rattle.mesh.specs.Meshes.{HasNoCorner, corners_of}
use Rattle.mesh.specs.Net.{Side, first, second, third, after, Edge, edge, edge_of, edges_of, corner_at, slots_of}
use Rattle.mesh.proofs.NamedEdges.{same_in}

-- the triangle of an edge
pub record Owner (o : Option TriSlot) (k : Side) (e : Edge) : Type 0 where
  pub tri : TriSlot
  pub there : o ≡ Some tri
  pub edge_is : edge tri k ≡ e

pub owner : (o : Option TriSlot) (k : Side) (e : Edge) → edge_of o k ≡ Some e → Owner o k e
owner None k e h = absurd (none-some e h)
owner (Some t) k e h = record { tri = t; there = refl; edge_is = same_in (edge t k) e h }

-- where no triangle has the corner, no edge begins or ends there
pub no_tail : (slots : List State) (p : Corner) → HasNoCorner slots p → (i : ℕ) (x : Side) (e : Edge) → edges_of (slots_of slots) i x ≡ Some e → e.tail ≡ p → ⊥
no_tail slots p n i x e h t = let o = owner (slots_of slots i) x e h in n i o.tri x o.there (ap (λ y. y.tail) o.edge_is ∙ t)

pub no_head : (slots : List State) (p : Corner) → HasNoCorner slots p → (i : ℕ) (x : Side) (e : Edge) → edges_of (slots_of slots) i x ≡ Some e → e.head ≡ p → ⊥
no_head slots p n i x e h t = let o = owner (slots_of slots i) x e h in n i o.tri (after x) o.there (ap (λ y. y.head) o.edge_is ∙ t)

pub thrice : (t : TriSlot) (k : Side) → corner_at t (after (after (after k))) ≡ corner_at t k
thrice t first = refl
thrice t second = refl
thrice t third = refl

-- three distinct corners from any side on
pub distinct_from : (t : TriSlot) (k : Side) → Distinct (corners_of t) → Distinct (corner_at t k ∷ corner_at t (after k) ∷ corner_at t (after (after k)) ∷ [])
distinct_from t first d = d
distinct_from t second d = ((d.1.0.0, ((λ e. d.0.0 (sym e)), tt)), (((λ e. d.0.1.0 (sym e)), tt), (tt, tt)))
distinct_from t third d = (((λ e. d.0.1.0 (sym e)), ((λ e. d.1.0.0 (sym e)), tt)), ((d.0.0, tt), (tt, tt)))
