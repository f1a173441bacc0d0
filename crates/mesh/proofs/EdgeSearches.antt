-- An edge is looked for, triangle by triangle.
use Rattle.std.proofs.Common.{◌≡◌, ◌+◌, ◌≤◌, ℕ, Some, List, length, sym, ap, ◌∙◌, inl, inr, arith}
use Rattle.std.specs.List.{slice_get}
use Rattle.std.proofs.lemmas.Bool.{cases_eq}
use Rattle.std.proofs.lemmas.Option.{slice_get_within}
use Rattle.ground_model.specs.declared.corner.Corner.{Corner}
use Rattle.tri_pages.specs.declared.tri_slot.TriSlot.{TriSlot}
use Rattle.mesh.specs.EdgeSearch.{HasNoSide, HasNoneBefore, HasNone}
use Rattle.mesh.specs.Net.{after, corner_at}
use Rattle.mesh.proofs.NamedEdges.{same_in}

-- one triangle further
pub none_further : (tris : List TriSlot) (n : ℕ) (t : TriSlot) (a b : Corner) → HasNoneBefore tris n a b → slice_get tris n ≡ Some t → HasNoSide t a b → HasNoneBefore tris (n + 1) a b
none_further tris n t a b before here none = λ i k h e. elim (cases_eq i n) as (λ _. ⊥) [
  | inl same ↦
      let is : e.tri ≡ t = same_in e.tri t (sym e.there ∙ ap (slice_get tris) same ∙ here) in
      none k (ap (λ x. corner_at x k) (sym is) ∙ e.tail) (ap (λ x. corner_at x (after k)) (sym is) ∙ e.head)
  | inr ne ↦ before i k (omega (arith, h, ne)) e
]

-- all were looked at
pub none_at_all : (tris : List TriSlot) (n : ℕ) (a b : Corner) → HasNoneBefore tris n a b → length tris ≤ n → HasNone tris a b
none_at_all tris n a b before end = λ i k e. before i k (omega (arith, slice_get_within tris i e.tri e.there, end)) e
