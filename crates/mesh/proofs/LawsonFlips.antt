-- An illegal edge of a mesh can be flipped, and what its flip does.
use Rattle.std.proofs.Common.{◌≡◌, ◌⊎◌, ◌≤◌, ◌+◌, ℕ, true, Some, List, [], ◌∷◌, ◌++◌, length, sym, ap, ◌∙◌, inl, inr, subst, arith}
use Rattle.std.specs.List.{slice_get}
use Rattle.std.proofs.lemmas.Bool.{cases_eq}
use Rattle.std.proofs.lemmas.Option.{slice_get_within}
use Rattle.ground_model.specs.Corner.{is_corner_inside}
use Rattle.tri_pages.specs.Slots.{State, triangle_at}
use Rattle.mesh.specs.Acrosses.{apex, IsAcross, IsInner}
use Rattle.mesh.specs.Faces.{face_at}
use Rattle.mesh.specs.FlipRuns.{IsLawsonFlip}
use Rattle.mesh.specs.Flips.{IsFlipped}
use Rattle.mesh.specs.Insides.{IsConvexAt, IsUncounted}
use Rattle.mesh.specs.Meshes.{IsMesh, IsLive}
use Rattle.mesh.specs.Net.{Side, after, corner_at, count_at, next_at, slots_of}
use Rattle.mesh.specs.Sheets.{IsSheetMesh}
use Rattle.mesh.specs.StepLaws.{ConvexLaw, IllegalLaw}
use Rattle.mesh.specs.Suspects.{IsIllegalAt, IsNamedFrom, AreSuspectsFrom}
use Rattle.mesh.proofs.FallingVolume.{convex_at, illegal, volume_falls}
use Rattle.mesh.proofs.Legality.{over_across, suspects_kept, named_on, named_now}
use Rattle.mesh.proofs.LineSides.{across_one}
use Rattle.mesh.proofs.NamedEdges.{same_in}
use Rattle.mesh.proofs.SheetLaw.{real}
use Rattle.mesh.proofs.Slots.{is_some}

module _ (slots : List State) (m : IsSheetMesh slots) (s : ℕ) (k : Side) (x : IsIllegalAt slots s k) where
  pub illegal_live : IsLive slots s
  illegal_live = is_some (triangle_at slots s) x.over.tri x.over.here

  pub illegal_inner : IsInner slots s k
  illegal_inner = λ t there out.
      real slots m.mesh x.n x.over.beyond x.over.there ((over_across slots m.mesh s k x.n x.over).slot_is ∙ ap (λ y. next_at y k) (same_in x.over.tri t (sym x.over.here ∙ there)) ∙ out)

  pub illegal_uncounted : IsUncounted slots s k
  illegal_uncounted = λ t there. ap (λ y. count_at y k) (same_in t x.over.tri (sym there ∙ x.over.here)) ∙ x.over.free

  pub illegal_convex : IsConvexAt slots s k
  illegal_convex = convex_at slots m s k x.n x.over x.inside

  -- what is flipped there is that edge
  pub lawson_flip : (new : List State) (n : ℕ) → IsSheetMesh new → IsFlipped slots new s k n → IsLawsonFlip slots new (record { slot = s; side = k; beyond = n })
  lawson_flip new n sheet is =
      let tri : x.over.tri ≡ is.tri = same_in x.over.tri is.tri (sym x.over.here ∙ is.here) in
      let y = subst (λ w. IsAcross slots w k x.n x.over.beyond x.over.back) tri (over_across slots m.mesh s k x.n x.over) in
      let same = across_one slots m.mesh is.tri k x.n x.over.beyond x.over.back n is.beyond is.back y is.across in
      let free : count_at is.tri k ≡ 0 = illegal_uncounted is.tri is.here in
      let inside : is_corner_inside (corner_at is.tri k) (corner_at is.tri (after k)) (apex is.tri k) (apex is.beyond is.back) ≡ true =
      (λ i. is_corner_inside (corner_at (sym tri i) k) (corner_at (sym tri i) (after k)) (apex (sym tri i) k) (apex (sym same.0 i) (sym same.1 i))) ∙ x.inside in
      record { is = is; free = free; inside = inside; sheet = sheet; falls = volume_falls slots new s k n m sheet.mesh is free inside }

-- both of its slots are named anew
pub flipped_suspects : (old new : List State) (s : ℕ) (k : Side) (n : ℕ) (script : List ℕ) (start : ℕ) → IsMesh new → IsFlipped old new s k n → slice_get script start ≡ Some s → AreSuspectsFrom old script start → AreSuspectsFrom new (script ++ s ∷ n ∷ []) (start + 1)
flipped_suspects old new s k n script start mesh is at suspects =
    let more = s ∷ n ∷ [] in
    let le : start + 1 ≤ length script = let w = slice_get_within script start s at in omega (arith, w) in
    suspects_kept old new script (script ++ more) start (start + 1) mesh
    (λ i t there. elim (cases_eq i s) as (λ _. IsNamedFrom (script ++ more) (start + 1) i ⊎ (face_at (slots_of new) i ≡ face_at (slots_of old) i)) [
      | inl e ↦ inl (named_now script more (start + 1) 0 i le (ap Some (sym e)))
      | inr not_s ↦ elim (cases_eq i n) as (λ _. IsNamedFrom (script ++ more) (start + 1) i ⊎ (face_at (slots_of new) i ≡ face_at (slots_of old) i)) [
        | inl e ↦ inl (named_now script more (start + 1) 1 i le (ap Some (sym e)))
        | inr not_n ↦ inr (is.rest i not_s not_n)
      ]
    ])
    (λ i w. elim (cases_eq w.index start) as (λ _. IsNamedFrom (script ++ more) (start + 1) i) [
      | inl e ↦ named_now script more (start + 1) 0 i le (sym at ∙ ap (slice_get script) (sym e) ∙ w.at)
      | inr ne ↦ named_on script more (start + 1) i (record { index = w.index; later = omega (arith, ne, w.later); at = w.at })
    ])
    suspects

pub convex_law : ConvexLaw
convex_law slots s k m x = record { live = illegal_live slots m s k x; inner = illegal_inner slots m s k x; uncounted = illegal_uncounted slots m s k x; convex = illegal_convex slots m s k x }

pub illegal_law : IllegalLaw
illegal_law slots s k m x = illegal slots m s k x.n x.over x.inside
