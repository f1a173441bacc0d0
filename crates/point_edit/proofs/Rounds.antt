-- The triangles round a point of a mesh, one after the other, come back to the first.
use Rattle.std.proofs.Common.{◌≡◌, ℕ, suc, zero, ◌<◌, ◌≤◌, ◌+◌, List, length, refl, sym, ap, subst, ◌∙◌, inl, inr, arith}
use Rattle.std.proofs.lemmas.Bool.{cases_eq}
use Rattle.ground_model.specs.declared.corner.Corner.{Corner}
use Rattle.ground_model.specs.declared.corner.Corner.TheVariants.{At}
use Rattle.ground_model.specs.Place.{Coords}
use Rattle.tri_pages.specs.declared.tri_slot.TriSlot.{TriSlot}
use Rattle.tri_pages.specs.Slots.{State, triangle_at}
use Rattle.mesh.specs.Acrosses.{apex, IsAcross}
use Rattle.mesh.specs.Net.{Side, after, corner_at, count_at, next_at, edge, edge_of}
use Rattle.mesh.specs.Sheets.{IsSheetMesh, HasCorner}
use Rattle.mesh.proofs.Acrosses.{Across, across, same_side}
use Rattle.mesh.proofs.Corners.{thrice}
use Rattle.mesh.proofs.NamedEdges.{same_in}
use Rattle.mesh.proofs.SheetLaw.{standing}
use Rattle.mesh.proofs.Slots.{live_within, is_some}
use Rattle.locate.proofs.Angles.{last_side}
use Rattle.locate.proofs.Facets.{next_stands}
use Rattle.point_edit.proofs.Blocked.{lt_or_eq}
use Rattle.point_edit.proofs.Repeats.{repeated}
use Rattle.point_edit.proofs.Straight.{split_gap}
use Rattle.point_edit.proofs.Tops.{lt_or_more}

module _ (slots : List State) (m : IsSheetMesh slots) (p : Coords) where
  -- a triangle at p; its first neighbour of p
  abbrev pub beside : HasCorner slots (At p) → Corner
  beside x = corner_at x.tri (after x.side)

  abbrev pub top : HasCorner slots (At p) → Corner
  top x = apex x.tri x.side

  abbrev pub count : HasCorner slots (At p) → ℕ
  count x = count_at x.tri x.side

  -- two are one triangle
  abbrev pub IsOne : HasCorner slots (At p) → HasCorner slots (At p) → Type 0
  IsOne x y = (x.slot ≡ y.slot) × (x.side ≡ y.side)

  pub one_tri : (x y : HasCorner slots (At p)) → x.slot ≡ y.slot → x.tri ≡ y.tri
  one_tri x y e = same_in x.tri y.tri (sym x.there ∙ ap (triangle_at slots) e ∙ y.there)

  pub by_slot : (x y : HasCorner slots (At p)) → x.slot ≡ y.slot → IsOne x y
  by_slot x y e = (e, same_side y.tri y.side x.side (m.mesh.distinct y.slot y.tri (standing slots m.mesh y.slot y.tri y.there)) (sym (ap (λ t. corner_at t x.side) (one_tri x y e)) ∙ x.is ∙ sym y.is))

  pub by_beside : (x y : HasCorner slots (At p)) → beside x ≡ beside y → IsOne x y
  by_beside x y e =
      m.mesh.net.one x.slot y.slot x.side y.side (edge x.tri x.side) (edge y.tri y.side)
      (ap (λ o. edge_of o x.side) (standing slots m.mesh x.slot x.tri x.there)) (ap (λ o. edge_of o y.side) (standing slots m.mesh y.slot y.tri y.there)) (x.is ∙ sym y.is) e

  pub by_top : (x y : HasCorner slots (At p)) → top x ≡ top y → IsOne x y
  by_top x y e = last_side slots m x.slot y.slot x.side y.side x.tri y.tri x.there y.there (x.is ∙ sym y.is) e

  pub one_back : (x y : HasCorner slots (At p)) → IsOne x y → IsOne y x
  one_back x y o = (sym o.0, sym o.1)

  pub one_then : (x y z : HasCorner slots (At p)) → IsOne x y → IsOne y z → IsOne x z
  one_then x y z o q = (o.0 ∙ q.0, o.1 ∙ q.1)

  pub one_beside : (x y : HasCorner slots (At p)) → IsOne x y → beside x ≡ beside y
  one_beside x y o = λ i. corner_at (one_tri x y o.0 i) (after (o.1 i))

  pub one_top : (x y : HasCorner slots (At p)) → IsOne x y → top x ≡ top y
  one_top x y o = λ i. apex (one_tri x y o.0 i) (o.1 i)

  pub one_count : (x y : HasCorner slots (At p)) → IsOne x y → count x ≡ count y
  one_count x y o = λ i. count_at (one_tri x y o.0 i) (o.1 i)

  -- ---- the next one, counterclockwise
  pub ahead : (x : HasCorner slots (At p)) → Across slots x.tri (after (after x.side))
  ahead x = across slots x.slot (after (after x.side)) x.tri m.mesh x.there (next_stands slots m x.slot x.tri x.side p x.there x.is)

  pub step : HasCorner slots (At p) → HasCorner slots (At p)
  step x = record { slot = next_at x.tri (after (after x.side)); tri = (ahead x).tri; side = (ahead x).side; there = (ahead x).is.there; is = (ahead x).is.starts ∙ thrice x.tri x.side ∙ x.is }

  pub linked : (x : HasCorner slots (At p)) → beside (step x) ≡ top x
  unfolding step
  linked x = (ahead x).is.ends

  -- the edge between the two has one count, from both sides
  pub incoming : (x : HasCorner slots (At p)) → count_at x.tri (after (after x.side)) ≡ count (step x)
  unfolding step
  incoming x = sym (ahead x).is.same_count

  -- what stands across that edge is the next one
  pub across_step : (x : HasCorner slots (At p)) (n : ℕ) (u : TriSlot) (j : Side) → (over : IsAcross slots x.tri (after (after x.side)) n u j) → (y : HasCorner slots (At p)) → y.slot ≡ n → y.tri ≡ u → y.side ≡ j → IsOne y (step x)
  across_step x n u j over y slot tri side = by_beside y (step x) ((λ i. corner_at (tri i) (after (side i))) ∙ over.ends ∙ sym (linked x))

  pub step_one : (x y : HasCorner slots (At p)) → IsOne x y → IsOne (step x) (step y)
  step_one x y o = by_beside (step x) (step y) (linked x ∙ one_top x y o ∙ sym (linked y))

  pub step_back : (x y : HasCorner slots (At p)) → IsOne (step x) (step y) → IsOne x y
  step_back x y o = by_top x y (sym (linked x) ∙ one_beside (step x) (step y) o ∙ linked y)

  -- ---- so many steps on
  pub at : HasCorner slots (At p) → ℕ → HasCorner slots (At p)
  at x zero = x
  at x (suc i) = step (at x i)

  pub at_zero : (x : HasCorner slots (At p)) → at x zero ≡ x
  unfolding at
  at_zero x = refl

  pub at_suc : (x : HasCorner slots (At p)) (i : ℕ) → at x (suc i) ≡ step (at x i)
  unfolding at
  at_suc x i = refl

  pub at_step : (x : HasCorner slots (At p)) (i : ℕ) → at (step x) i ≡ at x (suc i)
  unfolding at
  at_step x zero = refl
  at_step x (suc i) = ap step (at_step x i)

  pub next_beside : (x : HasCorner slots (At p)) (i : ℕ) → beside (at x (suc i)) ≡ top (at x i)
  unfolding at
  next_beside x i = linked (at x i)

  module _ (x : HasCorner slots (At p)) where
    pub gap_back : (i d e : ℕ) → e ≡ i + d → IsOne (at x e) (at x i) → IsOne (at x d) x
    unfolding at
    gap_back zero d e h o =
        let same : e ≡ d = omega (arith, h) in
        subst (λ k. IsOne (at x k) x) same o
    gap_back (suc i) d zero h o = absurd (omega (arith, h))
    gap_back (suc i) d (suc e) h o = gap_back i d e (omega (arith, h)) (step_back (at x e) (at x i) o)

    pub gap_on : (i d e : ℕ) → e ≡ i + d → IsOne (at x d) x → IsOne (at x e) (at x i)
    unfolding at
    gap_on zero d e h o =
        let same : d ≡ e = omega (arith, h) in
        subst (λ k. IsOne (at x k) x) same o
    gap_on (suc i) d zero h o = absurd (omega (arith, h))
    gap_on (suc i) d (suc e) h o = step_one (at x e) (at x i) (gap_on i d e (omega (arith, h)) o)

    slot_in : (i : ℕ) → (at x i).slot < length slots
    slot_in i = live_within slots (at x i).slot (is_some (triangle_at slots (at x i).slot) (at x i).tri (at x i).there)

    -- after n steps, and not before, the first triangle comes again
    pub record IsPeriod (n : ℕ) : Type 0 where
      pub some : 0 < n
      pub few : n ≤ length slots
      pub home : IsOne (at x n) x
      pub first : (d : ℕ) → 0 < d → d < n → (at x d).slot ≡ x.slot → ⊥

    least : (fuel k : ℕ) → 0 < k → (k + fuel ≤ length slots) → IsOne (at x (k + fuel)) x → ((d : ℕ) → 0 < d → d < k → (at x d).slot ≡ x.slot → ⊥) → (n : ℕ) × IsPeriod n
    least zero k some few home first =
        let none : k + 0 ≡ k = omega arith in
        (k, record { some = some; few = subst (λ j. j ≤ length slots) none few; home = subst (λ j. IsOne (at x j) x) none home; first = first })
    least (suc fuel) k some few home first = elim (cases_eq (at x k).slot x.slot) as (λ _. (n : ℕ) × IsPeriod n) [
      | inl e ↦ (k, record { some = some; few = omega (arith, few); home = by_slot (at x k) x e; first = first })
      | inr ne ↦
          let on : k + suc fuel ≡ suc k + fuel = omega arith in
          least fuel (suc k) (omega arith) (subst (λ j. j ≤ length slots) on few) (subst (λ j. IsOne (at x j) x) on home)
          (λ d h lt. elim (lt_or_eq d k (omega (arith, lt))) as (λ _. (at x d).slot ≡ x.slot → ⊥) [
            | inl less ↦ first d h less
            | inr same ↦ λ e. ne (sym (ap (λ j. (at x j).slot) same) ∙ e)
          ])
    ]

    pub period : (n : ℕ) × IsPeriod n
    period =
        let r = repeated (length slots) (λ i. (at x i).slot) slot_in in
        let later = r.later in
        let g = split_gap (suc r.first) r.last (omega (arith, later)) in
        let e = g.1 in
        let within = r.within in
        let on : 1 + g.0 ≡ suc g.0 = omega arith in
        least g.0 1 (omega arith) (omega (arith, e, within))
        (subst (λ j. IsOne (at x j) x) (sym on) (gap_back r.first (suc g.0) r.last (omega (arith, e)) (by_slot (at x r.last) (at x r.first) r.same)))
        (λ d h lt. absurd (omega (arith, h, lt)))

    module _ (n : ℕ) (q : IsPeriod n) where
      -- two less than n steps apart are two
      pub apart : (i d : ℕ) → 0 < d → d < n → IsOne (at x (i + d)) (at x i) → ⊥
      apart i d some less o = q.first d some less (gap_back i d (i + d) refl o).0

      pub again : (i : ℕ) → IsOne (at x (n + i)) (at x i)
      again i = gap_on i n (n + i) (omega arith) q.home

      -- each is one of the first n
      pub record IsEarly (j : ℕ) : Type 0 where
        pub i : ℕ
        pub within : i < n
        pub one : IsOne (at x j) (at x i)

      pub early : (fuel j : ℕ) → j ≤ fuel → IsEarly j
      early fuel j le = elim (lt_or_more j n) as (λ _. IsEarly j) [
        | inl lt ↦ record { i = j; within = lt; one = (refl, refl) }
        | inr e ↦ by fuel j le e.0 e.1
      ]
        where
          by : (fuel j : ℕ) → j ≤ fuel → (k : ℕ) → j ≡ k + n → IsEarly j
          by zero j le k e = let some = q.some in absurd (omega (arith, le, e, some))
          by (suc fuel) j le k e =
              let some = q.some in
              let r = elim (lt_or_more k n) as (λ _. IsEarly k) [
                | inl lt ↦ record { i = k; within = lt; one = (refl, refl) }
                | inr f ↦ by fuel k (omega (arith, le, e, some)) f.0 f.1
              ] in
              record { i = r.i; within = r.within; one = one_then (at x j) (at x k) (at x r.i) (gap_on k n j e q.home) r.one }
