-- A triangle at a point is looked for on the way round it.
use Rattle.std.proofs.Common.{◌≡◌, ℕ, suc, ◌<◌, ◌≤◌, ◌+◌, List, length, sym, subst, ◌∙◌, inl, inr, arith}
use Rattle.ground_model.specs.declared.corner.Corner.{Corner}
use Rattle.ground_model.specs.declared.corner.Corner.TheVariants.{At}
use Rattle.ground_model.specs.Place.{Coords}
use Rattle.tri_pages.specs.Slots.{State}
use Rattle.mesh.specs.Net.{after, corner_at, side}
use Rattle.mesh.specs.Sheets.{IsSheetMesh, HasCorner}
use Rattle.locate.specs.Facets.{IsCornerOf}
use Rattle.point_edit.specs.Pieces.{IsEdgeTo}
use Rattle.point_edit.specs.Removals.{IsNextRound}
use Rattle.point_edit.proofs.Blocked.{lt_or_eq}
use Rattle.point_edit.proofs.Looks.{standing_of, Going, going_start, going_enough, going_on, next_one, passed, on}
use Rattle.point_edit.proofs.Rounds.{IsOne, one_back, one_beside}
use Rattle.line_edit.specs.Edges.{HasNoSide}

-- it is a matter of the triangle alone whether P holds of it
abbrev pub IsOfTriangles : (slots : List State) (p : Coords) → (HasCorner slots (At p) → Type 0) → Type 0
IsOfTriangles slots p P = (m : IsSheetMesh slots) (x y : HasCorner slots (At p)) → IsOne slots m p x y → P x → P y

-- a walk, and no triangle on the way of which P holds
pub record Sought (slots : List State) (p : Coords) (P : HasCorner slots (At p) → Type 0) (from steps slot corner : ℕ) : Type 0 where
  pub going : Going slots p from steps slot corner
  pub none : (i : ℕ) → 0 < i → i ≤ steps → P (on slots p from steps slot corner going i) → ⊥

pub sought_start : (slots : List State) (p : Coords) (P : HasCorner slots (At p) → Type 0) (s k : ℕ) → IsSheetMesh slots → IsCornerOf slots s k p → Sought slots p P s 0 s k
sought_start slots p P s k m c = record { going = going_start slots p s k m c; none = λ i h le. absurd (never i h le) }
  where
    never : (i : ℕ) → 0 < i → i ≤ 0 → ⊥
    never i h le = omega (arith, h, le)

pub sought_enough : (slots : List State) (p : Coords) (P : HasCorner slots (At p) → Type 0) (from steps slot corner : ℕ) → Sought slots p P from steps slot corner → length slots ≤ steps → ⊥
sought_enough slots p P from steps slot corner w le = going_enough slots p from steps slot corner w.going le

module _ (slots : List State) (p : Coords) (P : HasCorner slots (At p) → Type 0) (alike : IsOfTriangles slots p P) (from steps slot corner : ℕ) (w : Sought slots p P from steps slot corner)
    (n j : ℕ) (next : IsNextRound slots slot (side corner) n (side j)) (c : IsCornerOf slots n j p) (other : P (standing_of slots p n j c) → ⊥) where
  abbrev way : ℕ → HasCorner slots (At p)
  way = on slots p from steps slot corner w.going

  abbrev y : HasCorner slots (At p)
  y = standing_of slots p n j c

  none_now : (i : ℕ) → 0 < i → i ≤ suc steps → P (way i) → ⊥
  none_now i some le = elim (lt_or_eq i (suc steps) le) as (λ _. P (way i) → ⊥) [
    | inl lt ↦ w.none i some (omega (arith, lt))
    | inr e ↦ λ at.
        let one = next_one slots p from steps slot corner w.going n j next c in
        other (alike w.going.m (way (suc steps)) y (one_back slots w.going.m p y (way (suc steps)) one) (subst (λ k. P (way k)) e at))
  ]

  pub sought_on : (n ≡ from → ⊥) → Sought slots p P from (steps + 1) n j
  sought_on away =
      let one_more : suc steps ≡ steps + 1 = omega arith in
      subst (λ k. Sought slots p P from k n j) one_more (record { going = going_on slots p from steps slot corner w.going n j next c away; none = none_now })

  pub sought_round : n ≡ from → (x : HasCorner slots (At p)) → P x → ⊥
  sought_round back x h =
      let a = passed slots p from steps slot corner w.going n j next c back x in
      none_now a.i a.some a.within (alike w.going.m x (way a.i) a.one h)

-- ---- an edge to a place
abbrev pub EndsAt : (slots : List State) (p q : Coords) → HasCorner slots (At p) → Type 0
EndsAt slots p q x = corner_at x.tri (after x.side) ≡ At q

pub ends_alike : (slots : List State) (p q : Coords) → IsOfTriangles slots p (EndsAt slots p q)
ends_alike slots p q = λ m x y one e. sym (one_beside slots m p x y one) ∙ e

pub no_end : (slots : List State) (p q : Coords) (n j : ℕ) (c : IsCornerOf slots n j p) (end : Corner) (count : ℕ) → IsEdgeTo slots n (side j) end count → (end ≡ At q → ⊥) → EndsAt slots p q (standing_of slots p n j c) → ⊥
no_end slots p q n j c end count edge other e =
    let y = standing_of slots p n j c in
    other (sym (edge y.tri y.there).0 ∙ e)

pub no_side : (slots : List State) (p q : Coords) → ((x : HasCorner slots (At p)) → EndsAt slots p q x → ⊥) → HasNoSide slots p q
no_side slots p q none = λ z. none (record { slot = z.slot; tri = z.tri; side = z.side; there = z.there; is = z.tail }) z.head
