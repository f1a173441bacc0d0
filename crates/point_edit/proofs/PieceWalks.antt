-- A walk round a point that notes the pieces there.
use Rattle.std.proofs.Common.{◌≡◌, ◌⊎◌, ℕ, suc, ◌<◌, ◌≤◌, ◌+◌, List, length, sym, subst, inl, inr, arith}
use Rattle.std.specs.Prelude.{⊤, false}
use Rattle.ground_model.specs.declared.corner.Corner.{Corner}
use Rattle.ground_model.specs.declared.corner.Corner.TheVariants.{At}
use Rattle.ground_model.specs.Place.{Coords}
use Rattle.tri_pages.specs.Slots.{State}
use Rattle.mesh.specs.Net.{after, corner_at, count_at, side}
use Rattle.mesh.specs.Sheets.{IsSheetMesh, HasCorner}
use Rattle.locate.specs.Facets.{IsCornerOf}
use Rattle.point_edit.specs.Pieces.{AreMet, NoPiece, IsEdgeTo, met_with}
use Rattle.point_edit.specs.Removals.{IsNextRound}
use Rattle.point_edit.specs.declared.pieces.Met.{Met}
use Rattle.point_edit.proofs.Blocked.{lt_or_eq}
use Rattle.point_edit.proofs.Looks.{standing_of, Going, going_start, going_enough, going_on, next_one, passed}
use Rattle.point_edit.proofs.MetPieces.{IsNew, met_on, met_all}
use Rattle.point_edit.proofs.Rounds.{IsOne, at, by_beside, one_back, one_beside, one_count, one_then, gap_back}
use Rattle.point_edit.proofs.Straight.{split_gap}

-- x is one of the triangles up to so many steps from the start
pub record IsMetOn (slots : List State) (m : IsSheetMesh slots) (p : Coords) (start : HasCorner slots (At p)) (n : ℕ) (x : HasCorner slots (At p)) : Type 0 where
  pub i : ℕ
  pub some : 0 < i
  pub within : i ≤ n
  pub one : IsOne slots m p x (at slots m p start i)

-- a walk, and the pieces on the way
pub record Noted (slots : List State) (p : Coords) (from steps slot corner : ℕ) (met : Met) : Type 0 where
  pub going : Going slots p from steps slot corner
  pub are : AreMet slots p (IsMetOn slots going.m p going.start steps) met

never_some : (i : ℕ) → 0 < i → i ≤ 0 → ⊥
never_some i h le = omega (arith, h, le)

pub noted_start : (slots : List State) (p : Coords) (s k : ℕ) (met : Met) → IsSheetMesh slots → IsCornerOf slots s k p → met.first ≡ 0 → met.second ≡ 0 → met.more ≡ false → Noted slots p s 0 s k met
noted_start slots p s k met m c a b d = record { going = going_start slots p s k m c; are = NoPiece a b d (λ x h more. never_some h.i h.some h.within) }

pub noted_enough : (slots : List State) (p : Coords) (from steps slot corner : ℕ) (met : Met) → Noted slots p from steps slot corner met → length slots ≤ steps → ⊥
noted_enough slots p from steps slot corner met w le = going_enough slots p from steps slot corner w.going le

module _ (slots : List State) (p : Coords) (from steps slot corner : ℕ) (met : Met) (w : Noted slots p from steps slot corner met) (n j : ℕ) (next : IsNextRound slots slot (side corner) n (side j)) (c : IsCornerOf slots n j p)
    (end : Corner) (count : ℕ) (edge : IsEdgeTo slots n (side j) end count) where
  abbrev g : Going slots p from steps slot corner
  g = w.going

  abbrev way : ℕ → HasCorner slots (At p)
  way = at slots g.m p g.start

  abbrev y : HasCorner slots (At p)
  y = standing_of slots p n j c

  abbrev y_one : IsOne slots g.m p y (way (suc steps))
  y_one = next_one slots p from steps slot corner g n j next c

  abbrev Before : HasCorner slots (At p) → Type 0
  Before = IsMetOn slots g.m p g.start steps

  abbrev Now : HasCorner slots (At p) → Type 0
  Now = IsMetOn slots g.m p g.start (suc steps)

  other : (x : HasCorner slots (At p)) → Before x → corner_at x.tri (after x.side) ≡ corner_at y.tri (after y.side) → ⊥
  other x h e =
      let within = h.within in
      let some = h.some in
      let d = split_gap h.i (suc steps) (omega (arith, within)) in
      let f = d.1 in
      let same = one_then slots g.m p (way (suc steps)) y (way h.i) (one_back slots g.m p y (way (suc steps)) y_one)
      (one_then slots g.m p y x (way h.i) (one_back slots g.m p x y (by_beside slots g.m p x y e)) h.one) in
      g.out d.0 (omega (arith, f, within)) (omega (arith, f, some)) (gap_back slots g.m p g.start h.i d.0 (suc steps) (sym f) same).0

  new : IsNew slots p Before Now y
  new = record {
    kept = λ x h. let within = h.within in record { i = h.i; some = h.some; within = omega (arith, within); one = h.one };
    now = record { i = suc steps; some = omega arith; within = omega arith; one = y_one };
    each = λ x h. elim (lt_or_eq h.i (suc steps) h.within) as (λ _. Before x ⊎ ((corner_at x.tri (after x.side) ≡ corner_at y.tri (after y.side)) × (count_at x.tri x.side ≡ count_at y.tri y.side))) [
      | inl lt ↦ inl (record { i = h.i; some = h.some; within = omega (arith, lt); one = h.one })
      | inr e ↦
          let one = one_then slots g.m p x (way (suc steps)) y (subst (λ k. IsOne slots g.m p x (way k)) e h.one) (one_back slots g.m p y (way (suc steps)) y_one) in
          inr (one_beside slots g.m p x y one, one_count slots g.m p x y one)
    ];
    other = other;
  }

  met_now : AreMet slots p Now (met_with met end count)
  met_now = subst (λ z. z) (λ i. AreMet slots p Now (met_with met ((edge y.tri y.there).0 i) ((edge y.tri y.there).1 i))) (met_on slots p Before Now y new met w.are)

  pub noted_on : (n ≡ from → ⊥) → Noted slots p from (steps + 1) n j (met_with met end count)
  noted_on away =
      let one_more : suc steps ≡ steps + 1 = omega arith in
      subst (λ h. Noted slots p from h n j (met_with met end count)) one_more (record {
        going = going_on slots p from steps slot corner g n j next c away;
        are = met_now;
      })

  pub noted_round : n ≡ from → AreMet slots p (λ x. ⊤) (met_with met end count)
  noted_round back = met_all slots p Now (met_with met end count) (λ x. let a = passed slots p from steps slot corner g n j next c back x in record { i = a.i; some = a.some; within = a.within; one = a.one }) met_now
