-- A walk round a point that gathers the pieces there.
use Rattle.std.proofs.Common.{◌≡◌, ◌⊎◌, ℕ, suc, ◌<◌, ◌≤◌, ◌+◌, List, [], length, sym, subst, inl, inr, arith}
use Rattle.ground_model.specs.declared.corner.Corner.{Corner}
use Rattle.ground_model.specs.declared.corner.Corner.TheVariants.{At}
use Rattle.ground_model.specs.Place.{Coords}
use Rattle.tri_pages.specs.Slots.{State}
use Rattle.mesh.specs.Net.{after, corner_at, count_at, side}
use Rattle.mesh.specs.Sheets.{IsSheetMesh, HasCorner, net_in}
use Rattle.locate.specs.Facets.{IsCornerOf}
use Rattle.point_edit.specs.Pieces.{IsEdgeTo}
use Rattle.point_edit.specs.Removals.{IsNextRound}
use Rattle.point_edit.proofs.Blocked.{lt_or_eq}
use Rattle.point_edit.proofs.Looks.{standing_of, Going, going_start, going_enough, going_on, next_one, passed}
use Rattle.point_edit.proofs.MetPieces.{IsNew}
use Rattle.point_edit.proofs.PieceWalks.{IsMetOn}
use Rattle.point_edit.proofs.Rounds.{IsOne, at, by_beside, one_back, one_beside, one_count, one_then, gap_back}
use Rattle.point_edit.proofs.Straight.{split_gap}
use Rattle.line_edit.specs.declared.pieces.PieceEnd.{PieceEnd}
use Rattle.line_edit.specs.Ends.{ArePiecesAt, with_end}
use Rattle.line_edit.proofs.Gathers.{AreGathered, gathered_none, gathered_on, gathered_all}

-- a walk, and the pieces on the way
pub record Gathered (slots : List State) (p : Coords) (from steps slot corner : ℕ) (found : List PieceEnd) : Type 0 where
  pub going : Going slots p from steps slot corner
  pub are : AreGathered slots p (IsMetOn slots going.m p going.start steps) found

never_some : (i : ℕ) → 0 < i → i ≤ 0 → ⊥
never_some i h le = omega (arith, h, le)

pub gather_start : (slots : List State) (p : Coords) (s k : ℕ) → IsSheetMesh slots → IsCornerOf slots s k p → Gathered slots p s 0 s k []
gather_start slots p s k m c =
    let g = going_start slots p s k m c in
    record { going = g; are = gathered_none slots p (IsMetOn slots g.m p g.start 0) (λ x h. never_some h.i h.some h.within) }

pub gather_enough : (slots : List State) (p : Coords) (from steps slot corner : ℕ) (found : List PieceEnd) → Gathered slots p from steps slot corner found → length slots ≤ steps → ⊥
gather_enough slots p from steps slot corner found w le = going_enough slots p from steps slot corner w.going le

module _ (slots : List State) (p : Coords) (from steps slot corner : ℕ) (found : List PieceEnd) (w : Gathered slots p from steps slot corner found) (n j : ℕ) (next : IsNextRound slots slot (side corner) n (side j)) (c : IsCornerOf slots n j p)
    (end : Corner) (count : ℕ) (edge : IsEdgeTo slots n (side j) end count) where
  abbrev g : Going slots p from steps slot corner
  g = w.going

  abbrev way : ℕ → HasCorner slots (At p)
  way = at slots g.m p g.start

  abbrev y : HasCorner slots (At p)
  y = standing_of slots p n j c

  abbrev y_one : IsOne slots g.m p y (way (suc steps))
  y_one = next_one slots p from steps slot corner g n j next c

  abbrev Before : HasCorner slots (At p) → Type 0
  Before = IsMetOn slots g.m p g.start steps

  abbrev Now : HasCorner slots (At p) → Type 0
  Now = IsMetOn slots g.m p g.start (suc steps)

  -- the edge is none of those before
  other : (x : HasCorner slots (At p)) → Before x → corner_at x.tri (after x.side) ≡ corner_at y.tri (after y.side) → ⊥
  other x h e =
      let within = h.within in
      let some = h.some in
      let d = split_gap h.i (suc steps) (omega (arith, within)) in
      let f = d.1 in
      let same = one_then slots g.m p (way (suc steps)) y (way h.i) (one_back slots g.m p y (way (suc steps)) y_one)
      (one_then slots g.m p y x (way h.i) (one_back slots g.m p x y (by_beside slots g.m p x y e)) h.one) in
      g.out d.0 (omega (arith, f, within)) (omega (arith, f, some)) (gap_back slots g.m p g.start h.i d.0 (suc steps) (sym f) same).0

  new : IsNew slots p Before Now y
  new = record {
    kept = λ x h. let within = h.within in record { i = h.i; some = h.some; within = omega (arith, within); one = h.one };
    now = record { i = suc steps; some = omega arith; within = omega arith; one = y_one };
    each = λ x h. elim (lt_or_eq h.i (suc steps) h.within) as (λ _. Before x ⊎ ((corner_at x.tri (after x.side) ≡ corner_at y.tri (after y.side)) × (count_at x.tri x.side ≡ count_at y.tri y.side))) [
      | inl lt ↦ inl (record { i = h.i; some = h.some; within = omega (arith, lt); one = h.one })
      | inr e ↦
          let one = one_then slots g.m p x (way (suc steps)) y (subst (λ k. IsOne slots g.m p x (way k)) e h.one) (one_back slots g.m p y (way (suc steps)) y_one) in
          inr (one_beside slots g.m p x y one, one_count slots g.m p x y one)
    ];
    other = other;
  }

  gathered_now : AreGathered slots p Now (with_end found end count)
  gathered_now = subst (λ z. z) (λ i. AreGathered slots p Now (with_end found ((edge y.tri y.there).0 i) ((edge y.tri y.there).1 i))) (gathered_on slots p g.m Before Now y new found w.are)

  pub gather_on : (n ≡ from → ⊥) → Gathered slots p from (steps + 1) n j (with_end found end count)
  gather_on away =
      let one_more : suc steps ≡ steps + 1 = omega arith in
      subst (λ h. Gathered slots p from h n j (with_end found end count)) one_more (record {
        going = going_on slots p from steps slot corner g n j next c away;
        are = gathered_now;
      })

  pub gather_round : n ≡ from → ArePiecesAt (net_in slots) p (with_end found end count)
  gather_round back = gathered_all slots p g.m Now (with_end found end count) (λ x. let a = passed slots p from steps slot corner g n j next c back x in record { i = a.i; some = a.some; within = a.within; one = a.one }) gathered_now
