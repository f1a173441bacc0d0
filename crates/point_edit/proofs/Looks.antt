-- Looks at the triangles round a point, one after the other.
use Rattle.std.proofs.Common.{◌≡◌, ℕ, suc, zero, ◌<◌, ◌≤◌, ◌+◌, Some, List, length, refl, sym, ap, subst, ◌∙◌, inl, inr, arith}
use Rattle.ground_model.specs.declared.corner.Corner.{Corner}
use Rattle.ground_model.specs.declared.corner.Corner.TheVariants.{At}
use Rattle.ground_model.specs.Place.{Coords}
use Rattle.predicates.specs.Far.{is_far}
use Rattle.tri_pages.specs.declared.tri_slot.TriSlot.{TriSlot}
use Rattle.tri_pages.specs.Slots.{State, triangle_at}
use Rattle.mesh.specs.Acrosses.{apex, IsAcross}
use Rattle.mesh.specs.Insides.{IsConvexOver}
use Rattle.mesh.specs.Meshes.{IsMesh}
use Rattle.mesh.specs.Net.{Side, after, corner_at, count_at, side}
use Rattle.mesh.specs.Sheets.{IsSheetMesh, HasCorner}
use Rattle.mesh.specs.StepLaws.{CanFlip}
use Rattle.mesh.proofs.Acrosses.{across}
use Rattle.mesh.proofs.LineSides.{across_one}
use Rattle.mesh.proofs.NamedEdges.{same_in}
use Rattle.mesh.proofs.Slots.{some_is}
use Rattle.mesh.proofs.Straights.{place_inner}
use Rattle.locate.specs.Facets.{IsCornerOf}
use Rattle.locate.proofs.Angles.{three_on}
use Rattle.point_edit.specs.Removals.{AreThree, HasNoFlip, IsNextRound}
use Rattle.point_edit.proofs.Blocked.{lt_or_eq}
use Rattle.point_edit.proofs.RoundStars.{each}
use Rattle.point_edit.proofs.Rounds.{IsOne, by_slot, one_then, step, step_one, across_step, at, at_zero, at_suc, period}
use Rattle.point_edit.proofs.StuckPoints.{flip_of, of_flip}
use Rattle.point_edit.proofs.Tops.{lt_or_more}

-- the triangle of a slot that has p as a corner
abbrev pub standing_of : (slots : List State) (p : Coords) (s k : ℕ) → IsCornerOf slots s k p → HasCorner slots (At p)
standing_of slots p s k c =
    let t = some_is (triangle_at slots s) c.live in
    record { slot = s; tri = t.tri; side = side k; there = t.is; is = c.at t.tri t.is }

-- ---- one look ahead
module _ (slots : List State) (m : IsSheetMesh slots) (p : Coords) (s : ℕ) (k : Side) (t : TriSlot) (n : ℕ) (u : TriSlot) (j : Side) (there : triangle_at slots s ≡ Some t) (is : corner_at t k ≡ At p) (over : IsAcross slots t (after (after k)) n u j) (is_there : corner_at u j ≡ At p) where
  abbrev x : HasCorner slots (At p)
  x = record { slot = s; tri = t; side = k; there = there; is = is }

  abbrev y : HasCorner slots (At p)
  y = record { slot = n; tri = u; side = j; there = over.there; is = is_there }

  pub look_yes : count_at u j ≡ 0 → IsConvexOver (corner_at u j) (corner_at u (after j)) (apex u j) (corner_at t (after k)) → CanFlip slots n j
  look_yes free convex = flip_of slots m p x y over.ends free (subst (λ (c : Corner). IsConvexOver c (corner_at u (after j)) (apex u j) (corner_at t (after k))) is_there convex)

  pub look_no : CanFlip slots n j → (count_at u j ≡ 0) × IsConvexOver (corner_at u j) (corner_at u (after j)) (apex u j) (corner_at t (after k))
  look_no can =
      let a = across slots n j u m.mesh over.there (place_inner slots m n u j over.there (inl (ap is_far is_there))) in
      let r = of_flip slots m p x y over.ends _ a.tri a.side a.is can in
      (r.0, subst (λ (c : Corner). IsConvexOver c (corner_at u (after j)) (apex u j) (corner_at t (after k))) (sym is_there) r.1)

-- ---- three
pub three_yes : (slots : List State) (mesh : IsMesh slots) (s : ℕ) (k : Side) (t : TriSlot) (f : ℕ) (u : TriSlot) (j : Side) (g : ℕ) (v : TriSlot) (l : Side) → triangle_at slots s ≡ Some t → IsAcross slots t (after (after k)) f u j → IsAcross slots t k g v l → apex u j ≡ apex v l → AreThree slots s (after k)
three_yes slots mesh s k t f u j g v l there ahead behind same = λ t' f' u' j' g' v' l' there' around.
    let tri = same_in t' t (sym there' ∙ there) in
    let a = across_one slots mesh t (after (after k)) f' u' j' f u j (subst (λ (z : TriSlot). IsAcross slots z (after (after k)) f' u' j') tri around.ahead) ahead in
    let b = across_one slots mesh t k g' v' l' g v l (subst (λ z. z) (λ i. IsAcross slots (tri i) (three_on k i) g' v' l') around.before) behind in
    (λ i. apex (b.0 i) (b.1 i)) ∙ sym same ∙ (λ i. apex (sym a.0 i) (sym a.1 i))

pub three_no : (slots : List State) (s : ℕ) (k : Side) (t : TriSlot) (f : ℕ) (u : TriSlot) (j : Side) (g : ℕ) (v : TriSlot) (l : Side) → triangle_at slots s ≡ Some t → IsAcross slots t (after (after k)) f u j → IsAcross slots t k g v l → AreThree slots s (after k) → apex u j ≡ apex v l
three_no slots s k t f u j g v l there ahead behind three =
    sym (three t f u j g v l there (record { ahead = ahead; before = subst (λ z. IsAcross slots t z g v l) (sym (three_on k)) behind }))

-- ---- a walk of so many steps round p, from one slot to another, that did not come back
pub record Going (slots : List State) (p : Coords) (from steps slot corner : ℕ) : Type 0 where
  pub m : IsSheetMesh slots
  pub start : HasCorner slots (At p)
  pub start_is : start.slot ≡ from
  pub standing : IsCornerOf slots slot corner p
  pub here : (at slots m p start steps).slot ≡ slot
  pub out : (i : ℕ) → 0 < i → i ≤ steps → (at slots m p start i).slot ≡ start.slot → ⊥

pub never_some : (i : ℕ) → 0 < i → i ≤ 0 → ⊥
never_some i h le = omega (arith, h, le)

abbrev pub going_start : (slots : List State) (p : Coords) (s k : ℕ) → IsSheetMesh slots → IsCornerOf slots s k p → Going slots p s 0 s k
going_start slots p s k m c = record {
  m = m;
  start = standing_of slots p s k c;
  start_is = refl;
  standing = c;
  here = ap (λ (x : HasCorner slots (At p)). x.slot) (at_zero slots m p (standing_of slots p s k c));
  out = λ i h le. absurd (never_some i h le);
}

module _ (slots : List State) (p : Coords) (from steps slot corner : ℕ) (g : Going slots p from steps slot corner) where
  abbrev pub on : ℕ → HasCorner slots (At p)
  on = at slots g.m p g.start

  pub going_enough : length slots ≤ steps → ⊥
  going_enough le =
      let q = period slots g.m p g.start in
      let few = q.1.few in
      g.out q.0 q.1.some (omega (arith, few, le)) q.1.home.0

  module _ (n j : ℕ) (next : IsNextRound slots slot (side corner) n (side j)) (c : IsCornerOf slots n j p) where
    abbrev there : HasCorner slots (At p)
    there = standing_of slots p n j c

    pub next_one : IsOne slots g.m p there (on (suc steps))
    next_one =
        let z = standing_of slots p slot corner g.standing in
        let over = next z.tri z.there in
        let y : HasCorner slots (At p) = there in
        let one = across_step slots g.m p z n over.0 (side j) over.1 y refl (same_in y.tri over.0 (sym y.there ∙ over.1.there)) refl in
        one_then slots g.m p y (step slots g.m p z) (on (suc steps)) one
        (subst (λ (v : HasCorner slots (At p)). IsOne slots g.m p (step slots g.m p z) v) (sym (at_suc slots g.m p g.start steps)) (step_one slots g.m p z (on steps) (by_slot slots g.m p z (on steps) (sym g.here))))

    abbrev pub going_on : (n ≡ from → ⊥) → Going slots p from (suc steps) n j
    going_on away = record {
      m = g.m;
      start = g.start;
      start_is = g.start_is;
      standing = c;
      here = sym next_one.0;
      out = λ i some le. elim (lt_or_eq i (suc steps) le) as (λ _. (on i).slot ≡ g.start.slot → ⊥) [
        | inl lt ↦ g.out i some (omega (arith, lt))
        | inr e ↦ λ back. away (next_one.0 ∙ sym (ap (λ h. (on h).slot) e) ∙ back ∙ g.start_is)
      ];
    }

    -- where it comes back it met all
    pub record IsPassed (x : HasCorner slots (At p)) : Type 0 where
      pub i : ℕ
      pub some : 0 < i
      pub within : i ≤ suc steps
      pub one : IsOne slots g.m p x (on i)

    pub passed : n ≡ from → (x : HasCorner slots (At p)) → IsPassed x
    passed back x =
        let q = period slots g.m p g.start in
        let e = each slots g.m p g.start q.0 q.1 x in
        elim (lt_or_more (suc steps) q.0) as (λ _. IsPassed x) [
          | inl lt ↦ absurd (q.1.first (suc steps) (omega arith) lt home)
          | inr r ↦ early e.0 (within e.0 q.0 r.0 e.1.0 r.1) e.1.1
        ]
      where
        home : (on (suc steps)).slot ≡ g.start.slot
        home = sym next_one.0 ∙ back ∙ sym g.start_is

        within : (i l k : ℕ) → i < l → suc steps ≡ k + l → i ≤ suc steps
        within i l k lt h = omega (arith, lt, h)

        early : (i : ℕ) → i ≤ suc steps → IsOne slots g.m p x (on i) → IsPassed x
        early (suc i) le one = record { i = suc i; some = omega arith; within = le; one = one }
        early zero le one =
            let first : IsOne slots g.m p (on zero) (on (suc steps)) = by_slot slots g.m p (on zero) (on (suc steps)) (ap (λ (v : HasCorner slots (At p)). v.slot) (at_zero slots g.m p g.start) ∙ sym home) in
            record { i = suc steps; some = omega arith; within = omega arith; one = one_then slots g.m p x (on zero) (on (suc steps)) one first }

-- ---- no edge on the way could be flipped
pub record Walked (slots : List State) (p : Coords) (from steps slot corner : ℕ) : Type 0 where
  pub going : Going slots p from steps slot corner
  pub none : (i : ℕ) → 0 < i → i ≤ steps → CanFlip slots (on slots p from steps slot corner going i).slot (on slots p from steps slot corner going i).side → ⊥

pub walked_start : (slots : List State) (p : Coords) (s k : ℕ) → IsSheetMesh slots → IsCornerOf slots s k p → Walked slots p s 0 s k
walked_start slots p s k m c = record { going = going_start slots p s k m c; none = λ i h le. absurd (never_some i h le) }

pub walked_enough : (slots : List State) (p : Coords) (from steps slot corner : ℕ) → Walked slots p from steps slot corner → length slots ≤ steps → ⊥
walked_enough slots p from steps slot corner w le = going_enough slots p from steps slot corner w.going le

module _ (slots : List State) (p : Coords) (from steps slot corner : ℕ) (w : Walked slots p from steps slot corner) (n j : ℕ) (next : IsNextRound slots slot (side corner) n (side j)) (c : IsCornerOf slots n j p) (other : CanFlip slots n (side j) → ⊥) where
  abbrev way : ℕ → HasCorner slots (At p)
  way = on slots p from steps slot corner w.going

  none_now : (i : ℕ) → 0 < i → i ≤ suc steps → CanFlip slots (way i).slot (way i).side → ⊥
  none_now i some le = elim (lt_or_eq i (suc steps) le) as (λ _. CanFlip slots (way i).slot (way i).side → ⊥) [
    | inl lt ↦ w.none i some (omega (arith, lt))
    | inr e ↦ λ can.
        let one = next_one slots p from steps slot corner w.going n j next c in
        other (subst (λ z. z) (λ k. CanFlip slots (sym one.0 k) (sym one.1 k)) (subst (λ h. CanFlip slots (way h).slot (way h).side) e can))
  ]

  pub walked_on : (n ≡ from → ⊥) → Walked slots p from (steps + 1) n j
  walked_on away =
      let one_more : suc steps ≡ steps + 1 = omega arith in
      subst (λ h. Walked slots p from h n j) one_more (record { going = going_on slots p from steps slot corner w.going n j next c away; none = none_now })

  pub walked_round : n ≡ from → HasNoFlip slots p
  walked_round back = λ x can.
      let a = passed slots p from steps slot corner w.going n j next c back x in
      none_now a.i a.some a.within (subst (λ z. z) (λ k. CanFlip slots (a.one.0 k) (a.one.1 k)) can)
