-- The last three or four triangles at a point, as the steps that take it out ask for them.
use Rattle.std.proofs.Common.{◌≡◌, ◌⊎◌, ℕ, suc, false, Some, List, refl, sym, ap, subst, ◌∙◌, inl, inr, arith}
use Rattle.std.specs.Prelude.{pos}
use Rattle.ground_model.specs.declared.corner.Corner.TheVariants.{At}
use Rattle.ground_model.specs.Corner.{corner_at as place_of, corner_side}
use Rattle.ground_model.specs.Place.{Coords}
use Rattle.ground_model.specs.Side.{side}
use Rattle.predicates.specs.Far.{is_far}
use Rattle.tri_pages.specs.declared.tri_slot.TriSlot.{TriSlot}
use Rattle.tri_pages.specs.Slots.{State, triangle_at}
use Rattle.mesh.specs.Acrosses.{apex, IsAcross}
use Rattle.mesh.specs.EdgeUnsplits.{AreFour}
use Rattle.mesh.specs.Net.{Side, after, corner_at, count_at, next_at}
use Rattle.mesh.specs.Sheets.{IsSheetMesh, HasCorner, net_in}
use Rattle.mesh.specs.Straights.{IsStraight, IsStraightAt, IsLineSide}
use Rattle.mesh.specs.Unsplits.{IsUnsplittable}
use Rattle.mesh.proofs.Acrosses.{Across, across}
use Rattle.mesh.proofs.Corners.{thrice}
use Rattle.mesh.proofs.LineSides.{through_is}
use Rattle.mesh.proofs.NamedEdges.{same_in}
use Rattle.mesh.proofs.Slots.{is_some}
use Rattle.mesh.proofs.Straights.{place_inner}
use Rattle.locate.proofs.Angles.{three_on}
use Rattle.point_edit.specs.Removals.{AreThree, HasNoFlip, IsRemovable}
use Rattle.point_edit.proofs.RoundStars.{ring}
use Rattle.point_edit.proofs.Rounds.{beside, top, count, IsOne, by_beside, by_top, one_beside, one_top, one_count, step, step_one, at, at_zero, at_suc, at_step, next_beside, incoming, ahead, IsPeriod, period, apart, gap_on}
use Rattle.point_edit.proofs.StuckPoints.{behind, is_stuck}
use Rattle.point_edit.proofs.StuckStars.{IsLineFrom, three_or_four, through, not_through}

module _ (slots : List State) (m : IsSheetMesh slots) (p : Coords) where
  -- the triangle t of slot s, with its corner k at p
  abbrev held_as : (s : ℕ) (t : TriSlot) (k : Side) → triangle_at slots s ≡ Some t → corner_at t k ≡ At p → HasCorner slots (At p)
  held_as s t k there is = record { slot = s; tri = t; side = k; there = there; is = is }

  four_on : (k : Side) → after (after (after (after k))) ≡ after k
  four_on k = three_on (after k)

  -- ---- four steps from y come back to it: from the edge that goes from the first neighbour of p to p
  module _ (y : HasCorner slots (At p)) (home : IsOne slots m p (at slots m p y 4) y) (line : IsLineFrom p (ring slots m p y) (λ i. count slots m p (at slots m p y i)) 0) where
    abbrev here : ℕ → HasCorner slots (At p)
    here = at slots m p y

    first_is : beside slots m p (here 0) ≡ beside slots m p y
    first_is = ap (beside slots m p) (at_zero slots m p y)

    module _ (s : ℕ) (t : TriSlot) (k : Side) (there : triangle_at slots s ≡ Some t) (tail : corner_at t k ≡ beside slots m p y) (head : corner_at t (after k) ≡ At p) (f : ℕ) (u : TriSlot) (j : Side) (n : ℕ) (w : TriSlot) (i : Side) (g : ℕ) (v : TriSlot) (l : Side) (four : AreFour slots t k f u j n w i g v l) where
      abbrev in_t : HasCorner slots (At p)
      in_t = held_as s t (after k) there head

      p_of_u : corner_at u j ≡ At p
      p_of_u = sym (thrice u j) ∙ four.ahead.ends ∙ head

      abbrev in_u : HasCorner slots (At p)
      in_u = held_as f u j four.ahead.there p_of_u

      abbrev in_w : HasCorner slots (At p)
      in_w = held_as n w (after i) four.below.there (four.below.ends ∙ p_of_u)

      abbrev in_v : HasCorner slots (At p)
      in_v = held_as g v l four.under.there (four.under.starts ∙ head)

      v_one : IsOne slots m p in_v (here 0)
      v_one = by_beside slots m p in_v (here 0) (four.under.ends ∙ tail ∙ sym first_is)

      t_one : IsOne slots m p in_t (here 3)
      t_one = by_top slots m p in_t (here 3) (thrice t k ∙ tail ∙ sym (one_beside slots m p (here 4) y home) ∙ next_beside slots m p y 3)

      u_one : IsOne slots m p in_u (here 2)
      u_one = by_top slots m p in_u (here 2) (four.ahead.starts ∙ one_beside slots m p in_t (here 3) t_one ∙ next_beside slots m p y 2)

      w_one : IsOne slots m p in_w (here 1)
      w_one = by_top slots m p in_w (here 1) (thrice w i ∙ four.below.starts ∙ one_beside slots m p in_u (here 2) u_one ∙ next_beside slots m p y 1)

      b_is : corner_at w i ≡ beside slots m p (here 2)
      b_is = four.below.starts ∙ one_beside slots m p in_u (here 2) u_one

      -- counts of the four edges
      pub straight : IsStraight t k u j w i v l
      straight = record {
        closed = one_top slots m p in_v (here 0) v_one ∙ sym (next_beside slots m p y 0) ∙ sym (one_beside slots m p in_w (here 1) w_one);
        flat = subst (λ z. z) (λ h. side (place_of (sym (tail ∙ sym first_is) h)) (place_of (sym head h)) (place_of (sym b_is h)) ≡ pos 0) line.straight;
        one_count = sym four.under.same_count ∙ one_count slots m p in_v (here 0) v_one ∙ sym line.same_count ∙ sym (one_count slots m p in_u (here 2) u_one);
        uncounted = (one_count slots m p in_t (here 3) t_one ∙ line.last_free, one_count slots m p in_w (here 1) w_one ∙ line.next_free);
      }

    pub straight_at : (s : ℕ) (t : TriSlot) (k : Side) → triangle_at slots s ≡ Some t → corner_at t k ≡ beside slots m p y → corner_at t (after k) ≡ At p → IsStraightAt slots s k
    straight_at s t k there tail head = record {
      live = is_some (triangle_at slots s) t there;
      place = λ t' there'. ap (λ (z : TriSlot). is_far (corner_at z (after k))) (same_in t' t (sym there' ∙ there)) ∙ ap is_far head;
      four = λ t' f u j n w i g v l there' x.
          let same = same_in t t' (sym there ∙ there') in
          straight s t' k there' (ap (λ (z : TriSlot). corner_at z k) (sym same) ∙ tail) (ap (λ (z : TriSlot). corner_at z (after k)) (sym same) ∙ head) f u j n w i g v l x;
    }

  -- ---- from the triangle x
  module _ (x : HasCorner slots (At p)) where
    abbrev on : ℕ → HasCorner slots (At p)
    on = at slots m p x

    one_is : on 1 ≡ step slots m p x
    one_is = at_suc slots m p x 0 ∙ ap (step slots m p) (at_zero slots m p x)

    p_of : (t : TriSlot) → t ≡ x.tri → corner_at t x.side ≡ At p
    p_of t same = ap (λ (z : TriSlot). corner_at z x.side) same ∙ x.is

    same_of : (t : TriSlot) → triangle_at slots x.slot ≡ Some t → t ≡ x.tri
    same_of t there = same_in t x.tri (sym there ∙ x.there)

    top_is : top slots m p x ≡ beside slots m p (on 1)
    top_is = sym (ap (top slots m p) (at_zero slots m p x)) ∙ sym (next_beside slots m p x 0)

    -- what stands across the edge that ends at p is the next triangle
    module _ (t : TriSlot) (same : t ≡ x.tri) (f : ℕ) (u : TriSlot) (j : Side) (over : IsAcross slots t (after (after x.side)) f u j) where
      abbrev in_next : HasCorner slots (At p)
      in_next = held_as f u j over.there (over.starts ∙ thrice t x.side ∙ p_of t same)

      next_one : IsOne slots m p in_next (on 1)
      next_one = by_beside slots m p in_next (on 1) (over.ends ∙ ap (λ (z : TriSlot). apex z x.side) same ∙ top_is)

      next_top : apex u j ≡ beside slots m p (on 2)
      next_top = one_top slots m p in_next (on 1) next_one ∙ sym (next_beside slots m p x 1)

      next_count : count_at u (after (after j)) ≡ count slots m p (on 2)
      next_count = incoming slots m p in_next ∙ one_count slots m p (step slots m p in_next) (step slots m p (on 1)) (step_one slots m p in_next (on 1) next_one) ∙ ap (count slots m p) (sym (at_suc slots m p x 1))

    -- and across the edge that begins there the last one, e steps on
    last_apex : (e : ℕ) → IsOne slots m p (on (suc e)) x → (t : TriSlot) → t ≡ x.tri → (g : ℕ) (v : TriSlot) (l : Side) → IsAcross slots t x.side g v l → apex v l ≡ beside slots m p (on e)
    last_apex e home t same g v l over =
        behind slots m p (on e) x (sym (one_beside slots m p (on (suc e)) x home) ∙ next_beside slots m p x e) g v l (subst (λ (z : TriSlot). IsAcross slots z x.side g v l) same over)

    inner_of : (t : TriSlot) (k : Side) → triangle_at slots x.slot ≡ Some t → (k ≡ x.side) ⊎ (k ≡ after (after x.side)) → (is_far (corner_at t k) ≡ false) ⊎ (is_far (corner_at t (after k)) ≡ false)
    inner_of t k there (inl e) = inl (ap is_far (ap (corner_at t) e ∙ p_of t (same_of t there)))
    inner_of t k there (inr e) = inr (ap is_far (ap (λ k'. corner_at t (after k')) e ∙ thrice t x.side ∙ p_of t (same_of t there)))

    abbrev last_across : Across slots x.tri x.side
    last_across = across slots x.slot x.side x.tri m.mesh x.there (place_inner slots m x.slot x.tri x.side x.there (inner_of x.tri x.side x.there (inl refl)))

    -- ---- three
    three_of : IsOne slots m p (on 3) x → AreThree slots x.slot (after x.side)
    three_of home = λ t f u j g v l there around.
        let same = same_of t there in
        last_apex 2 home t same g v l (subst (λ k. IsAcross slots t k g v l) (three_on x.side) around.before) ∙ sym (next_top t same f u j around.ahead)

    unsplittable : IsOne slots m p (on 3) x → count slots m p (on 0) ≡ 0 → count slots m p (on 1) ≡ 0 → count slots m p (on 2) ≡ 0 → IsUnsplittable slots x.slot (after x.side)
    unsplittable home none_here none_next none_last = record {
      live = is_some (triangle_at slots x.slot) x.tri x.there;
      inner = λ t there. place_inner slots m x.slot t (after (after x.side)) there (inner_of t (after (after x.side)) there (inr refl));
      inner_back = λ t there. place_inner slots m x.slot t (after (after (after x.side))) there (inner_of t (after (after (after x.side))) there (inl (three_on x.side)));
      three = three_of home;
      uncounted = λ t there.
          let same = same_of t there in (
            ap (λ (z : TriSlot). count_at z (after (after x.side))) same ∙ incoming slots m p x ∙ ap (count slots m p) (sym one_is) ∙ none_next,
            (λ i. count_at (same i) (three_on x.side i)) ∙ ap (count slots m p) (sym (at_zero slots m p x)) ∙ none_here,
          );
      uncounted_third = λ t f u j there over. next_count t (same_of t there) f u j over ∙ none_last;
    }

    -- ---- four
    not_three : (n : ℕ) → IsPeriod slots m p x n → n ≡ 4 → AreThree slots x.slot (after x.side) → ⊥
    not_three n q four three =
        let home = subst (λ k. IsOne slots m p (on k) x) four q.home in
        let a = ahead slots m p x in
        let b = last_across in
        let same = three x.tri (next_at x.tri (after (after x.side))) a.tri a.side (next_at x.tri x.side) b.tri b.side x.there (record { ahead = a.is; before = subst (λ k. IsAcross slots x.tri k (next_at x.tri x.side) b.tri b.side) (sym (three_on x.side)) b.is }) in
        apart slots m p x n q 2 1 (omega arith) (omega (arith, four))
        (by_beside slots m p (on 3) (on 2) (sym (last_apex 3 home x.tri refl (next_at x.tri x.side) b.tri b.side b.is) ∙ same ∙ next_top x.tri refl (next_at x.tri (after (after x.side))) a.tri a.side a.is))

    abbrev counts : ℕ → ℕ
    counts i = count slots m p (on i)

    flat_is : IsOne slots m p (on 4) x → corner_side (top slots m p x) (corner_at x.tri x.side) (apex last_across.tri last_across.side) ≡ side (ring slots m p x 1) p (ring slots m p x 3)
    flat_is home = λ i. corner_side (top_is i) (x.is i) (last_apex 3 home x.tri refl _ last_across.tri last_across.side last_across.is i)

    count_is : counts 0 ≡ count_at x.tri x.side
    count_is = ap (count slots m p) (at_zero slots m p x)

    line_ahead : IsLineFrom p (ring slots m p x) counts 1 → IsLineFrom p (ring slots m p (step slots m p x)) (λ i. count slots m p (at slots m p (step slots m p x) i)) 0
    line_ahead h = record {
      straight = subst (λ z. z) (λ i. side (place_of (beside slots m p (sym (at_step slots m p x 0) i))) p (place_of (beside slots m p (sym (at_step slots m p x 2) i))) ≡ pos 0) h.straight;
      same_count = ap (count slots m p) (at_step slots m p x 2) ∙ h.same_count ∙ sym (ap (count slots m p) (at_step slots m p x 0));
      next_free = ap (count slots m p) (at_step slots m p x 1) ∙ h.next_free;
      last_free = ap (count slots m p) (at_step slots m p x 3) ∙ h.last_free;
    }

    home_ahead : IsOne slots m p (on 4) x → IsOne slots m p (at slots m p (step slots m p x) 4) (step slots m p x)
    home_ahead home = subst (λ z. z) (λ i. IsOne slots m p (sym (at_step slots m p x 4) i) (one_is i)) (gap_on slots m p x 1 4 5 refl home)

    straight_of : (n : ℕ) → n ≡ 4 → IsPeriod slots m p x n → IsRemovable (net_in slots) p → HasNoFlip slots p → (s' : ℕ) (k' : Side) → IsLineSide slots x.slot x.side s' k' → IsStraightAt slots s' k'
    straight_of n four q free none s' k' (inl h) =
        let home = subst (λ k. IsOne slots m p (on k) x) four q.home in
        let b = last_across in
        let r = through_is slots m.mesh x.slot x.side x.tri _ b.tri b.side x.there b.is h.0 in
        let line = through p (ring slots m p x) n counts (is_stuck slots m p free none x n q) four (sym (flat_is home) ∙ r.0) (count_is ∙ r.1) in
        subst (λ z. z) (λ i. IsStraightAt slots (sym h.1.0 i) (sym h.1.1 i))
        (straight_at (step slots m p x) (home_ahead home) (line_ahead line) x.slot x.tri (after (after x.side)) x.there (top_is ∙ ap (beside slots m p) one_is) (thrice x.tri x.side ∙ x.is))
    straight_of n four q free none s' k' (inr h) =
        let home = subst (λ k. IsOne slots m p (on k) x) four q.home in
        let b = last_across in
        let line = not_through p (ring slots m p x) n counts (is_stuck slots m p free none x n q) four (λ flat uncounted. h.0 (record {
          tri = x.tri;
          slot = _;
          beyond = b.tri;
          back = b.side;
          here = x.there;
          across = b.is;
          flat = flat_is home ∙ flat;
          free = sym count_is ∙ uncounted;
        })) in
        let y = h.1 in
        let same = same_of y.tri y.here in
        straight_at x home line s' y.beyond k' y.across.there (y.across.starts ∙ ap (λ (z : TriSlot). corner_at z (after x.side)) same) (y.across.ends ∙ p_of y.tri same)

    -- ---- one or the other
    module _ (free : IsRemovable (net_in slots) p) (none : HasNoFlip slots p) where
      abbrev q : (n : ℕ) × IsPeriod slots m p x n
      q = period slots m p x

      pub last_three : AreThree slots x.slot (after x.side) → IsUnsplittable slots x.slot (after x.side)
      last_three three = elim (three_or_four p (ring slots m p x) q.0 counts (is_stuck slots m p free none x q.0 q.1)) as (λ _. IsUnsplittable slots x.slot (after x.side)) [
        | inl r ↦
            let e = r.0 in
            unsplittable (subst (λ k. IsOne slots m p (on k) x) e q.1.home) (r.1 0 (omega (arith, e))) (r.1 1 (omega (arith, e))) (r.1 2 (omega (arith, e)))
        | inr four ↦ absurd (not_three q.0 q.1 four three)
      ]

      pub last_four : (AreThree slots x.slot (after x.side) → ⊥) → (s : ℕ) (k : Side) → IsLineSide slots x.slot x.side s k → IsStraightAt slots s k
      last_four other = elim (three_or_four p (ring slots m p x) q.0 counts (is_stuck slots m p free none x q.0 q.1)) as (λ _. (s : ℕ) (k : Side) → IsLineSide slots x.slot x.side s k → IsStraightAt slots s k) [
        | inl r ↦ absurd (other (three_of (subst (λ k. IsOne slots m p (on k) x) r.0 q.1.home)))
        | inr four ↦ straight_of q.0 four q.1 free none
      ]
