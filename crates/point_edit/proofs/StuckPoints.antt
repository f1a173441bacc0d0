-- A point of a mesh at which no edge can be flipped, and whose pieces go straight on.
use Rattle.std.proofs.Common.{◌≡◌, ◌⊎◌, ℕ, suc, ◌<◌, ◌+◌, false, Some, List, refl, sym, ap, subst, ◌∙◌, inl, inr, arith}
use Rattle.std.specs.Prelude.{pos, ◌<ℤ◌}
use Rattle.ground_model.specs.declared.corner.Corner.{Corner}
use Rattle.ground_model.specs.declared.corner.Corner.TheVariants.{At, Far}
use Rattle.ground_model.specs.Corner.{corner_at as place_of}
use Rattle.ground_model.specs.Place.{Coords}
use Rattle.ground_model.specs.Side.{side}
use Rattle.predicates.specs.Far.{is_far}
use Rattle.tri_pages.specs.declared.tri_slot.TriSlot.{TriSlot}
use Rattle.tri_pages.specs.Slots.{State, triangle_at}
use Rattle.mesh.specs.Acrosses.{apex, IsAcross}
use Rattle.mesh.specs.Insides.{IsConvexOver}
use Rattle.mesh.specs.Net.{Side, after, corner_at, count_at}
use Rattle.mesh.specs.Sheets.{IsSheetMesh, HasCorner, net_in}
use Rattle.mesh.specs.StepLaws.{CanFlip}
use Rattle.mesh.proofs.Corners.{thrice}
use Rattle.mesh.proofs.NamedEdges.{same_in}
use Rattle.mesh.proofs.NetOfMesh.{net_law}
use Rattle.mesh.proofs.Slots.{is_some}
use Rattle.mesh.proofs.Straights.{place_inner}
use Rattle.point_edit.specs.Removals.{HasNoFlip, IsRemovable}
use Rattle.point_edit.specs.Stars.{IsFlippableAfter}
use Rattle.point_edit.proofs.RoundStars.{ring, star, each}
use Rattle.point_edit.proofs.Rounds.{beside, top, count, by_top, one_beside, one_count, at, next_beside, IsPeriod, again}
use Rattle.point_edit.proofs.StuckStars.{IsStuck, IsOn}

module _ (slots : List State) (m : IsSheetMesh slots) (p : Coords) where
  -- ---- the edges at p
  inner_at : (x : HasCorner slots (At p)) (t : TriSlot) → triangle_at slots x.slot ≡ Some t → (is_far (corner_at t x.side) ≡ false) ⊎ (is_far (corner_at t (after x.side)) ≡ false)
  inner_at x t there = inl (ap (λ (u : TriSlot). is_far (corner_at u x.side)) (same_in t x.tri (sym there ∙ x.there)) ∙ ap is_far x.is)

  -- across the edge that begins at p stands the triangle before
  pub behind : (x y : HasCorner slots (At p)) → beside slots m p y ≡ top slots m p x → (n : ℕ) (u : TriSlot) (j : Side) → IsAcross slots y.tri y.side n u j → apex u j ≡ beside slots m p x
  behind x y next n u j over =
      let z : HasCorner slots (At p) = record { slot = n; tri = u; side = after j; there = over.there; is = over.ends ∙ y.is } in
      one_beside slots m p z x (by_top slots m p z x (thrice u j ∙ over.starts ∙ next))

  -- where a step ahead finds a convex quadrilateral without a count, the edge can be flipped
  pub flip_of : (x y : HasCorner slots (At p)) → beside slots m p y ≡ top slots m p x → count slots m p y ≡ 0 → IsConvexOver (At p) (beside slots m p y) (top slots m p y) (beside slots m p x) → CanFlip slots y.slot y.side
  flip_of x y next free convex = record {
    live = is_some (triangle_at slots y.slot) y.tri y.there;
    inner = λ t there. place_inner slots m y.slot t y.side there (inner_at y t there);
    uncounted = λ t there. ap (λ (u : TriSlot). count_at u y.side) (same_in t y.tri (sym there ∙ y.there)) ∙ free;
    convex = λ t n u j there over.
        let same : t ≡ y.tri = same_in t y.tri (sym there ∙ y.there) in
        let found = behind x y next n u j (subst (λ (v : TriSlot). IsAcross slots v y.side n u j) same over) in
        subst (λ z. z) (λ i. IsConvexOver ((sym y.is ∙ ap (λ (v : TriSlot). corner_at v y.side) (sym same)) i) (corner_at (sym same i) (after y.side)) (apex (sym same i) y.side) (sym found i)) convex;
  }

  -- and the other way round
  pub of_flip : (x y : HasCorner slots (At p)) → beside slots m p y ≡ top slots m p x → (n : ℕ) (u : TriSlot) (j : Side) → IsAcross slots y.tri y.side n u j → CanFlip slots y.slot y.side
      → (count slots m p y ≡ 0) × IsConvexOver (At p) (beside slots m p y) (top slots m p y) (beside slots m p x)
  of_flip x y next n u j over can = (
    can.uncounted y.tri y.there,
    subst (λ z. z) (λ i. IsConvexOver (y.is i) (beside slots m p y) (top slots m p y) (behind x y next n u j over i)) (can.convex y.tri n u j y.there over),
  )

  -- ---- the counts at p are the net's
  place_or_far : (c : Corner) → ((q : Coords) × (c ≡ At q)) ⊎ ((k : ℕ) × (c ≡ Far k))
  place_or_far (At q) = inl (q, refl)
  place_or_far (Far k) = inr (k, refl)

  pub net_count : (x : HasCorner slots (At p)) (q : Coords) → beside slots m p x ≡ At q → count slots m p x ≡ (net_in slots).count p q
  net_count x q e = (net_law slots m).counts p q (record { slot = x.slot; tri = x.tri; side = x.side; there = x.there; tail = x.is; head = e })

  pub record IsPiece (x : HasCorner slots (At p)) : Type 0 where
    pub end : Coords
    pub is : beside slots m p x ≡ At end
    pub counted : 0 < (net_in slots).count p end

  pub piece_of : (x : HasCorner slots (At p)) → 0 < count slots m p x → IsPiece x
  piece_of x more = elim (place_or_far (beside slots m p x)) as (λ _. IsPiece x) [
    | inl r ↦ record { end = r.0; is = r.1; counted = subst (λ k. 0 < k) (net_count x r.0 r.1) more }
    | inr r ↦
        let none : count slots m p x ≡ 0 = (m.turned x.slot x.tri x.there).uncounted x.side (inr (ap is_far r.1)) in
        absurd (omega (arith, more, none))
  ]

  module _ (free : IsRemovable (net_in slots) p) (none : HasNoFlip slots p) (x : HasCorner slots (At p)) (n : ℕ) (q : IsPeriod slots m p x n) where
    abbrev pub counts : ℕ → ℕ
    counts i = count slots m p (at slots m p x i)

    abbrev pub w : ℕ → Coords
    w = ring slots m p x

    abbrev here : ℕ → HasCorner slots (At p)
    here = at slots m p x

    goes_on : (i : ℕ) → 0 < counts i → IsOn w p counts n i
    goes_on i more =
        let a = piece_of (here i) more in
        let g = free.straight a.end a.counted in
        let b = (net_law slots m).pieces p g.other (subst (λ k. 0 < k) (sym g.same_count) a.counted) in
        let y : HasCorner slots (At p) = record { slot = b.slot; tri = b.tri; side = b.side; there = b.there; is = b.tail } in
        let e = each slots m p x n q y in
        let end : beside slots m p (here e.0) ≡ At g.other = sym (one_beside slots m p y (here e.0) e.1.1) ∙ b.head in
        let at_a : w i ≡ a.end = ap place_of a.is in
        let at_b : w e.0 ≡ g.other = ap place_of end in
        record {
          j = e.0;
          within = e.1.0;
          apart = λ h. g.apart (sym at_b ∙ h ∙ at_a);
          straight = subst (λ z. z) (λ k. side (sym at_a k) p (sym at_b k) ≡ pos 0) g.straight;
          same_count = net_count (here e.0) g.other end ∙ g.same_count ∙ sym (net_count (here i) a.end a.is);
        }

    at_most_two : (i j k : ℕ) → 0 < counts i → 0 < counts j → 0 < counts k → (w i ≡ w j → ⊥) → (w k ≡ w i) ⊎ (w k ≡ w j)
    at_most_two i j k more_i more_j more_k differ =
        let a = piece_of (here i) more_i in
        let b = piece_of (here j) more_j in
        let c = piece_of (here k) more_k in
        elim (free.two a.end b.end c.end a.counted b.counted c.counted (λ e. differ (ap place_of a.is ∙ e ∙ sym (ap place_of b.is)))) as (λ _. (w k ≡ w i) ⊎ (w k ≡ w j)) [
          | inl e ↦ inl (ap place_of c.is ∙ e ∙ sym (ap place_of a.is))
          | inr e ↦ inr (ap place_of c.is ∙ e ∙ sym (ap place_of b.is))
        ]

    no_flip : (i : ℕ) → counts (suc i) ≡ 0 → IsFlippableAfter p w i → ⊥
    no_flip i uncounted f =
        none (here (suc i)) (flip_of (here i) (here (suc i)) (next_beside slots m p x i) uncounted (record {
          at_a = subst (λ (c : Corner). pos 0 <ℤ side p (w i) (place_of c)) (next_beside slots m p x (suc i)) f.at_p;
          at_b = subst (λ (c : Corner). pos 0 <ℤ side (w i) (w (suc i)) (place_of c)) (next_beside slots m p x (suc i)) f.at_ring;
        }))

    pub is_stuck : IsStuck p w n counts
    is_stuck = record {
      star = star slots m p x n q;
      round = λ i. one_count slots m p (here (n + i)) (here i) (again slots m p x n q i);
      stuck = no_flip;
      on = goes_on;
      two = at_most_two;
    }
