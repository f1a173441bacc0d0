-- A corner that lies straight between two neighbours can be taken out, and a sheet is left.
use Rattle.std.specs.Prelude.{ℤ, pos, neg_ℤ, ◌<ℤ◌, ◌+ℤ◌, ◌*ℤ◌}
use Rattle.std.proofs.Common.{◌≡◌, ◌⊎◌, ℕ, true, false, Some, List, refl, sym, ap, ◌∙◌, inl, inr, subst, arith}
use Rattle.std.proofs.lemmas.Int.{ints}
use Rattle.std.proofs.lemmas.Bool.{cases_eq}
use Rattle.std.proofs.lemmas.Option.{none-some}
use Rattle.ground_model.specs.declared.corner.Corner.{Corner}
use Rattle.ground_model.specs.declared.corner.Corner.TheVariants.{At, Far}
use Rattle.ground_model.specs.Corner.{corner_at as place_of, corner_side}
use Rattle.ground_model.specs.Place.{Coords, IsPlace}
use Rattle.ground_model.specs.Side.{side}
use Rattle.ground_model.proofs.Circle.{side-turned, side-parts}
use Rattle.ground_model.proofs.ZOrder.{mul-positive}
use Rattle.predicates.specs.Far.{is_far, IsKnown}
use Rattle.predicates.proofs.FlatSides.{flat_ab, flat_bc, flat_ca, side-back}
use Rattle.predicates.proofs.NearCorners.{times-zero, zero-times}
use Rattle.predicates.proofs.Signs.{weaken, level-up, never-level, positive-along}
use Rattle.tri_pages.specs.declared.tri_slot.TriSlot.{TriSlot}
use Rattle.tri_pages.specs.Slots.{State, triangle_at, joined}
use Rattle.mesh.specs.Acrosses.{apex, HasNoEdge}
use Rattle.mesh.specs.EdgeUnsplits.{AreFour, IsLine, IsEdgeUnsplittable, IsEdgeUnsplit, upper_face}
use Rattle.mesh.specs.Meshes.{IsMesh}
use Rattle.mesh.specs.Net.{Side, after, corner_at, count_at, next_at, slots_of, outside, rim}
use Rattle.mesh.specs.Sheets.{IsTurned, IsSheetMesh, HasCorner}
use Rattle.mesh.specs.Straights.{IsStraight, IsStraightAt}
use Rattle.mesh.proofs.Corners.{owner, thrice}
use Rattle.mesh.proofs.InSheets.{left_at, only_corner, real_back}
use Rattle.mesh.proofs.NamedEdges.{same_in}
use Rattle.mesh.proofs.Slots.{slot_in}
use Rattle.mesh.proofs.StepSheets.{rim_side}
use Rattle.mesh.proofs.TurnedFaces.{IsTurnedFace, made_turned, kept_turned, far_as, mixed, factor, first_alone, second_alone}
use Rattle.mesh.proofs.TurnedSlots.{by_side}

-- ---- signs
-- a place on ab, between its ends as c tells, is so as e tells
between : (a b c e p : Coords) → pos 0 <ℤ side a b e → side a b p ≡ pos 0 → pos 0 <ℤ side b c p → pos 0 <ℤ side c a p → (pos 0 <ℤ side b e p) × (pos 0 <ℤ side e a p)
between a b c e p left flat bc ca =
    let abc = sum (side a b c) (side b c p) (side c a p) (side a b p) (side-parts a b c p) bc ca flat in (
      factor (side a b c) (side b e p) abc
          (first_alone (side a b c *ℤ side b e p) (side b c p *ℤ side b e a) (side c a p *ℤ side b e b) (side a b p *ℤ side b e c) (mixed b e a b c p)
          (mul-positive (side b c p) (side b e a) bc (positive-along (side b e a) (side a b e) (sym (side-turned a b e)) left))
          (times-zero (side c a p) (side b e b) (flat_ca b e b refl))
          (zero-times (side a b p) (side b e c) flat)),
      factor (side a b c) (side e a p) abc
          (second_alone (side a b c *ℤ side e a p) (side b c p *ℤ side e a a) (side c a p *ℤ side e a b) (side a b p *ℤ side e a c) (mixed e a a b c p)
          (times-zero (side b c p) (side e a a) (flat_bc e a a refl))
          (mul-positive (side c a p) (side e a b) ca (positive-along (side e a b) (side a b e) (side-turned e a b) left))
          (zero-times (side a b p) (side e a c) flat)),
    )
  where
    sum : (r u v w : ℤ) → u +ℤ v +ℤ w ≡ r → pos 0 <ℤ u → pos 0 <ℤ v → w ≡ pos 0 → pos 0 <ℤ r
    sum r u v w e f g h = omega (arith, ints, e, f, g, h)

-- the line seen otherwise
flat_back : (a b p : Coords) → side a p b ≡ pos 0 → side b a p ≡ pos 0
flat_back a b p e = sym (side-turned p b a) ∙ sym (side-turned a p b) ∙ e

flat_on : (a b p : Coords) → side a p b ≡ pos 0 → side a b p ≡ pos 0
flat_on a b p e = side-back b a p ∙ ap neg_ℤ (flat_back a b p e)

flat_swapped : (a b p : Coords) → side a p b ≡ pos 0 → side b p a ≡ pos 0
flat_swapped a b p e = side-turned b p a ∙ side-turned p a b ∙ flat_on a b p e

clash : (x y : ℤ) → y ≡ neg_ℤ x → pos 0 <ℤ x → pos 0 <ℤ y → ⊥
clash x y e h k = omega (arith, ints, e, h, k)

-- apc, pbc, bpd and pad are counterclockwise, and apb is flat
record Sides (a b c d p : Coords) : Type 0 where
  apc : pos 0 <ℤ side a p c
  pbc : pos 0 <ℤ side p b c
  bpd : pos 0 <ℤ side b p d
  pad : pos 0 <ℤ side p a d
  flat : side a p b ≡ pos 0

never : true ≡ false → ⊥
never e = cc

at_of : (c : Corner) → is_far c ≡ false → (q : Coords) × (c ≡ At q)
at_of (At q) e = (q, refl)
at_of (Far k) e = absurd (never e)

module _ (slots : List State) (m : IsSheetMesh slots) where
  -- an edge at a place has a triangle on both sides
  pub place_inner : (s : ℕ) (t : TriSlot) (k : Side) → triangle_at slots s ≡ Some t → (is_far (corner_at t k) ≡ false) ⊎ (is_far (corner_at t (after k)) ≡ false) → next_at t k ≡ outside → ⊥
  place_inner s t k there near out =
      let r = rim_side slots m s t k there out in
      by_side (λ v. corner_at rim v ≡ corner_at t (after k) → corner_at rim (after v) ≡ corner_at t k → ⊥) (λ e f. by (ap is_far e) (ap is_far f)) (λ e f. by (ap is_far e) (ap is_far f)) (λ e f. by (ap is_far e) (ap is_far f)) r.0 r.1 r.2
    where
      by : true ≡ is_far (corner_at t (after k)) → true ≡ is_far (corner_at t k) → ⊥
      by e f = elim near as (λ _. ⊥) [ inl h ↦ never (f ∙ h) | inr h ↦ never (e ∙ h) ]

  -- no triangle has the edge on which a corner lies
  through : (q : Coords) → IsPlace q → HasCorner slots (At q) → (i : ℕ) (w : TriSlot) (l : Side) (c : Coords) → triangle_at slots i ≡ Some w → side (place_of (corner_at w l)) (place_of (corner_at w (after l))) q ≡ pos 0
      → pos 0 <ℤ side (place_of (corner_at w (after l))) c q → pos 0 <ℤ side c (place_of (corner_at w l)) q → (corner_at w l ≡ At q → ⊥) → (corner_at w (after l) ≡ At q → ⊥) → ⊥
  through q place x i w l c there flat bc ca not_a not_b =
      let a = place_of (corner_at w l) in
      let b = place_of (corner_at w (after l)) in
      let e = place_of (apex w l) in
      let left = left_at slots m i w l there in
      let r = between a b c e q left flat bc ca in
      elim (only_corner slots m i w l q there place x (level-up (side a b q) flat) (weaken (side b e q) r.0) (weaken (side e a q) r.1)) as (λ _. ⊥) [
        | inl h ↦ not_a (sym h)
        | inr f ↦ elim f as (λ _. ⊥) [
          | inl h ↦ not_b (sym h)
          | inr h ↦ never-level (side a b e) left (ap (λ z. side a b z) (sym (ap place_of h)) ∙ flat)
        ]
      ]

  module _ (s : ℕ) (k : Side) (x : IsStraightAt slots s k) (t : TriSlot) (f : ℕ) (u : TriSlot) (j : Side) (n : ℕ) (w : TriSlot) (i : Side) (g : ℕ) (v : TriSlot) (l : Side) (here : triangle_at slots s ≡ Some t) (four : AreFour slots t k f u j n w i g v l) where
    straight : IsStraight t k u j w i v l
    straight = x.four t f u j n w i g v l here four

    u_starts : corner_at u j ≡ corner_at t (after k)
    u_starts = sym (thrice u j) ∙ four.ahead.ends

    w_ends : corner_at w (after i) ≡ corner_at t (after k)
    w_ends = four.below.ends ∙ u_starts

    p_at : (q : Coords) × (corner_at t (after k) ≡ At q)
    p_at = at_of (corner_at t (after k)) (x.place t here)

    sides_of : (q : Coords) → corner_at t (after k) ≡ At q → Sides (place_of (corner_at t k)) (place_of (corner_at w i)) (place_of (apex t k)) (place_of (apex w i)) q
    sides_of q e = record {
      apc = subst (λ z. z) (λ h. pos 0 <ℤ corner_side (corner_at t k) (e h) (apex t k)) (left_at slots m s t k here);
      pbc = subst (λ z. z) (λ h. pos 0 <ℤ corner_side ((u_starts ∙ e) h) (sym four.below.starts h) (four.ahead.starts h)) (left_at slots m f u j four.ahead.there);
      bpd = subst (λ z. z) (λ h. pos 0 <ℤ corner_side (corner_at w i) ((w_ends ∙ e) h) (apex w i)) (left_at slots m n w i four.below.there);
      pad = subst (λ z. z) (λ h. pos 0 <ℤ corner_side ((four.under.starts ∙ e) h) (four.under.ends h) (straight.closed h)) (left_at slots m g v l four.under.there);
      flat = subst (λ z. z) (λ h. corner_side (corner_at t k) (e h) (corner_at w i) ≡ pos 0) straight.flat;
    }

    two_ends : (q : Coords) → corner_at t (after k) ≡ At q → corner_at t k ≡ corner_at w i → ⊥
    two_ends q e same =
        let r = sides_of q e in
        let a = place_of (corner_at t k) in
        let c = place_of (apex t k) in
        clash (side q a c) (side a q c) (side-back q a c) (subst (λ z. pos 0 <ℤ side q z c) (sym (ap place_of same)) r.pbc) r.apc

    two_apexes : (q : Coords) → corner_at t (after k) ≡ At q → apex t k ≡ apex w i → ⊥
    two_apexes q e same =
        let r = sides_of q e in
        let a = place_of (corner_at t k) in
        let c = place_of (apex t k) in
        clash (side q a c) (side a q c) (side-back q a c) (subst (λ z. pos 0 <ℤ side q a z) (sym (ap place_of same)) r.pad) r.apc

    known : (q : Coords) → corner_at t (after k) ≡ At q → IsPlace q
    known q e = subst IsKnown e ((m.turned s t here).known (after k))

    unjoined : (q : Coords) → corner_at t (after k) ≡ At q → HasNoEdge slots (corner_at t k) (corner_at w i)
    unjoined q e = λ r y d h tail head.
        let z = sides_of q e in
        let a = place_of (corner_at t k) in
        let b = place_of (corner_at w i) in
        let c = place_of (apex t k) in
        let d' = place_of (apex w i) in
        let corner : HasCorner slots (At q) = record { slot = s; tri = t; side = after k; there = here; is = e } in
        let not_a : corner_at t k ≡ At q → ⊥ = λ g'. never-level (side a q c) z.apc (flat_ab a q c (ap place_of g')) in
        let not_b : corner_at w i ≡ At q → ⊥ = λ g'. never-level (side q b c) z.pbc (flat_ab q b c (sym (ap place_of g'))) in
        elim (cases_eq r outside) as (λ _. ⊥) [
          | inl out ↦
              let y2 = m.mesh.net.met r y d h in
              let o = owner (slots_of slots y2.slot) y2.side y2.edge y2.there in
              let o_tail : corner_at o.tri y2.side ≡ d.head = ap (λ y'. y'.tail) o.edge_is ∙ y2.back_tail in
              let o_head : corner_at o.tri (after y2.side) ≡ d.tail = ap (λ y'. y'.head) o.edge_is ∙ y2.back_head in
              let at_b : corner_at o.tri y2.side ≡ corner_at w i = o_tail ∙ head in
              let at_a : corner_at o.tri (after y2.side) ≡ corner_at t k = o_head ∙ tail in
              through q (known q e) corner y2.slot o.tri y2.side d' (real_back slots m r y d y2.slot y2.side o.tri out h o.there o_tail o_head)
              (subst (λ z'. z') (λ h'. side (place_of (sym at_b h')) (place_of (sym at_a h')) q ≡ pos 0) (flat_back a b q z.flat))
              (subst (λ z'. pos 0 <ℤ side (place_of z') d' q) (sym at_a) (positive-along (side a d' q) (side q a d') (sym (side-turned q a d')) z.pad))
              (subst (λ z'. pos 0 <ℤ side d' (place_of z') q) (sym at_b) (positive-along (side d' b q) (side b q d') (side-turned d' b q) z.bpd))
              (λ g'. not_b (sym at_b ∙ g')) (λ g'. not_a (sym at_a ∙ g'))
          | inr live ↦
              let o = owner (slots_of slots r) y d h in
              let at_a : corner_at o.tri y ≡ corner_at t k = ap (λ y'. y'.tail) o.edge_is ∙ tail in
              let at_b : corner_at o.tri (after y) ≡ corner_at w i = ap (λ y'. y'.head) o.edge_is ∙ head in
              through q (known q e) corner r o.tri y c (sym (slot_in slots r live) ∙ o.there)
              (subst (λ z'. z') (λ h'. side (place_of (sym at_a h')) (place_of (sym at_b h')) q ≡ pos 0) (flat_on a b q z.flat))
              (subst (λ z'. pos 0 <ℤ side (place_of z') c q) (sym at_b) (positive-along (side b c q) (side q b c) (sym (side-turned q b c)) z.pbc))
              (subst (λ z'. pos 0 <ℤ side c (place_of z') q) (sym at_a) (positive-along (side c a q) (side a q c) (side-turned c a q) z.apc))
              (λ g'. not_a (sym at_a ∙ g')) (λ g'. not_b (sym at_b ∙ g'))
        ]

    pub line_of : IsLine slots t k u j w i v l
    line_of =
        let p = p_at in
        record {
          closed = straight.closed;
          two_ends = two_ends p.0 p.1;
          two_apexes = two_apexes p.0 p.1;
          unjoined = unjoined p.0 p.1;
          one_count = straight.one_count;
          uncounted = straight.uncounted;
        }

  pub straight_unsplittable : (s : ℕ) (k : Side) → IsStraightAt slots s k → IsEdgeUnsplittable slots s k
  straight_unsplittable s k x = record {
    live = x.live;
    inner = λ t there. place_inner s t k there (inr (x.place t there));
    inner_ahead = λ t there. place_inner s t (after k) there (inl (x.place t there));
    inner_below = λ t f u j there across u2 at.
        let same : u ≡ u2 = same_in u u2 (sym across.there ∙ at) in
        place_inner f u2 j at (inl (ap is_far (ap (λ y. corner_at y j) (sym same) ∙ sym (thrice u j) ∙ across.ends) ∙ x.place t there));
    four = λ t f u j n w i g v l here four. line_of s k x t f u j n w i g v l here four;
  }

-- two triangles on a line become one
upper_turned : (t : TriSlot) (k : Side) (u : TriSlot) (j : Side) → IsTurned t → IsTurned u → corner_at u j ≡ corner_at t (after k) → apex u j ≡ apex t k → count_at t k ≡ count_at u j
    → corner_side (corner_at t k) (corner_at t (after k)) (corner_at u (after j)) ≡ pos 0 → pos 0 <ℤ corner_side (corner_at t k) (corner_at t (after k)) (apex t k) → pos 0 <ℤ corner_side (corner_at u j) (corner_at u (after j)) (apex u j) → IsTurnedFace (upper_face t k u j)
upper_turned t k u j x y starts apexes count flat left_t left_u =
    let a = place_of (corner_at t k) in
    let p = place_of (corner_at t (after k)) in
    let b = place_of (corner_at u (after j)) in
    let c = place_of (apex t k) in
    let pbc : pos 0 <ℤ side p b c = subst (λ z. z) (λ h. pos 0 <ℤ corner_side (starts h) (corner_at u (after j)) (apexes h)) left_u in
    record {
      known = by_side _ (x.known k) (y.known (after j)) (x.known (after (after k)));
      left = sum (side a b c) (side b c p) (side c a p) (side a b p) (side-parts a b c p) (positive-along (side b c p) (side p b c) (sym (side-turned p b c)) pbc) (positive-along (side c a p) (side a p c) (side-turned c a p) left_t) (flat_on a b p flat);
      uncounted = by_side _ (λ h. elim h as (λ _. count_at t k ≡ 0) [ inl e ↦ x.uncounted k (inl e) | inr e ↦ count ∙ y.uncounted j (inr e) ])
          (λ h. y.uncounted (after j) (far_as (corner_at u (after j)) (apex t k) (corner_at u (after j)) (apex u j) refl (sym apexes) h))
          (λ h. x.uncounted (after (after k)) (far_as (apex t k) (corner_at t k) (apex t k) (corner_at t (after (after (after k)))) refl (sym (thrice t k)) h));
    }
  where
    sum : (r u' v' w' : ℤ) → u' +ℤ v' +ℤ w' ≡ r → pos 0 <ℤ u' → pos 0 <ℤ v' → w' ≡ pos 0 → pos 0 <ℤ r
    sum r u' v' w' e f g h = omega (arith, ints, e, f, g, h)

pub edge_unsplit_sheet : (old new : List State) (s : ℕ) (k : Side) (f n g : ℕ) → IsSheetMesh old → IsMesh new → IsEdgeUnsplit old new s k f n g → IsStraightAt old s k → IsSheetMesh new
edge_unsplit_sheet old new s k f n g m mesh is x =
    let q = x.four is.tri f is.ahead is.ahead_side n is.below is.below_side g is.under is.under_side is.here is.four in
    let u_starts : corner_at is.ahead is.ahead_side ≡ corner_at is.tri (after k) = sym (thrice is.ahead is.ahead_side) ∙ is.four.ahead.ends in
    let w_ends : corner_at is.below (after is.below_side) ≡ corner_at is.tri (after k) = is.four.below.ends ∙ u_starts in
    let flat = subst (λ z. corner_side (corner_at is.tri k) (corner_at is.tri (after k)) z ≡ pos 0) is.four.below.starts q.flat in
    let back = subst (λ z. z) (λ h. corner_side (corner_at is.below is.below_side) (sym w_ends h) (sym is.four.under.ends h) ≡ pos 0)
    (flat_swapped (place_of (corner_at is.tri k)) (place_of (corner_at is.below is.below_side)) (place_of (corner_at is.tri (after k))) q.flat) in
    let t_turned = m.turned s is.tri is.here in
    let u_turned = m.turned f is.ahead is.four.ahead.there in
    let w_turned = m.turned n is.below is.four.below.there in
    let v_turned = m.turned g is.under is.four.under.there in
    record {
      mesh = mesh;
      turned = λ i t there. elim (cases_eq i s) as (λ _. IsTurned t) [
        | inl e ↦ made_turned new s t (upper_face is.tri k is.ahead is.ahead_side) mesh is.in_s (ap (triangle_at new) (sym e) ∙ there)
            (upper_turned is.tri k is.ahead is.ahead_side t_turned u_turned u_starts is.four.ahead.starts q.one_count flat (left_at old m s is.tri k is.here) (left_at old m f is.ahead is.ahead_side is.four.ahead.there))
        | inr not_s ↦ elim (cases_eq i n) as (λ _. IsTurned t) [
          | inl e ↦ made_turned new n t (upper_face is.below is.below_side is.under is.under_side) mesh is.in_n (ap (triangle_at new) (sym e) ∙ there)
              (upper_turned is.below is.below_side is.under is.under_side w_turned v_turned (is.four.under.starts ∙ sym w_ends) q.closed
              (is.four.below.same_count ∙ sym q.one_count ∙ sym is.four.under.same_count) back (left_at old m n is.below is.below_side is.four.below.there) (left_at old m g is.under is.under_side is.four.under.there))
          | inr not_n ↦ elim (cases_eq i f) as (λ _. IsTurned t) [
            | inl e ↦ absurd (none-some t (sym (ap joined is.f_free) ∙ ap (triangle_at new) (sym e) ∙ there))
            | inr not_f ↦ elim (cases_eq i g) as (λ _. IsTurned t) [
              | inl e ↦ absurd (none-some t (sym (ap joined is.g_free) ∙ ap (triangle_at new) (sym e) ∙ there))
              | inr not_g ↦ kept_turned old new i t m mesh (is.rest i not_s not_f not_n not_g) there
            ]
          ]
        ]
      ];
    }
