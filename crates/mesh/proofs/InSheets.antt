-- What the tiling of a sheet says of the triangles of a mesh.
use Rattle.std.proofs.Common.{◌≡◌, ◌⊎◌, ℕ, Some, List, sym, ap, ◌∙◌, inl, inr, subst, arith}
use Rattle.std.specs.Prelude.{ℤ, pos, ◌<ℤ◌, ◌≤ℤ◌, neg_ℤ}
use Rattle.std.proofs.lemmas.Int.{ints}
use Rattle.std.proofs.lemmas.Bool.{cases_eq}
use Rattle.ground_model.specs.declared.corner.Corner.{Corner}
use Rattle.ground_model.specs.declared.corner.Corner.TheVariants.{At}
use Rattle.ground_model.specs.Corner.{corner_at as place_of, corner_side}
use Rattle.ground_model.specs.Place.{Coords, IsPlace}
use Rattle.ground_model.proofs.Circle.{side-turned}
use Rattle.predicates.proofs.CrossedEdges.{Crosses}
use Rattle.predicates.proofs.FlatSides.{flat_bc, flat_ca, side-back}
use Rattle.predicates.proofs.NearCorners.{InNet}
use Rattle.predicates.proofs.NeverCross.{uncrossed}
use Rattle.predicates.proofs.Owners.{IsTurn, Still, Once, Twice, Owner, turn-side}
use Rattle.predicates.proofs.PointsApart.{closed-only}
use Rattle.predicates.proofs.Signs.{weaken, level-up, never-level, positive-along, negative-neg}
use Rattle.predicates.proofs.Tiling.{closed}
use Rattle.tri_pages.specs.declared.tri_slot.TriSlot.{TriSlot}
use Rattle.tri_pages.specs.Slots.{State, triangle_at}
use Rattle.mesh.specs.Acrosses.{apex, IsAcross, HasTwoApexes, AreUnjoined}
use Rattle.mesh.specs.Insides.{IsInTriangle, IsOnEdge, IsConvexOver, IsConvexAt}
use Rattle.mesh.specs.Meshes.{HasNoCorner}
use Rattle.mesh.specs.Net.{Side, first, second, third, after, corner_at, Edge, edge, edges_of, slots_of, outside, rim}
use Rattle.mesh.specs.Sheets.{triangle_of, net_in, IsSheetMesh, HasCorner}
use Rattle.mesh.proofs.Corners.{owner}
use Rattle.mesh.proofs.EdgeTimes.{listed_at}
use Rattle.mesh.proofs.NamedEdges.{same_in}
use Rattle.mesh.proofs.NetOfMesh.{sheet_in}
use Rattle.mesh.proofs.SheetLaw.{far_at}
use Rattle.mesh.proofs.Slots.{slot_in}
use Rattle.mesh.proofs.TurnedSlots.{by_side}

pub turn_at : (t : TriSlot) (k : Side) → IsTurn (triangle_of t) (corner_at t k) (corner_at t (after k)) (apex t k)
turn_at t first = Still
turn_at t second = Once
turn_at t third = Twice

-- the rim has no edge both ways
rim_one_way : (l v : Side) → corner_at rim v ≡ corner_at rim (after l) → corner_at rim (after v) ≡ corner_at rim l → ⊥
rim_one_way first first e f = cc
rim_one_way first second e f = cc
rim_one_way first third e f = cc
rim_one_way second first e f = cc
rim_one_way second second e f = cc
rim_one_way second third e f = cc
rim_one_way third first e f = cc
rim_one_way third second e f = cc
rim_one_way third third e f = cc

module _ (slots : List State) (m : IsSheetMesh slots) where
  -- so the reverse of an edge of the rim is that of a triangle
  pub real_back : (i : ℕ) (l : Side) (e : Edge) (r : ℕ) (v : Side) (w : TriSlot) → i ≡ outside → edges_of (slots_of slots) i l ≡ Some e → slots_of slots r ≡ Some w → corner_at w v ≡ e.head → corner_at w (after v) ≡ e.tail → triangle_at slots r ≡ Some w
  real_back i l e r v w out is h tail head = elim (cases_eq r outside) as (λ _. triangle_at slots r ≡ Some w) [
    | inl r_out ↦
        let is_rim : rim ≡ w = same_in rim w (sym (ap (slots_of slots) r_out) ∙ h) in
        let edge_is : edge rim l ≡ e = same_in (edge rim l) e (sym (ap (λ j. edges_of (slots_of slots) j l) out) ∙ is) in
        absurd (rim_one_way l v (ap (λ y. corner_at y v) is_rim ∙ tail ∙ sym (ap (λ y. y.head) edge_is)) (ap (λ y. corner_at y (after v)) is_rim ∙ head ∙ sym (ap (λ y. y.tail) edge_is)))
    | inr live ↦ sym (slot_in slots r live) ∙ h
  ]

  -- the triangle of a slot is the net's
  abbrev pub in_net : (s : ℕ) (t : TriSlot) (k : Side) → triangle_at slots s ≡ Some t → InNet (net_in slots) (corner_at t k) (corner_at t (after k)) (apex t k)
  in_net s t k there = let j = listed_at slots s t there in record { index = j.0; triangle = triangle_of t; at = j.1; turn = turn_at t k }

  abbrev owner_at : (s : ℕ) (t : TriSlot) (k : Side) → triangle_at slots s ≡ Some t → Owner (net_in slots).triangles (corner_at t k) (corner_at t (after k))
  owner_at s t k there = let j = listed_at slots s t there in record { index = j.0; triangle = triangle_of t; third = apex t k; at = j.1; turn = turn_at t k }

  -- from each of its edges it is counterclockwise
  pub left_at : (s : ℕ) (t : TriSlot) (k : Side) → triangle_at slots s ≡ Some t → pos 0 <ℤ corner_side (corner_at t k) (corner_at t (after k)) (apex t k)
  left_at s t k there = turn-side (triangle_of t) (corner_at t k) (corner_at t (after k)) (apex t k) (turn_at t k) (m.turned s t there).left

  as_first : (p : Coords) (y : Corner) (x : HasCorner slots (At p)) → InNet (net_in slots) (At p) (corner_at x.tri (after x.side)) (apex x.tri x.side)
  as_first p y x = subst (λ (c : Corner). InNet (net_in slots) c (corner_at x.tri (after x.side)) (apex x.tri x.side)) x.is (in_net x.slot x.tri x.side x.there)

  -- a corner in a closed triangle is its corner
  pub only_corner : (s : ℕ) (t : TriSlot) (k : Side) (p : Coords) → triangle_at slots s ≡ Some t → IsPlace p → HasCorner slots (At p)
      → pos 0 ≤ℤ corner_side (corner_at t k) (corner_at t (after k)) (At p) → pos 0 ≤ℤ corner_side (corner_at t (after k)) (apex t k) (At p) → pos 0 ≤ℤ corner_side (apex t k) (corner_at t k) (At p)
      → (At p ≡ corner_at t k) ⊎ ((At p ≡ corner_at t (after k)) ⊎ (At p ≡ apex t k))
  only_corner s t k p there place x ab bc ca =
      closed-only (net_in slots) (closed (net_in slots) (sheet_in slots m)) p place (corner_at x.tri (after x.side)) (apex x.tri x.side) (corner_at t k) (corner_at t (after k)) (apex t k)
      (as_first p (At p) x) (in_net s t k there) ab bc ca

  -- the corner of a triangle, or of the rim
  corner_of : (p : Coords) (i : ℕ) (u : TriSlot) (k : Side) → slots_of slots i ≡ Some u → corner_at u k ≡ At p → HasCorner slots (At p)
  corner_of p i u k there is = elim (cases_eq i outside) as (λ _. HasCorner slots (At p)) [
    | inl out ↦
        let is_rim : rim ≡ u = same_in rim u (sym (ap (slots_of slots) out) ∙ there) in
        absurd (by_side (λ j. corner_at rim j ≡ At p → ⊥) (far_at 0 p) (far_at 2 p) (far_at 1 p) k (ap (λ y. corner_at y k) is_rim ∙ is))
    | inr live ↦ record { slot = i; tri = u; side = k; there = sym (slot_in slots i live) ∙ there; is = is }
  ]

  at_first : (a b : Corner) (p : Coords) → pos 0 <ℤ corner_side b a (At p) → At p ≡ a → ⊥
  at_first a b p h e = never-level (corner_side b a (At p)) h (flat_bc (place_of b) (place_of a) p (sym (ap place_of e)))

  at_second : (a b : Corner) (p : Coords) → pos 0 <ℤ corner_side a b (At p) → At p ≡ a → ⊥
  at_second a b p h e = never-level (corner_side a b (At p)) h (flat_ca (place_of a) (place_of b) p (ap place_of e))

  -- a place strictly inside a triangle is no corner
  pub inside_no_corner : (s : ℕ) (t : TriSlot) (p : Coords) → triangle_at slots s ≡ Some t → IsPlace p → IsInTriangle t p → HasNoCorner slots (At p)
  inside_no_corner s t p there place inside = λ i u k h is.
      elim (only_corner s t first p there place (corner_of p i u k h is) (weaken _ (inside first)) (weaken _ (inside second)) (weaken _ (inside third))) as (λ _. ⊥) [
        | inl e ↦ at_second (corner_at t first) (corner_at t second) p (inside first) e
        | inr f ↦ elim f as (λ _. ⊥) [
          | inl e ↦ at_second (corner_at t second) (corner_at t third) p (inside second) e
          | inr e ↦ at_second (corner_at t third) (corner_at t first) p (inside third) e
        ]
      ]

  -- nor is one on an edge, strictly between its ends
  pub on_edge_no_corner : (s : ℕ) (t : TriSlot) (k : Side) (p : Coords) → triangle_at slots s ≡ Some t → IsPlace p → IsOnEdge t k p → HasNoCorner slots (At p)
  on_edge_no_corner s t k p there place on = λ i u j h is.
      elim (only_corner s t k p there place (corner_of p i u j h is) (level-up _ on.flat) (weaken _ on.bc) (weaken _ on.ca)) as (λ _. ⊥) [
        | inl e ↦ at_first (corner_at t k) (apex t k) p on.ca e
        | inr f ↦ elim f as (λ _. ⊥) [
          | inl e ↦ at_second (corner_at t (after k)) (apex t k) p on.bc e
          | inr e ↦ at_second (apex t k) (corner_at t k) p on.ca e
        ]
      ]

  -- the triangle across an edge, from that edge
  pub left_across : (s n : ℕ) (t u : TriSlot) (k j : Side) → triangle_at slots s ≡ Some t → IsAcross slots t k n u j → pos 0 <ℤ corner_side (corner_at t (after k)) (corner_at t k) (apex u j)
  left_across s n t u k j there across = subst (λ x. x) (λ i. pos 0 <ℤ corner_side (across.starts i) (across.ends i) (apex u j)) (left_at n u j across.there)

  clash : (x y : ℤ) → y ≡ neg_ℤ x → pos 0 <ℤ x → pos 0 <ℤ y → ⊥
  clash x y e h k = omega (arith, ints, e, h, k)

  -- the apexes on both sides are two
  pub two_apexes : (s : ℕ) (k : Side) → HasTwoApexes slots s k
  two_apexes s k = λ t n u j there across same.
      clash (corner_side (corner_at t k) (corner_at t (after k)) (apex t k)) (corner_side (corner_at t (after k)) (corner_at t k) (apex t k)) (side-back (place_of (corner_at t k)) (place_of (corner_at t (after k))) (place_of (apex t k)))
      (left_at s t k there) (subst (λ (c : Corner). pos 0 <ℤ corner_side (corner_at t (after k)) (corner_at t k) c) (sym same) (left_across s n t u k j there across))

  -- the new diagonal of a convex quadrilateral crosses the old one
  crosses_back : (a b c d : Corner) → pos 0 <ℤ corner_side a b c → pos 0 <ℤ corner_side b a d → IsConvexOver a b c d → Crosses (place_of b) (place_of a) (place_of c) (place_of d)
  crosses_back a b c d left right x = record {
    v_left = right;
    u_right = negative-neg (corner_side a b c) (corner_side b a c) (side-back (place_of a) (place_of b) (place_of c)) left;
    a_left = positive-along (corner_side c d b) (corner_side d b c) (side-turned (place_of c) (place_of d) (place_of b)) x.at_b;
    b_right = negative-neg (corner_side d c a) (corner_side c d a) (side-back (place_of d) (place_of c) (place_of a)) (positive-along (corner_side d c a) (corner_side a d c) (sym (side-turned (place_of a) (place_of d) (place_of c))) x.at_a);
  }

  crosses_on : (a b c d : Corner) → pos 0 <ℤ corner_side a b c → pos 0 <ℤ corner_side b a d → IsConvexOver a b c d → Crosses (place_of a) (place_of b) (place_of d) (place_of c)
  crosses_on a b c d left right x = record {
    v_left = left;
    u_right = negative-neg (corner_side b a d) (corner_side a b d) (side-back (place_of b) (place_of a) (place_of d)) right;
    a_left = positive-along (corner_side d c a) (corner_side a d c) (sym (side-turned (place_of a) (place_of d) (place_of c))) x.at_a;
    b_right = negative-neg (corner_side c d b) (corner_side d c b) (side-back (place_of c) (place_of d) (place_of b)) (positive-along (corner_side c d b) (corner_side d b c) (side-turned (place_of c) (place_of d) (place_of b)) x.at_b);
  }

  -- no edge joins the apexes of a convex quadrilateral
  pub convex_unjoined : (s : ℕ) (k : Side) → IsConvexAt slots s k → AreUnjoined slots s k
  convex_unjoined s k convex = λ t n u j there across i l e h tail head.
      let a = corner_at t k in
      let b = corner_at t (after k) in
      let c = apex t k in
      let d = apex u j in
      let x = convex t n u j there across in
      let left = left_at s t k there in
      let right = left_across s n t u k j there across in
      let back = subst (λ z. z) (λ p. Owner (net_in slots).triangles (across.starts p) (across.ends p)) (owner_at n u j across.there) in
      elim (cases_eq i outside) as (λ _. ⊥) [
        | inl out ↦
            let v = m.mesh.net.met i l e h in
            let o = owner (slots_of slots v.slot) v.side v.edge v.there in
            let dc = real_back i l e v.slot v.side o.tri out h o.there (ap (λ y. y.tail) o.edge_is ∙ v.back_tail) (ap (λ y. y.head) o.edge_is ∙ v.back_head) in
            uncrossed (net_in slots) (sheet_in slots m) a b d c (owner_at s t k there)
            (subst (λ z. z) (λ p. Owner (net_in slots).triangles ((ap (λ y. y.tail) o.edge_is ∙ v.back_tail ∙ head) p) ((ap (λ y. y.head) o.edge_is ∙ v.back_head ∙ tail) p)) (owner_at v.slot o.tri v.side dc))
            (crosses_on a b c d left right x)
        | inr live ↦
            let o = owner (slots_of slots i) l e h in
            uncrossed (net_in slots) (sheet_in slots m) b a c d back
            (subst (λ z. z) (λ p. Owner (net_in slots).triangles ((ap (λ y. y.tail) o.edge_is ∙ tail) p) ((ap (λ y. y.head) o.edge_is ∙ head) p)) (owner_at i o.tri l (sym (slot_in slots i live) ∙ o.there)))
            (crosses_back a b c d left right x)
      ]
