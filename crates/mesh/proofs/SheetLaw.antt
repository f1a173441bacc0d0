-- A mesh of counterclockwise triangles is a sheet.
use Rattle.std.proofs.Common.{◌≡◌, ◌⊎◌, ◌<◌, ◌+◌, ℕ, suc, zero, true, Option, Some, None, List, [], ◌∷◌, ◌++◌, length, flat_map, refl, sym, ap, ◌∙◌, inl, inr, subst, arith}
use Rattle.std.specs.Prelude.{pos, ◌&&◌, int_lt, count_by, cond, nat_lt}
use Rattle.std.specs.List.{list_any, list_all}
use Rattle.std.proofs.lemmas.Int.{ints}
use Rattle.std.proofs.lemmas.Bool.{cases_eq, and_from}
use Rattle.std.proofs.lemmas.List.Sums.{sum_by-append}
use Rattle.std.proofs.lemmas.Option.{none-some}
use Rattle.ground_model.specs.declared.corner.Corner.{Corner}
use Rattle.ground_model.specs.declared.corner.Corner.TheVariants.{At, Far}
use Rattle.ground_model.specs.Corner.{corner_side}
use Rattle.ground_model.specs.Line.{is_point}
use Rattle.ground_model.specs.Place.{Coords, IsPlace, is_same}
use Rattle.ground_model.proofs.Elements.{any_from, all_from, each_from}
use Rattle.ground_model.proofs.LinePieces.{is_same_itself}
use Rattle.predicates.specs.Far.{IsKnown}
use Rattle.predicates.specs.Net.{Net, Edge, edges_of, is_same_edge, times_in, reversed, has_corner, is_turned}
use Rattle.predicates.specs.Net.{rim as outer_edges}
use Rattle.predicates.specs.Sheet.{is_over, are_over, rimmed, IsClosed}
use Rattle.predicates.specs.Tiling.{IsSpanned}
use Rattle.predicates.proofs.ClosedLaw.{closed_law}
use Rattle.predicates.proofs.Holding.{turn-has_corner}
use Rattle.predicates.proofs.Owners.{Still}
use Rattle.tri_pages.specs.declared.tri_slot.TriSlot.{TriSlot}
use Rattle.tri_pages.specs.Slots.{State, triangle_at, holding}
use Rattle.mesh.specs.Meshes.{IsMesh}
use Rattle.mesh.specs.Net.{Side, first, second, third, after, corner_at, count_at, edge, edge_of, slots_of, outside, rim, IsMet, OpenIn}
use Rattle.mesh.specs.Net.{Edge as MeshEdge, edges_of as mesh_edges}
use Rattle.mesh.specs.Sheets.{triangle_of, IsSheetMesh, HasSide, IsNetOf, SheetLaw}
use Rattle.mesh.proofs.EdgeTimes.{pair_at, IsHeld, IsHeldOnce, edges_in_states, times, times_none, times_one, is_held, times_last, any_state, all_states, stays_at, last_at, either_at}
use Rattle.mesh.proofs.NamedEdges.{same_in}
use Rattle.mesh.proofs.Slots.{slot_in, live_real, is_some}
use Rattle.mesh.proofs.TurnedSlots.{by_side}

pub far_at : (k : ℕ) (p : Coords) → Far k ≡ At p → ⊥
far_at k p e = cc

module _ (slots : List State) (mesh : IsMesh slots) where
  pub real : (s : ℕ) (t : TriSlot) → triangle_at slots s ≡ Some t → s ≡ outside → ⊥
  real s t e = live_real slots s mesh.few (is_some (triangle_at slots s) t e)

  pub standing : (s : ℕ) (t : TriSlot) → triangle_at slots s ≡ Some t → slots_of slots s ≡ Some t
  standing s t e = slot_in slots s (real s t e) ∙ e

  -- the slots, and the rim after them
  abbrev states : List State
  states = slots ++ holding rim ∷ []

  -- where a triangle of the states stands
  record Place (i : ℕ) (t : TriSlot) : Type 0 where
    slot : ℕ
    is : slots_of slots slot ≡ Some t
    which : ((slot ≡ i) × (slot ≡ outside → ⊥)) ⊎ ((i ≡ length slots) × (slot ≡ outside))

  place_at : (i : ℕ) (t : TriSlot) → triangle_at states i ≡ Some t → Place i t
  place_at i t e = elim (either_at slots rim i t e) as (λ _. Place i t) [
    | inl h ↦ record { slot = i; is = standing i t h; which = inl (refl, real i t h) }
    | inr h ↦ record { slot = outside; is = ap Some h.1; which = inr (h.0, refl) }
  ]

  held_in : (o : Option TriSlot) (s : ℕ) (k : Side) (e : MeshEdge) → slots_of slots s ≡ o → edge_of o k ≡ Some e → IsHeld states (e.tail, e.head)
  held_in None s k e is h = absurd (none-some e h)
  held_in (Some t) s k e is h =
      let same : edge t k ≡ e = same_in (edge t k) e h in
      elim (cases_eq s outside) as (λ _. IsHeld states (e.tail, e.head)) [
        | inl out ↦
            let is_rim : rim ≡ t = same_in rim t (sym (ap (slots_of slots) out) ∙ is) in
            record { index = length slots; tri = t; side = k; there = last_at slots rim ∙ ap Some is_rim; is = λ i. ((same i).tail, (same i).head) }
        | inr live ↦ record { index = s; tri = t; side = k; there = stays_at slots (holding rim) s t (sym (slot_in slots s live) ∙ is); is = λ i. ((same i).tail, (same i).head) }
      ]

  once_by : (i j n m : ℕ) → n ≡ m → ((n ≡ i) × (n ≡ outside → ⊥)) ⊎ ((i ≡ length slots) × (n ≡ outside)) → ((m ≡ j) × (m ≡ outside → ⊥)) ⊎ ((j ≡ length slots) × (m ≡ outside)) → i ≡ j
  once_by i j n m e (inl a) (inl b) = sym a.0 ∙ e ∙ b.0
  once_by i j n m e (inl a) (inr b) = absurd (a.1 (e ∙ b.1))
  once_by i j n m e (inr a) (inl b) = absurd (b.1 (sym e ∙ a.1))
  once_by i j n m e (inr a) (inr b) = a.0 ∙ sym b.0

  once_states : (x : Edge) → IsHeldOnce states x
  once_states x = λ f g.
      let a = place_at f.index f.tri f.there in
      let b = place_at g.index g.tri g.there in
      let same = mesh.net.one a.slot b.slot f.side g.side (edge f.tri f.side) (edge g.tri g.side) (ap (λ o. edge_of o f.side) a.is) (ap (λ o. edge_of o g.side) b.is)
      (ap (λ (y : Edge). y.0) (f.is ∙ sym g.is)) (ap (λ (y : Edge). y.1) (f.is ∙ sym g.is)) in
      (once_by f.index g.index a.slot b.slot same.0 a.which b.which, same.1)

  back : (x : Edge) → IsHeld states x → IsHeld states (reversed x)
  back x f =
      let a = place_at f.index f.tri f.there in
      let m = mesh.net.met a.slot f.side (edge f.tri f.side) (ap (λ o. edge_of o f.side) a.is) in
      subst (λ (y : Edge). IsHeld states y) (λ i. ((m.back_tail ∙ ap (λ (y : Edge). y.1) f.is) i, (m.back_head ∙ ap (λ (y : Edge). y.0) f.is) i))
      (held_in (slots_of slots m.slot) m.slot m.side m.edge refl m.there)

  even_by : (x : Edge) → IsHeld states x ⊎ (IsHeld states x → ⊥) → IsHeld states (reversed x) ⊎ (IsHeld states (reversed x) → ⊥) → times states x ≡ times states (reversed x)
  even_by x (inl f) (inl g) = times_one states x f.index f.tri f.side f.there f.is (once_states x) ∙ sym (times_one states (reversed x) g.index g.tri g.side g.there g.is (once_states (reversed x)))
  even_by x (inl f) (inr none) = absurd (none (back x f))
  even_by x (inr none) (inl g) = absurd (none (back (reversed x) g))
  even_by x (inr none) (inr nor) = times_none states x none ∙ sym (times_none states (reversed x) nor)

  even_times : (x : Edge) → times states x ≡ times states (reversed x)
  even_times x = even_by x (is_held states x) (is_held states (reversed x))

  -- an edge of a triangle occurs
  pub held_times : (x : Edge) (s : ℕ) (t : TriSlot) (k : Side) → triangle_at slots s ≡ Some t → pair_at t k ≡ x → 0 < times slots x
  held_times x s t k there is =
      let once = times_one slots x s t k there is (λ f g. once_states x
      (record { index = f.index; tri = f.tri; side = f.side; there = stays_at slots (holding rim) f.index f.tri f.there; is = f.is })
      (record { index = g.index; tri = g.tri; side = g.side; there = stays_at slots (holding rim) g.index g.tri g.there; is = g.is })) in
      omega (arith, once)

  -- and the other way, with the same count, if it is one between places
  pub back_side : (p q : Coords) (x : HasSide slots (At p) (At q)) → (y : HasSide slots (At q) (At p)) × (count_at y.tri y.side ≡ count_at x.tri x.side)
  back_side p q x =
      let m = mesh.net.met x.slot x.side (edge x.tri x.side) (ap (λ o. edge_of o x.side) (standing x.slot x.tri x.there)) in
      by m (slots_of slots m.slot) refl m.there
    where
      by : (m : IsMet (OpenIn []) (mesh_edges (slots_of slots)) x.slot (edge x.tri x.side)) (o : Option TriSlot) → slots_of slots m.slot ≡ o → edge_of o m.side ≡ Some m.edge → (y : HasSide slots (At q) (At p)) × (count_at y.tri y.side ≡ count_at x.tri x.side)
      by m None is h = absurd (none-some m.edge h)
      by m (Some t) is h =
          let same : edge t m.side ≡ m.edge = same_in (edge t m.side) m.edge h in
          let tail : corner_at t m.side ≡ At q = ap (λ e. e.tail) same ∙ m.back_tail ∙ x.head in
          let head : corner_at t (after m.side) ≡ At p = ap (λ e. e.head) same ∙ m.back_head ∙ x.tail in
          elim (cases_eq m.slot outside) as (λ _. (y : HasSide slots (At q) (At p)) × (count_at y.tri y.side ≡ count_at x.tri x.side)) [
            | inl out ↦
                let is_rim : rim ≡ t = same_in rim t (sym (ap (slots_of slots) out) ∙ is) in
                absurd (by_side (λ k. corner_at rim k ≡ At q → ⊥) (far_at 0 q) (far_at 2 q) (far_at 1 q) m.side (ap (λ y. corner_at y m.side) is_rim ∙ tail))
            | inr live ↦ (record { slot = m.slot; tri = t; side = m.side; there = sym (slot_in slots m.slot live) ∙ is; tail = tail; head = head }, ap (λ e. e.count) same ∙ m.same_count)
          ]

rim_times : (x : Edge) → times_in outer_edges x ≡ count_by (is_same_edge x) (edges_of (triangle_of rim))
rim_times x = swap (cond (is_same_edge x (Far 1, Far 0)) 1 0) (cond (is_same_edge x (Far 2, Far 1)) 1 0) (cond (is_same_edge x (Far 0, Far 2)) 1 0)
  where
    swap : (a b c : ℕ) → 0 + a + b + c ≡ 0 + c + b + a
    swap a b c = omega arith

over_by : (points : List Coords) (c : Corner) → IsKnown c → ((p : Coords) → c ≡ At p → is_point points p ≡ true) → is_over points c ≡ true
over_by points (At p) known at = at p refl
over_by points (Far k) known at = let t : true ≡ nat_lt k 3 = grind (arith, known) in sym t

place_by : (c : Corner) (p : Coords) → IsKnown c → c ≡ At p → IsPlace p
place_by c p known e = subst (λ (d : Corner). IsKnown d) e known

-- which corner it is
one_of_three : (t : TriSlot) (k : Side) (z : Corner) → corner_at t k ≡ z → (z ≡ corner_at t first) ⊎ ((z ≡ corner_at t second) ⊎ (z ≡ corner_at t third))
one_of_three t first z e = inl (sym e)
one_of_three t second z e = inr (inl (sym e))
one_of_three t third z e = inr (inr (sym e))

module _ (slots : List State) (net : Net) (m : IsSheetMesh slots) (is : IsNetOf slots net) where
  times_is : (x : Edge) → times_in (rimmed net) x ≡ times (slots ++ holding rim ∷ []) x
  times_is x =
      ap (λ ts. times_in (flat_map edges_of ts ++ outer_edges) x) is.triangles
      ∙ sum_by-append (λ y. cond (is_same_edge x y) 1 0) (edges_in_states slots) outer_edges
      ∙ ap (λ n. times slots x + n) (rim_times x)
      ∙ sym (times_last slots rim x)

  closed : IsClosed net
  closed = record {
    places = each_from IsPlace net.points (λ p h.
        let c = is.points p (any_from (is_same p) net.points p h (is_same_itself p)) in
        place_by (corner_at c.tri c.side) p ((m.turned c.slot c.tri c.there).known c.side) c.is);
    over = ap (list_all (are_over net.points)) is.triangles ∙ all_states (are_over net.points) slots (λ s t there.
        let known = (m.turned s t there).known in
        let over : (k : Side) → is_over net.points (corner_at t k) ≡ true = λ k. over_by net.points (corner_at t k) (known k) (λ p e. is.corners p (record { slot = s; tri = t; side = k; there = there; is = e })) in
        and_from (is_over net.points (corner_at t first) && is_over net.points (corner_at t second)) (is_over net.points (corner_at t third))
        (and_from (is_over net.points (corner_at t first)) (is_over net.points (corner_at t second)) (over first) (over second)) (over third));
    turned = ap (list_all is_turned) is.triangles ∙ all_states is_turned slots (λ s t there.
        let left = (m.turned s t there).left in
        let test : true ≡ int_lt (pos 0) (corner_side (corner_at t first) (corner_at t second) (corner_at t third)) = omega (arith, ints, left) in
        sym test);
    matched = λ x. times_is x ∙ even_times slots m.mesh x ∙ sym (times_is (reversed x));
  }

  even_counts : (p q : Coords) → 0 < net.count p q → net.count q p ≡ net.count p q
  even_counts p q h =
      let x = is.pieces p q h in
      let y = back_side slots m.mesh p q x in
      sym (is.counts q p y.0) ∙ y.1 ∙ is.counts p q x

  both : (a b : ℕ) → (0 < a → b ≡ a) → (0 < b → a ≡ b) → a ≡ b
  both zero zero f g = refl
  both (suc a) b f g = sym (f (omega arith))
  both zero (suc b) f g = g (omega arith)

  spanned : IsSpanned net
  spanned = record {
    reached = all_from (λ p. list_any (λ t. has_corner t (At p)) net.triangles) net.points (λ p h.
        let c = is.points p (any_from (is_same p) net.points p h (is_same_itself p)) in
        ap (list_any (λ t. has_corner t (At p))) is.triangles
        ∙ any_state (λ t. has_corner t (At p)) slots c.slot c.tri c.there
        (turn-has_corner (triangle_of c.tri) (corner_at c.tri first) (corner_at c.tri second) (corner_at c.tri third) (At p) Still (one_of_three c.tri c.side (At p) c.is)));
    pieces = λ p q h.
        let x = is.pieces p q h in
        subst (λ ts. 0 < times_in (flat_map edges_of ts) (At p, At q)) (sym is.triangles) (held_times slots m.mesh (At p, At q) x.slot x.tri x.side x.there (λ i. (x.tail i, x.head i)));
    even = λ p q. both (net.count p q) (net.count q p) (even_counts p q) (even_counts q p);
  }

pub sheet_law : SheetLaw
sheet_law slots net m is = closed_law net (closed slots net m is) (spanned slots net m is)
