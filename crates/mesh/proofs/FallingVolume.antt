-- The flip of an illegal edge of a mesh: its quadrilateral is strictly convex, and the volume below the lifted triangles falls.
use Rattle.std.proofs.Common.{◌≡◌, ◌<◌, ℕ, true, Option, Some, None, List, set, get_or, refl, sym, ap, ◌∙◌, inl, inr, subst}
use Rattle.std.specs.Prelude.{◌&&◌, slice_set, unsigned_abs}
use Rattle.std.specs.List.{slice_get}
use Rattle.std.specs.Option.{option_map}
use Rattle.std.proofs.lemmas.Bool.{cases_eq, or_left, or_right, and_from}
use Rattle.ground_model.specs.declared.corner.Corner.{Corner}
use Rattle.ground_model.specs.declared.corner.Corner.TheVariants.{At, Far}
use Rattle.ground_model.specs.Corner.{is_same_corner, is_corner_inside}
use Rattle.ground_model.specs.Place.{Coords}
use Rattle.predicates.specs.Net.{Net, Triangle, has, is_triangle, count_of}
use Rattle.predicates.specs.Sheet.{IsSheet}
use Rattle.predicates.specs.Sums.{total}
use Rattle.predicates.proofs.Edges.{corner-self}
use Rattle.predicates.proofs.HasTriangles.{owner-has}
use Rattle.predicates.proofs.Owners.{IsTurn, Still, Once, Twice}
use Rattle.predicates.proofs.Tiling.{left-of}
use Rattle.cdt_law.specs.Flips.{IsIllegal, IsFlip, volume_below, lifted_sum}
use Rattle.cdt_law.proofs.Exchanged.{get-set, get-set_other}
use Rattle.cdt_law.proofs.IllegalEdge.{fall_law}
use Rattle.tri_pages.specs.declared.tri_slot.TriSlot.{TriSlot}
use Rattle.tri_pages.specs.Slots.{State, triangle_at, holding, joined}
use Rattle.page_vec.proofs.Lists.{slice_get-set_same, slice_get-set_other}
use Rattle.mesh.specs.Acrosses.{apex, IsAcross}
use Rattle.mesh.specs.Faces.{Face, face, face_at}
use Rattle.mesh.specs.FlipRuns.{volume_of}
use Rattle.mesh.specs.Flips.{IsFlipped, flip_face_one, flip_face_two}
use Rattle.mesh.specs.Insides.{IsConvexOver, IsConvexAt}
use Rattle.mesh.specs.Meshes.{IsMesh}
use Rattle.mesh.specs.Net.{Side, after, corner_at, count_at, slots_of, outside}
use Rattle.mesh.specs.Sheets.{IsSheetMesh, triangle_of, triangles_of, net_in}
use Rattle.mesh.specs.Suspects.{AreOver}
use Rattle.mesh.proofs.Acrosses.{two_slots, across_apart}
use Rattle.mesh.proofs.Filled.{faced}
use Rattle.mesh.proofs.InSheets.{turn_at, in_net}
use Rattle.mesh.proofs.Legality.{over_across, across_over}
use Rattle.mesh.proofs.LineSides.{across_one}
use Rattle.mesh.proofs.NamedEdges.{same_in}
use Rattle.mesh.proofs.NetOfMesh.{sheet_in, net_law}
use Rattle.mesh.proofs.SheetLaw.{real, standing}
use Rattle.mesh.proofs.SlotTriangles.{tri_in, rank_in, ranked, exchanged_list, rank_kept}
use Rattle.mesh.proofs.Slots.{slot_in, live_within, live_real, is_some}
use Rattle.mesh.proofs.TurnedSlots.{by_side}

three_same : (t : Triangle) → (is_same_corner t.a t.a && is_same_corner t.b t.b && is_same_corner t.c t.c) ≡ true
three_same t = and_from (is_same_corner t.a t.a && is_same_corner t.b t.b) (is_same_corner t.c t.c) (and_from (is_same_corner t.a t.a) (is_same_corner t.b t.b) (corner-self t.a) (corner-self t.b)) (corner-self t.c)

pub turn_is : (t : Triangle) (a b c : Corner) → IsTurn t a b c → is_triangle a b c t ≡ true
turn_is t a b c Still = or_left _ _ (or_left _ _ (three_same t))
turn_is t a b c Once = or_right _ _ (three_same t)
turn_is t a b c Twice = or_left _ _ (or_right _ _ (three_same t))

pub free_of : (net : Net) (a b : Corner) → ((p q : Coords) → a ≡ At p → b ≡ At q → net.count p q ≡ 0) → count_of net a b ≡ 0
free_of net (At p) (At q) h = h p q refl refl
free_of net (At p) (Far k) h = refl
free_of net (Far j) b h = refl

module _ (slots : List State) (m : IsSheetMesh slots) where
  -- the net has the triangle of a slot, from each of its edges
  pub has_at : (s : ℕ) (t : TriSlot) (k : Side) → triangle_at slots s ≡ Some t → has (net_in slots) (corner_at t k) (corner_at t (after k)) (apex t k) ≡ true
  has_at s t k there =
      let x = in_net slots m s t k there in
      owner-has (net_in slots) (corner_at t k) (corner_at t (after k)) (record { index = x.index; triangle = x.triangle; third = apex t k; at = x.at; turn = x.turn })

  -- an edge without a count has none in the net
  pub free_at : (s : ℕ) (t : TriSlot) (k : Side) → triangle_at slots s ≡ Some t → count_at t k ≡ 0 → count_of (net_in slots) (corner_at t k) (corner_at t (after k)) ≡ 0
  free_at s t k there free = free_of (net_in slots) (corner_at t k) (corner_at t (after k)) (λ p q e f.
      sym ((net_law slots m).counts p q (record { slot = s; tri = t; side = k; there = there; tail = e; head = f })) ∙ free)

  module _ (s : ℕ) (k : Side) (n : ℕ) (x : AreOver slots s k n) (inside : is_corner_inside (corner_at x.tri k) (corner_at x.tri (after k)) (apex x.tri k) (apex x.beyond x.back) ≡ true) where
    abbrev a : Corner
    a = corner_at x.tri k

    abbrev b : Corner
    b = corner_at x.tri (after k)

    abbrev c : Corner
    c = apex x.tri k

    abbrev d : Corner
    d = apex x.beyond x.back

    pub illegal : IsIllegal (net_in slots) a b c d
    illegal = record {
      left = has_at s x.tri k x.here;
      right = (λ i. has (net_in slots) (sym x.starts i) (sym x.ends i) d) ∙ has_at n x.beyond x.back x.there;
      free = free_at s x.tri k x.here x.free;
      inside = inside;
    }

    abbrev one : Triangle
    one = record { a = a; b = d; c = c }

    abbrev two : Triangle
    two = record { a = d; b = b; c = c }

    -- where the two are in the list
    abbrev left_index : ℕ
    left_index = rank_in slots s

    abbrev right_index : ℕ
    right_index = rank_in slots n

    abbrev flipped_net : Net
    flipped_net = record { points = (net_in slots).points; count = (net_in slots).count; triangles = slice_set (slice_set (triangles_of slots) left_index one) right_index two }

    same_triangle : left_index ≡ right_index → triangle_of x.tri ≡ triangle_of x.beyond
    same_triangle e = same_in (triangle_of x.tri) (triangle_of x.beyond) (sym (ranked slots s x.tri x.here) ∙ ap (slice_get (triangles_of slots)) e ∙ ranked slots n x.beyond x.there)

    same_corner : triangle_of x.tri ≡ triangle_of x.beyond → (j : Side) → corner_at x.tri j ≡ corner_at x.beyond j
    same_corner e = by_side (λ j. corner_at x.tri j ≡ corner_at x.beyond j) (ap (λ (t : Triangle). t.a) e) (ap (λ (t : Triangle). t.b) e) (ap (λ (t : Triangle). t.c) e)

    apart : left_index ≡ right_index → ⊥
    apart e =
        let same = same_corner (same_triangle e) in
        two_slots x.tri x.tri k x.back (m.mesh.distinct s x.tri (standing slots m.mesh s x.tri x.here)) refl (same x.back ∙ x.starts) (same (after x.back) ∙ x.ends)

    pub net_flip : IsFlip (net_in slots) flipped_net a b c d
    net_flip = record {
      over = record { points = refl; count = λ p q. refl };
      left = record { index = left_index; triangle = triangle_of x.tri; at = ranked slots s x.tri x.here; is = turn_is (triangle_of x.tri) a b c (turn_at x.tri k) };
      right = record {
        index = right_index;
        triangle = triangle_of x.beyond;
        at = ranked slots n x.beyond x.there;
        is = (λ i. is_triangle (sym x.starts i) (sym x.ends i) d (triangle_of x.beyond)) ∙ turn_is (triangle_of x.beyond) (corner_at x.beyond x.back) (corner_at x.beyond (after x.back)) d (turn_at x.beyond x.back);
      };
      apart = apart;
      first = one;
      second = two;
      first_is = turn_is one a d c Still;
      second_is = turn_is two d b c Still;
      triangles = refl;
    }

    fallen : IsSheet flipped_net × (lifted_sum flipped_net < lifted_sum (net_in slots))
    fallen = fall_law (net_in slots) flipped_net (sheet_in slots m) a b c d illegal net_flip

    -- the quadrilateral is strictly convex
    pub convex_over : IsConvexOver a b c d
    convex_over = record {
      at_a = left-of flipped_net fallen.0 left_index one
          (get-set_other (slice_set (triangles_of slots) left_index one) right_index left_index two apart ∙ get-set (triangles_of slots) left_index (triangle_of x.tri) one (ranked slots s x.tri x.here));
      at_b = left-of flipped_net fallen.0 right_index two
          (get-set (slice_set (triangles_of slots) left_index one) right_index (triangle_of x.beyond) two
          (get-set_other (triangles_of slots) left_index right_index one (λ e. apart (sym e)) ∙ ranked slots n x.beyond x.there));
    }

    pub convex_at : IsConvexAt slots s k
    convex_at = λ t i u j there across.
        let tri : x.tri ≡ t = same_in x.tri t (sym x.here ∙ there) in
        let y = subst (λ w. IsAcross slots w k n x.beyond x.back) tri (over_across slots m.mesh s k n x) in
        let same = across_one slots m.mesh t k n x.beyond x.back i u j y across in
        subst (λ z. z) (λ r. IsConvexOver (corner_at (tri r) k) (corner_at (tri r) (after k)) (apex (tri r) k) (apex (same.0 r) (same.1 r))) convex_over

-- ---- the list after the flip
no_triangle : (slots : List State) (i : ℕ) → IsMesh slots → i ≡ outside → triangle_at slots i ≡ None
no_triangle slots i mesh out = by (triangle_at slots i) refl
  where
    by : (o : Option TriSlot) → triangle_at slots i ≡ o → triangle_at slots i ≡ None
    by None e = e
    by (Some t) e = absurd (live_real slots i mesh.few (is_some (triangle_at slots i) t e) out)

abbrev tri_face : Face → Triangle
tri_face f = record { a = get_or f.corners 0 (Far 0); b = get_or f.corners 1 (Far 0); c = get_or f.corners 2 (Far 0) }

by_face : (o : Option TriSlot) → option_map triangle_of o ≡ option_map tri_face (option_map face o)
by_face None = refl
by_face (Some t) = refl

faces_tri : (o o' : Option TriSlot) → option_map face o ≡ option_map face o' → option_map triangle_of o ≡ option_map triangle_of o'
faces_tri o o' e = by_face o ∙ ap (option_map tri_face) e ∙ sym (by_face o')

-- a slot with the same face has the same triangle
same_tri : (old new : List State) (i : ℕ) → IsMesh old → IsMesh new → face_at (slots_of new) i ≡ face_at (slots_of old) i → tri_in new i ≡ tri_in old i
same_tri old new i mesh_old mesh_new same = elim (cases_eq i outside) as (λ _. tri_in new i ≡ tri_in old i) [
  | inl e ↦ ap (option_map triangle_of) (no_triangle new i mesh_new e ∙ sym (no_triangle old i mesh_old e))
  | inr ne ↦ faces_tri (triangle_at new i) (triangle_at old i) (ap (option_map face) (sym (slot_in new i ne)) ∙ same ∙ ap (option_map face) (slot_in old i ne))
]

-- the slot holds the triangle of the face that was made
made_in : (new : List State) (i : ℕ) (f : Face) → (i ≡ outside → ⊥) → face_at (slots_of new) i ≡ Some f → (t : TriSlot) × (triangle_at new i ≡ Some t) × (triangle_of t ≡ tri_face f)
made_in new i f ne e =
    let w = faced (slots_of new i) f e in
    (w.tri, sym (slot_in new i ne) ∙ w.is, ap tri_face w.same)

set_at : (old : List State) (s : ℕ) (t w : TriSlot) → triangle_at old s ≡ Some t → triangle_at (set old s (holding w)) s ≡ Some w
set_at old s t w here = ap (λ o. joined (joined o)) (slice_get-set_same old s (holding w) (live_within old s (is_some (triangle_at old s) t here)))

set_beside : (old : List State) (s : ℕ) (w : TriSlot) (i : ℕ) → (i ≡ s → ⊥) → triangle_at (set old s (holding w)) i ≡ triangle_at old i
set_beside old s w i ne = ap (λ o. joined (joined o)) (slice_get-set_other old s (holding w) i ne)

pub volume_falls : (old new : List State) (s : ℕ) (k : Side) (n : ℕ) → IsSheetMesh old → IsMesh new → (is : IsFlipped old new s k n) → count_at is.tri k ≡ 0
    → is_corner_inside (corner_at is.tri k) (corner_at is.tri (after k)) (apex is.tri k) (apex is.beyond is.back) ≡ true → volume_of new < volume_of old
unfolding volume_of
volume_falls old new s k n m mesh is free inside =
    let x = across_over old m.mesh s is.tri k n is.beyond is.back is.here is.across free in
    let s_real = real old m.mesh s is.tri is.here in
    let n_real = real old m.mesh n is.beyond is.across.there in
    let two_slots_are : s ≡ n → ⊥ = across_apart old s n k is.back is.tri is.beyond m.mesh is.here s_real is.across in
    let w = made_in new s (flip_face_one is.tri k is.beyond is.back) s_real is.in_s in
    let v = made_in new n (flip_face_two is.tri k is.beyond is.back) n_real is.in_n in
    let mid = set old s (holding w.0) in
    let mid_s = set_at old s is.tri w.0 is.here in
    let to_mid = λ (i : ℕ) (ne : i ≡ s → ⊥). ap (option_map triangle_of) (set_beside old s w.0 i ne) in
    let mid_n = set_beside old s w.0 n (λ e. two_slots_are (sym e)) ∙ is.across.there in
    let to_new = λ (i : ℕ) (ne : i ≡ n → ⊥). elim (cases_eq i s) as (λ _. tri_in new i ≡ tri_in mid i) [
      | inl e ↦ ap (λ j. tri_in new j) e ∙ ap (option_map triangle_of) (w.1 ∙ sym mid_s) ∙ sym (ap (λ j. tri_in mid j) e)
      | inr other ↦ same_tri old new i m.mesh mesh (is.rest i other ne) ∙ sym (to_mid i other)
    ] in
    let first_step = exchanged_list old mid s is.tri w.0 is.here mid_s to_mid in
    let second_step = exchanged_list mid new n is.beyond v.0 mid_n v.1 to_new in
    let list : triangles_of new ≡ (flipped_net old m s k n x inside).triangles =
    second_step ∙ (λ i. slice_set (first_step i) (rank_kept old mid s n is.tri w.0 is.here mid_s (λ j. cases_eq j s) to_mid i) (v.2 i))
    ∙ (λ i. slice_set (slice_set (triangles_of old) (rank_in old s) (w.2 i)) (rank_in old n) (two old m s k n x inside)) in
    subst (λ ts. unsigned_abs (total volume_below ts) < lifted_sum (net_in old)) (sym list) (fallen old m s k n x inside).1
