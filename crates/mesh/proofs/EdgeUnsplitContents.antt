-- What it makes of the points and the counts to take a corner out of four triangles.
use Rattle.std.proofs.Common.{◌≡◌, ◌⊎◌, ◌<◌, ℕ, Some, List, refl, sym, ap, ◌∙◌, inl, inr, subst, arith}
use Rattle.std.specs.Prelude.{ℤ, pos, neg_ℤ, ◌<ℤ◌}
use Rattle.std.proofs.lemmas.Int.{ints}
use Rattle.std.proofs.lemmas.Bool.{cases_eq}
use Rattle.std.proofs.lemmas.Option.{none-some}
use Rattle.ground_model.specs.declared.corner.Corner.{Corner}
use Rattle.ground_model.specs.declared.corner.Corner.TheVariants.{At}
use Rattle.ground_model.specs.Corner.{corner_at as place_of, corner_side}
use Rattle.ground_model.specs.Line.{is_point}
use Rattle.ground_model.specs.Place.{Coords, IsPlace}
use Rattle.ground_model.proofs.Circle.{side-turned}
use Rattle.predicates.specs.Far.{IsKnown}
use Rattle.predicates.proofs.FlatSides.{side-back}
use Rattle.tri_pages.specs.declared.tri_slot.TriSlot.{TriSlot}
use Rattle.tri_pages.specs.Slots.{State, triangle_at, joined}
use Rattle.mesh.specs.Acrosses.{apex}
use Rattle.mesh.specs.EdgeUnsplits.{IsEdgeUnsplit, IsLine, upper_face}
use Rattle.mesh.specs.Faces.{Face, face}
use Rattle.mesh.specs.Insides.{IsOnEdge}
use Rattle.mesh.specs.Net.{Side, first, second, third, after, corner_at, count_at, edge, edge_of, slots_of, outside}
use Rattle.mesh.specs.NetChanges.{HasSplitEdge, IsPair}
use Rattle.mesh.specs.Sheets.{IsSheetMesh, HasCorner, net_in}
use Rattle.mesh.specs.StepLaws.{EdgeUnsplitLaw}
use Rattle.mesh.specs.Straights.{IsStraightAt, IsStraight}
use Rattle.mesh.proofs.Contents.{HasEdge, IsFaceOf, AreFacesOf, NoCorner, tail_of, count_in_face, made_face, made_of, kept_of, edge_named, corner_named, face_edge, face_corner, count_of_edge, no_edge_count, same_counts, same_points, false_by}
use Rattle.mesh.proofs.Corners.{thrice}
use Rattle.mesh.proofs.EdgeContents.{IsAt, IsHalf}
use Rattle.mesh.proofs.FaceParts.{round, uncounted, renamed, renamed_corner, old_face, other_place}
use Rattle.mesh.proofs.Filled.{Faced, faced}
use Rattle.mesh.proofs.InSheets.{on_edge_no_corner, left_at}
use Rattle.mesh.proofs.Legality.{facing}
use Rattle.mesh.proofs.NetOfMesh.{net_law}
use Rattle.mesh.proofs.SheetLaw.{real, standing}
use Rattle.mesh.proofs.Slots.{slot_in}
use Rattle.mesh.proofs.Straights.{straight_unsplittable}
use Rattle.mesh.proofs.TurnedSlots.{by_side}

module _ (old new : List State) (s : ℕ) (k : Side) (f n g : ℕ) (p : Coords) (m : IsSheetMesh old) (m' : IsSheetMesh new) (x : IsStraightAt old s k) (is : IsEdgeUnsplit old new s k f n g) (p_is : corner_at is.tri (after k) ≡ At p) where
  abbrev t : TriSlot
  t = is.tri

  abbrev u : TriSlot
  u = is.ahead

  abbrev w : TriSlot
  w = is.below

  abbrev v : TriSlot
  v = is.under

  abbrev j : Side
  j = is.ahead_side

  abbrev i : Side
  i = is.below_side

  abbrev l : Side
  l = is.under_side

  abbrev a : Corner
  a = corner_at t k

  abbrev b : Corner
  b = corner_at w i

  line : IsLine old t k u j w i v l
  line = (straight_unsplittable old m s k x).four t f u j n w i g v l is.here is.four

  straight : IsStraight t k u j w i v l
  straight = x.four t f u j n w i g v l is.here is.four

  abbrev over : Face
  over = upper_face t k u j

  abbrev beneath : Face
  beneath = upper_face w i v l

  b_is : corner_at u (after j) ≡ b
  b_is = sym is.four.below.starts

  u_tail : corner_at u j ≡ At p
  u_tail = sym (thrice u j) ∙ is.four.ahead.ends ∙ p_is

  w_head : corner_at w (after i) ≡ At p
  w_head = is.four.below.ends ∙ u_tail

  v_tail : corner_at v l ≡ At p
  v_tail = is.four.under.starts ∙ p_is

  -- the edge between p and the lower apex has no count from its other side either
  v_last : count_at v (after (after l)) ≡ 0
  v_last = (facing old m.mesh n w (after i) g v (after (after l)) is.four.below.there is.four.under.there line.closed (thrice v l ∙ v_tail ∙ sym w_head)).same_count ∙ line.uncounted.1

  s_real : s ≡ outside → ⊥
  s_real = real old m.mesh s t is.here

  n_real : n ≡ outside → ⊥
  n_real = real old m.mesh n w is.four.below.there

  abbrev Half : Corner → Corner → Type 0
  Half q r = IsHalf a b p q r

  abbrev Whole : Corner → Corner → Type 0
  Whole q r = IsPair a b q r

  over_is : IsFaceOf old NoCorner Whole over
  over_is = record {
    edges = by_side _ (λ _. inr (inl (refl, b_is))) (λ _. inl (edge_named old f u (after j) (corner_at u (after j)) (apex t k) is.four.ahead.there refl is.four.ahead.starts))
        (λ _. inl (edge_named old s t (after (after k)) (apex t k) a is.here refl (thrice t k)));
    corners = by_side _ (inl (corner_named old s t k a is.here refl)) (inl (corner_named old f u (after j) (corner_at u (after j)) is.four.ahead.there refl)) (inl (corner_named old s t (after (after k)) (apex t k) is.here refl));
  }

  beneath_is : IsFaceOf old NoCorner Whole beneath
  beneath_is = record {
    edges = by_side _ (λ _. inr (inr (refl, is.four.under.ends))) (λ _. inl (edge_named old g v (after l) (corner_at v (after l)) (apex w i) is.four.under.there refl line.closed))
        (λ _. inl (edge_named old n w (after (after i)) (apex w i) b is.four.below.there refl (thrice w i)));
    corners = by_side _ (inl (corner_named old n w i b is.four.below.there refl)) (inl (corner_named old g v (after l) (corner_at v (after l)) is.four.under.there refl)) (inl (corner_named old n w (after (after i)) (apex w i) is.four.below.there refl));
  }

  abbrev OneOf : TriSlot → Type 0
  OneOf y = IsFaceOf new (IsAt p) Half (face y)

  abbrev EdgeOf : TriSlot → Side → Type 0
  EdgeOf y e = 0 < count_in_face (face y) e → HasEdge new (tail_of (face y) e) (tail_of (face y) (after e)) (count_in_face (face y) e) ⊎ Half (tail_of (face y) e) (tail_of (face y) (after e))

  abbrev CornerOf : TriSlot → Side → Type 0
  CornerOf y e = HasCorner new (tail_of (face y) e) ⊎ (tail_of (face y) e ≡ At p)

  at_a : HasCorner new a
  at_a = face_corner new s over first s_real is.in_s

  at_b : HasCorner new b
  at_b = face_corner new n beneath first n_real is.in_n

  at_c : HasCorner new (apex t k)
  at_c = face_corner new s over third s_real is.in_s

  at_d : HasCorner new (apex w i)
  at_d = face_corner new n beneath third n_real is.in_n

  t_of : OneOf t
  t_of = record {
    edges = round k (EdgeOf t) (λ _. inr (inl (inl (refl, p_is)))) (λ h. absurd (uncounted (count_at t (after k)) line.uncounted.0 h))
        (λ _. inl (renamed new (apex t k) a (apex t k) (corner_at t (after (after (after k)))) (count_at t (after (after k))) (face_edge new s over third s_real is.in_s) refl (sym (thrice t k))));
    corners = round k (CornerOf t) (inl at_a) (inr p_is) (inl at_c);
  }

  u_of : OneOf u
  u_of = record {
    edges = round j (EdgeOf u) (λ _. inr (inr (inl (u_tail, b_is))))
        (λ _. inl (renamed new (corner_at u (after j)) (apex t k) (corner_at u (after j)) (corner_at u (after (after j))) (count_at u (after j)) (face_edge new s over second s_real is.in_s) refl (sym is.four.ahead.starts)))
        (λ h. absurd (uncounted (count_at u (after (after j))) (is.four.ahead.same_count ∙ line.uncounted.0) h));
    corners = round j (CornerOf u) (inr u_tail) (inl (renamed_corner new b (corner_at u (after j)) at_b (sym b_is))) (inl (renamed_corner new (apex t k) (corner_at u (after (after j))) at_c (sym is.four.ahead.starts)));
  }

  w_of : OneOf w
  w_of = record {
    edges = round i (EdgeOf w) (λ _. inr (inr (inr (refl, w_head)))) (λ h. absurd (uncounted (count_at w (after i)) line.uncounted.1 h))
        (λ _. inl (renamed new (apex w i) b (apex w i) (corner_at w (after (after (after i)))) (count_at w (after (after i))) (face_edge new n beneath third n_real is.in_n) refl (sym (thrice w i))));
    corners = round i (CornerOf w) (inl at_b) (inr w_head) (inl at_d);
  }

  v_of : OneOf v
  v_of = record {
    edges = round l (EdgeOf v) (λ _. inr (inl (inr (v_tail, is.four.under.ends))))
        (λ _. inl (renamed new (corner_at v (after l)) (apex w i) (corner_at v (after l)) (apex v l) (count_at v (after l)) (face_edge new n beneath second n_real is.in_n) refl (sym line.closed)))
        (λ h. absurd (uncounted (count_at v (after (after l))) v_last h));
    corners = round l (CornerOf v) (inr v_tail) (inl (renamed_corner new a (corner_at v (after l)) at_a (sym is.four.under.ends))) (inl (renamed_corner new (apex w i) (apex v l) at_d (sym line.closed)));
  }

  unsplit_new : AreFacesOf new old NoCorner Whole
  unsplit_new = λ y z there. elim (cases_eq y s) as (λ _. IsFaceOf old NoCorner Whole (face z)) [
    | inl e ↦ made_of new old NoCorner Whole y s z over m'.mesh e is.in_s there over_is
    | inr not_s ↦ elim (cases_eq y f) as (λ _. IsFaceOf old NoCorner Whole (face z)) [
      | inl e ↦ absurd (none-some z (sym (ap joined is.f_free) ∙ ap (triangle_at new) (sym e) ∙ there))
      | inr not_f ↦ elim (cases_eq y n) as (λ _. IsFaceOf old NoCorner Whole (face z)) [
        | inl e ↦ made_of new old NoCorner Whole y n z beneath m'.mesh e is.in_n there beneath_is
        | inr not_n ↦ elim (cases_eq y g) as (λ _. IsFaceOf old NoCorner Whole (face z)) [
          | inl e ↦ absurd (none-some z (sym (ap joined is.g_free) ∙ ap (triangle_at new) (sym e) ∙ there))
          | inr not_g ↦ kept_of new old NoCorner Whole y z m'.mesh (is.rest y not_s not_f not_n not_g) there
        ]
      ]
    ]
  ]

  unsplit_old : AreFacesOf old new (IsAt p) Half
  unsplit_old = λ y z there. elim (cases_eq y s) as (λ _. OneOf z) [
    | inl e ↦ made_of old new (IsAt p) Half y s z (face t) m.mesh e (old_face old m s t is.here) there t_of
    | inr not_s ↦ elim (cases_eq y f) as (λ _. OneOf z) [
      | inl e ↦ made_of old new (IsAt p) Half y f z (face u) m.mesh e (old_face old m f u is.four.ahead.there) there u_of
      | inr not_f ↦ elim (cases_eq y n) as (λ _. OneOf z) [
        | inl e ↦ made_of old new (IsAt p) Half y n z (face w) m.mesh e (old_face old m n w is.four.below.there) there w_of
        | inr not_n ↦ elim (cases_eq y g) as (λ _. OneOf z) [
          | inl e ↦ made_of old new (IsAt p) Half y g z (face v) m.mesh e (old_face old m g v is.four.under.there) there v_of
          | inr not_g ↦ kept_of old new (IsAt p) Half y z m.mesh (sym (is.rest y not_s not_f not_n not_g)) there
        ]
      ]
    ]
  ]

  place : IsPlace p
  place = subst (λ (c : Corner). IsKnown c) p_is ((m.turned s t is.here).known (after k))

  flat_turned : (r q : ℤ) → q ≡ neg_ℤ r → r ≡ pos 0 → q ≡ pos 0
  flat_turned r q e z = omega (arith, ints, e, z)

  -- the corner lies on the edge that is left, strictly between its ends
  on_whole : (z : TriSlot) → triangle_at new s ≡ Some z → IsOnEdge z first p
  on_whole z there =
      let same : face z ≡ over = made_face new s z over m'.mesh is.in_s there in
      let at = λ (y : Side). ap (λ h. tail_of h y) same in
      let flat : corner_side a (At p) b ≡ pos 0 = (λ e. corner_side a (sym p_is e) b) ∙ straight.flat in
      let turned : corner_side a b (At p) ≡ neg_ℤ (corner_side a (At p) b) = sym (side-turned (place_of (At p)) (place_of a) (place_of b)) ∙ side-back (place_of a) (place_of (At p)) (place_of b) in
      record {
        flat = (λ e. corner_side (at first e) ((at second ∙ b_is) e) (At p)) ∙ flat_turned (corner_side a (At p) b) (corner_side a b (At p)) turned flat;
        bc = subst (λ h. h) (λ e. pos 0 <ℤ corner_side (sym (at second) e) ((is.four.ahead.starts ∙ sym (at third)) e) ((thrice u j ∙ u_tail) e)) (left_at old m f u (after j) is.four.ahead.there);
        ca = subst (λ h. h) (λ e. pos 0 <ℤ corner_side (sym (at third) e) ((thrice t k ∙ sym (at first)) e) ((thrice t (after k) ∙ p_is) e)) (left_at old m s t (after (after k)) is.here);
      }

  over_in : Faced (triangle_at new s) over
  over_in = let z = faced (slots_of new s) over is.in_s in record { tri = z.tri; is = sym (slot_in new s s_real) ∙ z.is; same = z.same }

  whole_edge : HasEdge new a b (count_at t k)
  whole_edge = renamed new a (corner_at u (after j)) a b (count_at t k) (face_edge new s over first s_real is.in_s) refl b_is

  -- no edge joins a and b yet
  no_whole : (c : ℕ) → 0 < c → HasEdge old a b c → ⊥
  no_whole c some y = line.unjoined y.slot y.side (edge y.tri y.side) (ap (λ o. edge_of o y.side) (standing old m.mesh y.slot y.tri y.there)) y.tail y.head

  pub edge_unsplit_content : HasSplitEdge (net_in new) (net_in old) a b p
  edge_unsplit_content = record {
    point = record {
      there = (net_law old m).corners p (corner_named old s t (after k) (At p) is.here p_is);
      absent = false_by (is_point (net_in new).points p) (λ h.
          let c = (net_law new m').points p h in
          let z = over_in in
          on_edge_no_corner new m' s z.tri first p z.is place (on_whole z.tri z.is) c.slot c.tri c.side (standing new m'.mesh c.slot c.tri c.there) c.is);
      others = λ q ne. sym (same_points old new m m' (IsAt p) NoCorner Half Whole unsplit_old unsplit_new q (other_place p q ne) (λ y. y));
    };
    start = count_of_edge old m a (At p) (count_at t k) (edge_named old s t k a (At p) is.here refl p_is) ∙ sym (count_of_edge new m' a b (count_at t k) whole_edge);
    end = count_of_edge old m (At p) b (count_at u j) (edge_named old f u j (At p) b is.four.ahead.there u_tail b_is) ∙ sym line.one_count ∙ sym (count_of_edge new m' a b (count_at t k) whole_edge);
    whole = no_edge_count old m a b no_whole;
    rest = λ q r no_start no_end none. sym (same_counts old new m m' (IsAt p) NoCorner Half Whole unsplit_old unsplit_new q r (λ h. elim h as (λ _. ⊥) [ inl y ↦ no_start y | inr y ↦ no_end y ]) none);
  }

pub edge_unsplit_law : EdgeUnsplitLaw
edge_unsplit_law old new s k f n g p m m' x is p_is = edge_unsplit_content old new s k f n g p m m' x is p_is
