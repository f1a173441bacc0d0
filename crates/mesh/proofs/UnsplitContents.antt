-- What it makes of the points and the counts to take a corner out of three triangles.
use Rattle.std.proofs.Common.{◌≡◌, ◌⊎◌, ◌<◌, ℕ, Some, List, refl, sym, ap, ◌∙◌, inl, inr, subst}
use Rattle.std.specs.Prelude.{pos, ◌<ℤ◌}
use Rattle.std.proofs.lemmas.Bool.{cases_eq}
use Rattle.std.proofs.lemmas.Option.{none-some}
use Rattle.ground_model.specs.declared.corner.Corner.{Corner}
use Rattle.ground_model.specs.declared.corner.Corner.TheVariants.{At}
use Rattle.ground_model.specs.Corner.{corner_side}
use Rattle.ground_model.specs.Line.{is_point}
use Rattle.ground_model.specs.Place.{Coords, IsPlace}
use Rattle.predicates.specs.Far.{IsKnown}
use Rattle.tri_pages.specs.declared.tri_slot.TriSlot.{TriSlot}
use Rattle.tri_pages.specs.Slots.{State, triangle_at, joined}
use Rattle.mesh.specs.Acrosses.{apex}
use Rattle.mesh.specs.Faces.{Face, face}
use Rattle.mesh.specs.Insides.{IsInTriangle}
use Rattle.mesh.specs.Net.{Side, first, second, third, after, corner_at, count_at, slots_of, outside}
use Rattle.mesh.specs.NetChanges.{HaveSameCounts, HasOneMore}
use Rattle.mesh.specs.Sheets.{IsSheetMesh, HasCorner, net_in}
use Rattle.mesh.specs.StepLaws.{UnsplitLaw}
use Rattle.mesh.specs.Unsplits.{IsUnsplit, IsUnsplittable, whole_face}
use Rattle.mesh.proofs.Contents.{HasEdge, IsFaceOf, AreFacesOf, NoCorner, NoEdge, tail_of, count_in_face, made_face, made_of, kept_of, edge_at, edge_named, corner_named, face_edge, face_corner, same_counts, same_points, false_by}
use Rattle.mesh.proofs.FaceParts.{round, uncounted, renamed, renamed_corner, old_face, other_place}
use Rattle.mesh.proofs.Corners.{thrice}
use Rattle.mesh.proofs.Filled.{Faced, faced}
use Rattle.mesh.proofs.InSheets.{inside_no_corner, left_at}
use Rattle.mesh.proofs.Legality.{facing}
use Rattle.mesh.proofs.NetOfMesh.{net_law}
use Rattle.mesh.proofs.SheetLaw.{real, standing}
use Rattle.mesh.proofs.Slots.{slot_in}
use Rattle.mesh.proofs.StepSheets.{round_same}
use Rattle.mesh.proofs.TurnedSlots.{by_side}

-- ---- three triangles round a corner
module _ (old new : List State) (s : ℕ) (k : Side) (f g : ℕ) (p : Coords) (m : IsSheetMesh old) (m' : IsSheetMesh new) (x : IsUnsplittable old s k) (is : IsUnsplit old new s k f g) (apex_is : apex is.tri k ≡ At p) where
  abbrev t : TriSlot
  t = is.tri

  abbrev u : TriSlot
  u = is.ahead

  abbrev v : TriSlot
  v = is.before

  abbrev j : Side
  j = is.ahead_side

  abbrev l : Side
  l = is.before_side

  abbrev made : Face
  made = whole_face t k u j v l

  same_apex : apex v l ≡ apex u j
  same_apex = round_same old new s k f g x is

  u_tail : corner_at u j ≡ At p
  u_tail = is.around.ahead.starts ∙ apex_is

  v_tail : corner_at v l ≡ corner_at t k
  v_tail = is.around.before.starts ∙ thrice t k

  v_head : corner_at v (after l) ≡ At p
  v_head = is.around.before.ends ∙ apex_is

  u_last : count_at u (after (after j)) ≡ 0
  u_last = x.uncounted_third t f u j is.here is.around.ahead

  -- the edge between the two others has no count from its other side either
  v_next : count_at v (after l) ≡ 0
  v_next =
      (facing old m.mesh f u (after (after j)) g v (after l) is.around.ahead.there is.around.before.there (v_head ∙ sym u_tail ∙ sym (thrice u j)) same_apex).same_count ∙ u_last

  s_real : s ≡ outside → ⊥
  s_real = real old m.mesh s t is.here

  made_is : IsFaceOf old NoCorner NoEdge made
  made_is = record {
    edges = by_side _ (λ _. inl (edge_at old s t k is.here)) (λ _. inl (edge_named old f u (after j) (corner_at t (after k)) (apex u j) is.around.ahead.there is.around.ahead.ends refl))
        (λ _. inl (edge_named old g v (after (after l)) (apex u j) (corner_at t k) is.around.before.there same_apex (thrice v l ∙ v_tail)));
    corners = by_side _ (inl (corner_named old s t k (corner_at t k) is.here refl)) (inl (corner_named old s t (after k) (corner_at t (after k)) is.here refl)) (inl (corner_named old f u (after (after j)) (apex u j) is.around.ahead.there refl));
  }

  abbrev OneOf : TriSlot → Type 0
  OneOf w = IsFaceOf new (λ (c : Corner). c ≡ At p) NoEdge (face w)

  abbrev EdgeOf : TriSlot → Side → Type 0
  EdgeOf w y = 0 < count_in_face (face w) y → HasEdge new (tail_of (face w) y) (tail_of (face w) (after y)) (count_in_face (face w) y) ⊎ NoEdge (tail_of (face w) y) (tail_of (face w) (after y))

  abbrev CornerOf : TriSlot → Side → Type 0
  CornerOf w y = HasCorner new (tail_of (face w) y) ⊎ (tail_of (face w) y ≡ At p)

  at_first : HasCorner new (corner_at t k)
  at_first = face_corner new s made first s_real is.in_s

  at_second : HasCorner new (corner_at t (after k))
  at_second = face_corner new s made second s_real is.in_s

  at_third : HasCorner new (apex u j)
  at_third = face_corner new s made third s_real is.in_s

  base_of : OneOf t
  base_of = record {
    edges = round k (EdgeOf t) (λ _. inl (face_edge new s made first s_real is.in_s)) (λ h. absurd (uncounted (count_at t (after k)) (x.uncounted t is.here).0 h)) (λ h. absurd (uncounted (count_at t (after (after k))) (x.uncounted t is.here).1 h));
    corners = round k (CornerOf t) (inl at_first) (inl at_second) (inr apex_is);
  }

  ahead_of : OneOf u
  ahead_of = record {
    edges = round j (EdgeOf u) (λ h. absurd (uncounted (count_at u j) (is.around.ahead.same_count ∙ (x.uncounted t is.here).0) h))
        (λ _. inl (renamed new (corner_at t (after k)) (apex u j) (corner_at u (after j)) (apex u j) (count_at u (after j)) (face_edge new s made second s_real is.in_s) (sym is.around.ahead.ends) refl))
        (λ h. absurd (uncounted (count_at u (after (after j))) u_last h));
    corners = round j (CornerOf u) (inr u_tail) (inl (renamed_corner new (corner_at t (after k)) (corner_at u (after j)) at_second (sym is.around.ahead.ends))) (inl at_third);
  }

  before_of : OneOf v
  before_of = record {
    edges = round l (EdgeOf v) (λ h. absurd (uncounted (count_at v l) (is.around.before.same_count ∙ (x.uncounted t is.here).1) h)) (λ h. absurd (uncounted (count_at v (after l)) v_next h))
        (λ _. inl (renamed new (apex u j) (corner_at t k) (apex v l) (corner_at v (after (after (after l)))) (count_at v (after (after l))) (face_edge new s made third s_real is.in_s) (sym same_apex) (sym (thrice v l ∙ v_tail))));
    corners = round l (CornerOf v) (inl (renamed_corner new (corner_at t k) (corner_at v l) at_first (sym v_tail))) (inr v_head) (inl (renamed_corner new (apex u j) (apex v l) at_third (sym same_apex)));
  }

  unsplit_new : AreFacesOf new old NoCorner NoEdge
  unsplit_new = λ i w there. elim (cases_eq i s) as (λ _. IsFaceOf old NoCorner NoEdge (face w)) [
    | inl e ↦ made_of new old NoCorner NoEdge i s w made m'.mesh e is.in_s there made_is
    | inr not_s ↦ elim (cases_eq i f) as (λ _. IsFaceOf old NoCorner NoEdge (face w)) [
      | inl e ↦ absurd (none-some w (sym (ap joined is.f_free) ∙ ap (triangle_at new) (sym e) ∙ there))
      | inr not_f ↦ elim (cases_eq i g) as (λ _. IsFaceOf old NoCorner NoEdge (face w)) [
        | inl e ↦ absurd (none-some w (sym (ap joined is.g_free) ∙ ap (triangle_at new) (sym e) ∙ there))
        | inr not_g ↦ kept_of new old NoCorner NoEdge i w m'.mesh (is.rest i not_s not_f not_g) there
      ]
    ]
  ]

  unsplit_old : AreFacesOf old new (λ (c : Corner). c ≡ At p) NoEdge
  unsplit_old = λ i w there. elim (cases_eq i s) as (λ _. OneOf w) [
    | inl e ↦ made_of old new (λ (c : Corner). c ≡ At p) NoEdge i s w (face t) m.mesh e (old_face old m s t is.here) there base_of
    | inr not_s ↦ elim (cases_eq i f) as (λ _. OneOf w) [
      | inl e ↦ made_of old new (λ (c : Corner). c ≡ At p) NoEdge i f w (face u) m.mesh e (old_face old m f u is.around.ahead.there) there ahead_of
      | inr not_f ↦ elim (cases_eq i g) as (λ _. OneOf w) [
        | inl e ↦ made_of old new (λ (c : Corner). c ≡ At p) NoEdge i g w (face v) m.mesh e (old_face old m g v is.around.before.there) there before_of
        | inr not_g ↦ kept_of old new (λ (c : Corner). c ≡ At p) NoEdge i w m.mesh (sym (is.rest i not_s not_f not_g)) there
      ]
    ]
  ]

  -- the corner lies strictly inside the triangle that is left
  within : (w : TriSlot) → triangle_at new s ≡ Some w → IsInTriangle w p
  within w there =
      let same : face w ≡ made = made_face new s w made m'.mesh is.in_s there in
      let at = λ (y : Side). ap (λ h. tail_of h y) same in
      by_side (λ y. pos 0 <ℤ corner_side (corner_at w y) (corner_at w (after y)) (At p))
      (subst (λ z. z) (λ i. pos 0 <ℤ corner_side (sym (at first) i) (sym (at second) i) (apex_is i)) (left_at old m s t k is.here))
      (subst (λ z. z) (λ i. pos 0 <ℤ corner_side ((is.around.ahead.ends ∙ sym (at second)) i) (sym (at third) i) ((thrice u j ∙ u_tail) i)) (left_at old m f u (after j) is.around.ahead.there))
      (subst (λ z. z) (λ i. pos 0 <ℤ corner_side ((same_apex ∙ sym (at third)) i) ((thrice v l ∙ v_tail ∙ sym (at first)) i) ((thrice v (after l) ∙ v_head) i)) (left_at old m g v (after (after l)) is.around.before.there))

  faced_in : Faced (triangle_at new s) made
  faced_in = let w = faced (slots_of new s) made is.in_s in record { tri = w.tri; is = sym (slot_in new s s_real) ∙ w.is; same = w.same }

  place : IsPlace p
  place = subst (λ (c : Corner). IsKnown c) apex_is ((m.turned s t is.here).known (after (after k)))

  pub unsplit_content : HasOneMore (net_in new) (net_in old) p × HaveSameCounts (net_in old) (net_in new)
  unsplit_content = (
    record {
      there = (net_law old m).corners p (corner_named old s t (after (after k)) (At p) is.here apex_is);
      absent = false_by (is_point (net_in new).points p) (λ h.
          let c = (net_law new m').points p h in
          let s0 = faced_in in
          inside_no_corner new m' s s0.tri p s0.is place (within s0.tri s0.is) c.slot c.tri c.side (standing new m'.mesh c.slot c.tri c.there) c.is);
      others = λ q ne. sym (same_points old new m m' (λ (c : Corner). c ≡ At p) NoCorner NoEdge NoEdge unsplit_old unsplit_new q (other_place p q ne) (λ y. y));
    },
    λ q r. same_counts old new m m' (λ (c : Corner). c ≡ At p) NoCorner NoEdge NoEdge unsplit_old unsplit_new q r (λ y. y) (λ y. y),
  )

pub unsplit_law : UnsplitLaw
unsplit_law old new s k f g p m m' x is apex_is = unsplit_content old new s k f g p m m' x is apex_is
