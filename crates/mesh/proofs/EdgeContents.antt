-- What a split of an edge makes of the points and the counts.
use Rattle.std.proofs.Common.{◌≡◌, ◌⊎◌, ◌<◌, ℕ, Some, List, refl, sym, ap, ◌∙◌, inl, inr, subst}
use Rattle.std.specs.Prelude.{pos, neg_ℤ, ◌<ℤ◌}
use Rattle.std.proofs.lemmas.Bool.{cases_eq}
use Rattle.std.proofs.lemmas.Option.{none-some}
use Rattle.ground_model.specs.declared.corner.Corner.{Corner}
use Rattle.ground_model.specs.declared.corner.Corner.TheVariants.{At}
use Rattle.ground_model.specs.Corner.{corner_at as place_of, corner_side}
use Rattle.ground_model.specs.Line.{is_point}
use Rattle.ground_model.specs.Place.{Coords, IsPlace}
use Rattle.predicates.proofs.FlatSides.{side-back}
use Rattle.tri_pages.specs.declared.tri_slot.TriSlot.{TriSlot}
use Rattle.tri_pages.specs.Slots.{State, triangle_at, joined}
use Rattle.mesh.specs.Acrosses.{apex}
use Rattle.mesh.specs.EdgeSplits.{IsEdgeSplit, start_face, end_face}
use Rattle.mesh.specs.Faces.{face, face_at}
use Rattle.mesh.specs.Insides.{IsOnSlot, IsOnEdge}
use Rattle.mesh.specs.Net.{Side, first, second, third, after, corner_at, count_at, slots_of, outside}
use Rattle.mesh.specs.NetChanges.{HasSplitEdge, IsPair}
use Rattle.mesh.specs.Sheets.{IsSheetMesh, HasCorner, net_in}
use Rattle.mesh.specs.StepLaws.{EdgeSplitLaw}
use Rattle.mesh.proofs.Contents.{HasEdge, IsFaceOf, AreFacesOf, NoCorner, tail_of, count_in_face, made_of, kept_of, edge_at, edge_named, corner_named, face_edge, face_corner, count_of_edge, no_edge_count, same_counts, same_points, false_by}
use Rattle.mesh.proofs.Corners.{thrice}
use Rattle.mesh.proofs.FaceParts.{round, never_less, renamed, not_rim, old_face, other_place}
use Rattle.mesh.proofs.InSheets.{on_edge_no_corner, left_at, left_across}
use Rattle.mesh.proofs.NetOfMesh.{net_law}
use Rattle.mesh.proofs.SheetLaw.{real, standing}
use Rattle.mesh.proofs.TurnedFaces.{on_back}
use Rattle.mesh.proofs.TurnedSlots.{by_side}

-- the corner is p
abbrev pub IsAt : Coords → Corner → Type 0
IsAt p c = c ≡ At p

-- q and r are the ends of one of the two parts of ab
abbrev pub IsHalf : Corner → Corner → Coords → Corner → Corner → Type 0
IsHalf a b p q r = IsPair a (At p) q r ⊎ IsPair (At p) b q r

-- a place strictly between the ends of an edge, by a triangle on its right, lies so on the triangle of the edge
pub on_left : (slots : List State) (m : IsSheetMesh slots) (s : ℕ) (t : TriSlot) (k : Side) (a b d : Corner) (p : Coords) → triangle_at slots s ≡ Some t → corner_at t k ≡ a → corner_at t (after k) ≡ b
    → pos 0 <ℤ corner_side b a d → corner_side a b (At p) ≡ pos 0 → pos 0 <ℤ corner_side a d (At p) → pos 0 <ℤ corner_side d b (At p) → IsOnEdge t k p
on_left slots m s t k a b d p there tail head right flat ad db =
    let left = subst (λ z. z) (λ i. pos 0 <ℤ corner_side (tail i) (head i) (apex t k)) (left_at slots m s t k there) in
    let back = side-back (place_of a) (place_of b) p ∙ ap neg_ℤ flat in
    let sides = on_back (place_of b) (place_of a) (place_of d) (place_of (apex t k)) p right left back ad db in
    record {
      flat = (λ i. corner_side (tail i) (head i) (At p)) ∙ flat;
      bc = subst (λ z. z) (λ i. pos 0 <ℤ corner_side (sym head i) (apex t k) (At p)) sides.0;
      ca = subst (λ z. z) (λ i. pos 0 <ℤ corner_side (apex t k) (sym tail i) (At p)) sides.1;
    }

module _ (old new : List State) (s : ℕ) (k : Side) (p : Coords) (n f g : ℕ) (m : IsSheetMesh old) (m' : IsSheetMesh new) (is : IsEdgeSplit old new s k (At p) n f g) where
  abbrev t : TriSlot
  t = is.tri

  abbrev u : TriSlot
  u = is.beyond

  abbrev j : Side
  j = is.back

  abbrev a : Corner
  a = corner_at t k

  abbrev b : Corner
  b = corner_at t (after k)

  s_real : s ≡ outside → ⊥
  s_real = real old m.mesh s t is.here

  n_real : n ≡ outside → ⊥
  n_real = real old m.mesh n u is.across.there

  f_real : f ≡ outside → ⊥
  f_real = not_rim new f (end_face t k (At p)) first p is.in_f refl

  g_real : g ≡ outside → ⊥
  g_real = not_rim new g (end_face u j (At p)) first p is.in_g refl

  abbrev Half : Corner → Corner → Type 0
  Half q r = IsHalf a b p q r

  abbrev Whole : Corner → Corner → Type 0
  Whole q r = IsPair a b q r

  start_of : (i : ℕ) (w : TriSlot) (x : Side) → triangle_at old i ≡ Some w → Half (corner_at w x) (At p) → IsFaceOf old (IsAt p) Half (start_face w x (At p))
  start_of i w x there half = record {
    edges = by_side _ (λ _. inr half) (λ h. absurd (never_less h)) (λ _. inl (edge_named old i w (after (after x)) (apex w x) (corner_at w x) there refl (thrice w x)));
    corners = by_side _ (inl (corner_named old i w x (corner_at w x) there refl)) (inr refl) (inl (corner_named old i w (after (after x)) (apex w x) there refl));
  }

  end_of : (i : ℕ) (w : TriSlot) (x : Side) → triangle_at old i ≡ Some w → Half (At p) (corner_at w (after x)) → IsFaceOf old (IsAt p) Half (end_face w x (At p))
  end_of i w x there half = record {
    edges = by_side _ (λ _. inr half) (λ _. inl (edge_at old i w (after x) there)) (λ h. absurd (never_less h));
    corners = by_side _ (inr refl) (inl (corner_named old i w (after x) (corner_at w (after x)) there refl)) (inl (corner_named old i w (after (after x)) (apex w x) there refl));
  }

  -- the triangle that was split from its side x, into i and i'
  whole_of : (i i' : ℕ) (w : TriSlot) (x : Side) → (i ≡ outside → ⊥) → (i' ≡ outside → ⊥) → face_at (slots_of new) i ≡ Some (start_face w x (At p)) → face_at (slots_of new) i' ≡ Some (end_face w x (At p))
      → Whole (corner_at w x) (corner_at w (after x)) → IsFaceOf new NoCorner Whole (face w)
  whole_of i i' w x live live' in_i in_i' ends = record {
    edges = round x (λ y. 0 < count_in_face (face w) y → HasEdge new (tail_of (face w) y) (tail_of (face w) (after y)) (count_in_face (face w) y) ⊎ Whole (tail_of (face w) y) (tail_of (face w) (after y)))
        (λ _. inr ends) (λ _. inl (face_edge new i' (end_face w x (At p)) second live' in_i'))
        (λ _. inl (renamed new (apex w x) (corner_at w x) (apex w x) (corner_at w (after (after (after x)))) (count_at w (after (after x))) (face_edge new i (start_face w x (At p)) third live in_i) refl (sym (thrice w x))));
    corners = round x (λ y. HasCorner new (tail_of (face w) y) ⊎ NoCorner (tail_of (face w) y)) (inl (face_corner new i (start_face w x (At p)) first live in_i)) (inl (face_corner new i' (end_face w x (At p)) second live' in_i'))
        (inl (face_corner new i (start_face w x (At p)) third live in_i));
  }

  split_new : AreFacesOf new old (IsAt p) Half
  split_new = λ i w there. elim (cases_eq i s) as (λ _. IsFaceOf old (IsAt p) Half (face w)) [
    | inl e ↦ made_of new old (IsAt p) Half i s w (start_face t k (At p)) m'.mesh e is.in_s there (start_of s t k is.here (inl (inl (refl, refl))))
    | inr not_s ↦ elim (cases_eq i n) as (λ _. IsFaceOf old (IsAt p) Half (face w)) [
      | inl e ↦ made_of new old (IsAt p) Half i n w (start_face u j (At p)) m'.mesh e is.in_n there (start_of n u j is.across.there (inr (inr (is.across.starts, refl))))
      | inr not_n ↦ elim (cases_eq i f) as (λ _. IsFaceOf old (IsAt p) Half (face w)) [
        | inl e ↦ made_of new old (IsAt p) Half i f w (end_face t k (At p)) m'.mesh e is.in_f there (end_of s t k is.here (inr (inl (refl, refl))))
        | inr not_f ↦ elim (cases_eq i g) as (λ _. IsFaceOf old (IsAt p) Half (face w)) [
          | inl e ↦ made_of new old (IsAt p) Half i g w (end_face u j (At p)) m'.mesh e is.in_g there (end_of n u j is.across.there (inl (inr (refl, is.across.ends))))
          | inr not_g ↦ kept_of new old (IsAt p) Half i w m'.mesh (is.rest i not_s not_n not_f not_g) there
        ]
      ]
    ]
  ]

  split_old : AreFacesOf old new NoCorner Whole
  split_old = λ i w there. elim (cases_eq i s) as (λ _. IsFaceOf new NoCorner Whole (face w)) [
    | inl e ↦ made_of old new NoCorner Whole i s w (face t) m.mesh e (old_face old m s t is.here) there (whole_of s f t k s_real f_real is.in_s is.in_f (inl (refl, refl)))
    | inr not_s ↦ elim (cases_eq i n) as (λ _. IsFaceOf new NoCorner Whole (face w)) [
      | inl e ↦ made_of old new NoCorner Whole i n w (face u) m.mesh e (old_face old m n u is.across.there) there (whole_of n g u j n_real g_real is.in_n is.in_g (inr (is.across.starts, is.across.ends)))
      | inr not_n ↦ elim (cases_eq i f) as (λ _. IsFaceOf new NoCorner Whole (face w)) [
        | inl e ↦ absurd (none-some w (sym (ap joined is.f_free) ∙ ap (triangle_at old) (sym e) ∙ there))
        | inr not_f ↦ elim (cases_eq i g) as (λ _. IsFaceOf new NoCorner Whole (face w)) [
          | inl e ↦ absurd (none-some w (sym (ap joined is.g_free) ∙ ap (triangle_at old) (sym e) ∙ there))
          | inr not_g ↦ kept_of old new NoCorner Whole i w m.mesh (sym (is.rest i not_s not_n not_f not_g)) there
        ]
      ]
    ]
  ]

  new_corner : HasCorner new (At p)
  new_corner = face_corner new s (start_face t k (At p)) second s_real is.in_s

  module _ (place : IsPlace p) (on : IsOnSlot old s k p) where
    sides : (pos 0 <ℤ corner_side a (apex u j) (At p)) × (pos 0 <ℤ corner_side (apex u j) b (At p))
    sides = let o = on t is.here in on_back (place_of a) (place_of b) (place_of (apex t k)) (place_of (apex u j)) p (left_at old m s t k is.here) (left_across old m s n t u k j is.here is.across) o.flat o.bc o.ca

    -- no edge goes over the new corner
    no_whole : (c : ℕ) → 0 < c → HasEdge new a b c → ⊥
    no_whole c some x =
        let over = on_left new m' x.slot x.tri x.side a b (apex u j) p x.there x.tail x.head (left_across old m s n t u k j is.here is.across) (on t is.here).flat sides.0 sides.1 in
        on_edge_no_corner new m' x.slot x.tri x.side p x.there place over new_corner.slot new_corner.tri new_corner.side (standing new m'.mesh new_corner.slot new_corner.tri new_corner.there) new_corner.is

    pub edge_split_content : HasSplitEdge (net_in old) (net_in new) a b p
    edge_split_content = record {
      point = record {
        there = (net_law new m').corners p new_corner;
        absent = false_by (is_point (net_in old).points p) (λ h.
            let c = (net_law old m).points p h in
            on_edge_no_corner old m s t k p is.here place (on t is.here) c.slot c.tri c.side (standing old m.mesh c.slot c.tri c.there) c.is);
        others = λ q ne. same_points old new m m' NoCorner (IsAt p) Whole Half split_old split_new q (λ x. x) (other_place p q ne);
      };
      start = count_of_edge new m' a (At p) (count_at t k) (face_edge new s (start_face t k (At p)) first s_real is.in_s) ∙ sym (count_of_edge old m a b (count_at t k) (edge_at old s t k is.here));
      end = count_of_edge new m' (At p) b (count_at t k) (face_edge new f (end_face t k (At p)) first f_real is.in_f) ∙ sym (count_of_edge old m a b (count_at t k) (edge_at old s t k is.here));
      whole = no_edge_count new m' a b no_whole;
      rest = λ q r no_start no_end none. same_counts old new m m' NoCorner (IsAt p) Whole Half split_old split_new q r none (λ h. elim h as (λ _. ⊥) [ inl x ↦ no_start x | inr x ↦ no_end x ]);
    }

pub edge_split_law : EdgeSplitLaw
edge_split_law old new s k p n f g m m' place on is = edge_split_content old new s k p n f g m m' is place on
