-- What splits, flips and changes of counts make of the points and the counts.
use Rattle.std.proofs.Common.{◌≡◌, ◌⊎◌, ◌<◌, ℕ, Some, List, [], ◌∷◌, refl, sym, ap, ◌∙◌, inl, inr}
use Rattle.std.proofs.lemmas.Bool.{cases_eq}
use Rattle.std.proofs.lemmas.Option.{none-some}
use Rattle.ground_model.specs.declared.corner.Corner.{Corner}
use Rattle.ground_model.specs.declared.corner.Corner.TheVariants.{At}
use Rattle.ground_model.specs.Line.{is_point}
use Rattle.ground_model.specs.Place.{Coords, IsPlace}
use Rattle.predicates.specs.Net.{count_of}
use Rattle.tri_pages.specs.declared.tri_slot.TriSlot.{TriSlot}
use Rattle.tri_pages.specs.Slots.{State, triangle_at, joined}
use Rattle.mesh.specs.Acrosses.{apex}
use Rattle.mesh.specs.Faces.{Face, face, face_at}
use Rattle.mesh.specs.FlipRuns.{Flip, AreFlips}
use Rattle.mesh.specs.Flips.{IsFlipped, flip_face_one, flip_face_two}
use Rattle.mesh.specs.Insides.{IsInSlot}
use Rattle.mesh.specs.Net.{Side, first, second, third, after, corner_at, count_at, slots_of, outside}
use Rattle.mesh.specs.NetChanges.{HaveSamePoints, HaveSameCounts, HaveSameCountsBut, HasOneMore, IsPair}
use Rattle.mesh.specs.Recounts.{IsRecounted, recounted_face}
use Rattle.mesh.specs.Sheets.{IsSheetMesh, HasCorner, net_in}
use Rattle.mesh.specs.Splits.{IsSplit, split_face}
use Rattle.mesh.specs.StepLaws.{FlipsLaw, SplitLaw, RecountLaw}
use Rattle.mesh.proofs.Contents.{HasEdge, IsFaceOf, AreFacesOf, NoCorner, NoEdge, tail_of, count_in_face, made_of, kept_of, edge_at, edge_named, corner_named, face_edge, face_corner, count_of_edge, same_counts, same_points, false_by}
use Rattle.mesh.proofs.FaceParts.{round, never_less, uncounted, renamed, renamed_corner, not_rim, old_face, other_place}
use Rattle.mesh.proofs.Corners.{thrice}
use Rattle.mesh.proofs.InSheets.{inside_no_corner}
use Rattle.mesh.proofs.NetOfMesh.{net_law}
use Rattle.mesh.proofs.SheetLaw.{real, standing}
use Rattle.mesh.proofs.TurnedSlots.{by_side}

-- ---- a split
module _ (old new : List State) (s f g : ℕ) (p : Coords) (m : IsSheetMesh old) (m' : IsSheetMesh new) (is : IsSplit old new s f g (At p)) where
  abbrev t : TriSlot
  t = is.tri

  s_real : s ≡ outside → ⊥
  s_real = real old m.mesh s t is.was

  f_real : f ≡ outside → ⊥
  f_real = not_rim new f (split_face t second (At p)) third p is.in_f refl

  g_real : g ≡ outside → ⊥
  g_real = not_rim new g (split_face t third (At p)) third p is.in_g refl

  part_of : (k : Side) → IsFaceOf old (λ (c : Corner). c ≡ At p) NoEdge (split_face t k (At p))
  part_of k = record {
    edges = by_side _ (λ _. inl (edge_at old s t k is.was)) (λ h. absurd (never_less h)) (λ h. absurd (never_less h));
    corners = by_side _ (inl (corner_named old s t k (corner_at t k) is.was refl)) (inl (corner_named old s t (after k) (corner_at t (after k)) is.was refl)) (inr refl);
  }

  whole_of : IsFaceOf new NoCorner NoEdge (face t)
  whole_of = record {
    edges = by_side _ (λ _. inl (face_edge new s (split_face t first (At p)) first s_real is.in_s)) (λ _. inl (face_edge new f (split_face t second (At p)) first f_real is.in_f)) (λ _. inl (face_edge new g (split_face t third (At p)) first g_real is.in_g));
    corners = by_side _ (inl (face_corner new s (split_face t first (At p)) first s_real is.in_s)) (inl (face_corner new f (split_face t second (At p)) first f_real is.in_f)) (inl (face_corner new g (split_face t third (At p)) first g_real is.in_g));
  }

  split_new : AreFacesOf new old (λ (c : Corner). c ≡ At p) NoEdge
  split_new = λ i u there. elim (cases_eq i s) as (λ _. IsFaceOf old (λ (c : Corner). c ≡ At p) NoEdge (face u)) [
    | inl e ↦ made_of new old (λ (c : Corner). c ≡ At p) NoEdge i s u (split_face t first (At p)) m'.mesh e is.in_s there (part_of first)
    | inr not_s ↦ elim (cases_eq i f) as (λ _. IsFaceOf old (λ (c : Corner). c ≡ At p) NoEdge (face u)) [
      | inl e ↦ made_of new old (λ (c : Corner). c ≡ At p) NoEdge i f u (split_face t second (At p)) m'.mesh e is.in_f there (part_of second)
      | inr not_f ↦ elim (cases_eq i g) as (λ _. IsFaceOf old (λ (c : Corner). c ≡ At p) NoEdge (face u)) [
        | inl e ↦ made_of new old (λ (c : Corner). c ≡ At p) NoEdge i g u (split_face t third (At p)) m'.mesh e is.in_g there (part_of third)
        | inr not_g ↦ kept_of new old (λ (c : Corner). c ≡ At p) NoEdge i u m'.mesh (is.rest i not_s not_f not_g) there
      ]
    ]
  ]

  split_old : AreFacesOf old new NoCorner NoEdge
  split_old = λ i u there. elim (cases_eq i s) as (λ _. IsFaceOf new NoCorner NoEdge (face u)) [
    | inl e ↦ made_of old new NoCorner NoEdge i s u (face t) m.mesh e (old_face old m s t is.was) there whole_of
    | inr not_s ↦ elim (cases_eq i f) as (λ _. IsFaceOf new NoCorner NoEdge (face u)) [
      | inl e ↦ absurd (none-some u (sym (ap joined is.f_free) ∙ ap (triangle_at old) (sym e) ∙ there))
      | inr not_f ↦ elim (cases_eq i g) as (λ _. IsFaceOf new NoCorner NoEdge (face u)) [
        | inl e ↦ absurd (none-some u (sym (ap joined is.g_free) ∙ ap (triangle_at old) (sym e) ∙ there))
        | inr not_g ↦ kept_of old new NoCorner NoEdge i u m.mesh (sym (is.rest i not_s not_f not_g)) there
      ]
    ]
  ]

  pub split_content : IsPlace p → IsInSlot old s p → HasOneMore (net_in old) (net_in new) p × HaveSameCounts (net_in old) (net_in new)
  split_content place inside = (
    record {
      there = (net_law new m').corners p (face_corner new s (split_face t first (At p)) third s_real is.in_s);
      absent = false_by (is_point (net_in old).points p) (λ h.
          let c = (net_law old m).points p h in
          inside_no_corner old m s t p is.was place (inside t is.was) c.slot c.tri c.side (standing old m.mesh c.slot c.tri c.there) c.is);
      others = λ q ne. same_points old new m m' NoCorner (λ (c : Corner). c ≡ At p) NoEdge NoEdge split_old split_new q (λ x. x) (other_place p q ne);
    },
    λ q r. same_counts old new m m' NoCorner (λ (c : Corner). c ≡ At p) NoEdge NoEdge split_old split_new q r (λ x. x) (λ x. x),
  )

pub split_law : SplitLaw
split_law old new s f g p m m' place inside is = split_content old new s f g p m m' is place inside

-- ---- a flip
module _ (old new : List State) (s : ℕ) (k : Side) (n : ℕ) (m : IsSheetMesh old) (m' : IsSheetMesh new) (is : IsFlipped old new s k n) (free : count_at is.tri k ≡ 0) where
  abbrev u : TriSlot
  u = is.beyond

  abbrev j : Side
  j = is.back

  abbrev one : Face
  one = flip_face_one is.tri k u j

  abbrev two : Face
  two = flip_face_two is.tri k u j

  s_live : s ≡ outside → ⊥
  s_live = real old m.mesh s is.tri is.here

  n_live : n ≡ outside → ⊥
  n_live = real old m.mesh n u is.across.there

  first_of : IsFaceOf old NoCorner NoEdge one
  first_of = record {
    edges = by_side _ (λ _. inl (edge_named old n u (after j) (corner_at is.tri k) (apex u j) is.across.there is.across.ends refl)) (λ h. absurd (never_less h))
        (λ _. inl (edge_named old s is.tri (after (after k)) (apex is.tri k) (corner_at is.tri k) is.here refl (thrice is.tri k)));
    corners = by_side _ (inl (corner_named old s is.tri k (corner_at is.tri k) is.here refl)) (inl (corner_named old n u (after (after j)) (apex u j) is.across.there refl)) (inl (corner_named old s is.tri (after (after k)) (apex is.tri k) is.here refl));
  }

  second_of : IsFaceOf old NoCorner NoEdge two
  second_of = record {
    edges = by_side _ (λ _. inl (edge_named old n u (after (after j)) (apex u j) (corner_at is.tri (after k)) is.across.there refl (thrice u j ∙ is.across.starts)))
        (λ _. inl (edge_at old s is.tri (after k) is.here)) (λ h. absurd (never_less h));
    corners = by_side _ (inl (corner_named old n u (after (after j)) (apex u j) is.across.there refl)) (inl (corner_named old s is.tri (after k) (corner_at is.tri (after k)) is.here refl)) (inl (corner_named old s is.tri (after (after k)) (apex is.tri k) is.here refl));
  }

  left_of : IsFaceOf new NoCorner NoEdge (face is.tri)
  left_of = record {
    edges = round k (λ x. 0 < count_in_face (face is.tri) x → HasEdge new (tail_of (face is.tri) x) (tail_of (face is.tri) (after x)) (count_in_face (face is.tri) x) ⊎ NoEdge (tail_of (face is.tri) x) (tail_of (face is.tri) (after x)))
        (λ h. absurd (uncounted (count_at is.tri k) free h)) (λ _. inl (face_edge new n two second n_live is.in_n))
        (λ _. inl (renamed new (apex is.tri k) (corner_at is.tri k) (apex is.tri k) (corner_at is.tri (after (after (after k)))) (count_at is.tri (after (after k))) (face_edge new s one third s_live is.in_s) refl (sym (thrice is.tri k))));
    corners = round k (λ x. HasCorner new (tail_of (face is.tri) x) ⊎ NoCorner (tail_of (face is.tri) x)) (inl (face_corner new s one first s_live is.in_s)) (inl (face_corner new n two second n_live is.in_n)) (inl (face_corner new s one third s_live is.in_s));
  }

  right_of : IsFaceOf new NoCorner NoEdge (face u)
  right_of = record {
    edges = round j (λ x. 0 < count_in_face (face u) x → HasEdge new (tail_of (face u) x) (tail_of (face u) (after x)) (count_in_face (face u) x) ⊎ NoEdge (tail_of (face u) x) (tail_of (face u) (after x)))
        (λ h. absurd (uncounted (count_at u j) (is.across.same_count ∙ free) h))
        (λ _. inl (renamed new (corner_at is.tri k) (apex u j) (corner_at u (after j)) (apex u j) (count_at u (after j)) (face_edge new s one first s_live is.in_s) (sym is.across.ends) refl))
        (λ _. inl (renamed new (apex u j) (corner_at is.tri (after k)) (apex u j) (corner_at u (after (after (after j)))) (count_at u (after (after j))) (face_edge new n two first n_live is.in_n) refl (sym (thrice u j ∙ is.across.starts))));
    corners = round j (λ x. HasCorner new (tail_of (face u) x) ⊎ NoCorner (tail_of (face u) x))
        (inl (renamed_corner new (corner_at is.tri (after k)) (corner_at u j) (face_corner new n two second n_live is.in_n) (sym is.across.starts)))
        (inl (renamed_corner new (corner_at is.tri k) (corner_at u (after j)) (face_corner new s one first s_live is.in_s) (sym is.across.ends)))
        (inl (face_corner new s one second s_live is.in_s));
  }

  flip_new : AreFacesOf new old NoCorner NoEdge
  flip_new = λ i w there. elim (cases_eq i s) as (λ _. IsFaceOf old NoCorner NoEdge (face w)) [
    | inl e ↦ made_of new old NoCorner NoEdge i s w one m'.mesh e is.in_s there first_of
    | inr not_s ↦ elim (cases_eq i n) as (λ _. IsFaceOf old NoCorner NoEdge (face w)) [
      | inl e ↦ made_of new old NoCorner NoEdge i n w two m'.mesh e is.in_n there second_of
      | inr not_n ↦ kept_of new old NoCorner NoEdge i w m'.mesh (is.rest i not_s not_n) there
    ]
  ]

  flip_old : AreFacesOf old new NoCorner NoEdge
  flip_old = λ i w there. elim (cases_eq i s) as (λ _. IsFaceOf new NoCorner NoEdge (face w)) [
    | inl e ↦ made_of old new NoCorner NoEdge i s w (face is.tri) m.mesh e (old_face old m s is.tri is.here) there left_of
    | inr not_s ↦ elim (cases_eq i n) as (λ _. IsFaceOf new NoCorner NoEdge (face w)) [
      | inl e ↦ made_of old new NoCorner NoEdge i n w (face u) m.mesh e (old_face old m n u is.across.there) there right_of
      | inr not_n ↦ kept_of old new NoCorner NoEdge i w m.mesh (sym (is.rest i not_s not_n)) there
    ]
  ]

  pub flip_points : HaveSamePoints (net_in old) (net_in new)
  flip_points = λ q. same_points old new m m' NoCorner NoCorner NoEdge NoEdge flip_old flip_new q (λ x. x) (λ x. x)

  pub flip_counts : HaveSameCounts (net_in old) (net_in new)
  flip_counts = λ q r. same_counts old new m m' NoCorner NoCorner NoEdge NoEdge flip_old flip_new q r (λ x. x) (λ x. x)

run_content : (fs : List Flip) (old new : List State) → IsSheetMesh old → AreFlips fs old new → HaveSamePoints (net_in old) (net_in new) × HaveSameCounts (net_in old) (net_in new)
run_content [] old new m same = ((λ q. ap (λ ps. is_point (net_in ps).points q) (sym same)), (λ q r. ap (λ ps. (net_in ps).count q r) (sym same)))
run_content (f ∷ fs) old new m run =
    let x = run.1 in
    let rest = run_content fs run.0 new x.sheet run.2 in
    ((λ q. rest.0 q ∙ flip_points old run.0 f.slot f.side f.beyond m x.sheet x.is x.free q), (λ q r. rest.1 q r ∙ flip_counts old run.0 f.slot f.side f.beyond m x.sheet x.is x.free q r))

pub flips_law : FlipsLaw
flips_law old new before after_it m run = run_content run.flips old.slots new.slots m run.are

-- ---- a changed count
module _ (old new : List State) (s : ℕ) (k : Side) (n c : ℕ) (m : IsSheetMesh old) (m' : IsSheetMesh new) (is : IsRecounted old new s k n c) where
  abbrev Ends : Corner → Corner → Type 0
  Ends q r = IsPair (corner_at is.tri k) (corner_at is.tri (after k)) q r

  recounted_of : (i : ℕ) (t : TriSlot) (x : Side) → triangle_at old i ≡ Some t → Ends (corner_at t x) (corner_at t (after x)) → IsFaceOf old NoCorner Ends (recounted_face t x c)
  recounted_of i t x there ends = record {
    edges = by_side _ (λ _. inr ends) (λ _. inl (edge_at old i t (after x) there)) (λ _. inl (edge_named old i t (after (after x)) (apex t x) (corner_at t x) there refl (thrice t x)));
    corners = by_side _ (inl (corner_named old i t x (corner_at t x) there refl)) (inl (corner_named old i t (after x) (corner_at t (after x)) there refl)) (inl (corner_named old i t (after (after x)) (apex t x) there refl));
  }

  counted_of : (i : ℕ) (t : TriSlot) (x : Side) → (i ≡ outside → ⊥) → face_at (slots_of new) i ≡ Some (recounted_face t x c) → Ends (corner_at t x) (corner_at t (after x)) → IsFaceOf new NoCorner Ends (face t)
  counted_of i t x live made ends = record {
    edges = round x (λ y. 0 < count_in_face (face t) y → HasEdge new (tail_of (face t) y) (tail_of (face t) (after y)) (count_in_face (face t) y) ⊎ Ends (tail_of (face t) y) (tail_of (face t) (after y)))
        (λ _. inr ends) (λ _. inl (face_edge new i (recounted_face t x c) second live made))
        (λ _. inl (renamed new (apex t x) (corner_at t x) (apex t x) (corner_at t (after (after (after x)))) (count_at t (after (after x))) (face_edge new i (recounted_face t x c) third live made) refl (sym (thrice t x))));
    corners = round x (λ y. HasCorner new (tail_of (face t) y) ⊎ NoCorner (tail_of (face t) y)) (inl (face_corner new i (recounted_face t x c) first live made)) (inl (face_corner new i (recounted_face t x c) second live made)) (inl (face_corner new i (recounted_face t x c) third live made));
  }

  here_real : s ≡ outside → ⊥
  here_real = real old m.mesh s is.tri is.here

  there_real : n ≡ outside → ⊥
  there_real = real old m.mesh n is.beyond is.across.there

  back_ends : Ends (corner_at is.beyond is.back) (corner_at is.beyond (after is.back))
  back_ends = inr (is.across.starts, is.across.ends)

  recount_new : AreFacesOf new old NoCorner Ends
  recount_new = λ i w there. elim (cases_eq i s) as (λ _. IsFaceOf old NoCorner Ends (face w)) [
    | inl e ↦ made_of new old NoCorner Ends i s w (recounted_face is.tri k c) m'.mesh e is.in_s there (recounted_of s is.tri k is.here (inl (refl, refl)))
    | inr not_s ↦ elim (cases_eq i n) as (λ _. IsFaceOf old NoCorner Ends (face w)) [
      | inl e ↦ made_of new old NoCorner Ends i n w (recounted_face is.beyond is.back c) m'.mesh e is.in_n there (recounted_of n is.beyond is.back is.across.there back_ends)
      | inr not_n ↦ kept_of new old NoCorner Ends i w m'.mesh (is.rest i not_s not_n) there
    ]
  ]

  recount_old : AreFacesOf old new NoCorner Ends
  recount_old = λ i w there. elim (cases_eq i s) as (λ _. IsFaceOf new NoCorner Ends (face w)) [
    | inl e ↦ made_of old new NoCorner Ends i s w (face is.tri) m.mesh e (old_face old m s is.tri is.here) there (counted_of s is.tri k here_real is.in_s (inl (refl, refl)))
    | inr not_s ↦ elim (cases_eq i n) as (λ _. IsFaceOf new NoCorner Ends (face w)) [
      | inl e ↦ made_of old new NoCorner Ends i n w (face is.beyond) m.mesh e (old_face old m n is.beyond is.across.there) there (counted_of n is.beyond is.back there_real is.in_n back_ends)
      | inr not_n ↦ kept_of old new NoCorner Ends i w m.mesh (sym (is.rest i not_s not_n)) there
    ]
  ]

  pub recount_content : HaveSamePoints (net_in old) (net_in new) × ((count_of (net_in new) (corner_at is.tri k) (corner_at is.tri (after k)) ≡ c) × HaveSameCountsBut (net_in old) (net_in new) (corner_at is.tri k) (corner_at is.tri (after k)))
  recount_content = (
    (λ q. same_points old new m m' NoCorner NoCorner Ends Ends recount_old recount_new q (λ x. x) (λ x. x)),
    (
      count_of_edge new m' (corner_at is.tri k) (corner_at is.tri (after k)) c (face_edge new s (recounted_face is.tri k c) first here_real is.in_s),
      (λ q r none. same_counts old new m m' NoCorner NoCorner Ends Ends recount_old recount_new q r none none),
    ),
  )

pub recount_law : RecountLaw
recount_law old new s k n c m m' is = recount_content old new s k n c m m' is
