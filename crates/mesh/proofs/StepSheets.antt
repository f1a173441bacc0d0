-- Each step keeps a sheet.
use Rattle.std.specs.Prelude.{pos, ◌<ℤ◌}
use Rattle.std.proofs.Common.{◌≡◌, ◌<◌, ℕ, zero, suc, Bool, true, false, Some, List, refl, sym, ap, ◌∙◌, inl, inr, subst, arith}
use Rattle.std.specs.List.{All}
use Rattle.std.specs.Option.{option_map}
use Rattle.std.proofs.lemmas.Bool.{cases_eq}
use Rattle.std.proofs.lemmas.Option.{none-some}
use Rattle.ground_model.specs.declared.corner.Corner.{Corner}
use Rattle.ground_model.specs.declared.corner.Corner.TheVariants.{At, Far}
use Rattle.ground_model.specs.Corner.{corner_side}
use Rattle.ground_model.specs.Place.{Coords, IsPlace}
use Rattle.predicates.specs.Far.{is_far, IsKnown}
use Rattle.predicates.proofs.FarSides.{far-side01, far-side12, far-side20, far-turned}
use Rattle.predicates.proofs.Signs.{never-level}
use Rattle.tri_pages.specs.declared.tri_slot.TriSlot.{TriSlot}
use Rattle.tri_pages.specs.Slots.{State, triangle_at, joined}
use Rattle.mesh.specs.Acrosses.{apex, IsInner}
use Rattle.mesh.specs.EdgeSplits.{IsEdgeSplit, start_face, end_face}
use Rattle.mesh.specs.Faces.{face}
use Rattle.mesh.specs.FarTriangle.{far, far_alone}
use Rattle.mesh.specs.Flips.{IsFlipped, flip_face_one, flip_face_two}
use Rattle.mesh.specs.Insides.{IsInSlot, IsOnSlot, IsConvexAt}
use Rattle.mesh.specs.Installs.{IsInstalled, IsTurnedPatch, patch_face}
use Rattle.mesh.specs.declared.patch.Patch.{Patch}
use Rattle.mesh.specs.Meshes.{IsMesh}
use Rattle.mesh.specs.Net.{Side, first, second, third, after, corner_at, count_at, next_at, edge, edge_of, slots_of, outside, rim}
use Rattle.mesh.specs.Recounts.{IsRecounted, recounted_face}
use Rattle.mesh.specs.Sheets.{IsTurned, IsSheetMesh}
use Rattle.mesh.specs.Splits.{IsSplit, split_face}
use Rattle.mesh.specs.Stamps.{IsStamped}
use Rattle.mesh.specs.Unsplits.{IsUnsplit, IsUnsplittable, whole_face}
use Rattle.mesh.proofs.Corners.{owner}
use Rattle.mesh.proofs.FarTriangle.{far_mesh}
use Rattle.mesh.proofs.Lists.{get_at, is_in, each_slice}
use Rattle.mesh.proofs.InSheets.{left_at, left_across}
use Rattle.mesh.proofs.NamedEdges.{same_in}
use Rattle.mesh.proofs.SheetLaw.{standing, real}
use Rattle.mesh.proofs.TurnedFaces.{made_turned, kept_turned, IsFarSide, far_as, part_turned, flip_one_turned, flip_two_turned, recount_turned, start_turned, end_turned, on_across, whole_turned}
use Rattle.mesh.proofs.TurnedSlots.{by_side}

pub split_sheet : (old new : List State) (s f g : ℕ) (p : Coords) → IsSheetMesh old → IsMesh new → IsSplit old new s f g (At p) → IsPlace p → IsInSlot old s p → IsSheetMesh new
split_sheet old new s f g p m mesh is place inside =
    let x = m.turned s is.tri is.was in
    let h = inside is.tri is.was in
    record {
      mesh = mesh;
      turned = λ i t there. elim (cases_eq i s) as (λ _. IsTurned t) [
        | inl e ↦ made_turned new s t (split_face is.tri first (At p)) mesh is.in_s (ap (triangle_at new) (sym e) ∙ there) (part_turned is.tri first p x place (h first))
        | inr not_s ↦ elim (cases_eq i f) as (λ _. IsTurned t) [
          | inl e ↦ made_turned new f t (split_face is.tri second (At p)) mesh is.in_f (ap (triangle_at new) (sym e) ∙ there) (part_turned is.tri second p x place (h second))
          | inr not_f ↦ elim (cases_eq i g) as (λ _. IsTurned t) [
            | inl e ↦ made_turned new g t (split_face is.tri third (At p)) mesh is.in_g (ap (triangle_at new) (sym e) ∙ there) (part_turned is.tri third p x place (h third))
            | inr not_g ↦ kept_turned old new i t m mesh (is.rest i not_s not_f not_g) there
          ]
        ]
      ];
    }

pub flip_sheet : (old new : List State) (s : ℕ) (k : Side) (n : ℕ) → IsSheetMesh old → IsMesh new → IsFlipped old new s k n → IsConvexAt old s k → IsSheetMesh new
flip_sheet old new s k n m mesh is convex =
    let x = m.turned s is.tri is.here in
    let y = m.turned n is.beyond is.across.there in
    let q = convex is.tri n is.beyond is.back is.here is.across in
    record {
      mesh = mesh;
      turned = λ i t there. elim (cases_eq i s) as (λ _. IsTurned t) [
        | inl e ↦ made_turned new s t (flip_face_one is.tri k is.beyond is.back) mesh is.in_s (ap (triangle_at new) (sym e) ∙ there) (flip_one_turned old is.tri k n is.beyond is.back x y is.across q)
        | inr not_s ↦ elim (cases_eq i n) as (λ _. IsTurned t) [
          | inl e ↦ made_turned new n t (flip_face_two is.tri k is.beyond is.back) mesh is.in_n (ap (triangle_at new) (sym e) ∙ there) (flip_two_turned old is.tri k n is.beyond is.back x y is.across q)
          | inr not_n ↦ kept_turned old new i t m mesh (is.rest i not_s not_n) there
        ]
      ];
    }

pub recount_sheet : (old new : List State) (s : ℕ) (k : Side) (n c : ℕ) → IsSheetMesh old → IsMesh new → IsRecounted old new s k n c → ((t : TriSlot) → triangle_at old s ≡ Some t → IsFarSide (corner_at t k) (corner_at t (after k)) → ⊥) → IsSheetMesh new
recount_sheet old new s k n c m mesh is places =
    let x = m.turned s is.tri is.here in
    let y = m.turned n is.beyond is.across.there in
    record {
      mesh = mesh;
      turned = λ i t there. elim (cases_eq i s) as (λ _. IsTurned t) [
        | inl e ↦ made_turned new s t (recounted_face is.tri k c) mesh is.in_s (ap (triangle_at new) (sym e) ∙ there) (recount_turned is.tri k c x (left_at old m s is.tri k is.here) (places is.tri is.here))
        | inr not_s ↦ elim (cases_eq i n) as (λ _. IsTurned t) [
          | inl e ↦ made_turned new n t (recounted_face is.beyond is.back c) mesh is.in_n (ap (triangle_at new) (sym e) ∙ there)
              (recount_turned is.beyond is.back c y (left_at old m n is.beyond is.back is.across.there) (λ h. places is.tri is.here (elim (far_as (corner_at is.beyond is.back) (corner_at is.beyond (after is.back)) (corner_at is.tri (after k)) (corner_at is.tri k) is.across.starts is.across.ends h) as (λ _. IsFarSide (corner_at is.tri k) (corner_at is.tri (after k))) [ inl a ↦ inr a | inr a ↦ inl a ])))
          | inr not_n ↦ kept_turned old new i t m mesh (is.rest i not_s not_n) there
        ]
      ];
    }

pub edge_split_sheet : (old new : List State) (s : ℕ) (k : Side) (p : Coords) (n f g : ℕ) → IsSheetMesh old → IsMesh new → IsEdgeSplit old new s k (At p) n f g → IsPlace p → IsOnSlot old s k p → IsSheetMesh new
edge_split_sheet old new s k p n f g m mesh is place on =
    let x = m.turned s is.tri is.here in
    let y = m.turned n is.beyond is.across.there in
    let a = on is.tri is.here in
    let b = on_across old is.tri k n is.beyond is.back p is.across (left_at old m s is.tri k is.here) (left_across old m s n is.tri is.beyond k is.back is.here is.across) a in
    record {
      mesh = mesh;
      turned = λ i t there. elim (cases_eq i s) as (λ _. IsTurned t) [
        | inl e ↦ made_turned new s t (start_face is.tri k (At p)) mesh is.in_s (ap (triangle_at new) (sym e) ∙ there) (start_turned is.tri k p x place a)
        | inr not_s ↦ elim (cases_eq i n) as (λ _. IsTurned t) [
          | inl e ↦ made_turned new n t (start_face is.beyond is.back (At p)) mesh is.in_n (ap (triangle_at new) (sym e) ∙ there) (start_turned is.beyond is.back p y place b)
          | inr not_n ↦ elim (cases_eq i f) as (λ _. IsTurned t) [
            | inl e ↦ made_turned new f t (end_face is.tri k (At p)) mesh is.in_f (ap (triangle_at new) (sym e) ∙ there) (end_turned is.tri k p x place a)
            | inr not_f ↦ elim (cases_eq i g) as (λ _. IsTurned t) [
              | inl e ↦ made_turned new g t (end_face is.beyond is.back (At p)) mesh is.in_g (ap (triangle_at new) (sym e) ∙ there) (end_turned is.beyond is.back p y place b)
              | inr not_g ↦ kept_turned old new i t m mesh (is.rest i not_s not_n not_f not_g) there
            ]
          ]
        ]
      ];
    }

pub unsplit_sheet : (old new : List State) (s : ℕ) (k : Side) (f g : ℕ) → IsSheetMesh old → IsMesh new → (is : IsUnsplit old new s k f g) → apex is.before is.before_side ≡ apex is.ahead is.ahead_side → IsSheetMesh new
unsplit_sheet old new s k f g m mesh is same =
    let x = m.turned s is.tri is.here in
    let y = m.turned f is.ahead is.around.ahead.there in
    let z = m.turned g is.before is.around.before.there in
    record {
      mesh = mesh;
      turned = λ i t there. elim (cases_eq i s) as (λ _. IsTurned t) [
        | inl e ↦ made_turned new s t (whole_face is.tri k is.ahead is.ahead_side is.before is.before_side) mesh is.in_s (ap (triangle_at new) (sym e) ∙ there)
            (whole_turned old is.tri k f is.ahead is.ahead_side g is.before is.before_side x y z is.around same
            (left_at old m s is.tri k is.here) (left_at old m f is.ahead is.ahead_side is.around.ahead.there) (left_at old m g is.before is.before_side is.around.before.there))
        | inr not_s ↦ elim (cases_eq i f) as (λ _. IsTurned t) [
          | inl e ↦ absurd (none-some t (sym (ap joined is.f_free) ∙ ap (triangle_at new) (sym e) ∙ there))
          | inr not_f ↦ elim (cases_eq i g) as (λ _. IsTurned t) [
            | inl e ↦ absurd (none-some t (sym (ap joined is.g_free) ∙ ap (triangle_at new) (sym e) ∙ there))
            | inr not_g ↦ kept_turned old new i t m mesh (is.rest i not_s not_f not_g) there
          ]
        ]
      ];
    }

pub stamp_sheet : (old new : List State) (s front : ℕ) → IsSheetMesh old → IsMesh new → IsStamped old new s front → IsSheetMesh new
stamp_sheet old new s front m mesh is = record {
  mesh = mesh;
  turned = λ i t there. elim (cases_eq i s) as (λ _. IsTurned t) [
    | inl e ↦
        let w = same_in _ t (sym is.in_s ∙ ap (slots_of new) (sym e) ∙ standing new mesh i t there) in
        let x = m.turned s is.tri is.was in
        subst (λ y. IsTurned y) w (record { known = x.known; left = x.left; uncounted = x.uncounted })
    | inr ne ↦ kept_turned old new i t m mesh (ap (option_map face) (is.rest i ne)) there
  ];
}

-- a counted edge joins two places
pub counted_places : (t : TriSlot) (k : Side) → IsTurned t → 0 < count_at t k → IsFarSide (corner_at t k) (corner_at t (after k)) → ⊥
counted_places t k x h far = omega (arith, h, x.uncounted k far)

-- where nothing stands across an edge, it is one of the rim, the other way
pub rim_side : (slots : List State) (m : IsSheetMesh slots) (s : ℕ) (t : TriSlot) (k : Side) → triangle_at slots s ≡ Some t → next_at t k ≡ outside → (v : Side) × (corner_at rim v ≡ corner_at t (after k)) × (corner_at rim (after v) ≡ corner_at t k)
rim_side slots m s t k there out =
    let x = m.mesh.net.met s k (edge t k) (ap (λ o. edge_of o k) (standing slots m.mesh s t there)) in
    let o = owner (slots_of slots x.slot) x.side x.edge x.there in
    let at : x.slot ≡ outside = sym (x.next_is (real slots m.mesh s t there) (λ z. z)) ∙ out in
    let is_rim : rim ≡ o.tri = same_in rim o.tri (sym (ap (slots_of slots) at) ∙ o.there) in (
      x.side,
      ap (λ y. corner_at y x.side) is_rim ∙ ap (λ y. y.tail) o.edge_is ∙ x.back_tail,
      ap (λ y. corner_at y (after x.side)) is_rim ∙ ap (λ y. y.head) o.edge_is ∙ x.back_head,
    )

-- so an edge between places is inner
pub places_inner : (slots : List State) (m : IsSheetMesh slots) (s : ℕ) (k : Side) → ((t : TriSlot) → triangle_at slots s ≡ Some t → IsFarSide (corner_at t k) (corner_at t (after k)) → ⊥) → IsInner slots s k
places_inner slots m s k places = λ t there out.
    let r = rim_side slots m s t k there out in
    places t there (by_side (λ v. corner_at rim v ≡ corner_at t (after k) → IsFarSide (corner_at t k) (corner_at t (after k)))
    (λ e. inr (ap is_far (sym e))) (λ e. inr (ap is_far (sym e))) (λ e. inr (ap is_far (sym e))) r.0 r.1)

-- and one on which a place lies
pub on_inner : (slots : List State) (m : IsSheetMesh slots) (s : ℕ) (k : Side) (p : Coords) → IsPlace p → IsOnSlot slots s k p → IsInner slots s k
on_inner slots m s k p place on = λ t there out.
    let r = rim_side slots m s t k there out in
    let flat = (on t there).flat in
    by_side (λ v. corner_at rim v ≡ corner_at t (after k) → corner_at rim (after v) ≡ corner_at t k → ⊥)
    (λ e f. never-level (corner_side (Far 2) (Far 0) (At p)) (far-side20 p place) ((λ i. corner_side (f i) (e i) (At p)) ∙ flat))
    (λ e f. never-level (corner_side (Far 1) (Far 2) (At p)) (far-side12 p place) ((λ i. corner_side (f i) (e i) (At p)) ∙ flat))
    (λ e f. never-level (corner_side (Far 0) (Far 1) (At p)) (far-side01 p place) ((λ i. corner_side (f i) (e i) (At p)) ∙ flat))
    r.0 r.1 r.2

no_false : true ≡ false → ⊥
no_false e = cc

-- an edge between two places has no far corner
pub joined_places : (a b : Corner) → (is_far a ≡ false) × (is_far b ≡ false) → IsFarSide a b → ⊥
joined_places a b h (inl e) = no_false (sym e ∙ h.0)
joined_places a b h (inr e) = no_false (sym e ∙ h.1)

pub places_joined : (a b : Corner) → (IsFarSide a b → ⊥) → (is_far a ≡ false) × (is_far b ≡ false)
places_joined a b h = (by a (is_far a) refl (λ e. h (inl e)), by b (is_far b) refl (λ e. h (inr e)))
  where
    by : (c : Corner) (x : Bool) → is_far c ≡ x → (is_far c ≡ true → ⊥) → is_far c ≡ false
    by c true e ne = absurd (ne e)
    by c false e ne = e

pub round_same : (old new : List State) (s : ℕ) (k : Side) (f g : ℕ) → IsUnsplittable old s k → (is : IsUnsplit old new s k f g) → apex is.before is.before_side ≡ apex is.ahead is.ahead_side
round_same old new s k f g u is = u.three is.tri f is.ahead is.ahead_side g is.before is.before_side is.here is.around

-- the far triangle alone
pub far_sheet : IsSheetMesh far_alone
far_sheet = record {
  mesh = far_mesh;
  turned = λ s t there. by s t there;
}
  where
    far_is : IsTurned far
    far_is = record {
      known = by_side (λ k. IsKnown (corner_at far k)) (omega arith) (omega arith) (omega arith);
      left = far-turned;
      uncounted = by_side (λ k. IsFarSide (corner_at far k) (corner_at far (after k)) → count_at far k ≡ 0) (λ _. refl) (λ _. refl) (λ _. refl);
    }

    by : (s : ℕ) (t : TriSlot) → triangle_at far_alone s ≡ Some t → IsTurned t
    by zero t e = subst (λ u. IsTurned u) (same_in far t e) far_is
    by (suc s) t e = absurd (none-some t e)

pub install_sheet : (old new : List State) (olds : List ℕ) (patch : List Patch) (front : ℕ) → IsSheetMesh old → IsMesh new → IsInstalled old new olds patch front → All IsTurnedPatch patch → IsSheetMesh new
install_sheet old new olds patch front m mesh is turned = record {
  mesh = mesh;
  turned = λ s t there. elim (is_in is.slots s) as (λ _. IsTurned t) [
    | inl i ↦
        let p = get_at is.slots patch i.0 s i.1 (sym is.as_many) in
        let x = each_slice IsTurnedPatch patch i.0 p.0 turned p.1 in
        made_turned new s t (patch_face p.0 front) mesh (is.placed i.0 s p.0 i.1 p.1) there (record { known = x.known; left = x.left; uncounted = x.uncounted })
    | inr kept ↦ elim (is_in olds s) as (λ _. IsTurned t) [
      | inl j ↦ absurd (none-some t (sym (ap joined (is.gone j.0 s j.1 kept)) ∙ there))
      | inr apart ↦ kept_turned old new s t m mesh (is.rest s apart kept) there
    ]
  ];
}

-- each place lies strictly inside the far triangle
pub far_inside : (slots : List State) (p : Coords) → slots ≡ far_alone → IsPlace p → IsInSlot slots 0 p
far_inside slots p is place = λ t there.
    let same : far ≡ t = same_in far t (sym (ap (λ ps. triangle_at ps 0) is) ∙ there) in
    subst (λ u. (k : Side) → pos 0 <ℤ corner_side (corner_at u k) (corner_at u (after k)) (At p)) same
    (by_side (λ k. pos 0 <ℤ corner_side (corner_at far k) (corner_at far (after k)) (At p)) (far-side01 p place) (far-side12 p place) (far-side20 p place))
