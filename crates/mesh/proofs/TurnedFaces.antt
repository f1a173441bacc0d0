-- Faces are counterclockwise, by the steps that make them.
use Rattle.std.proofs.Common.{◌≡◌, ◌⊎◌, ℕ, true, Some, List, [], ◌∷◌, refl, sym, ap, ◌∙◌, inl, inr, subst, arith}
use Rattle.std.specs.Prelude.{ℤ, pos, ◌<ℤ◌, ◌+ℤ◌, ◌*ℤ◌, neg_ℤ}
use Rattle.std.specs.Option.{option_map}
use Rattle.std.proofs.lemmas.Int.{ints, by_lt_z}
use Rattle.ground_model.specs.declared.corner.Corner.{Corner}
use Rattle.ground_model.specs.declared.corner.Corner.TheVariants.{At}
use Rattle.ground_model.specs.Corner.{corner_at as place_of, corner_side}
use Rattle.ground_model.specs.Place.{Coords, IsPlace}
use Rattle.ground_model.specs.Side.{side}
use Rattle.ground_model.proofs.Circle.{env, sideE, side-turned, side-parts}
use Rattle.ground_model.proofs.Ring.{◌⊕◌, ◌⊗◌, ring}
use Rattle.ground_model.proofs.ZOrder.{mul-positive}
use Rattle.predicates.specs.Far.{is_far}
use Rattle.predicates.proofs.FlatSides.{flat_bc, flat_ca, side-back}
use Rattle.predicates.proofs.NearCorners.{times-zero, zero-times}
use Rattle.predicates.proofs.Signs.{weaken, never-low, mul-mixed, positive-along}
use Rattle.tri_pages.specs.declared.tri_slot.TriSlot.{TriSlot}
use Rattle.tri_pages.specs.Slots.{State, triangle_at}
use Rattle.mesh.specs.Acrosses.{apex, IsAcross}
use Rattle.mesh.specs.EdgeSplits.{start_face, end_face}
use Rattle.mesh.specs.Faces.{Face, face, face_at}
use Rattle.mesh.specs.Flips.{flip_face_one, flip_face_two}
use Rattle.mesh.specs.Insides.{IsOnEdge, IsConvexOver}
use Rattle.mesh.specs.Meshes.{IsMesh}
use Rattle.mesh.specs.Net.{Side, after, corner_at, count_at, slots_of}
use Rattle.mesh.specs.Recounts.{recounted_face}
use Rattle.mesh.specs.Sheets.{IsTurned, IsSheetMesh}
use Rattle.mesh.specs.Splits.{split_face}
use Rattle.mesh.specs.Unsplits.{AreAround, whole_face}
use Rattle.mesh.proofs.Corners.{thrice}
use Rattle.mesh.proofs.Filled.{faced}
use Rattle.mesh.proofs.NamedEdges.{same_in}
use Rattle.mesh.proofs.SheetLaw.{real, standing}
use Rattle.mesh.proofs.Slots.{slot_in}
use Rattle.mesh.proofs.TurnedSlots.{by_side}

-- a triangle with the face
abbrev pub as_tri : Face → TriSlot
as_tri f = record { corners = f.corners; counts = f.counts; next = []; stamp = f.stamp }

abbrev pub IsTurnedFace : Face → Type 0
IsTurnedFace f = IsTurned (as_tri f)

pub turned_by : (t : TriSlot) (f : Face) → face t ≡ f → IsTurnedFace f → IsTurned t
turned_by t f e x = let y = subst (λ g. IsTurned (as_tri g)) (sym e) x in record { known = y.known; left = y.left; uncounted = y.uncounted }

pub face_turned : (t : TriSlot) → IsTurned t → IsTurnedFace (face t)
face_turned t x = record { known = x.known; left = x.left; uncounted = x.uncounted }

-- a slot with a face that was made
pub made_turned : (new : List State) (s : ℕ) (t : TriSlot) (f : Face) → IsMesh new → face_at (slots_of new) s ≡ Some f → triangle_at new s ≡ Some t → IsTurnedFace f → IsTurned t
made_turned new s t f mesh is there x = turned_by t f (same_in (face t) f (sym (ap (option_map face) (standing new mesh s t there)) ∙ is)) x

-- and one that kept its face
pub kept_turned : (old new : List State) (s : ℕ) (t : TriSlot) → IsSheetMesh old → IsMesh new → face_at (slots_of new) s ≡ face_at (slots_of old) s → triangle_at new s ≡ Some t → IsTurned t
kept_turned old new s t m mesh kept there =
    let w = faced (slots_of old s) (face t) (sym kept ∙ ap (option_map face) (standing new mesh s t there)) in
    turned_by t (face w.tri) (sym w.same) (face_turned w.tri (m.turned s w.tri (sym (slot_in old s (real new mesh s t there)) ∙ w.is)))

-- an edge with a far corner
abbrev pub IsFarSide : Corner → Corner → Type 0
IsFarSide a b = (is_far a ≡ true) ⊎ (is_far b ≡ true)

pub far_as : (a b c d : Corner) → a ≡ c → b ≡ d → IsFarSide a b → IsFarSide c d
far_as a b c d e f h = subst (λ x. x) (λ i. IsFarSide (e i) (f i)) h

pub no_far : (p : Coords) → is_far (At p) ≡ true → ⊥
no_far p e = cc

pub part_turned : (t : TriSlot) (k : Side) (p : Coords) → IsTurned t → IsPlace p → pos 0 <ℤ corner_side (corner_at t k) (corner_at t (after k)) (At p) → IsTurnedFace (split_face t k (At p))
part_turned t k p x place h = record {
  known = by_side _ (x.known k) (x.known (after k)) place;
  left = h;
  uncounted = by_side _ (x.uncounted k) (λ _. refl) (λ _. refl);
}

module _ (slots : List State) (t : TriSlot) (k : Side) (n : ℕ) (u : TriSlot) (j : Side) (x : IsTurned t) (y : IsTurned u) (across : IsAcross slots t k n u j) where
  pub flip_one_turned : IsConvexOver (corner_at t k) (corner_at t (after k)) (apex t k) (apex u j) → IsTurnedFace (flip_face_one t k u j)
  flip_one_turned q = record {
    known = by_side _ (x.known k) (y.known (after (after j))) (x.known (after (after k)));
    left = q.at_a;
    uncounted = by_side _ (λ h. y.uncounted (after j) (far_as (corner_at t k) (apex u j) (corner_at u (after j)) (apex u j) (sym across.ends) refl h)) (λ _. refl)
        (λ h. x.uncounted (after (after k)) (far_as (apex t k) (corner_at t k) (apex t k) (corner_at t (after (after (after k)))) refl (sym (thrice t k)) h));
  }

  pub flip_two_turned : IsConvexOver (corner_at t k) (corner_at t (after k)) (apex t k) (apex u j) → IsTurnedFace (flip_face_two t k u j)
  flip_two_turned q = record {
    known = by_side _ (y.known (after (after j))) (x.known (after k)) (x.known (after (after k)));
    left = q.at_b;
    uncounted = by_side _ (λ h. y.uncounted (after (after j)) (far_as (apex u j) (corner_at t (after k)) (apex u j) (corner_at u (after (after (after j)))) refl (sym (thrice u j ∙ across.starts)) h)) (x.uncounted (after k)) (λ _. refl);
  }

-- an edge between places has another count
pub recount_turned : (t : TriSlot) (k : Side) (m : ℕ) → IsTurned t → pos 0 <ℤ corner_side (corner_at t k) (corner_at t (after k)) (apex t k) → (IsFarSide (corner_at t k) (corner_at t (after k)) → ⊥) → IsTurnedFace (recounted_face t k m)
recount_turned t k m x left places = record {
  known = by_side _ (x.known k) (x.known (after k)) (x.known (after (after k)));
  left = left;
  uncounted = by_side _ (λ h. absurd (places h)) (x.uncounted (after k))
      (λ h. x.uncounted (after (after k)) (far_as (apex t k) (corner_at t k) (apex t k) (corner_at t (after (after (after k)))) refl (sym (thrice t k)) h));
}

pub start_turned : (t : TriSlot) (k : Side) (p : Coords) → IsTurned t → IsPlace p → IsOnEdge t k p → IsTurnedFace (start_face t k (At p))
start_turned t k p x place on = record {
  known = by_side _ (x.known k) place (x.known (after (after k)));
  left =
      positive-along (corner_side (corner_at t k) (At p) (apex t k)) (corner_side (apex t k) (corner_at t k) (At p))
      (side-turned (place_of (corner_at t k)) p (place_of (apex t k)) ∙ side-turned p (place_of (apex t k)) (place_of (corner_at t k))) on.ca;
  uncounted = by_side _ (λ h. elim h as (λ _. count_at t k ≡ 0) [ inl e ↦ x.uncounted k (inl e) | inr e ↦ absurd (no_far p e) ]) (λ _. refl)
      (λ h. x.uncounted (after (after k)) (far_as (apex t k) (corner_at t k) (apex t k) (corner_at t (after (after (after k)))) refl (sym (thrice t k)) h));
}

pub end_turned : (t : TriSlot) (k : Side) (p : Coords) → IsTurned t → IsPlace p → IsOnEdge t k p → IsTurnedFace (end_face t k (At p))
end_turned t k p x place on = record {
  known = by_side _ place (x.known (after k)) (x.known (after (after k)));
  left = positive-along (corner_side (At p) (corner_at t (after k)) (apex t k)) (corner_side (corner_at t (after k)) (apex t k) (At p)) (side-turned p (place_of (corner_at t (after k))) (place_of (apex t k))) on.bc;
  uncounted = by_side _ (λ h. elim h as (λ _. count_at t k ≡ 0) [ inl e ↦ absurd (no_far p e) | inr e ↦ x.uncounted k (inr e) ]) (x.uncounted (after k)) (λ _. refl);
}

-- the side of p and q at x, by those at the corners a, b and c
pub mixed : (p q a b c x : Coords) → side a b c *ℤ side p q x ≡ side b c x *ℤ side p q a +ℤ side c a x *ℤ side p q b +ℤ side a b x *ℤ side p q c
unfolding side
mixed p q a b c x = ring (env (p ∷ q ∷ a ∷ b ∷ c ∷ x ∷ [])) (sideE 2 3 4 ⊗ sideE 0 1 5) (sideE 3 4 5 ⊗ sideE 0 1 2 ⊕ sideE 4 2 5 ⊗ sideE 0 1 3 ⊕ sideE 2 3 5 ⊗ sideE 0 1 4) refl

pub factor : (s w : ℤ) → pos 0 <ℤ s → pos 0 <ℤ (s *ℤ w) → pos 0 <ℤ w
factor s w h k = by_lt_z (pos 0) w (λ lt. lt) (λ le. absurd (never-low (s *ℤ w) k (mul-mixed s w (weaken s h) le)))

pub first_alone : (r u v w : ℤ) → r ≡ u +ℤ v +ℤ w → pos 0 <ℤ u → v ≡ pos 0 → w ≡ pos 0 → pos 0 <ℤ r
first_alone r u v w e f g h = omega (arith, ints, e, f, g, h)

pub second_alone : (r u v w : ℤ) → r ≡ u +ℤ v +ℤ w → u ≡ pos 0 → pos 0 <ℤ v → w ≡ pos 0 → pos 0 <ℤ r
second_alone r u v w e f g h = omega (arith, ints, e, f, g, h)

-- a place on ab, strictly between its ends, lies so on ba
pub on_back : (a b c d p : Coords) → pos 0 <ℤ side a b c → pos 0 <ℤ side b a d → side a b p ≡ pos 0 → pos 0 <ℤ side b c p → pos 0 <ℤ side c a p → (pos 0 <ℤ side a d p) × (pos 0 <ℤ side d b p)
on_back a b c d p left right flat bc ca = (
  factor (side a b c) (side a d p) left
      (second_alone (side a b c *ℤ side a d p) (side b c p *ℤ side a d a) (side c a p *ℤ side a d b) (side a b p *ℤ side a d c) (mixed a d a b c p)
      (times-zero (side b c p) (side a d a) (flat_ca a d a refl))
      (mul-positive (side c a p) (side a d b) ca (positive-along (side a d b) (side b a d) (sym (side-turned b a d)) right))
      (zero-times (side a b p) (side a d c) flat)),
  factor (side a b c) (side d b p) left
      (first_alone (side a b c *ℤ side d b p) (side b c p *ℤ side d b a) (side c a p *ℤ side d b b) (side a b p *ℤ side d b c) (mixed d b a b c p)
      (mul-positive (side b c p) (side d b a) bc (positive-along (side d b a) (side b a d) (side-turned d b a) right))
      (times-zero (side c a p) (side d b b) (flat_bc d b b refl))
      (zero-times (side a b p) (side d b c) flat)),
)

pub on_across : (slots : List State) (t : TriSlot) (k : Side) (n : ℕ) (u : TriSlot) (j : Side) (p : Coords) → IsAcross slots t k n u j → pos 0 <ℤ corner_side (corner_at t k) (corner_at t (after k)) (apex t k) → pos 0 <ℤ corner_side (corner_at t (after k)) (corner_at t k) (apex u j)
    → IsOnEdge t k p → IsOnEdge u j p
on_across slots t k n u j p across left right on =
    let a = place_of (corner_at t k) in
    let b = place_of (corner_at t (after k)) in
    let sides = on_back a b (place_of (apex t k)) (place_of (apex u j)) p left right on.flat on.bc on.ca in
    record {
      flat = (λ i. corner_side (across.starts i) (across.ends i) (At p)) ∙ side-back a b p ∙ ap neg_ℤ on.flat;
      bc = subst (λ (z : Corner). pos 0 <ℤ corner_side z (apex u j) (At p)) (sym across.ends) sides.0;
      ca = subst (λ (z : Corner). pos 0 <ℤ corner_side (apex u j) z (At p)) (sym across.starts) sides.1;
    }

sum_of : (r u v w : ℤ) → u +ℤ v +ℤ w ≡ r → pos 0 <ℤ u → pos 0 <ℤ v → pos 0 <ℤ w → pos 0 <ℤ r
sum_of r u v w e f g h = omega (arith, ints, e, f, g, h)

-- three triangles round a corner become one
pub whole_turned : (slots : List State) (t : TriSlot) (k : Side) (f : ℕ) (u : TriSlot) (j : Side) (g : ℕ) (v : TriSlot) (l : Side) → IsTurned t → IsTurned u → IsTurned v → AreAround slots t k f u j g v l → apex v l ≡ apex u j
    → pos 0 <ℤ corner_side (corner_at t k) (corner_at t (after k)) (apex t k) → pos 0 <ℤ corner_side (corner_at u j) (corner_at u (after j)) (apex u j) → pos 0 <ℤ corner_side (corner_at v l) (corner_at v (after l)) (apex v l) → IsTurnedFace (whole_face t k u j v l)
whole_turned slots t k f u j g v l x y z around same left_t left_u left_v =
    let a = place_of (corner_at t k) in
    let b = place_of (corner_at t (after k)) in
    let p = place_of (apex t k) in
    let c = place_of (apex u j) in
    let pbc : pos 0 <ℤ side p b c = subst (λ h. h) (λ i. pos 0 <ℤ corner_side (around.ahead.starts i) (around.ahead.ends i) (apex u j)) left_u in
    let apc : pos 0 <ℤ side a p c = subst (λ h. h) (λ i. pos 0 <ℤ corner_side ((around.before.starts ∙ thrice t k) i) (around.before.ends i) (same i)) left_v in
    record {
      known = by_side _ (x.known k) (x.known (after k)) (y.known (after (after j)));
      left = sum_of (side a b c) (side b c p) (side c a p) (side a b p) (side-parts a b c p) (positive-along (side b c p) (side p b c) (sym (side-turned p b c)) pbc)
          (positive-along (side c a p) (side a p c) (sym (side-turned a p c ∙ side-turned p c a)) apc) left_t;
      uncounted = by_side _ (x.uncounted k) (λ h. y.uncounted (after j) (far_as (corner_at t (after k)) (apex u j) (corner_at u (after j)) (apex u j) (sym around.ahead.ends) refl h))
          (λ h. z.uncounted (after (after l)) (far_as (apex u j) (corner_at t k) (apex v l) (corner_at v (after (after (after l)))) (sym same) (sym (thrice v l ∙ around.before.starts ∙ thrice t k)) h));
    }
