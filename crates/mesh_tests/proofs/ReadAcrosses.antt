-- What was read across edges tells what the steps ask for.
use Rattle.std.proofs.Common.{◌≡◌, inl, inr, ℕ, false, Some, List, sym, ap, ◌∙◌, subst}
use Rattle.predicates.specs.Far.{is_far, IsKnown}
use Rattle.tri_pages.specs.declared.tri_slot.TriSlot.{TriSlot}
use Rattle.tri_pages.specs.Slots.{State, triangle_at}
use Rattle.mesh.specs.Acrosses.{apex, IsAcross, IsInner}
use Rattle.mesh.specs.EdgeUnsplits.{AreFour}
use Rattle.mesh.specs.Insides.{IsConvexOver}
use Rattle.mesh.specs.Meshes.{IsMesh}
use Rattle.mesh.specs.Net.{Side, after, corner_at, count_at, next_at}
use Rattle.mesh.specs.Sheets.{IsSheetMesh}
use Rattle.mesh.specs.StepLaws.{CanFlip}
use Rattle.mesh.specs.Straights.{IsBeyond, IsLineSide, IsStraight, IsStraightAt, IsThrough}
use Rattle.mesh.specs.Unsplits.{IsUnsplittable}
use Rattle.mesh.proofs.EdgeUnsplits.{round_side}
use Rattle.mesh.proofs.LineSides.{across_one}
use Rattle.mesh.proofs.NamedEdges.{same_in}
use Rattle.mesh.proofs.Slots.{is_some, live_real}

pub known : (slots : List State) (s : ℕ) (t : TriSlot) (k : Side) → IsSheetMesh slots → triangle_at slots s ≡ Some t → IsKnown (corner_at t k)
known slots s t k sheet here = (sheet.turned s t here).known k

-- an edge across which a triangle was read is inner
pub inner : (slots : List State) (s : ℕ) (k : Side) (t : TriSlot) (n : ℕ) (u : TriSlot) (j : Side) → IsMesh slots → triangle_at slots s ≡ Some t → IsAcross slots t k n u j → IsInner slots s k
inner slots s k t n u j mesh here a t' here' out =
    live_real slots n mesh.few (is_some (triangle_at slots n) u a.there) (a.slot_is ∙ ap (λ x. next_at x k) (same_in t t' (sym here ∙ here')) ∙ out)

-- what stands there is what was read
pub seen : (slots : List State) → IsMesh slots → (s : ℕ) (k : Side) (t : TriSlot) (n : ℕ) (u : TriSlot) (j : Side) → triangle_at slots s ≡ Some t → IsAcross slots t k n u j
    → (t' : TriSlot) (n' : ℕ) (u' : TriSlot) (j' : Side) → triangle_at slots s ≡ Some t' → IsAcross slots t' k n' u' j' → (t ≡ t') × ((u ≡ u') × (j ≡ j'))
seen slots mesh s k t n u j here a t' n' u' j' here' a' =
    let e : t ≡ t' = same_in t t' (sym here ∙ here') in
    (e, across_one slots mesh t' k n u j n' u' j' (subst (λ y. IsAcross slots y k n u j) e a) a')

pub flip_seen : (slots : List State) (s : ℕ) (k : Side) (t : TriSlot) (n : ℕ) (u : TriSlot) (j : Side) → IsSheetMesh slots → triangle_at slots s ≡ Some t → IsAcross slots t k n u j → count_at t k ≡ 0
    → IsConvexOver (corner_at t k) (corner_at t (after k)) (apex t k) (apex u j) → CanFlip slots s k
flip_seen slots s k t n u j sheet here a free convex = record {
  live = is_some (triangle_at slots s) t here;
  inner = inner slots s k t n u j sheet.mesh here a;
  uncounted = λ t' here'. subst (λ y. count_at y k ≡ 0) (same_in t t' (sym here ∙ here')) free;
  convex = λ t' n' u' j' here' a'.
      let q = seen slots sheet.mesh s k t n u j here a t' n' u' j' here' a' in
      subst (λ z. z) (λ i. IsConvexOver (corner_at (q.0 i) k) (corner_at (q.0 i) (after k)) (apex (q.0 i) k) (apex (q.1.0 i) (q.1.1 i))) convex;
}

pub unsplit_seen : (slots : List State) (s : ℕ) (k : Side) (t : TriSlot) (f : ℕ) (u : TriSlot) (j : Side) (g : ℕ) (v : TriSlot) (l : Side) → IsSheetMesh slots → triangle_at slots s ≡ Some t
    → IsAcross slots t (after k) f u j → IsAcross slots t (after (after k)) g v l → apex v l ≡ apex u j → count_at t (after k) ≡ 0 → count_at t (after (after k)) ≡ 0 → count_at u (after (after j)) ≡ 0 → IsUnsplittable slots s k
unsplit_seen slots s k t f u j g v l sheet here a b closed free free_back free_third = record {
  live = is_some (triangle_at slots s) t here;
  inner = inner slots s (after k) t f u j sheet.mesh here a;
  inner_back = inner slots s (after (after k)) t g v l sheet.mesh here b;
  three = λ t' f' u' j' g' v' l' here' x.
      let q = seen slots sheet.mesh s (after k) t f u j here a t' f' u' j' here' x.ahead in
      let r = seen slots sheet.mesh s (after (after k)) t g v l here b t' g' v' l' here' x.before in
      subst (λ z. z) (λ i. apex (r.1.0 i) (r.1.1 i) ≡ apex (q.1.0 i) (q.1.1 i)) closed;
  uncounted = λ t' here'.
      let e = same_in t t' (sym here ∙ here') in
      (subst (λ y. count_at y (after k) ≡ 0) e free, subst (λ y. count_at y (after (after k)) ≡ 0) e free_back);
  uncounted_third = λ t' f' u' j' here' a'.
      let q = seen slots sheet.mesh s (after k) t f u j here a t' f' u' j' here' a' in
      subst (λ z. z) (λ i. count_at (q.1.0 i) (after (after (q.1.1 i))) ≡ 0) free_third;
}

-- the four triangles that were read
pub four_seen : (slots : List State) → IsMesh slots → (s : ℕ) (k : Side) (t : TriSlot) (f : ℕ) (u : TriSlot) (j : Side) (n : ℕ) (w : TriSlot) (i : Side) (g : ℕ) (v : TriSlot) (l : Side) → triangle_at slots s ≡ Some t → AreFour slots t k f u j n w i g v l
    → IsStraight t k u j w i v l
    → (t' : TriSlot) (f' : ℕ) (u' : TriSlot) (j' : Side) (n' : ℕ) (w' : TriSlot) (i' : Side) (g' : ℕ) (v' : TriSlot) (l' : Side) → triangle_at slots s ≡ Some t' → AreFour slots t' k f' u' j' n' w' i' g' v' l' → IsStraight t' k u' j' w' i' v' l'
four_seen slots mesh s k t f u j n w i g v l here x is t' f' u' j' n' w' i' g' v' l' here' x' =
    let a = seen slots mesh s (after k) t f u (after (after j)) here x.ahead t' f' u' (after (after j')) here' x'.ahead in
    let jj : j ≡ j' = sym (round_side j) ∙ ap after a.1.1 ∙ round_side j' in
    let below = subst (λ z. z) (λ m. IsAcross slots (a.1.0 m) (jj m) n w i) x.below in
    let b = across_one slots mesh u' j' n w i n' w' i' below x'.below in
    let c = seen slots mesh s k t g v l here x.under t' g' v' l' here' x'.under in
    subst (λ z. z) (λ m. IsStraight (a.0 m) k (a.1.0 m) (jj m) (b.0 m) (b.1 m) (c.1.0 m) (c.1.1 m)) is

pub straight_seen : (slots : List State) → IsMesh slots → (s : ℕ) (k : Side) (t : TriSlot) (f : ℕ) (u : TriSlot) (j : Side) (n : ℕ) (w : TriSlot) (i : Side) (g : ℕ) (v : TriSlot) (l : Side) → triangle_at slots s ≡ Some t → AreFour slots t k f u j n w i g v l
    → IsStraight t k u j w i v l → is_far (corner_at t (after k)) ≡ false → IsStraightAt slots s k
straight_seen slots mesh s k t f u j n w i g v l here x is place = record {
  live = is_some (triangle_at slots s) t here;
  place = λ t' here'. subst (λ y. is_far (corner_at y (after k)) ≡ false) (same_in t t' (sym here ∙ here')) place;
  four = four_seen slots mesh s k t f u j n w i g v l here x is;
}

-- the line goes through the two edges that were looked at
pub line_seen : (slots : List State) → IsMesh slots → (s : ℕ) (k : Side) (t : TriSlot) (m : ℕ) (y : TriSlot) (b : Side) → triangle_at slots s ≡ Some t → IsAcross slots t k m y b
    → (IsThrough slots s k → IsStraightAt slots s (after (after k))) → ((IsThrough slots s k → ⊥) → IsStraightAt slots m b) → (n : ℕ) (j : Side) → IsLineSide slots s k n j → IsStraightAt slots n j
line_seen slots mesh s k t m y b here a through other n j line =
    elim line as (λ _. IsStraightAt slots n j) [
      | inl h ↦ subst (λ z. z) (λ i. IsStraightAt slots (sym h.1.0 i) (sym h.1.1 i)) (through h.0)
      | inr h ↦
          let x : IsBeyond slots s k n j = h.1 in
          let q = seen slots mesh s k t m y b here a x.tri n x.beyond j x.here x.across in
          let is : m ≡ n = a.slot_is ∙ ap (λ z. next_at z k) q.0 ∙ sym x.across.slot_is in
          subst (λ z. z) (λ i. IsStraightAt slots (is i) (q.1.1 i)) (other h.0)
    ]
