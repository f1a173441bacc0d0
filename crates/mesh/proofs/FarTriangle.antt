-- The far triangle alone is a net.
use Rattle.std.proofs.Common.{◌≡◌, ◌+◌, ◌*◌, ℕ, suc, zero, Some, None, [], refl, sym, ap, ◌∙◌, arith, subst, inl, inr}
use Rattle.std.proofs.lemmas.Bool.{cases_eq}
use Rattle.std.proofs.lemmas.Option.{none-some}
use Rattle.ground_model.specs.declared.corner.Corner.{Corner}
use Rattle.ground_model.specs.declared.corner.Corner.TheVariants.{At, Far}
use Rattle.mesh.specs.Net.{Side, first, second, third, Edge, corner_at, edge, edges_of, rim, outside, slots_of, IsMet, IsNetBut, OpenIn}
use Rattle.mesh.specs.FarTriangle.{far, far_alone}
use Rattle.std.specs.Prelude.{List, ◌∷◌}
use Rattle.std.proofs.Common.{set}
use Rattle.tri_pages.specs.declared.tri_slot.TriSlot.{TriSlot}
use Rattle.tri_pages.specs.Slots.{State, state_at, joined, blank, holding, put}
use Rattle.mesh.specs.Corners.{Distinct}
use Rattle.ground_model.specs.Place.{Coords}
use Rattle.mesh.specs.Meshes.{corners_of, HasNoCorner, IsMesh}
use Rattle.mesh.proofs.NamedEdges.{same_in}

abbrev number : Corner → ℕ
number (At p) = 3
number (Far i) = i

abbrev key : Edge → ℕ
key e = number e.tail * 3 + number e.head

data Either (s : ℕ) (k : Side) (e : Edge) : Type 0 where
  low : s ≡ 0 → edge far k ≡ e → Either s k e
  out : s ≡ outside → edge rim k ≡ e → Either s k e

empty : (n : ℕ) (k : Side) → (suc n ≡ outside → ⊥) → edges_of (slots_of far_alone) (suc n) k ≡ None
empty n k ne = grind (arith, ne)

either : (s : ℕ) (k : Side) (e : Edge) → edges_of (slots_of far_alone) s k ≡ Some e → Either s k e
either zero k e h = low refl (same_in (edge far k) e h)
either (suc n) k e h = elim (cases_eq (suc n) outside) as (λ _. Either (suc n) k e) [
  | inl o ↦ out o (same_in (edge rim k) e (sym (ap (λ s. edges_of (slots_of far_alone) s k) o) ∙ h))
  | inr ne ↦ absurd (none-some e (sym (empty n k ne) ∙ h))
]

far_once : (k k' : Side) → key (edge far k) ≡ key (edge far k') → k ≡ k'
far_once first first h = refl
far_once first second h = absurd (omega (arith, h))
far_once first third h = absurd (omega (arith, h))
far_once second first h = absurd (omega (arith, h))
far_once second second h = refl
far_once second third h = absurd (omega (arith, h))
far_once third first h = absurd (omega (arith, h))
far_once third second h = absurd (omega (arith, h))
far_once third third h = refl

rim_once : (k k' : Side) → key (edge rim k) ≡ key (edge rim k') → k ≡ k'
rim_once first first h = refl
rim_once first second h = absurd (omega (arith, h))
rim_once first third h = absurd (omega (arith, h))
rim_once second first h = absurd (omega (arith, h))
rim_once second second h = refl
rim_once second third h = absurd (omega (arith, h))
rim_once third first h = absurd (omega (arith, h))
rim_once third second h = absurd (omega (arith, h))
rim_once third third h = refl

no_far_rim : (k k' : Side) → key (edge far k) ≡ key (edge rim k') → ⊥
no_far_rim first first h = omega (arith, h)
no_far_rim first second h = omega (arith, h)
no_far_rim first third h = omega (arith, h)
no_far_rim second first h = omega (arith, h)
no_far_rim second second h = omega (arith, h)
no_far_rim second third h = omega (arith, h)
no_far_rim third first h = omega (arith, h)
no_far_rim third second h = omega (arith, h)
no_far_rim third third h = omega (arith, h)

keys : (e f : Edge) → e.tail ≡ f.tail → e.head ≡ f.head → key e ≡ key f
keys e f t h = λ i. number (t i) * 3 + number (h i)

one : (s s' : ℕ) (k k' : Side) (e e' : Edge) → Either s k e → Either s' k' e' → key e ≡ key e' → (s ≡ s') × (k ≡ k')
one s s' k k' e e' (low a x) (low b y) h = (a ∙ sym b, far_once k k' (ap key x ∙ h ∙ sym (ap key y)))
one s s' k k' e e' (out a x) (out b y) h = (a ∙ sym b, rim_once k k' (ap key x ∙ h ∙ sym (ap key y)))
one s s' k k' e e' (low a x) (out b y) h = absurd (no_far_rim k k' (ap key x ∙ h ∙ sym (ap key y)))
one s s' k k' e e' (out a x) (low b y) h = absurd (no_far_rim k' k (ap key y ∙ sym h ∙ sym (ap key x)))

met_far : (k : Side) → IsMet (OpenIn []) (edges_of (slots_of far_alone)) 0 (edge far k)
met_far first = record { slot = outside; side = third; edge = edge rim third; there = refl; back_tail = refl; back_head = refl; same_count = refl; next_is = λ _ _. refl }
met_far second = record { slot = outside; side = second; edge = edge rim second; there = refl; back_tail = refl; back_head = refl; same_count = refl; next_is = λ _ _. refl }
met_far third = record { slot = outside; side = first; edge = edge rim first; there = refl; back_tail = refl; back_head = refl; same_count = refl; next_is = λ _ _. refl }

met_rim : (k : Side) → IsMet (OpenIn []) (edges_of (slots_of far_alone)) outside (edge rim k)
met_rim first = record { slot = 0; side = third; edge = edge far third; there = refl; back_tail = refl; back_head = refl; same_count = refl; next_is = λ live _. absurd (live refl) }
met_rim second = record { slot = 0; side = second; edge = edge far second; there = refl; back_tail = refl; back_head = refl; same_count = refl; next_is = λ live _. absurd (live refl) }
met_rim third = record { slot = 0; side = first; edge = edge far first; there = refl; back_tail = refl; back_head = refl; same_count = refl; next_is = λ live _. absurd (live refl) }

met : (s : ℕ) (k : Side) (e : Edge) → Either s k e → IsMet (OpenIn []) (edges_of (slots_of far_alone)) s e
met s k e (low a x) = subst (λ x. x) (λ i. IsMet (OpenIn []) (edges_of (slots_of far_alone)) (sym a i) (x i)) (met_far k)
met s k e (out a x) = subst (λ x. x) (λ i. IsMet (OpenIn []) (edges_of (slots_of far_alone)) (sym a i) (x i)) (met_rim k)

pub far_net : IsNetBut (OpenIn []) (edges_of (slots_of far_alone))
far_net = record {
  one = λ s s' k k' e e' h h' t d. one s s' k k' e e' (either s k e h) (either s' k' e' h') (keys e e' t d);
  met = λ s k e h. met s k e (either s k e h);
}

-- two corners of different numbers are two
far_apart : (i j : ℕ) → (i ≡ j → ⊥) → Far i ≡ Far j → ⊥
far_apart i j ne e = ne (ap number e)

three : (i j k : ℕ) → (i ≡ j → ⊥) → (i ≡ k → ⊥) → (j ≡ k → ⊥) → Distinct (Far i ∷ Far j ∷ Far k ∷ [])
three i j k a b c = ((far_apart i j a, (far_apart i k b, tt)), ((far_apart j k c, tt), (tt, tt)))

far_distinct : Distinct (corners_of far)
far_distinct = three 0 1 2 (λ e. omega (arith, e)) (λ e. omega (arith, e)) (λ e. omega (arith, e))

rim_distinct : Distinct (corners_of rim)
rim_distinct = three 0 2 1 (λ e. omega (arith, e)) (λ e. omega (arith, e)) (λ e. omega (arith, e))

no_more : (n : ℕ) → (suc n ≡ outside → ⊥) → slots_of far_alone (suc n) ≡ None
no_more n ne = grind (arith, ne)

distinct_at : (s : ℕ) (t : TriSlot) → slots_of far_alone s ≡ Some t → Distinct (corners_of t)
distinct_at zero t h = subst (λ x. Distinct (corners_of x)) (same_in far t h) far_distinct
distinct_at (suc n) t h = elim (cases_eq (suc n) outside) as (λ _. Distinct (corners_of t)) [
  | inl o ↦ subst (λ x. Distinct (corners_of x)) (same_in rim t (sym (ap (slots_of far_alone) o) ∙ h)) rim_distinct
  | inr ne ↦ absurd (none-some t (sym (no_more n ne) ∙ h))
]

whole_at : (s : ℕ) → state_at far_alone s ≡ blank → ⊥
whole_at zero e = none-some far (sym (ap joined e))
whole_at (suc n) e = none-some None e

pub far_mesh : IsMesh far_alone
far_mesh = record { net = far_net; distinct = distinct_at; whole = whole_at; few = omega arith }

-- the first slot that is taken of no pages is slot 0
no_slot : (n : ℕ) → put [] (suc n) blank ≡ []
no_slot n = grind arith

first_by : (s : ℕ) (new : List State) → new ≡ put [] s blank → state_at new s ≡ blank → s ≡ 0
first_by zero new e h = refl
first_by (suc n) new e h = absurd (none-some None (sym (ap (λ ps. state_at ps (suc n)) (e ∙ no_slot n)) ∙ h))

pub far_alone_is : (s : ℕ) (one two : List State) → one ≡ put [] s blank → state_at one s ≡ blank → two ≡ set one s (holding far) → two ≡ far_alone
far_alone_is s one two e h w =
    let z = first_by s one e h in
    w ∙ (λ i. set (e i) s (holding far)) ∙ ap (λ k. set (put [] k blank) k (holding far)) z

abbrev place_of : Corner → ℕ
place_of (At p) = 1
place_of (Far i) = 0

no_place_far : (k : Side) (p : Coords) → corner_at far k ≡ At p → ⊥
no_place_far first p e = omega (arith, ap place_of e)
no_place_far second p e = omega (arith, ap place_of e)
no_place_far third p e = omega (arith, ap place_of e)

no_place_rim : (k : Side) (p : Coords) → corner_at rim k ≡ At p → ⊥
no_place_rim first p e = omega (arith, ap place_of e)
no_place_rim second p e = omega (arith, ap place_of e)
no_place_rim third p e = omega (arith, ap place_of e)

-- no place is a corner of the far triangle
pub far_has_no_place : (p : Coords) → HasNoCorner far_alone (At p)
far_has_no_place p zero t k h e = no_place_far k p (ap (λ x. corner_at x k) (same_in far t h) ∙ e)
far_has_no_place p (suc n) t k h e = elim (cases_eq (suc n) outside) as (λ _. ⊥) [
  | inl o ↦ no_place_rim k p (ap (λ x. corner_at x k) (same_in rim t (sym (ap (slots_of far_alone) o) ∙ h)) ∙ e)
  | inr ne ↦ none-some t (sym (no_more n ne) ∙ h)
]
