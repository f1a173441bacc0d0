-- Places in lists.
use Rattle.std.proofs.Common.{◌≡◌, ◌⊎◌, ℕ, suc, zero, Some, List, [], ◌∷◌, ◌++◌, length, refl, ap, inl, inr, subst, arith}
use Rattle.std.specs.List.{All, slice_get}
use Rattle.std.proofs.lemmas.Bool.{cases_eq}
use Rattle.std.proofs.lemmas.List.Elements.{All-head, All-tail}
use Rattle.std.proofs.lemmas.Option.{none-some}
use Rattle.mesh.specs.SlotLists.{IsKept}
use Rattle.mesh.proofs.NamedEdges.{same_in}

-- what stands in a list with one more stood there, or is the last
pub pushed : {X : Type 0} (xs : List X) (y z : X) (i : ℕ) → slice_get (xs ++ y ∷ []) i ≡ Some z → (slice_get xs i ≡ Some z) ⊎ ((i ≡ length xs) × (y ≡ z))
pushed [] y z zero e = inr (refl, same_in y z e)
pushed [] y z (suc i) e = absurd (none-some z e)
pushed (x ∷ xs) y z zero e = inl e
pushed (x ∷ xs) y z (suc i) e = elim (pushed xs y z i e) as (λ _. (slice_get (x ∷ xs) (suc i) ≡ Some z) ⊎ ((suc i ≡ length (x ∷ xs)) × (y ≡ z))) [
  | inl h ↦ inl h
  | inr h ↦ inr (ap suc h.0, h.1)
]

pub stays_pushed : {X : Type 0} (xs : List X) (y z : X) (i : ℕ) → slice_get xs i ≡ Some z → slice_get (xs ++ y ∷ []) i ≡ Some z
stays_pushed [] y z i e = absurd (none-some z e)
stays_pushed (x ∷ xs) y z zero e = e
stays_pushed (x ∷ xs) y z (suc i) e = stays_pushed xs y z i e

pub last_pushed : {X : Type 0} (xs : List X) (y : X) → slice_get (xs ++ y ∷ []) (length xs) ≡ Some y
last_pushed [] y = refl
last_pushed (x ∷ xs) y = last_pushed xs y

-- of two lists of one length
pub get_at : {X Y : Type 0} (xs : List X) (ys : List Y) (i : ℕ) (x : X) → slice_get xs i ≡ Some x → length ys ≡ length xs → (y : Y) × (slice_get ys i ≡ Some y)
get_at [] ys i x e n = absurd (none-some x e)
get_at (a ∷ xs) [] i x e n = absurd (omega (arith, n))
get_at (a ∷ xs) (b ∷ ys) zero x e n = (b, refl)
get_at (a ∷ xs) (b ∷ ys) (suc i) x e n = get_at xs ys i x e (omega (arith, n))

kept_further : (x : ℕ) (xs : List ℕ) (s : ℕ) → (x ≡ s → ⊥) → IsKept xs s → IsKept (x ∷ xs) s
kept_further x xs s ne kept zero e = ne (same_in x s e)
kept_further x xs s ne kept (suc i) e = kept i e

kept_by : (x : ℕ) (xs : List ℕ) (s : ℕ) → (x ≡ s → ⊥) → ((i : ℕ) × (slice_get xs i ≡ Some s)) ⊎ IsKept xs s → ((i : ℕ) × (slice_get (x ∷ xs) i ≡ Some s)) ⊎ IsKept (x ∷ xs) s
kept_by x xs s ne (inl h) = inl (suc h.0, h.1)
kept_by x xs s ne (inr h) = inr (kept_further x xs s ne h)

-- a number is in the list, or it is none of these
pub is_in : (xs : List ℕ) (s : ℕ) → ((i : ℕ) × (slice_get xs i ≡ Some s)) ⊎ IsKept xs s
is_in [] s = inr (λ i e. none-some s e)
is_in (x ∷ xs) s = elim (cases_eq x s) as (λ _. ((i : ℕ) × (slice_get (x ∷ xs) i ≡ Some s)) ⊎ IsKept (x ∷ xs) s) [
  | inl e ↦ inl (0, ap Some e)
  | inr ne ↦ kept_by x xs s ne (is_in xs s)
]

-- what holds of each holds of that at an index
pub each_slice : {X : Type 0} (P : X → Type 0) (xs : List X) (i : ℕ) (x : X) → All P xs → slice_get xs i ≡ Some x → P x
each_slice P [] i x all e = absurd (none-some x e)
each_slice P (y ∷ xs) zero x all e = subst P (same_in y x e) (All-head P y xs all)
each_slice P (y ∷ xs) (suc i) x all e = each_slice P xs i x (All-tail P y xs all) e
