-- Places in lists, and a queue of seats without repeats.
use Rattle.std.proofs.Common.{◌≡◌, ◌≢◌, ℕ, zero, suc, ◌<◌, ◌||◌, Bool, true, false, eqb, eq-eqb, ne_eqb, List, [], ◌∷◌, ◌++◌, length, refl, sym, ap, ◌∙◌, subst, arith, ⊎_elim, true≢false}
use mathlib.Core.Option.{some, some-injective, some-ne-none}
use lib.ListN.{get_elem?}
use Rattle.std.specs.List.{IsDistinct, AllByRecursion, list_any, Contains, slice_index_or}
use Rattle.std.proofs.lemmas.List.Elements.{All-append, All-from_recursion, recursion_from_All, Contains-get_or, Contains-append_right, Contains-push_cases}
use Rattle.std.specs.Cmp.{IsEquivalence, nat_eq_equiv}
use Rattle.std.proofs.lemmas.Map.Keys.{IsDistinct-push}

module _ {A : Type 0} where
  pub at_lt : (xs : List A) (i : ℕ) (x : A) → get_elem? xs i ≡ some x → i < length xs
  at_lt [] i x e = absurd (some-ne-none x (sym e))
  at_lt (y ∷ ys) zero x e = omega arith
  at_lt (y ∷ ys) (suc i) x e = let a = at_lt ys i x e in omega arith

  pub at_one : (xs : List A) (i : ℕ) (x y : A) → get_elem? xs i ≡ some x → get_elem? xs i ≡ some y → x ≡ y
  at_one xs i x y a b = some-injective x y (sym a ∙ b)

pub eqb_laws : IsEquivalence eqb
eqb_laws = nat_eq_equiv

pub or_left : (a b : Bool) → (a || b) ≡ false → a ≡ false
or_left true b e = absurd (true≢false e)
or_left false b e = refl

pub or_right : (a b : Bool) → (a || b) ≡ false → b ≡ false
or_right true b e = absurd (true≢false e)
or_right false b e = e

-- who stands in the queue at an index is in it
pub present : (queue : List ℕ) (k j : ℕ) → get_elem? queue k ≡ some j → list_any (eqb j) queue ≡ true
present [] k j e = absurd (some-ne-none j (sym e))
present (q ∷ queue) zero j e = ap (λ b. b || list_any (eqb j) queue) (eq-eqb j q (sym (some-injective q j e)))
present (q ∷ queue) (suc k) j e = or_true (eqb j q) (list_any (eqb j) queue) (present queue k j e)
  where
    or_true : (a b : Bool) → b ≡ true → (a || b) ≡ true
    or_true true b h = refl
    or_true false b h = h

pub absent : (queue : List ℕ) (k j : ℕ) → list_any (eqb j) queue ≡ false → get_elem? queue k ≡ some j → ⊥
absent queue k j free e = true≢false (sym (present queue k j e) ∙ free)

pub absent_from : (q : ℕ) (queue : List ℕ) → AllByRecursion (λ y. eqb q y ≡ false) queue → list_any (eqb q) queue ≡ false
absent_from q [] h = refl
absent_from q (x ∷ queue) h = ap (λ b. b || list_any (eqb q) queue) h.0 ∙ absent_from q queue h.1

pub head_absent : (q : ℕ) (queue : List ℕ) → IsDistinct eqb (q ∷ queue) → list_any (eqb q) queue ≡ false
unfolding IsDistinct
head_absent q queue h = absent_from q queue h.0

pub tail_apart : (q : ℕ) (queue : List ℕ) → IsDistinct eqb (q ∷ queue) → IsDistinct eqb queue
unfolding IsDistinct
tail_apart q queue h = h.1

pub none_apart : IsDistinct eqb []
unfolding IsDistinct
none_apart = tt

pub push_apart : (queue : List ℕ) (j : ℕ) → IsDistinct eqb queue → list_any (eqb j) queue ≡ false → IsDistinct eqb (queue ++ j ∷ [])
push_apart queue j = IsDistinct-push eqb_laws queue j

-- who is in a longer queue was in it, or is the new one
pub in_pushed : (queue : List ℕ) (j q : ℕ) → q ≢ j → list_any (eqb q) (queue ++ j ∷ []) ≡ list_any (eqb q) queue
in_pushed [] j q ne = ap (λ b. b || false) (ne_eqb q j ne)
in_pushed (x ∷ queue) j q ne = ap (λ b. eqb q x || b) (in_pushed queue j q ne)

-- two lists without repeats that have no element in common
pub distinct_append : (xs ys : List ℕ) → IsDistinct eqb xs → IsDistinct eqb ys → ((a : ℕ) → Contains xs a → Contains ys a → ⊥) → IsDistinct eqb (xs ++ ys)
unfolding IsDistinct
distinct_append [] ys h k none = k
distinct_append (x ∷ xs) ys h k none =
    let P : ℕ → Type 0 = (λ y. eqb x y ≡ false) in (
      recursion_from_All P (xs ++ ys) (All-append P xs ys (All-from_recursion P xs h.0) (λ i d lt. ne_eqb x (slice_index_or ys i d) (λ e. none x (0, omega arith, refl) (subst (Contains ys) (sym e) (Contains-get_or ys i d lt))))),
      distinct_append xs ys h.1 k (λ a (m : Contains xs a). none a (Contains-append_right (x ∷ []) xs a m)),
    )

pub only_one : (a b : ℕ) → Contains (b ∷ []) a → a ≡ b
only_one a b m = ⊎_elim (λ (z : Contains [] a). absurd (let lt = z.1 in omega arith)) (λ (e : b ≡ a). sym e) (Contains-push_cases [] b a m)

pub one_distinct : (a : ℕ) → IsDistinct eqb (a ∷ [])
unfolding IsDistinct
one_distinct a = (tt, tt)
