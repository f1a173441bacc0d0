-- The nearest of the items that pass a test, in an order.
use Rattle.std.proofs.Common.{◌≡◌, refl, subst, List, [], ◌∷◌, Bool, true, false, inl, inr}
use Rattle.std.specs.Prelude.{◌||◌}
use Rattle.std.specs.List.{list_any}
use Rattle.std.proofs.lemmas.Bool.{both_ways}
use Rattle.ground_model.proofs.Elements.{In, none_at}

-- no item that passes comes after it
pub record Last {X : Type 0} (test : X → Bool) (before : X → X → Bool) (xs : List X) : Type 0 where
  pub item : X
  pub of : In item xs
  pub passes : test item ≡ true
  pub none : (y : X) → In y xs → test y ≡ true → before item y ≡ true → ⊥

module _ {X : Type 0} (test : X → Bool) (before : X → X → Bool) (itself : (x : X) → before x x ≡ true → ⊥) (trans : (x y z : X) → before x y ≡ true → before y z ≡ true → before x z ≡ true) where
  passed-by : (x : X) (xs : List X) → test x ≡ false → Last test before xs → Last test before (x ∷ xs)
  passed-by x xs fails l = record { item = l.item; of = inr l.of; passes = l.passes; none = none }
    where
      none : (y : X) → In y (x ∷ xs) → test y ≡ true → before l.item y ≡ true → ⊥
      none y (inl e) passes lt = both_ways (test x) fails (subst (λ k. test k ≡ true) e passes)
      none y (inr i) passes lt = l.none y i passes lt

  alone : (x : X) (xs : List X) → test x ≡ true → list_any test xs ≡ false → Last test before (x ∷ xs)
  alone x xs passes no_other = record { item = x; of = inl refl; passes = passes; none = none }
    where
      none : (y : X) → In y (x ∷ xs) → test y ≡ true → before x y ≡ true → ⊥
      none y (inl e) passes lt = itself x (subst (λ k. before x k ≡ true) e lt)
      none y (inr i) passes lt = both_ways (test y) (none_at test xs y no_other i) passes

  kept : (x : X) (xs : List X) (l : Last test before xs) → before l.item x ≡ false → Last test before (x ∷ xs)
  kept x xs l not_after = record { item = l.item; of = inr l.of; passes = l.passes; none = none }
    where
      none : (y : X) → In y (x ∷ xs) → test y ≡ true → before l.item y ≡ true → ⊥
      none y (inl e) passes lt = both_ways (before l.item x) not_after (subst (λ k. before l.item k ≡ true) e lt)
      none y (inr i) passes lt = l.none y i passes lt

  replaced : (x : X) (xs : List X) → test x ≡ true → (l : Last test before xs) → before l.item x ≡ true → Last test before (x ∷ xs)
  replaced x xs passes l after = record { item = x; of = inl refl; passes = passes; none = none }
    where
      none : (y : X) → In y (x ∷ xs) → test y ≡ true → before x y ≡ true → ⊥
      none y (inl e) passes lt = itself x (subst (λ k. before x k ≡ true) e lt)
      none y (inr i) passes lt = l.none y i passes (trans l.item x y after lt)

  pub last : (xs : List X) → list_any test xs ≡ true → Last test before xs
  last [] e = cc
  last (x ∷ xs) e = by (test x) (list_any test xs) refl refl e (last xs)
    where
      later : test x ≡ true → Last test before xs → Last test before (x ∷ xs)
      later passes l = by (before l.item x) refl
        where
          by : (t : Bool) → before l.item x ≡ t → Last test before (x ∷ xs)
          by true f = replaced x xs passes l f
          by false f = kept x xs l f

      by : (s t : Bool) → test x ≡ s → list_any test xs ≡ t → (s || t) ≡ true → (list_any test xs ≡ true → Last test before xs) → Last test before (x ∷ xs)
      by false true f g e rest = passed-by x xs f (rest g)
      by false false f g e rest = cc
      by true false f g e rest = alone x xs f g
      by true true f g e rest = later f (rest g)
