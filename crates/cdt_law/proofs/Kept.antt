-- What a map that filters has, and of which element it is made.
use Rattle.std.proofs.Common.{◌≡◌, ℕ, zero, suc, ◌⊎◌, inl, inr, refl, ap, ◌∙◌, List, [], ◌∷◌, Bool, true, Some, None}
use Rattle.std.specs.Prelude.{Option, slice_get}
use Rattle.std.specs.List.{list_any, filter_map, cons_option}
use Rattle.std.proofs.lemmas.Bool.{or_cases, or_left, or_right}

-- an element, and what is made of it
pub record Kept {X Y : Type 0} (h : X → Option Y) (test : Y → Bool) (xs : List X) : Type 0 where
  pub index : ℕ
  pub item : X
  pub made : Y
  pub at : slice_get xs index ≡ Some item
  pub is : h item ≡ Some made
  pub passes : test made ≡ true

pub kept-of : {X Y : Type 0} (h : X → Option Y) (test : Y → Bool) (xs : List X) → list_any test (filter_map h xs) ≡ true → Kept h test xs
kept-of h test [] e = cc
kept-of {X} {Y} h test (x ∷ xs) e = by (h x) refl e (kept-of h test xs)
  where
    later : Kept h test xs → Kept h test (x ∷ xs)
    later k = record { index = suc k.index; item = k.item; made = k.made; at = k.at; is = k.is; passes = k.passes }

    head : (y : Y) → h x ≡ Some y → (test y ≡ true) ⊎ (list_any test (filter_map h xs) ≡ true) → (list_any test (filter_map h xs) ≡ true → Kept h test xs) → Kept h test (x ∷ xs)
    head y f (inl t) rest = record { index = zero; item = x; made = y; at = refl; is = f; passes = t }
    head y f (inr t) rest = later (rest t)

    by : (o : Option Y) → h x ≡ o → list_any test (cons_option o (filter_map h xs)) ≡ true → (list_any test (filter_map h xs) ≡ true → Kept h test xs) → Kept h test (x ∷ xs)
    by None f e rest = later (rest e)
    by (Some y) f e rest = head y f (or_cases (test y) (list_any test (filter_map h xs)) e) rest

pub kept-in : {X Y : Type 0} (h : X → Option Y) (test : Y → Bool) (xs : List X) (k : ℕ) (x : X) (y : Y) → slice_get xs k ≡ Some x → h x ≡ Some y → test y ≡ true → list_any test (filter_map h xs) ≡ true
kept-in h test [] k x y at f t = cc
kept-in {X} {Y} h test (z ∷ xs) zero x y at f t =
    let same : z ≡ x = cc in
    ap (λ o. list_any test (cons_option o (filter_map h xs))) (ap h same ∙ f) ∙ or_left (test y) (list_any test (filter_map h xs)) t
kept-in {X} {Y} h test (z ∷ xs) (suc k) x y at f t = by (h z) (kept-in h test xs k x y at f t)
  where
    by : (o : Option Y) → list_any test (filter_map h xs) ≡ true → list_any test (cons_option o (filter_map h xs)) ≡ true
    by None e = e
    by (Some w) e = or_right (test w) (list_any test (filter_map h xs)) e
