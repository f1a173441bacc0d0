-- What a search finds passes its test.
use Rattle.std.proofs.Common.{◌≡◌, refl, ap, ◌∙◌, List, [], ◌∷◌, Bool, true, false, cond, Some}
use Rattle.std.specs.Prelude.{is_some, ◌||◌, map, Option, None, IfSome, IsTrue, option_map}
use Rattle.std.specs.List.{find, list_any, filter_map}
use Rattle.ground_model.specs.declared.slope.Slope.{Slope}
use Rattle.ground_model.specs.Place.{Coords}
use Rattle.ground_model.specs.Level.{holding, is_on_slope, level_on, level_at}

pub find_passes : {X : Type 0} (p : X → Bool) (xs : List X) (x : X) → find p xs ≡ Some x → p x ≡ true
find_passes p [] x e = cc
find_passes {X} p (y ∷ ys) x e = by_test (p y) refl e (find_passes p ys x)
  where
    by_test : (t : Bool) → p y ≡ t → cond t (Some y) (find p ys) ≡ Some x → (find p ys ≡ Some x → p x ≡ true) → p x ≡ true
    by_test true h e rest =
        let same : x ≡ y = cc in
        ap p same ∙ h
    by_test false h e rest = rest e

-- what is found on slopes has the place
pub found_on : (slopes : List Slope) (p : Coords) → IfSome (holding slopes p) (λ s. IsTrue (is_on_slope p s))
found_on slopes p = by_found (holding slopes p) refl
  where
    by_found : (found : Option Slope) → holding slopes p ≡ found → IfSome found (λ s. IsTrue (is_on_slope p s))
    by_found None e = tt
    by_found (Some s) e = find_passes (is_on_slope p) slopes s e

is_some-find : {X : Type 0} (p : X → Bool) (xs : List X) → is_some (find p xs) ≡ list_any p xs
is_some-find p [] = refl
is_some-find {X} p (x ∷ xs) = by_test (p x) (is_some-find p xs)
  where
    by_test : (t : Bool) → is_some (find p xs) ≡ list_any p xs → is_some (cond t (Some x) (find p xs)) ≡ (t || list_any p xs)
    by_test true e = refl
    by_test false e = e

pub is_some_level : (slopes : List Slope) (p : Coords) → is_some (level_at slopes p) ≡ list_any (is_on_slope p) slopes
unfolding level_at
is_some_level slopes p = kept (holding slopes p) ∙ is_some-find (is_on_slope p) slopes
  where
    kept : (found : Option Slope) → is_some (option_map (level_on p) found) ≡ is_some found
    kept None = refl
    kept (Some s) = refl

-- of a list of which nothing is left out all is there
pub filter_map-some : {X : Type 0} (xs : List X) → filter_map (λ x. x) (map Some xs) ≡ xs
filter_map-some [] = refl
filter_map-some (x ∷ xs) = ap (λ k. x ∷ k) (filter_map-some xs)
