-- What loops over an export show of its lists.
use Rattle.std.proofs.Common.{◌≡◌, ℕ, zero, suc, ◌+◌, ◌<◌, ◌≤◌, List, [], ◌∷◌, ◌++◌, length, take, Bool, true, false, Option, None, Some, refl, sym, ap, subst, ◌∙◌, arith, append_assoc, append-nil}
use Rattle.std.specs.Prelude.{slice_get}
use Rattle.std.specs.List.{flat_map}
use Rattle.std.proofs.lemmas.List.{take_more}
use Rattle.std.proofs.lemmas.Grind.{flat_map-append}
use Rattle.std.proofs.lemmas.Option.{get_or_from_slice_get, slice_get_within}
use Rattle.landxml_write.specs.Exports.{Exported, Vertex}
use Rattle.landxml_write.specs.Text.{points_text, point_text}
use Rattle.landxml_write.proofs.Found.{same_some}

pub is_there : {X : Type 0} (xs : List X) (k : ℕ) → k < length xs → slice_get xs k ≡ None → ⊥
is_there [] k within none = absurd (omega arith)
is_there (x ∷ xs) zero within none = cc
is_there (x ∷ xs) (suc k) within none = is_there xs k (omega arith) none

-- the text of one element more
pub flat-more : {X : Type 0} (f : X → List ℕ) (xs : List X) (k : ℕ) (x : X) → slice_get xs k ≡ Some x → flat_map f (take (k + 1) xs) ≡ flat_map f (take k xs) ++ f x
flat-more f xs k x at =
    ap (flat_map f) (take_more xs k x (slice_get_within xs k x at) ∙ ap (λ y. take k xs ++ y ∷ []) (get_or_from_slice_get xs k x x at))
    ∙ flat_map-append f (take k xs) (x ∷ []) ∙ ap (λ w. flat_map f (take k xs) ++ w) (append-nil (f x))

one-more : {X : Type 0} (k : ℕ) (x : X) (xs : List X) → take (suc k + 1) (x ∷ xs) ≡ x ∷ take (k + 1) xs
one-more k x xs = let e : suc k + 1 ≡ suc (k + 1) = omega arith in ap (λ n. take n (x ∷ xs)) e

-- the line of one point more
pub points-more : (e : Exported) (id : ℕ) (vs : List Vertex) (k : ℕ) (v : Vertex) → slice_get vs k ≡ Some v → points_text e id (take (k + 1) vs) ≡ points_text e id (take k vs) ++ point_text e (id + k) v
unfolding points_text
points-more e id [] k v at = cc
points-more e id (w ∷ vs) zero v at =
    let same : w ≡ v = same_some w v at in
    let still : id + 0 ≡ id = omega arith in
    append-nil (point_text e id w) ∙ ap (point_text e id) same ∙ ap (λ n. point_text e n v) (sym still)
points-more e id (w ∷ vs) (suc k) v at =
    let further : (id + 1) + k ≡ id + suc k = omega arith in
    ap (points_text e id) (one-more k w vs) ∙ ap (λ t. point_text e id w ++ t) (points-more e (id + 1) vs k v at ∙ ap (λ n. points_text e (id + 1) (take k vs) ++ point_text e n v) further)
    ∙ sym (append_assoc (point_text e id w) (points_text e (id + 1) (take k vs)) (point_text e (id + suc k) v))
