-- Points put into a map one after the other.
use Rattle.std.proofs.Common.{◌≡◌, ◌+◌, Bool, true, false, cond, List, [], ◌∷◌, length, Option, None, Some, refl, sym, ◌∙◌, ap, arith, ℤ}
use Rattle.std.specs.Option.{option_or}
use Rattle.std.specs.Prelude.{is_some, option_map}
use Rattle.std.specs.List.{find}
use Rattle.std.specs.FinMap as finmap
use Rattle.ground_model.specs.Place.{Coords, is_same, place_cmp}
use Rattle.ground_model.proofs.Contents.{places_total}
use Rattle.ground_model.proofs.LinePieces.{is_same_itself}
use Rattle.ground_model.proofs.Planar.{same_test}
use Rattle.ground_model.proofs.Ties.{same_of_is_same}
use Rattle.landxml_write.specs.Exports.{Vertex}
use Rattle.document_law.specs.Drafts.{level_in, AreOnce}

abbrev pub Points : Type 0
Points = finmap.FinMap place_cmp ℤ

-- the points with further ones
abbrev pub inserted : Points → List Vertex → Points
inserted m [] = m
inserted m (v ∷ vs) = inserted (finmap.insert m v.0 v.1) vs

-- none of them is there
abbrev pub AreNew : Points → List Vertex → Type 0
AreNew m vs = (q : Coords) (z : ℤ) → level_in vs q ≡ Some z → finmap.get m q ≡ None

-- a level by the first point, or by the others
level_cons : (v : Vertex) (vs : List Vertex) (q : Coords) → level_in (v ∷ vs) q ≡ cond (is_same q v.0) (Some v.1) (level_in vs q)
level_cons v vs q = by (is_same q v.0)
  where
    by : (t : Bool) → option_map (λ (v : Vertex). v.1) (cond t (Some v) (find (λ (v : Vertex). is_same q v.0) vs)) ≡ cond t (Some v.1) (level_in vs q)
    by true = refl
    by false = refl

get_more : (m : Points) (v : Vertex) (q : Coords) → finmap.get (finmap.insert m v.0 v.1) q ≡ cond (is_same q v.0) (Some v.1) (finmap.get m q)
get_more m v q = finmap.get-insert places_total m v.0 v.1 q ∙ ap (λ t. cond t (Some v.1) (finmap.get m q)) (same_test q v.0)

-- the first of them isn't there
pub first_new : (m : Points) (v : Vertex) (vs : List Vertex) → AreNew m (v ∷ vs) → finmap.get m v.0 ≡ None
first_new m v vs new = new v.0 v.1 (level_cons v vs v.0 ∙ ap (λ t. cond t (Some v.1) (level_in vs v.0)) (is_same_itself v.0))

clash : (o : Option ℤ) (z : ℤ) → o ≡ Some z → o ≡ None → ⊥
clash None z a b = cc
clash (Some y) z a b = cc

-- nor are the others, once it is
pub rest_new : (m : Points) (v : Vertex) (vs : List Vertex) → AreNew m (v ∷ vs) → AreOnce (v ∷ vs) → AreNew (finmap.insert m v.0 v.1) vs
rest_new m v vs new once q z e = get_more m v q ∙ by (is_same q v.0) refl
  where
    by : (t : Bool) → is_same q v.0 ≡ t → cond (is_same q v.0) (Some v.1) (finmap.get m q) ≡ None
    by true h = absurd (clash (level_in vs q) z e (ap (level_in vs) (same_of_is_same q v.0 h) ∙ once.0))
    by false h = ap (λ t. cond t (Some v.1) (finmap.get m q)) h ∙ new q z (level_cons v vs q ∙ ap (λ t. cond t (Some v.1) (level_in vs q)) h ∙ e)

pub inserted_levels : (m : Points) (vs : List Vertex) → AreOnce vs → (q : Coords) → finmap.get (inserted m vs) q ≡ option_or (level_in vs q) (finmap.get m q)
inserted_levels m [] once q = refl
inserted_levels m (v ∷ vs) once q =
    inserted_levels (finmap.insert m v.0 v.1) vs once.1 q ∙ ap (option_or (level_in vs q)) (get_more m v q) ∙ by (is_same q v.0) refl ∙ ap (λ o. option_or o (finmap.get m q)) (sym (level_cons v vs q))
  where
    by : (t : Bool) → is_same q v.0 ≡ t → option_or (level_in vs q) (cond (is_same q v.0) (Some v.1) (finmap.get m q)) ≡ option_or (cond (is_same q v.0) (Some v.1) (level_in vs q)) (finmap.get m q)
    by true h =
        let none : level_in vs q ≡ None = ap (level_in vs) (same_of_is_same q v.0 h) ∙ once.0 in
        (λ i. option_or (none i) (cond (h i) (Some v.1) (finmap.get m q))) ∙ sym (ap (λ t. option_or (cond t (Some v.1) (level_in vs q)) (finmap.get m q)) h)
    by false h = ap (λ t. option_or (level_in vs q) (cond t (Some v.1) (finmap.get m q))) h ∙ sym (ap (λ t. option_or (cond t (Some v.1) (level_in vs q)) (finmap.get m q)) h)

pub inserted_count : (m : Points) (vs : List Vertex) → AreNew m vs → AreOnce vs → finmap.len (inserted m vs) ≡ finmap.len m + length vs
inserted_count m [] new once = omega arith
inserted_count m (v ∷ vs) new once =
    let rest = inserted_count (finmap.insert m v.0 v.1) vs (rest_new m v vs new once) once.1 in
    let one = finmap.len-insert places_total m v.0 v.1 ∙ ap (λ o. cond (is_some o) (finmap.len m) (finmap.len m + 1)) (first_new m v vs new) in
    omega (arith, rest, one)

-- the levels of a map's entries
pub entry_levels : (m : Points) (q : Coords) → finmap.get m q ≡ level_in (finmap.entries m) q
entry_levels m q = finmap.get-entries m q ∙ by (finmap.entries m)
  where
    by : (es : List Vertex) → finmap.find place_cmp q es ≡ level_in es q
    by [] = refl
    by (e ∷ es) = (λ i. cond (same_test q e.0 i) (Some e.1) (by es i)) ∙ sym (level_cons e es q)
