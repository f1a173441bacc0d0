-- The first element that passes, and the point at a place.
use Rattle.std.proofs.Common.{◌≡◌, ◌≢◌, ℕ, zero, suc, ◌+◌, ◌<◌, ◌≤◌, ℤ, List, [], ◌∷◌, length, ◌⊎◌, Bool, true, false, Option, None, Some, inl, inr, ⊎_elim, refl, sym, ap, subst, ◌∙◌, arith, cond}
use Rattle.std.specs.Prelude.{slice_get, not, find, unwrap_or, option_map, pos}
use Rattle.std.specs.List.{list_any, position_or_len, prefix_len}
use Rattle.std.proofs.lemmas.List.Folds.{find_at}
use Rattle.std.proofs.Math.Nat.{eq-or-lt_of_le}
use Rattle.std.proofs.lemmas.Bool.{true≢false, or_cases, false_from_ne_true, cases_lt}
use Rattle.ground_model.specs.Place.{Coords, is_before, is_same}
use Rattle.ground_model.proofs.LinePieces.{is_same_itself}
use Rattle.ground_model.proofs.Segments.{not_after, before_trans}
use Rattle.ground_model.proofs.Along.{same_place}
use Rattle.ground_model.proofs.Ties.{same_of_is_same}
use Rattle.landxml_write.specs.Exports.{Vertex, is_vertex, Ascend}
use Rattle.landxml_write.specs.Found.{IsWithin}
use Rattle.landxml_write.specs.Text.{level_at, id_of}

pub same_some : {X : Type 0} (a b : X) → Some a ≡ Some b → a ≡ b
same_some a b e = ap (λ o. unwrap_or o a) e

-- no place comes before itself
itself : (p : Coords) → is_before p p ≡ true → ⊥
itself p h = true≢false (sym h ∙ not_after p p h)

-- the first element that passes stands at the index before which none does
pub first-at : {X : Type 0} (test : X → Bool) (xs : List X) (t : ℕ) (x : X) → slice_get xs t ≡ Some x → test x ≡ true → ((j : ℕ) (y : X) → j < t → slice_get xs j ≡ Some y → test y ≡ false) → position_or_len test xs ≡ t
first-at test [] t x at passes before = cc
first-at test (y ∷ ys) zero x at passes before = ap (λ b. cond (not b) (1 + prefix_len (λ z. not (test z)) ys) 0) (ap test (same_some y x at) ∙ passes)
first-at test (y ∷ ys) (suc t) x at passes before =
    ap (λ b. cond (not b) (1 + prefix_len (λ z. not (test z)) ys) 0) (before 0 y (omega arith) refl) ∙ ap (λ n. 1 + n) (first-at test ys t x at passes (λ j z less e. before (suc j) z (omega (arith, less)) e)) ∙ omega arith

-- some element that passes, by its index
some-at : {X : Type 0} (test : X → Bool) (xs : List X) → list_any test xs ≡ true → (t : ℕ) × (x : X) × (t < length xs) × (slice_get xs t ≡ Some x) × (test x ≡ true)
some-at test [] h = cc
some-at {X} test (y ∷ ys) h = by (λ e. some-at test ys e) (or_cases (test y) (list_any test ys) h)
  where
    by : (list_any test ys ≡ true → (t : ℕ) × (x : X) × (t < length ys) × (slice_get ys t ≡ Some x) × (test x ≡ true)) → (test y ≡ true) ⊎ (list_any test ys ≡ true) → (t : ℕ) × (x : X) × (t < length (y ∷ ys)) × (slice_get (y ∷ ys) t ≡ Some x) × (test x ≡ true)
    by rest (inl e) = (0, y, omega arith, refl, e)
    by rest (inr e) = let s = rest e in (suc s.0, s.1, omega (arith, s.2), s.3, s.4)

-- the place's point is among all
pub within-all : (points : List Vertex) (p : Coords) → is_vertex points p ≡ true → IsWithin points p 0 (length points)
within-all points p h =
    let s = some-at (λ (v : Vertex). is_same p v.0) points h in record {
      index = s.0;
      level = s.1.1;
      from = omega arith;
      below = s.2;
      at = s.3 ∙ ap (λ q. Some (q, s.1.1)) (sym (same_of_is_same p s.1.0 s.4));
    }

module _ (points : List Vertex) (ascend : Ascend (λ (v w : Vertex). is_before v.0 w.0) points) (p : Coords) where
  -- below the index of a later point
  pub within-below : (low high middle : ℕ) (v : Vertex) → slice_get points middle ≡ Some v → is_before p v.0 ≡ true → IsWithin points p low high → IsWithin points p low middle
  within-below low high middle v at before w = record { index = w.index; level = w.level; from = w.from; below = ⊎_elim (λ less. less) not_from (cases_lt w.index middle); at = w.at }
    where
      later : middle < w.index → ⊥
      later less = true≢false (sym before ∙ not_after v.0 p (ascend middle w.index v (p, w.level) less at w.at))

      equal : middle ≡ w.index → ⊥
      equal e =
          let there : v ≡ (p, w.level) = same_some v (p, w.level) (sym at ∙ ap (slice_get points) e ∙ w.at) in
          itself p (ap (λ (u : Vertex). is_before p u.0) (sym there) ∙ before)

      not_from : middle ≤ w.index → w.index < middle
      not_from h = absurd (⊎_elim equal later (eq-or-lt_of_le h))

  -- from the index of a point that isn't later
  pub within-from : (low high middle : ℕ) (v : Vertex) → slice_get points middle ≡ Some v → is_before p v.0 ≡ false → IsWithin points p low high → IsWithin points p middle high
  within-from low high middle v at not_before w = record { index = w.index; level = w.level; from = ⊎_elim (λ less. absurd (earlier less)) (λ from. from) (cases_lt w.index middle); below = w.below; at = w.at }
    where
      earlier : w.index < middle → ⊥
      earlier less = true≢false (sym (ascend w.index middle (p, w.level) v less w.at at) ∙ not_before)

  -- the id and the level of the point at an index
  module _ (index : ℕ) (level : ℤ) (at : slice_get points index ≡ Some (p, level)) where
    first : position_or_len (λ (v : Vertex). is_same p v.0) points ≡ index
    first = first-at (λ (v : Vertex). is_same p v.0) points index (p, level) at (is_same_itself p)
        (λ j w less e. false_from_ne_true (is_same p w.0) (λ same. itself p (ap (λ q. is_before q p) (same_of_is_same p w.0 same) ∙ ascend j index w (p, level) less e at)))

    pub id-is : id_of points p ≡ index + 1
    id-is = ap (λ n. n + 1) first

    pub level-is : level_at points p ≡ level
    level-is = ap (λ o. unwrap_or (option_map (λ (v : Vertex). v.1) o) (pos 0)) (find_at (λ (v : Vertex). is_same p v.0) points ∙ ap (slice_get points) first ∙ at)
