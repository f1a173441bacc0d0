-- The walk over the facets, one after the last.
use Rattle.std.proofs.Common.{◌≡◌, ℕ, zero, suc, ◌+◌, ◌<◌, ◌≤◌, List, [], ◌∷◌, length, Bool, true, false, Option, None, Some, ⊎_elim, refl, sym, ap, subst, ◌∙◌, arith}
use Rattle.std.specs.Prelude.{slice_get, option_map}
use Rattle.std.specs.Cmp.{IsTotalOrder}
use Rattle.std.specs.Ordering.{is_lt, ordering_reverse}
use Rattle.std.proofs.lemmas.Cmp.{then_total, on_total}
use Rattle.std.specs.declared.cmp.Ordering.{Ordering}
use Rattle.std.specs.declared.cmp.Ordering.TheVariants.{Less, Equal, Greater}
use Rattle.std.proofs.Math.Nat.{eq-or-lt_of_le}
use Rattle.std.proofs.lemmas.Bool.{false_from_ne_true}
use Rattle.std.proofs.lemmas.List.Folds.{find_at}
use Rattle.ground_model.specs.declared.facet.Facet.{Facet}
use Rattle.ground_model.proofs.Contents.{places_total}
use Rattle.landxml_write.specs.Exports.{Face, Ascend, corners_cmp, comes_after, first_after}
use Rattle.landxml_write.specs.Found.{last_of}
use Rattle.landxml_write.proofs.Found.{first-at, same_some}

corners_total : IsTotalOrder corners_cmp
corners_total = then_total (on_total (λ f. f.a) places_total) (then_total (on_total (λ f. f.b) places_total) (on_total (λ f. f.c) places_total))

one_way : (o : Ordering) → is_lt o ≡ true → is_lt (ordering_reverse o) ≡ true → ⊥
one_way Less p q = cc
one_way Equal p q = cc
one_way Greater p q = cc

-- of two facets one alone comes before the other
not_both : (f g : Facet) → is_lt (corners_cmp f g) ≡ true → is_lt (corners_cmp g f) ≡ true → ⊥
not_both f g p q = one_way (corners_cmp g f) q (sym (ap is_lt (corners_total.antisymm f g)) ∙ p)

-- what stands before an element
stands : {X : Type 0} (xs : List X) (m k : ℕ) (x : X) → m < k → slice_get xs k ≡ Some x → (y : X) × (slice_get xs m ≡ Some y)
stands [] m k x less at = cc
stands (z ∷ xs) zero k x less at = (z, refl)
stands (z ∷ xs) (suc m) zero x less at = absurd (omega (arith, less))
stands (z ∷ xs) (suc m) (suc k) x less at = stands xs m k x (omega (arith, less)) at

some_at : {X : Type 0} (xs : List X) (k : ℕ) → k < length xs → (x : X) × (slice_get xs k ≡ Some x)
some_at [] k less = absurd (omega (arith, less))
some_at (x ∷ xs) zero less = (x, refl)
some_at (x ∷ xs) (suc k) less = some_at xs k (omega (arith, less))

some_none : {X : Type 0} (x : X) → Some x ≡ None → ⊥
some_none x e = cc

-- the last of the first k + 1 is the k-th
pub last-more : (faces : List Face) (k : ℕ) (f : Face) → slice_get faces k ≡ Some f → Some f.0 ≡ last_of faces (k + 1)
last-more faces k f at =
    let e : k + 1 ≡ suc k = omega arith in
    sym (ap (last_of faces) e ∙ ap (option_map (λ (g : Face). g.0)) at)

module _ (faces : List Face) (ascend : Ascend (λ (f g : Face). is_lt (corners_cmp f.0 g.0)) faces) where
  after-last : (last : Option Facet) (k : ℕ) (f : Face) → slice_get faces k ≡ Some f → comes_after last f.0 ≡ true → ((j : ℕ) (h : Face) → j < k → slice_get faces j ≡ Some h → comes_after last h.0 ≡ false) → first_after last faces ≡ Some f
  after-last last k f at passes before =
      let test : Face → Bool = λ g. comes_after last g.0 in
      find_at test faces ∙ ap (slice_get faces) (first-at test faces k f at passes before) ∙ at

  -- the first facet after the last of the first k is the k-th
  pub next-face : (k : ℕ) (f : Face) → slice_get faces k ≡ Some f → first_after (last_of faces k) faces ≡ Some f
  next-face zero f at = after-last None 0 f at refl (λ j h less e. absurd (omega (arith, less)))
  next-face (suc m) f at = by (stands faces m (suc m) f (omega arith) at)
    where
      by : (g : Face) × (slice_get faces m ≡ Some g) → first_after (last_of faces (suc m)) faces ≡ Some f
      by found =
          let last : last_of faces (suc m) ≡ Some found.0.0 = ap (option_map (λ (h : Face). h.0)) found.1 in
          ap (λ l. first_after l faces) last ∙ after-last (Some found.0.0) (suc m) f at (ascend m (suc m) found.0 f (omega arith) found.1 at) (earlier found.0 found.1)
        where
          earlier : (g : Face) → slice_get faces m ≡ Some g → (j : ℕ) (h : Face) → j < suc m → slice_get faces j ≡ Some h → is_lt (corners_cmp g.0 h.0) ≡ false
          earlier g at_m j h less at_j = false_from_ne_true (is_lt (corners_cmp g.0 h.0)) (λ lt. ⊎_elim (same lt) (λ below. not_both g.0 h.0 lt (ascend j m h g below at_j at_m)) (eq-or-lt_of_le j_to_m))
            where
              j_to_m : j ≤ m
              j_to_m = omega (arith, less)

              same : is_lt (corners_cmp g.0 h.0) ≡ true → j ≡ m → ⊥
              same lt e =
                  let one : h ≡ g = same_some h g (sym at_j ∙ ap (slice_get faces) e ∙ at_m) in
                  let itself : is_lt (corners_cmp g.0 g.0) ≡ true = ap (λ (u : Face). is_lt (corners_cmp g.0 u.0)) (sym one) ∙ lt in
                  not_both g.0 g.0 itself itself

  -- what stands after the last of the first k, where there are more
  pub face-at : (k : ℕ) (last : Option Facet) (f : Face) → last ≡ last_of faces k → k < length faces → first_after last faces ≡ Some f → slice_get faces k ≡ Some f
  face-at k last f is less found =
      let there = some_at faces k less in
      there.1 ∙ sym (next-face k there.0 there.1) ∙ ap (λ l. first_after l faces) (sym is) ∙ found

  -- something stands after the last of the first k, where there are more
  pub no-gap : (k : ℕ) (last : Option Facet) → last ≡ last_of faces k → k < length faces → first_after last faces ≡ None → ⊥
  no-gap k last is less none =
      let there = some_at faces k less in
      some_none there.0 (sym (next-face k there.0 there.1) ∙ ap (λ l. first_after l faces) (sym is) ∙ none)
