-- The volume of slopes in another order, and of one slope more.
use Rattle.std.proofs.Common.{◌≡◌, ℕ, suc, ◌+◌, ◌*◌, ◌≤◌, ◌<◌, ◌^◌, refl, sym, subst, ◌∙◌, arith, List, [], ◌∷◌, ◌++◌, length, take, length-append}
use Rattle.std.specs.Prelude.{ℤ, pos, negsuc, ◌+ℤ◌, ◌-ℤ◌, unsigned_abs, fold, Option}
use Rattle.std.specs.List.{sum_by}
use Rattle.std.specs.List.Sorted.{IsPermutation}
use Rattle.std.proofs.lemmas.Int.{ints}
use Rattle.std.proofs.lemmas.List.Sums.{fold_push, sum_by-cons}
use Rattle.std.proofs.lemmas.List.Sorted.{sum_by-IsPermutation, length_permutation}
use Rattle.ground_model.specs.declared.slope.Slope.{Slope}
use Rattle.ground_model.specs.declared.volume.Volume.{Volume}
use Rattle.ground_model.specs.Volume.{plus, no_volume, volume_on, volume_over}
use Rattle.predicates.specs.Sums.{total}
use Rattle.measures.proofs.Slots.{found_in, found_some}
use Rattle.measures.specs.Volumes.{IsOfFacets, IsSumOf}

-- ---- sums of whole numbers in another order: the positive parts and the negative ones are counts

above : ℤ → ℕ
above (pos n) = n
above (negsuc n) = 0

below : ℤ → ℕ
below (pos n) = 0
below (negsuc n) = suc n

parted : (z : ℤ) → z ≡ pos (above z) -ℤ pos (below z)
unfolding above below
parted (pos n) = omega (arith, ints)
parted (negsuc n) = omega (arith, ints)

total-parts : {X : Type 0} (f : X → ℤ) (xs : List X) → total f xs ≡ pos (sum_by (λ x. above (f x)) xs) -ℤ pos (sum_by (λ x. below (f x)) xs)
total-parts f [] = refl
total-parts f (x ∷ xs) = omega (arith, ints, total-parts f xs, parted (f x), sum_by-cons (λ y. above (f y)) x xs, sum_by-cons (λ y. below (f y)) x xs)

total-permuted : {X : Type 0} (f : X → ℤ) (xs ys : List X) → IsPermutation xs ys → total f xs ≡ total f ys
total-permuted f xs ys p =
    total-parts f xs
    ∙ (λ i. pos (sym (sum_by-IsPermutation (λ x. above (f x)) xs ys p) i) -ℤ pos (sym (sum_by-IsPermutation (λ x. below (f x)) xs ys p) i))
    ∙ sym (total-parts f ys)

-- ---- a volume is three sums
gathered : (datum : ℤ) (v : Volume) (xs : List Slope) → fold (λ sum s. plus sum (volume_on datum s)) v xs
    ≡ record { cut = v.cut +ℤ total (λ s. (volume_on datum s).cut) xs; fill = v.fill +ℤ total (λ s. (volume_on datum s).fill) xs; net = v.net +ℤ total (λ s. (volume_on datum s).net) xs }
gathered datum v [] = (λ i. record { cut = no_more v.cut i; fill = no_more v.fill i; net = no_more v.net i })
  where
    no_more : (x : ℤ) → x ≡ x +ℤ pos 0
    no_more x = omega (arith, ints)
gathered datum v (s ∷ xs) =
    gathered datum (plus v (volume_on datum s)) xs
    ∙ (λ i. record {
      cut = regrouped v.cut (volume_on datum s).cut (total (λ s. (volume_on datum s).cut) xs) i;
      fill = regrouped v.fill (volume_on datum s).fill (total (λ s. (volume_on datum s).fill) xs) i;
      net = regrouped v.net (volume_on datum s).net (total (λ s. (volume_on datum s).net) xs) i;
    })
  where
    regrouped : (x y z : ℤ) → (x +ℤ y) +ℤ z ≡ x +ℤ (y +ℤ z)
    regrouped x y z = omega (arith, ints)

pub volume-permuted : (datum : ℤ) (xs ys : List Slope) → IsPermutation xs ys → volume_over xs datum ≡ volume_over ys datum
unfolding volume_over
volume-permuted datum xs ys p =
    gathered datum no_volume xs
    ∙ (λ i. record {
      cut = pos 0 +ℤ total-permuted (λ s. (volume_on datum s).cut) xs ys p i;
      fill = pos 0 +ℤ total-permuted (λ s. (volume_on datum s).fill) xs ys p i;
      net = pos 0 +ℤ total-permuted (λ s. (volume_on datum s).net) xs ys p i;
    })
    ∙ sym (gathered datum no_volume ys)

-- ---- sizes
pub size_plus : (k m : ℕ) (v w : Volume) → IsOfFacets k v → IsOfFacets m w → IsOfFacets (k + m) (plus v w)
size_plus k m v w p q = record {
  cut = sum v.cut w.cut p.cut q.cut;
  fill = sum v.fill w.fill p.fill q.fill;
  net = sum v.net w.net p.net q.net;
}
  where
    sum : (x y : ℤ) → unsigned_abs x ≤ k * 2 ^ 90 → unsigned_abs y ≤ m * 2 ^ 90 → unsigned_abs (x +ℤ y) ≤ (k + m) * 2 ^ 90
    sum x y h j = omega (arith, ints, h, j)

pub size_more : (k m : ℕ) (v : Volume) → k ≤ m → IsOfFacets k v → IsOfFacets m v
size_more k m v le p = record { cut = omega (arith, le, p.cut); fill = omega (arith, le, p.fill); net = omega (arith, le, p.net) }

pub no_slopes : (datum : ℤ) → IsSumOf datum [] no_volume
unfolding volume_over
no_slopes datum = record { value = refl; net = refl; size = record { cut = omega arith; fill = omega arith; net = omega arith } }

pub slope_more : (datum : ℤ) (seen : List Slope) (s : Slope) (sum part : Volume) → IsSumOf datum seen sum → part ≡ volume_on datum s → part.cut -ℤ part.fill ≡ part.net → IsOfFacets 1 part
    → IsSumOf datum (seen ++ s ∷ []) (plus sum part)
unfolding volume_over
slope_more datum seen s sum part so is net size = record {
  value = (λ i. plus (so.value i) (is i)) ∙ sym (fold_push (λ v x. plus v (volume_on datum x)) no_volume seen s);
  net = both sum.cut sum.fill sum.net part.cut part.fill part.net so.net net;
  size = subst (λ k. IsOfFacets k (plus sum part)) (longer seen s) (size_plus (length seen) 1 sum part so.size size);
}
  where
    both : (a b c d e f : ℤ) → a -ℤ b ≡ c → d -ℤ e ≡ f → (a +ℤ d) -ℤ (b +ℤ e) ≡ c +ℤ f
    both a b c d e f h k = omega (arith, ints, h, k)

    longer : (xs : List Slope) (x : Slope) → length xs + 1 ≡ length (xs ++ x ∷ [])
    longer xs x = sym (length-append xs (x ∷ []))

-- the volume of the slopes at some slots is no larger than that of 2^30 facets
pub slots_size : (datum : ℤ) (table : List (Option Slope)) (slopes : List Slope) → IsPermutation (found_in table) slopes → length slopes < 2 ^ 30 → (i : ℕ) (v : Volume) → IsSumOf datum (found_in (take i table)) v
    → IsOfFacets (2 ^ 30) v
slots_size datum table slopes each_once few i v so =
    let some = found_some table i in
    let all = length_permutation (found_in table) slopes each_once in
    let le : length (found_in (take i table)) ≤ 2 ^ 30 = omega (arith, some, all, few) in
    size_more (length (found_in (take i table))) (2 ^ 30) v le so.size
