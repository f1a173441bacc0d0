-- One triple after others: its mark, the level of its place, and the points.
use Rattle.std.proofs.Common.{◌≡◌, suc, ◌+◌, ◌≤◌, Bool, true, false, cond, List, [], ◌∷◌, ◌++◌, length, map, filter, Option, None, Some, refl, sym, ap, ◌∙◌, arith, append_assoc, append-nil}
use Rattle.std.specs.Prelude.{count_by, option_map, is_none, is_some, ◌||◌}
use Rattle.std.specs.List.{find, list_any}
use Rattle.std.specs.Cmp.{both_ways}
use Rattle.std.specs.Option.{option_or}
use Rattle.std.specs.Ordering.{int_eq}
use Rattle.std.proofs.lemmas.Bool.{and_parts}
use Rattle.std.proofs.lemmas.Bool.Decides.{Decides-int_eq}
use Rattle.std.proofs.lemmas.List.{map-append}
use Rattle.std.proofs.lemmas.List.Elements.{filter-append}
use Rattle.std.proofs.lemmas.List.Folds.{find-append}
use Rattle.std.proofs.lemmas.List.Sums.{count_by-le-length, length-filter}
use Rattle.std.proofs.lemmas.List.{length-append}
use Rattle.ground_num.specs.declared.decimal.Thousandths.{Thousandths}
use Rattle.landxml_read.specs.declared.raw.Triple.{Triple}
use Rattle.landxml_surface.specs.declared.spot.Spot.{Spot}
use Rattle.landxml_surface.specs.Heights.{is_same_spot, spot_of, level_at, Marked, marked_after, marked, is_first, heights}

-- ---- marks

marked_after-more : (earlier ts : List Triple) (t : Triple) → marked_after earlier (ts ++ t ∷ []) ≡ marked_after earlier ts ++ (t, level_at (earlier ++ ts) (spot_of t)) ∷ []
marked_after-more earlier [] t = ap (λ e. (t, level_at e (spot_of t)) ∷ []) (sym (append-nil earlier))
marked_after-more earlier (u ∷ ts) t =
    ap (λ ms. (u, level_at earlier (spot_of u)) ∷ ms)
    (marked_after-more (earlier ++ u ∷ []) ts t ∙ ap (λ e. marked_after (earlier ++ u ∷ []) ts ++ (t, level_at e (spot_of t)) ∷ []) (append_assoc earlier (u ∷ []) ts))

pub marked-more : (ts : List Triple) (t : Triple) → marked (ts ++ t ∷ []) ≡ marked ts ++ (t, level_at ts (spot_of t)) ∷ []
unfolding marked
marked-more ts t = marked_after-more [] ts t

marked_after-length : (earlier ts : List Triple) → length (marked_after earlier ts) ≡ length ts
marked_after-length earlier [] = refl
marked_after-length earlier (t ∷ ts) = ap suc (marked_after-length (earlier ++ t ∷ []) ts)

-- no more marks pass than there are triples
pub marked-few : (p : Marked → Bool) (ts : List Triple) → count_by p (marked ts) ≤ length ts
unfolding marked
marked-few p ts = omega (arith, count_by-le-length p (marked_after [] ts), marked_after-length [] ts)

-- ---- counts

pub count-more : {X : Type 0} (p : X → Bool) (xs : List X) (y : X) → count_by p (xs ++ y ∷ []) ≡ count_by p xs + cond (p y) 1 0
count-more p xs y =
    sym (length-filter p (xs ++ y ∷ [])) ∙ ap length (filter-append p xs (y ∷ [])) ∙ length-append (filter p xs) (filter p (y ∷ [])) ∙ ap (λ n. n + length (filter p (y ∷ []))) (length-filter p xs) ∙ ap (λ n. count_by p xs + n) (one (p y))
  where
    one : (b : Bool) → length (cond b (y ∷ []) []) ≡ cond b 1 0
    one true = refl
    one false = refl

-- ---- levels

pub spot-same : (p q : Spot) → is_same_spot p q ≡ true → p ≡ q
spot-same p q e =
    let parts = and_parts (int_eq p.n q.n) (int_eq p.e q.e) e in
    let n = (Decides-int_eq p.n q.n).0 parts.0 in
    let east = (Decides-int_eq p.e q.e).0 parts.1 in
    λ i. record { n = n i; e = east i }

-- the test goes both ways
spot-turned : (p q : Spot) → is_same_spot p q ≡ is_same_spot q p
spot-turned p q = both_ways (is_same_spot p q) (is_same_spot q p) (turned p q) (turned q p)
  where
    turned : (p q : Spot) → is_same_spot p q ≡ true → is_same_spot q p ≡ true
    turned p q e = ap (λ r. is_same_spot r p) (sym (spot-same p q e)) ∙ ap (is_same_spot p) (spot-same p q e) ∙ e

level-more : (ts : List Triple) (t : Triple) (p : Spot) → level_at (ts ++ t ∷ []) p ≡ option_or (level_at ts p) (cond (is_same_spot p (spot_of t)) (Some t.z) None)
level-more ts t p = ap (option_map (λ (u : Triple). u.z)) (find-append (λ u. is_same_spot p (spot_of u)) ts (t ∷ [])) ∙ by (find (λ u. is_same_spot p (spot_of u)) ts) (is_same_spot p (spot_of t))
  where
    by : (o : Option Triple) (b : Bool) → option_map (λ (u : Triple). u.z) (option_or o (cond b (Some t) None)) ≡ option_or (option_map (λ (u : Triple). u.z) o) (cond b (Some t.z) None)
    by None true = refl
    by None false = refl
    by (Some u) b = refl

-- the first triple at its place gives its level
pub level-first : (ts : List Triple) (t : Triple) (p : Spot) → level_at ts (spot_of t) ≡ None → level_at (ts ++ t ∷ []) p ≡ cond (is_same_spot (spot_of t) p) (Some t.z) (level_at ts p)
level-first ts t p none = level-more ts t p ∙ by (is_same_spot p (spot_of t)) refl ∙ ap (λ b. cond b (Some t.z) (level_at ts p)) (spot-turned p (spot_of t))
  where
    by : (b : Bool) → is_same_spot p (spot_of t) ≡ b → option_or (level_at ts p) (cond b (Some t.z) None) ≡ cond b (Some t.z) (level_at ts p)
    by true e = ap (λ o. option_or o (Some t.z)) (ap (level_at ts) (spot-same p (spot_of t) e) ∙ none)
    by false e = nothing (level_at ts p)
      where
        nothing : (o : Option Thousandths) → option_or o None ≡ o
        nothing None = refl
        nothing (Some z) = refl

-- a further triple at a place leaves its level
pub level-kept : (ts : List Triple) (t : Triple) (p : Spot) (z : Thousandths) → level_at ts (spot_of t) ≡ Some z → level_at (ts ++ t ∷ []) p ≡ level_at ts p
level-kept ts t p z some = level-more ts t p ∙ by (level_at ts p) refl (is_same_spot p (spot_of t)) refl
  where
    by : (o : Option Thousandths) → level_at ts p ≡ o → (b : Bool) → is_same_spot p (spot_of t) ≡ b → option_or o (cond b (Some t.z) None) ≡ o
    by (Some y) e b f = refl
    by None e false f = refl
    by None e true f = absurd (clash (sym e ∙ ap (level_at ts) (spot-same p (spot_of t) f) ∙ some))
      where
        clash : None ≡ Some z → ⊥
        clash g = cc

-- ---- points

heights-more : (ts : List Triple) (t : Triple) → heights (ts ++ t ∷ []) ≡ heights ts ++ cond (is_none (level_at ts (spot_of t))) ((spot_of t, t.z) ∷ []) []
heights-more ts t =
    ap (λ ms. map entry (filter is_first ms)) (marked-more ts t)
    ∙ ap (map entry) (filter-append is_first (marked ts) ((t, level_at ts (spot_of t)) ∷ []))
    ∙ map-append entry (filter is_first (marked ts)) (filter is_first ((t, level_at ts (spot_of t)) ∷ []))
    ∙ ap (λ es. heights ts ++ es) (one (is_none (level_at ts (spot_of t))))
  where
    entry : Marked → Spot × Thousandths
    entry m = (spot_of m.0, m.0.z)

    one : (b : Bool) → map entry (cond b ((t, level_at ts (spot_of t)) ∷ []) []) ≡ cond b ((spot_of t, t.z) ∷ []) []
    one true = refl
    one false = refl

pub heights-first : (ts : List Triple) (t : Triple) → level_at ts (spot_of t) ≡ None → heights (ts ++ t ∷ []) ≡ heights ts ++ (spot_of t, t.z) ∷ []
heights-first ts t none = heights-more ts t ∙ ap (λ o. heights ts ++ cond (is_none o) ((spot_of t, t.z) ∷ []) []) none

pub heights-kept : (ts : List Triple) (t : Triple) (z : Thousandths) → level_at ts (spot_of t) ≡ Some z → heights (ts ++ t ∷ []) ≡ heights ts
heights-kept ts t z some = heights-more ts t ∙ ap (λ o. heights ts ++ cond (is_none o) ((spot_of t, t.z) ∷ []) []) some ∙ append-nil (heights ts)

-- ---- how the counts go on
pub counts-more : (p : Marked → Bool) (ts : List Triple) (t : Triple) → count_by p (marked (ts ++ t ∷ [])) ≡ count_by p (marked ts) + cond (p (t, level_at ts (spot_of t))) 1 0
counts-more p ts t = ap (count_by p) (marked-more ts t) ∙ count-more p (marked ts) (t, level_at ts (spot_of t))

-- a place is that of a triple exactly where it has a level
pub any-level : (ts : List Triple) (p : Spot) → list_any (λ t. is_same_spot p (spot_of t)) ts ≡ is_some (level_at ts p)
any-level [] p = refl
any-level (t ∷ ts) p = by (is_same_spot p (spot_of t)) (any-level ts p)
  where
    by : (b : Bool) → list_any (λ u. is_same_spot p (spot_of u)) ts ≡ is_some (level_at ts p) → (b || list_any (λ u. is_same_spot p (spot_of u)) ts) ≡ is_some (option_map (λ (u : Triple). u.z) (cond b (Some t) (find (λ u. is_same_spot p (spot_of u)) ts)))
    by true h = refl
    by false h = h
