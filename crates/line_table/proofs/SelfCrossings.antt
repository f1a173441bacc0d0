-- The first two links of a line that cross, as a search from each link on.
use Rattle.std.proofs.Common.{◌≡◌, ℕ, ◌+◌, ◌<◌, ◌≤◌, refl, sym, ap, ◌∙◌, arith, List, [], ◌∷◌, ◌++◌, Bool, true, false, cond, length, append_assoc, length-append}
use Rattle.std.specs.Prelude.{Option, Some, None, option_map, ◌&&◌, find, nat_lt, take, drop, if◌then◌else◌}
use Rattle.std.specs.List.{All, list_all, position_from, enumerate_from, zip}
use Rattle.std.specs.Option.{option_or}
use Rattle.std.proofs.lemmas.Bool.{lt-ltb, le-ltb}
use Rattle.std.proofs.lemmas.List.Folds.{find-append, list_all-append}
use Rattle.std.proofs.lemmas.List.Elements.{All-head, All-tail, All-cons, All-nil}
use Rattle.std.proofs.lemmas.Slice.Zip.{length-zip}
use Rattle.ground_model.specs.Place.{Coords}
use Rattle.ground_model.specs.Line.{Line, Segment, links, is_point}
use Rattle.ground_model.specs.Kind.{is_ring}
use Rattle.ground_model.specs.Crossings.{any_cross, pieces_on_link, self_cross, cross_between, is_on_points}
use Rattle.ground_model.proofs.Crossings.{pieces_on_link-links}
use Rattle.line_table.proofs.Searches.{first_pair, pairs-first}

-- the numbers of the first of the links that crosses a later one, and of that, where the first link has the number n
pub pair_from : List Coords → ℕ → List Segment → Option (ℕ × ℕ)
pair_from points n [] = None
pair_from points n (s ∷ ts) = option_or (option_map {U = ℕ × ℕ} (λ m. (n, m)) (position_from (cross_between points s) (n + 1) ts)) (pair_from points (n + 1) ts)

pub pair-nil : (points : List Coords) (n : ℕ) → pair_from points n [] ≡ None
unfolding pair_from
pair-nil points n = refl

pub pair-some : (points : List Coords) (n : ℕ) (s : Segment) (ts : List Segment) (m : ℕ) → position_from (cross_between points s) (n + 1) ts ≡ Some m → pair_from points n (s ∷ ts) ≡ Some (n, m)
unfolding pair_from
pair-some points n s ts m h = ap (λ o. option_or (option_map {U = ℕ × ℕ} (λ m. (n, m)) o) (pair_from points (n + 1) ts)) h

pub pair-none : (points : List Coords) (n : ℕ) (s : Segment) (ts : List Segment) → position_from (cross_between points s) (n + 1) ts ≡ None → pair_from points n (s ∷ ts) ≡ pair_from points (n + 1) ts
unfolding pair_from
pair-none points n s ts h = ap (λ o. option_or (option_map {U = ℕ × ℕ} (λ m. (n, m)) o) (pair_from points (n + 1) ts)) h

-- ---- the ends of links are points

abbrev HasEnds : List Coords → Segment → Type 0
HasEnds points s = (is_point points s.0 ≡ true) × (is_point points s.1 ≡ true)

and_first : (a b : Bool) → (a && b) ≡ true → a ≡ true
and_first true b h = refl
and_first false b h = h

and_second : (a b : Bool) → (a && b) ≡ true → b ≡ true
and_second true b h = h
and_second false b h = cc

zipped : (points xs ys : List Coords) → list_all (is_point points) xs ≡ true → list_all (is_point points) ys ≡ true → All (HasEnds points) (zip xs ys)
zipped points [] ys h k = All-nil (HasEnds points)
zipped points (x ∷ xs) [] h k = All-nil (HasEnds points)
zipped points (x ∷ xs) (y ∷ ys) h k =
    All-cons (HasEnds points) (x, y) (zip xs ys) (and_first (is_point points x) (list_all (is_point points) xs) h, and_first (is_point points y) (list_all (is_point points) ys) k)
    (zipped points xs ys (and_second (is_point points x) (list_all (is_point points) xs) h) (and_second (is_point points y) (list_all (is_point points) ys) k))

both : (a b : Bool) → a ≡ true → b ≡ true → (a && b) ≡ true
both true b p q = q
both false b p q = p

of_rest : (p : Coords → Bool) (xs : List Coords) → list_all p xs ≡ true → list_all p (drop 1 xs) ≡ true
of_rest p [] h = refl
of_rest p (x ∷ xs) h = and_second (p x) (list_all p xs) h

of_first : (p : Coords → Bool) (xs : List Coords) (b : Bool) → list_all p xs ≡ true → list_all p (if b then take 1 xs else []) ≡ true
of_first p [] true h = refl
of_first p (x ∷ xs) true h = both (p x) true (and_first (p x) (list_all p xs) h) refl
of_first p xs false h = refl

pub links_end : (points : List Coords) (line : Line) → is_on_points points line ≡ true → All (HasEnds points) (links line)
unfolding is_on_points
links_end points line h =
    zipped points line.places (drop 1 line.places ++ (if is_ring line.kind then take 1 line.places else [])) h
    (list_all-append (is_point points) (drop 1 line.places) (if is_ring line.kind then take 1 line.places else []) ∙ both _ _ (of_rest (is_point points) line.places h) (of_first (is_point points) line.places (is_ring line.kind) h))

-- ---- the search

abbrev passes : List Coords → ℕ × Segment → ℕ × Segment → Bool
passes points l m = nat_lt l.0 m.0 && any_cross (pieces_on_link points l.1) (pieces_on_link points m.1)

-- no earlier link counts, and not the link itself
earlier : (points : List Coords) (n k : ℕ) (s : Segment) (ts : List Segment) → k + length ts ≤ n + 1 → find (passes points (n, s)) (enumerate_from k ts) ≡ None
earlier points n k s [] h = refl
earlier points n k s (t ∷ ts) h = ap (λ b. cond (b && any_cross (pieces_on_link points s) (pieces_on_link points t)) (Some (k, t)) (find (passes points (n, s)) (enumerate_from (k + 1) ts))) (le-ltb n k (omega arith)) ∙ earlier points n (k + 1) s ts (omega arith)

later : (points : List Coords) (n k : ℕ) (s : Segment) (ts : List Segment) → n < k → HasEnds points s → All (HasEnds points) ts → option_map {U = ℕ × ℕ} (λ (m : ℕ × Segment). (n, m.0)) (find (passes points (n, s)) (enumerate_from k ts)) ≡ option_map {U = ℕ × ℕ} (λ m. (n, m)) (position_from (cross_between points s) k ts)
later points n k s [] h own ends = refl
later points n k s (t ∷ ts) h own ends =
    ap (λ b. option_map {U = ℕ × ℕ} (λ (m : ℕ × Segment). (n, m.0)) (cond b (Some (k, t)) (find (passes points (n, s)) (enumerate_from (k + 1) ts)))) (test (All-head (HasEnds points) t ts ends))
    ∙ at (cross_between points s t) (later points n (k + 1) s ts (omega arith) own (All-tail (HasEnds points) t ts ends))
  where
    test : HasEnds points t → (nat_lt n k && any_cross (pieces_on_link points s) (pieces_on_link points t)) ≡ cross_between points s t
    test e = ap (λ b. b && any_cross (pieces_on_link points s) (pieces_on_link points t)) (lt-ltb n k h) ∙ pieces_on_link-links points s t own.0 own.1 e.0 e.1

    at : (b : Bool) → option_map {U = ℕ × ℕ} (λ (m : ℕ × Segment). (n, m.0)) (find (passes points (n, s)) (enumerate_from (k + 1) ts)) ≡ option_map {U = ℕ × ℕ} (λ m. (n, m)) (position_from (cross_between points s) (k + 1) ts)
        → option_map {U = ℕ × ℕ} (λ (m : ℕ × Segment). (n, m.0)) (cond b (Some (k, t)) (find (passes points (n, s)) (enumerate_from (k + 1) ts))) ≡ option_map {U = ℕ × ℕ} (λ m. (n, m)) (cond b (Some k) (position_from (cross_between points s) (k + 1) ts))
    at true rest = refl
    at false rest = rest

enumerate-append : (k : ℕ) (xs ys : List Segment) → enumerate_from k (xs ++ ys) ≡ enumerate_from k xs ++ enumerate_from (k + length xs) ys
enumerate-append k [] ys = let e : k + 0 ≡ k = omega arith in ap (λ n. enumerate_from n ys) (sym e)
enumerate-append k (x ∷ xs) ys =
    let e : k + 1 + length xs ≡ k + length (x ∷ xs) = omega arith in
    ap (λ zs. (k, x) ∷ zs) (enumerate-append (k + 1) xs ys ∙ ap (λ n. enumerate_from (k + 1) xs ++ enumerate_from n ys) e)

numbers : (n : ℕ) (s : Segment) (o : Option (ℕ × Segment)) (r : Option ((ℕ × Segment) × (ℕ × Segment)))
    → option_map {U = ℕ × ℕ} (λ (f : (ℕ × Segment) × (ℕ × Segment)). (f.0.0, f.1.0)) (option_or (option_map (λ y. ((n, s), y)) o) r) ≡ option_or (option_map {U = ℕ × ℕ} (λ (m : ℕ × Segment). (n, m.0)) o) (option_map {U = ℕ × ℕ} (λ f. (f.0.0, f.1.0)) r)
numbers n s None r = refl
numbers n s (Some y) r = refl

from_here : (points : List Coords) (es : List (ℕ × Segment)) (n : ℕ) (front rest : List Segment) → es ≡ enumerate_from 1 (front ++ rest) → n ≡ 1 + length front → All (HasEnds points) rest
    → option_map {U = ℕ × ℕ} (λ (f : (ℕ × Segment) × (ℕ × Segment)). (f.0.0, f.1.0)) (first_pair (passes points) es (enumerate_from n rest)) ≡ pair_from points n rest
unfolding first_pair pair_from
from_here points es n front [] all e ends = refl
from_here points es n front (s ∷ ts) all e ends =
    let with_it : es ≡ enumerate_from 1 ((front ++ s ∷ []) ++ ts) = all ∙ ap (enumerate_from 1) (sym (append_assoc front (s ∷ []) ts)) in
    let count : 1 + length (front ++ s ∷ []) ≡ n + 1 = omega (arith, length-append front (s ∷ [])) in
    let split : es ≡ enumerate_from 1 (front ++ s ∷ []) ++ enumerate_from (n + 1) ts = with_it ∙ enumerate-append 1 (front ++ s ∷ []) ts ∙ ap (λ k. enumerate_from 1 (front ++ s ∷ []) ++ enumerate_from k ts) count in
    let found : find (passes points (n, s)) es ≡ find (passes points (n, s)) (enumerate_from (n + 1) ts) =
    ap (find (passes points (n, s))) split ∙ find-append (passes points (n, s)) (enumerate_from 1 (front ++ s ∷ [])) (enumerate_from (n + 1) ts)
    ∙ ap (λ o. option_or o (find (passes points (n, s)) (enumerate_from (n + 1) ts))) (earlier points n 1 s (front ++ s ∷ []) (omega arith)) in
    numbers n s (find (passes points (n, s)) es) (first_pair (passes points) es (enumerate_from (n + 1) ts))
    ∙ ap (λ o. option_or (option_map {U = ℕ × ℕ} (λ (m : ℕ × Segment). (n, m.0)) o) (option_map {U = ℕ × ℕ} (λ f. (f.0.0, f.1.0)) (first_pair (passes points) es (enumerate_from (n + 1) ts)))) found
    ∙ ap (λ o. option_or o (option_map {U = ℕ × ℕ} (λ (f : (ℕ × Segment) × (ℕ × Segment)). (f.0.0, f.1.0)) (first_pair (passes points) es (enumerate_from (n + 1) ts)))) (later points n (n + 1) s ts (omega arith) (All-head (HasEnds points) s ts ends) (All-tail (HasEnds points) s ts ends))
    ∙ ap (option_or (option_map {U = ℕ × ℕ} (λ m. (n, m)) (position_from (cross_between points s) (n + 1) ts))) (from_here points es (n + 1) (front ++ s ∷ []) ts with_it (sym count) (All-tail (HasEnds points) s ts ends))

pub self_cross-is : (points : List Coords) (line : Line) → is_on_points points line ≡ true → self_cross points line ≡ pair_from points 1 (links line)
unfolding self_cross
self_cross-is points line h =
    ap (option_map {U = ℕ × ℕ} (λ (f : (ℕ × Segment) × (ℕ × Segment)). (f.0.0, f.1.0))) (pairs-first (passes points) (enumerate_from 1 (links line)) (enumerate_from 1 (links line)))
    ∙ from_here points (enumerate_from 1 (links line)) 1 [] (links line) refl refl (links_end points line h)

pub few_links : (line : Line) → length (links line) ≤ length line.places
few_links line = omega (arith, length-zip line.places (drop 1 line.places ++ (if is_ring line.kind then take 1 line.places else [])))
