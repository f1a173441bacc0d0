-- The pieces that a count makes, and the count that these pieces have.
use Rattle.std.proofs.Common.{◌≡◌, ℕ, zero, suc, ◌<◌, ◌⊎◌, inl, inr, refl, sym, ap, subst, ◌∙◌, arith, List, [], ◌∷◌, Bool, true, false, cond, Some, None}
use Rattle.std.specs.Prelude.{map, find, Option, ◌&&◌, nat_lt, if◌then◌else◌}
use Rattle.std.proofs.lemmas.Bool.{and_parts, and_from, or_cases, or_left, or_right, ltb-true, true≢false}
use Rattle.std.proofs.lemmas.Bool.Decides.{nat_tests}
use Rattle.ground_model.specs.declared.piece.Piece.{Piece}
use Rattle.ground_model.specs.Place.{Coords, is_before, is_same}
use Rattle.ground_model.specs.Line.{is_point, pairs}
use Rattle.ground_model.specs.Table.{pieces_by}
use Rattle.ground_model.specs.Tri.{joins, count_at, count_in}
use Rattle.ground_model.proofs.Elements.{In, of_filter, in_filter, of_map, in_map, in_pairs, none_found}
use Rattle.ground_model.proofs.LinePieces.{in_points, is_same_itself}
use Rattle.ground_model.proofs.Segments.{not_after}
use Rattle.ground_model.proofs.Ties.{same_of_is_same}

-- the count counts pieces from a point to a later one
pub record CountsPieces (points : List Coords) (g : Coords → Coords → ℕ) : Type 0 where
  pub ordered : (p q : Coords) → 0 < g p q → is_before p q ≡ true
  pub first : (p q : Coords) → 0 < g p q → is_point points p ≡ true
  pub last : (p q : Coords) → 0 < g p q → is_point points q ≡ true

-- the count in both directions
abbrev pub both_ways : (Coords → Coords → ℕ) → Coords → Coords → ℕ
both_ways g p q = if is_before p q then g p q else g q p

abbrev piece_with : (Coords → Coords → ℕ) → Coords × Coords → Piece
piece_with g pair = record { p = pair.0; q = pair.1; count = g pair.0 pair.1 }

-- ---- what is a piece
pub record IsCounted (g : Coords → Coords → ℕ) (x : Piece) : Type 0 where
  pub some : 0 < g x.p x.q
  pub count : x.count ≡ g x.p x.q

pub counted-of : (g : Coords → Coords → ℕ) (points : List Coords) (x : Piece) → In x (pieces_by g points) → IsCounted g x
counted-of g points x i =
    let kept = of_filter (λ y. nat_lt 0 y.count) (map (piece_with g) (pairs points)) x i in
    let pair = of_map (piece_with g) (pairs points) x kept.0 in
    subst (IsCounted g) (sym pair.2) (record { some = ltb-true 0 (g pair.0.0 pair.0.1) (sym (ap (λ y. nat_lt 0 y.count) pair.2) ∙ kept.1); count = refl })

pub counted-in : (g : Coords → Coords → ℕ) (points : List Coords) → CountsPieces points g → (p q : Coords) → 0 < g p q → In (record { p = p; q = q; count = g p q }) (pieces_by g points)
counted-in g points c p q some =
    in_filter (λ y. nat_lt 0 y.count) (map (piece_with g) (pairs points)) (record { p = p; q = q; count = g p q })
    (in_map (piece_with g) (pairs points) (p, q) (in_pairs points p q (in_points points p (c.first p q some)) (in_points points q (c.last p q some)))) (less (g p q) some)
  where
    less : (n : ℕ) → 0 < n → nat_lt 0 n ≡ true
    less n h = grind (arith, nat_tests)

-- ---- what joins two places
in-find : {X : Type 0} (test : X → Bool) (xs : List X) (x : X) → find test xs ≡ Some x → In x xs × (test x ≡ true)
in-find test [] x e = cc
in-find {X} test (y ∷ ys) x e = by (test y) refl e (in-find test ys x)
  where
    by : (t : Bool) → test y ≡ t → cond t (Some y) (find test ys) ≡ Some x → (find test ys ≡ Some x → In x ys × (test x ≡ true)) → In x (y ∷ ys) × (test x ≡ true)
    by true f e rest = let same : x ≡ y = cc in (inl same, ap test same ∙ f)
    by false f e rest = let found = rest e in (inr found.0, found.1)

joined-is : (p q : Coords) (x : Piece) → joins p q x ≡ true → ((x.p ≡ p) × (x.q ≡ q)) ⊎ ((x.p ≡ q) × (x.q ≡ p))
joined-is p q x e = by (or_cases (is_same x.p p && is_same x.q q) (is_same x.p q && is_same x.q p) e)
  where
    by : ((is_same x.p p && is_same x.q q) ≡ true) ⊎ ((is_same x.p q && is_same x.q p) ≡ true) → ((x.p ≡ p) × (x.q ≡ q)) ⊎ ((x.p ≡ q) × (x.q ≡ p))
    by (inl h) = let both = and_parts (is_same x.p p) (is_same x.q q) h in inl (same_of_is_same x.p p both.0, same_of_is_same x.q q both.1)
    by (inr h) = let both = and_parts (is_same x.p q) (is_same x.q p) h in inr (same_of_is_same x.p q both.0, same_of_is_same x.q p both.1)

pub both-then : (g : Coords → Coords → ℕ) (p q : Coords) → is_before p q ≡ true → both_ways g p q ≡ g p q
both-then g p q e = ap (λ (k : Bool). if k then g p q else g q p) e

pub both-else : (g : Coords → Coords → ℕ) (p q : Coords) → is_before p q ≡ false → both_ways g p q ≡ g q p
both-else g p q e = ap (λ (k : Bool). if k then g p q else g q p) e

-- a piece between the two in one direction or the other
pub record Joined (g : Coords → Coords → ℕ) (points : List Coords) (p q : Coords) : Type 0 where
  pub piece : Piece
  pub of : In piece (pieces_by g points)
  pub ends : ((piece.p ≡ p) × (piece.q ≡ q)) ⊎ ((piece.p ≡ q) × (piece.q ≡ p))

pub joined-by : (g : Coords → Coords → ℕ) (points : List Coords) → CountsPieces points g → (p q : Coords) → 0 < both_ways g p q → Joined g points p q
joined-by g points c p q some = by (is_before p q) refl
  where
    along : (m n : ℕ) → m ≡ n → 0 < m → 0 < n
    along m n e h = omega (arith, e, h)

    by : (t : Bool) → is_before p q ≡ t → Joined g points p q
    by true e = record { piece = record { p = p; q = q; count = g p q }; of = counted-in g points c p q (along (both_ways g p q) (g p q) (both-then g p q e) some); ends = inl (refl, refl) }
    by false e = record { piece = record { p = q; q = p; count = g q p }; of = counted-in g points c q p (along (both_ways g p q) (g q p) (both-else g p q e) some); ends = inr (refl, refl) }

-- a piece's count, both ways
pub both-some : (g : Coords → Coords → ℕ) (points : List Coords) → CountsPieces points g → (p q : Coords) → 0 < g p q → 0 < both_ways g p q
both-some g points c p q some = along (g p q) (both_ways g p q) (sym (both-then g p q (c.ordered p q some))) some
  where
    along : (m n : ℕ) → m ≡ n → 0 < m → 0 < n
    along m n e h = omega (arith, e, h)

pub both-some-back : (g : Coords → Coords → ℕ) (points : List Coords) → CountsPieces points g → (p q : Coords) → 0 < g p q → 0 < both_ways g q p
both-some-back g points c p q some = along (g p q) (both_ways g q p) (sym (both-else g q p (not_after p q (c.ordered p q some)))) some
  where
    along : (m n : ℕ) → m ≡ n → 0 < m → 0 < n
    along m n e h = omega (arith, e, h)

-- ---- the count that the pieces have is the count
pub count_at-pieces : (g : Coords → Coords → ℕ) (points : List Coords) → CountsPieces points g → (p q : Coords) → count_at (pieces_by g points) p q ≡ both_ways g p q
count_at-pieces g points c p q = by (find (joins p q) (pieces_by g points)) refl
  where
    one : (x : Piece) → IsCounted g x → ((x.p ≡ p) × (x.q ≡ q)) ⊎ ((x.p ≡ q) × (x.q ≡ p)) → x.count ≡ both_ways g p q
    one x k (inl e) = k.count ∙ (λ i. g (e.0 i) (e.1 i)) ∙ sym (both-then g p q (sym (λ i. is_before (e.0 i) (e.1 i)) ∙ c.ordered x.p x.q k.some))
    one x k (inr e) = k.count ∙ (λ i. g (e.0 i) (e.1 i)) ∙ sym (both-else g p q (not_after q p (sym (λ i. is_before (e.0 i) (e.1 i)) ∙ c.ordered x.p x.q k.some)))

    joins-ends : (x : Piece) → ((x.p ≡ p) × (x.q ≡ q)) ⊎ ((x.p ≡ q) × (x.q ≡ p)) → joins p q x ≡ true
    joins-ends x (inl e) = or_left (is_same x.p p && is_same x.q q) (is_same x.p q && is_same x.q p) (and_from (is_same x.p p) (is_same x.q q) (ap (λ k. is_same k p) e.0 ∙ is_same_itself p) (ap (λ k. is_same k q) e.1 ∙ is_same_itself q))
    joins-ends x (inr e) = or_right (is_same x.p p && is_same x.q q) (is_same x.p q && is_same x.q p) (and_from (is_same x.p q) (is_same x.q p) (ap (λ k. is_same k q) e.0 ∙ is_same_itself q) (ap (λ k. is_same k p) e.1 ∙ is_same_itself p))

    none : find (joins p q) (pieces_by g points) ≡ None → (n : ℕ) → both_ways g p q ≡ n → 0 ≡ n
    none e zero f = refl
    none e (suc n) f =
        let some : 0 < both_ways g p q = omega (arith, f) in
        let j = joined-by g points c p q some in
        absurd (true≢false (sym (joins-ends j.piece j.ends) ∙ none_found (joins p q) (pieces_by g points) j.piece e j.of))

    by : (o : Option Piece) → find (joins p q) (pieces_by g points) ≡ o → count_in o ≡ both_ways g p q
    by None e = none e (both_ways g p q) refl
    by (Some x) e =
        let found = in-find (joins p q) (pieces_by g points) x e in
        one x (counted-of g points x found.0) (joined-is p q x found.1)
