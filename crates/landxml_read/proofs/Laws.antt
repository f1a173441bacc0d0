-- A faultless tree's numbers are within the limit, and its indices point into the lists of their surface.
use Rattle.std.proofs.Common.{◌≡◌, ℕ, suc, zero, ◌+◌, ◌≤◌, ◌<◌, Bool, true, false, ◌==◌, ◌&&◌, not, cond, List, [], ◌∷◌, ◌++◌, length, map, filter, flat_map, Option, None, Some, refl, sym, ◌∙◌, ap, subst, arith, nat_lt, unsigned_abs, pos, neg_ℤ}
use Rattle.std.proofs.lemmas.Bool.Decides.{nat_tests}
use Rattle.std.specs.Option.{is_none}
use Rattle.ground_num.specs.Spelling.{Sign, Bare, Plus, Minus, Decimal, magnitude, signed, number_limit}
use Rattle.landxml_read.specs.declared.raw.RawVertex.TheVariants as vertex
use Rattle.landxml_read.specs.declared.fault.DocCause.TheVariants as cause
use Rattle.landxml_read.specs.declared.kind.Kind.{Kind}
use Rattle.landxml_read.specs.declared.kind.Kind.TheVariants.{Outside, Root, Units, UnitOf, Surfaces, Surface, SourceData, Boundaries, Boundary, Breaklines, Breakline, DataPoints, Triples, Pairs, Definition, Points, Point, Faces, Face, Skipped}
use Rattle.landxml_read.specs.Elements.{Found}
use Rattle.landxml_read.specs.Words.{Word, words}
use Rattle.landxml_read.specs.Numbers.{decimal_of, is_over, value_or_zero}
use Rattle.landxml_read.specs.Faults.{Fault, when, fault, parts_of, has_text, has_numbers, is_miscounted, tag_faults, end_faults, word_faults, part_faults, text_faults, element_faults, is_misnamed}
use Rattle.landxml_read.specs.Lists.{number, by_three, by_two, triples_of, pairs_of, inner, before, counted, vertices_of, id_of}
use Rattle.landxml_read.specs.Lawful.{IsWithin, IsLawfulTriple, IsLawfulPair, IsVertex}
use Rattle.landxml_read.proofs.Effects.{of_kind}
use Rattle.landxml_read.proofs.Each.{Each, each_more, each_map, each_weaker, each_at, one_apart, Holds}

-- faults

none_front : (xs ys : List Fault) → xs ++ ys ≡ [] → xs ≡ []
none_front [] ys e = refl
none_front (x ∷ xs) ys e = cc

none_rest : (xs ys : List Fault) → xs ++ ys ≡ [] → ys ≡ []
none_rest [] ys e = e
none_rest (x ∷ xs) ys e = cc

when_none : (t : Bool) (f : Fault) → when t f ≡ [] → t ≡ false
when_none true f e = cc
when_none false f e = refl

pub each_quiet : {X : Type 0} (f : X → List Fault) (xs : List X) → flat_map f xs ≡ [] → Each (λ x. f x ≡ []) xs
each_quiet f [] e = tt
each_quiet f (x ∷ xs) e = (none_front (f x) (flat_map f xs) e, each_quiet f xs (none_rest (f x) (flat_map f xs) e))

-- an element without a fault
abbrev pub IsQuietOne : Found → Type 0
IsQuietOne e = element_faults e ≡ []

-- its words
quiet_words : (e : Found) → IsQuietOne e → has_text e.kind ≡ true → Each (λ w. word_faults e.kind w ≡ []) (words (parts_of e))
quiet_words e q has =
    let text = none_rest (tag_faults e) (text_faults e) (none_front (tag_faults e ++ text_faults e) (end_faults e) q) in
    let P : Bool → Type 0 = λ t. cond t (flat_map part_faults (parts_of e) ++ flat_map (word_faults e.kind) (words (parts_of e))) [] ≡ [] in
    each_quiet (word_faults e.kind) (words (parts_of e)) (none_rest (flat_map part_faults (parts_of e)) (flat_map (word_faults e.kind) (words (parts_of e))) (subst P has text))

-- how many there are
quiet_count : (e : Found) → IsQuietOne e → is_miscounted e.kind (length (words (parts_of e))) ≡ false
quiet_count e q =
    let ends = none_rest (tag_faults e ++ text_faults e) (end_faults e) q in
    when_none (is_miscounted e.kind (length (words (parts_of e)))) (fault e.end_end cause.Count e.end_at)
    (none_rest (when (is_misnamed e.ending e.tag.name) (fault e.end_end cause.Tag e.end_at)) (when (is_miscounted e.kind (length (words (parts_of e)))) (fault e.end_end cause.Count e.end_at)) ends)

-- numbers

signed_abs : (s : Sign) (m : ℕ) → unsigned_abs (signed s m) ≡ m
signed_abs Minus m = by m
  where
    by : (m : ℕ) → unsigned_abs (neg_ℤ (pos m)) ≡ m
    by zero = refl
    by (suc k) = refl
signed_abs Plus m = refl
signed_abs Bare m = refl

quiet_within : (k : Kind) (w : Word) → has_numbers k ≡ true → word_faults k w ≡ [] → IsWithin (number w)
quiet_within k w has q =
    let long = when (nat_lt 255 (length w.text)) (fault (w.at + length w.text) cause.Long w.at) in
    let none = when (has_numbers k && is_none (decimal_of w.text)) (fault (w.at + length w.text) cause.Number w.at) in
    let last = none_rest (long ++ none) (when (has_numbers k && is_over (decimal_of w.text)) (fault (w.at + length w.text) cause.Big w.at)) q in
    let over = sym (ap (λ t. t && is_over (decimal_of w.text)) has) ∙ when_none (has_numbers k && is_over (decimal_of w.text)) (fault (w.at + length w.text) cause.Big w.at) last in
    by (decimal_of w.text) over
  where
    by : (o : Option Decimal) → is_over o ≡ false → unsigned_abs (value_or_zero o) ≤ number_limit
    by None e = omega arith
    by (Some d) e =
        let a = signed_abs d.sign (magnitude d) in
        let b : magnitude d ≤ number_limit = grind (arith, nat_tests, e) in
        omega (arith, a, b)

three_within : (ws : List Word) → Each (λ w. IsWithin (number w)) ws → Each IsLawfulTriple (by_three ws)
three_within [] h = tt
three_within (a ∷ []) h = tt
three_within (a ∷ b ∷ []) h = tt
three_within (a ∷ b ∷ c ∷ ws) h = (record { n = h.0; e = h.1.0; z = h.1.1.0 }, three_within ws h.1.1.1)

two_within : (ws : List Word) → Each (λ w. IsWithin (number w)) ws → Each IsLawfulPair (by_two ws)
two_within [] h = tt
two_within (a ∷ []) h = tt
two_within (a ∷ b ∷ ws) h = (record { n = h.0; e = h.1.0 }, two_within ws h.1.1)

words_within : (e : Found) → IsQuietOne e → has_text e.kind ≡ true → has_numbers e.kind ≡ true → Each (λ w. IsWithin (number w)) (words (parts_of e))
words_within e q text has = each_weaker (λ w. word_faults e.kind w ≡ []) (λ w. IsWithin (number w)) (λ w. quiet_within e.kind w has) (words (parts_of e)) (quiet_words e q text)

pub triples_within : (e : Found) → IsQuietOne e → Each IsLawfulTriple (triples_of e)
triples_within e q = by e.kind refl
  where
    three : has_text e.kind ≡ true → has_numbers e.kind ≡ true → Each IsLawfulTriple (by_three (words (parts_of e)))
    three text has = three_within (words (parts_of e)) (words_within e q text has)

    by : (k : Kind) → e.kind ≡ k → Each IsLawfulTriple (triples_of (of_kind e k))
    by Triples is = three (ap has_text is) (ap has_numbers is)
    by Point is = three (ap has_text is) (ap has_numbers is)
    by Outside is = tt
    by Root is = tt
    by Units is = tt
    by UnitOf is = tt
    by Surfaces is = tt
    by Surface is = tt
    by SourceData is = tt
    by Boundaries is = tt
    by Boundary is = tt
    by Breaklines is = tt
    by Breakline is = tt
    by DataPoints is = tt
    by Pairs is = tt
    by Definition is = tt
    by Points is = tt
    by Faces is = tt
    by Face is = tt
    by Skipped is = tt

pub pairs_within : (e : Found) → IsQuietOne e → Each IsLawfulPair (pairs_of e)
pairs_within e q = by e.kind refl
  where
    by : (k : Kind) → e.kind ≡ k → Each IsLawfulPair (pairs_of (of_kind e k))
    by Pairs is = two_within (words (parts_of e)) (words_within e q (ap has_text is) (ap has_numbers is))
    by Triples is = tt
    by Point is = tt
    by Outside is = tt
    by Root is = tt
    by Units is = tt
    by UnitOf is = tt
    by Surfaces is = tt
    by Surface is = tt
    by SourceData is = tt
    by Boundaries is = tt
    by Boundary is = tt
    by Breaklines is = tt
    by Breakline is = tt
    by DataPoints is = tt
    by Definition is = tt
    by Points is = tt
    by Faces is = tt
    by Face is = tt
    by Skipped is = tt

-- indices

-- the triples and the pairs of a surface's elements before one, and its own, are among those of the surface
pub record IsAmong (surface e : Found) : Type 0 where
  pub triples : length (flat_map triples_of (before e.at surface)) + length (triples_of e) ≤ length (flat_map triples_of (inner surface))
  pub pairs : length (flat_map pairs_of (before e.at surface)) + length (pairs_of e) ≤ length (flat_map pairs_of (inner surface))

pub all_among : (surface : Found) → Each (IsAmong surface) (inner surface)
all_among surface = each_at (IsAmong surface) [] (inner surface) (λ ys e zs is. at ys e zs is)
  where
    not_before : (e : Found) → nat_lt e.at e.at ≡ false
    not_before e = grind (arith, nat_tests)

    apart : {Y : Type 0} (f : Found → List Y) (ys : List Found) (e : Found) (zs : List Found) → inner surface ≡ ys ++ e ∷ zs → length (flat_map f (before e.at surface)) + length (f e) ≤ length (flat_map f (inner surface))
    apart f ys e zs is =
        let P : List Found → Type 0 = λ es. length (flat_map f (filter (λ x. nat_lt x.at e.at) es)) + length (f e) ≤ length (flat_map f es) in
        subst P (sym is) (one_apart f (λ x. nat_lt x.at e.at) ys e zs (not_before e))

    at : (ys : List Found) (e : Found) (zs : List Found) → inner surface ≡ ys ++ e ∷ zs → IsAmong surface e
    at ys e zs is = record { triples = apart triples_of ys e zs is; pairs = apart pairs_of ys e zs is }

counted_below : (first n limit : ℕ) → first + n ≤ limit → Each (λ k. k < limit) (counted first n)
counted_below first zero limit h = tt
counted_below first (suc n) limit h = (omega (arith, h), counted_below (suc first) n limit (omega (arith, h)))

-- the vertices of a list
pub vertices_within : (surface e : Found) → IsAmong surface e → Each (IsVertex (length (flat_map triples_of (inner surface))) (length (flat_map pairs_of (inner surface)))) (vertices_of surface e)
vertices_within surface e a =
    let T = length (flat_map triples_of (inner surface)) in
    let U = length (flat_map pairs_of (inner surface)) in
    let t = length (flat_map triples_of (before e.at surface)) in
    let u = length (flat_map pairs_of (before e.at surface)) in
    each_more (IsVertex T U) (map vertex.Triple (counted t (length (triples_of e)))) (map vertex.Pair (counted u (length (pairs_of e))))
    (each_map (IsVertex T U) vertex.Triple (counted t (length (triples_of e))) (counted_below t (length (triples_of e)) T a.triples))
    (each_map (IsVertex T U) vertex.Pair (counted u (length (pairs_of e))) (counted_below u (length (pairs_of e)) U a.pairs))

-- a P has a triple
three_words : (ws : List Word) → not (length ws == 3) ≡ false → length (by_three ws) ≡ 1
three_words [] e = cc
three_words (a ∷ []) e = cc
three_words (a ∷ b ∷ []) e = cc
three_words (a ∷ b ∷ c ∷ []) e = refl
three_words (a ∷ b ∷ c ∷ d ∷ ws) e = absurd (more (length ws) e)
  where
    more : (n : ℕ) → not (suc (suc (suc (suc n))) == 3) ≡ false → ⊥
    more n h = grind (arith, nat_tests, h)

pub id_within : (surface e : Found) → IsQuietOne e → IsAmong surface e → Holds (λ i. i.triple < length (flat_map triples_of (inner surface))) (id_of surface e)
id_within surface e q a = by e.kind refl (a.triples)
  where
    T : ℕ
    T = length (flat_map triples_of (inner surface))

    by : (k : Kind) → e.kind ≡ k → length (flat_map triples_of (before e.at surface)) + length (triples_of (of_kind e k)) ≤ T → Holds (λ i. i.triple < T) (id_of surface (of_kind e k))
    by Point is h =
        let three = three_words (words (parts_of e)) (sym (ap (λ k. is_miscounted k (length (words (parts_of e)))) is) ∙ quiet_count e q) in
        omega (arith, h, three)
    by Triples is h = tt
    by Pairs is h = tt
    by Outside is h = tt
    by Root is h = tt
    by Units is h = tt
    by UnitOf is h = tt
    by Surfaces is h = tt
    by Surface is h = tt
    by SourceData is h = tt
    by Boundaries is h = tt
    by Boundary is h = tt
    by Breaklines is h = tt
    by Breakline is h = tt
    by DataPoints is h = tt
    by Definition is h = tt
    by Points is h = tt
    by Faces is h = tt
    by Face is h = tt
    by Skipped is h = tt
