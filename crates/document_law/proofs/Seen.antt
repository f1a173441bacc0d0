-- The first triples at their places are the points of the surface.
use Rattle.std.proofs.Common.{◌≡◌, Bool, true, false, ◌&&◌, cond, List, [], ◌∷◌, ◌++◌, map, Option, None, Some, refl, sym, ◌∙◌, ap, subst, arith, ℤ, pos, ◌+ℤ◌, ◌-ℤ◌}
use Rattle.std.proofs.lemmas.Int.{ints}
use Rattle.std.proofs.lemmas.Bool.Decides.{Decides-int_eq}
use Rattle.std.specs.Prelude.{option_map, is_none}
use Rattle.std.specs.Option.{option_or}
use Rattle.std.specs.List.{find, filter}
use Rattle.std.specs.Ordering.{int_eq}
use Rattle.ground_num.specs.declared.decimal.Thousandths.{Thousandths}
use Rattle.ground_num.specs.declared.head.Origin.{Origin}
use Rattle.ground_model.specs.Place.{Coords, is_same}
use Rattle.landxml_read.specs.declared.raw.Triple.{Triple}
use Rattle.landxml_surface.specs.Heights.{is_same_spot, spot_of, level_at, Marked, marked_after, is_first}
use Rattle.landxml_surface.specs.Origins.{from_origin}
use Rattle.landxml_write.specs.Exports.{Vertex}
use Rattle.document_law.specs.Drafts.{level_in}
use Rattle.document_law.proofs.Holds.{Site, site_of}
use Rattle.landxml_read.proofs.Bytes.{both}

-- tests of numbers and of places

same_tests : (a b : Bool) → (a ≡ true → b ≡ true) → (b ≡ true → a ≡ true) → a ≡ b
same_tests true b f g = sym (f refl)
same_tests false true f g = g refl
same_tests false false f g = refl

pub int_test : (a b : ℤ) → a ≡ b → int_eq a b ≡ true
int_test a b e = (Decides-int_eq a b).1 e

int_same : (a b : ℤ) → int_eq a b ≡ true → a ≡ b
int_same a b e = (Decides-int_eq a b).0 e

moved_back : (a b c : ℤ) → int_eq a (b -ℤ c) ≡ int_eq (a +ℤ c) b
moved_back a b c =
    same_tests (int_eq a (b -ℤ c)) (int_eq (a +ℤ c) b)
    (λ e. let h = int_same a (b -ℤ c) e in int_test (a +ℤ c) b (omega (arith, ints, h)))
    (λ e. let h = int_same (a +ℤ c) b e in int_test a (b -ℤ c) (omega (arith, ints, h)))

turned : (a b : Bool) → (a && b) ≡ (b && a)
turned true true = refl
turned true false = refl
turned false true = refl
turned false false = refl

-- a triple where a point is written
abbrev pub triple_in : Origin → Coords → Triple
triple_in origin p = record { n = record { 0 = p.n +ℤ origin.n.0 }; e = record { 0 = p.e +ℤ origin.e.0 }; z = record { 0 = pos 0 }; n_at = 0; e_at = 0; z_at = 0 }

-- a spot is that of a point exactly where it is its place as it is seen from the origin
pub same_moved : (origin : Origin) (p : Coords) (q : Triple) → is_same p (from_origin origin (spot_of q)) ≡ is_same_spot (spot_of (triple_in origin p)) (spot_of q)
same_moved origin p q = (λ i. moved_back p.e q.e.0 origin.e.0 i && moved_back p.n q.n.0 origin.n.0 i) ∙ turned (int_eq (p.e +ℤ origin.e.0) q.e.0) (int_eq (p.n +ℤ origin.n.0) q.n.0)

-- and back
pub spot_back : (origin : Origin) (p : Coords) → from_origin origin (spot_of (triple_in origin p)) ≡ p
spot_back origin p =
    let n : (p.n +ℤ origin.n.0) -ℤ origin.n.0 ≡ p.n = omega (arith, ints) in
    let e : (p.e +ℤ origin.e.0) -ℤ origin.e.0 ≡ p.e = omega (arith, ints) in
    λ i. record { e = e i; n = n i }

same_spot : (p q : Triple) → is_same_spot (spot_of p) (spot_of q) ≡ true → spot_of p ≡ spot_of q
same_spot p q e =
    let h = both (int_eq p.n.0 q.n.0) (int_eq p.e.0 q.e.0) e in
    let n = int_same p.n.0 q.n.0 h.0 in
    let east = int_same p.e.0 q.e.0 h.1 in
    λ i. record { n = n i; e = east i }

spot_itself : (p : Triple) → is_same_spot (spot_of p) (spot_of p) ≡ true
spot_itself p = λ i. int_test p.n.0 p.n.0 refl i && int_test p.e.0 p.e.0 refl i

-- triples at points of the surface, with their levels
abbrev pub IsKnownSite : Origin → List Vertex → Site → Type 0
IsKnownSite origin points s = level_in points (from_origin origin (record { n = s.0; e = s.1 })) ≡ Some s.2

abbrev pub AreKnown : Origin → List Vertex → List Site → Type 0
AreKnown origin points [] = Unit {0}
AreKnown origin points (s ∷ ss) = IsKnownSite origin points s × AreKnown origin points ss

-- the first triple at a spot, then the others
pub level_front : (t : Triple) (ts : List Triple) (q : Triple) → level_at (t ∷ ts) (spot_of q) ≡ cond (is_same_spot (spot_of q) (spot_of t)) (Some t.z) (level_at ts (spot_of q))
level_front t ts q = by (is_same_spot (spot_of q) (spot_of t))
  where
    by : (b : Bool) → option_map (λ (u : Triple). u.z) (cond b (Some t) (find (λ u. is_same_spot (spot_of q) (spot_of u)) ts)) ≡ cond b (Some t.z) (level_at ts (spot_of q))
    by true = refl
    by false = refl

-- one more triple gives its level where there was none
level_last : (ts : List Triple) (t : Triple) (q : Triple) → level_at (ts ++ t ∷ []) (spot_of q) ≡ option_or (level_at ts (spot_of q)) (cond (is_same_spot (spot_of q) (spot_of t)) (Some t.z) None)
level_last [] t q = by (is_same_spot (spot_of q) (spot_of t))
  where
    by : (b : Bool) → option_map (λ (u : Triple). u.z) (cond b (Some t) None) ≡ cond b (Some t.z) None
    by true = refl
    by false = refl
level_last (u ∷ ts) t q = by (is_same_spot (spot_of q) (spot_of u)) (level_last ts t q)
  where
    by : (b : Bool) → level_at (ts ++ t ∷ []) (spot_of q) ≡ option_or (level_at ts (spot_of q)) (cond (is_same_spot (spot_of q) (spot_of t)) (Some t.z) None)
        → option_map (λ (u : Triple). u.z) (cond b (Some u) (find (λ u. is_same_spot (spot_of q) (spot_of u)) (ts ++ t ∷ []))) ≡ option_or (option_map (λ (u : Triple). u.z) (cond b (Some u) (find (λ u. is_same_spot (spot_of q) (spot_of u)) ts))) (cond (is_same_spot (spot_of q) (spot_of t)) (Some t.z) None)
    by true h = refl
    by false h = h

-- a level that is found is that of the point
pub known_level : (origin : Origin) (points : List Vertex) (ts : List Triple) (q : Triple) (z : Thousandths) → AreKnown origin points (map site_of ts) → level_at ts (spot_of q) ≡ Some z → level_in points (from_origin origin (spot_of q)) ≡ Some z.0
known_level origin points [] q z known e = cc
known_level origin points (t ∷ ts) q z known e = by (is_same_spot (spot_of q) (spot_of t)) refl (sym (level_front t ts q) ∙ e) (known_level origin points ts q z known.1)
  where
    by : (b : Bool) → is_same_spot (spot_of q) (spot_of t) ≡ b → cond b (Some t.z) (level_at ts (spot_of q)) ≡ Some z → (level_at ts (spot_of q) ≡ Some z → level_in points (from_origin origin (spot_of q)) ≡ Some z.0) → level_in points (from_origin origin (spot_of q)) ≡ Some z.0
    by true same h again =
        let level : t.z ≡ z = cc in
        ap (λ s. level_in points (from_origin origin s)) (same_spot q t same) ∙ known.0 ∙ ap (λ (y : Thousandths). Some y.0) level
    by false same h again = again h

-- the points that come of triples after earlier ones

abbrev pub fresh : List Triple → List Triple → List Marked
fresh earlier ts = filter is_first (marked_after earlier ts)

abbrev pub find_level : List Marked → Triple → Option Thousandths
find_level ms q = option_map (λ m. m.0.z) (find (λ m. is_same_spot (spot_of q) (spot_of m.0)) ms)

-- the level that a spot has from the first list alone where it has none from the second
abbrev unless : Option Thousandths → Option Thousandths → Option Thousandths
unless None o = o
unless (Some z) o = None

fresh_front : (earlier : List Triple) (t : Triple) (ts : List Triple)
    → fresh earlier (t ∷ ts) ≡ cond (is_none (level_at earlier (spot_of t))) ((t, level_at earlier (spot_of t)) ∷ fresh (earlier ++ t ∷ []) ts) (fresh (earlier ++ t ∷ []) ts)
fresh_front earlier t ts = refl

pub fresh_levels : (earlier ts : List Triple) (q : Triple) → find_level (fresh earlier ts) q ≡ unless (level_at earlier (spot_of q)) (level_at ts (spot_of q))
fresh_levels earlier [] q = none (level_at earlier (spot_of q))
  where
    none : (o : Option Thousandths) → None ≡ unless o None
    none None = refl
    none (Some z) = refl
fresh_levels earlier (t ∷ ts) q =
    ap (λ hs. find_level hs q) (fresh_front earlier t ts)
    ∙ by (level_at earlier (spot_of t)) refl (is_same_spot (spot_of q) (spot_of t)) refl (fresh_levels (earlier ++ t ∷ []) ts q ∙ ap (λ o. unless o (level_at ts (spot_of q))) (level_last earlier t q))
    ∙ ap (unless (level_at earlier (spot_of q))) (sym (level_front t ts q))
  where
    rest : List Marked
    rest = fresh (earlier ++ t ∷ []) ts

    other : (o : Option Thousandths) → unless (option_or o None) (level_at ts (spot_of q)) ≡ unless o (level_at ts (spot_of q))
    other None = refl
    other (Some z) = refl

    gone : (o : Option Thousandths) (y z : Thousandths) (u : Option Thousandths) → o ≡ Some y → unless (option_or o (Some z)) u ≡ unless o (Some z)
    gone None y z u e = cc
    gone (Some x) y z u e = refl

    by : (o : Option Thousandths) → level_at earlier (spot_of t) ≡ o → (b : Bool) → is_same_spot (spot_of q) (spot_of t) ≡ b
        → find_level rest q ≡ unless (option_or (level_at earlier (spot_of q)) (cond (is_same_spot (spot_of q) (spot_of t)) (Some t.z) None)) (level_at ts (spot_of q))
        → find_level (cond (is_none (level_at earlier (spot_of t))) ((t, level_at earlier (spot_of t)) ∷ rest) rest) q ≡ unless (level_at earlier (spot_of q)) (cond (is_same_spot (spot_of q) (spot_of t)) (Some t.z) (level_at ts (spot_of q)))
    by None e true same h =
        let here : level_at earlier (spot_of q) ≡ None = ap (level_at earlier) (same_spot q t same) ∙ e in
        ap (λ o. find_level (cond (is_none o) ((t, level_at earlier (spot_of t)) ∷ rest) rest) q) e
        ∙ ap (λ c. option_map (λ (m : Marked). m.0.z) (cond c (Some (t, level_at earlier (spot_of t))) (find (λ m. is_same_spot (spot_of q) (spot_of m.0)) rest))) same
        ∙ sym (λ i. unless (here i) (cond (same i) (Some t.z) (level_at ts (spot_of q))))
    by None e false same h =
        ap (λ o. find_level (cond (is_none o) ((t, level_at earlier (spot_of t)) ∷ rest) rest) q) e
        ∙ ap (λ c. option_map (λ (m : Marked). m.0.z) (cond c (Some (t, level_at earlier (spot_of t))) (find (λ m. is_same_spot (spot_of q) (spot_of m.0)) rest))) same
        ∙ h ∙ ap (λ c. unless (option_or (level_at earlier (spot_of q)) (cond c (Some t.z) None)) (level_at ts (spot_of q))) same ∙ other (level_at earlier (spot_of q))
        ∙ sym (ap (λ c. unless (level_at earlier (spot_of q)) (cond c (Some t.z) (level_at ts (spot_of q)))) same)
    by (Some y) e true same h =
        let here : level_at earlier (spot_of q) ≡ Some y = ap (level_at earlier) (same_spot q t same) ∙ e in
        ap (λ o. find_level (cond (is_none o) ((t, level_at earlier (spot_of t)) ∷ rest) rest) q) e
        ∙ h ∙ ap (λ c. unless (option_or (level_at earlier (spot_of q)) (cond c (Some t.z) None)) (level_at ts (spot_of q))) same ∙ gone (level_at earlier (spot_of q)) y t.z (level_at ts (spot_of q)) here
        ∙ sym (ap (λ c. unless (level_at earlier (spot_of q)) (cond c (Some t.z) (level_at ts (spot_of q)))) same)
    by (Some y) e false same h =
        ap (λ o. find_level (cond (is_none o) ((t, level_at earlier (spot_of t)) ∷ rest) rest) q) e
        ∙ h ∙ ap (λ c. unless (option_or (level_at earlier (spot_of q)) (cond c (Some t.z) None)) (level_at ts (spot_of q))) same ∙ other (level_at earlier (spot_of q))
        ∙ sym (ap (λ c. unless (level_at earlier (spot_of q)) (cond c (Some t.z) (level_at ts (spot_of q)))) same)

-- each spot once
abbrev pub SpotsOnce : List Marked → Type 0
SpotsOnce [] = Unit {0}
SpotsOnce (m ∷ ms) = (find_level ms m.0 ≡ None) × SpotsOnce ms

pub fresh_once : (earlier ts : List Triple) → SpotsOnce (fresh earlier ts)
fresh_once earlier [] = tt
fresh_once earlier (t ∷ ts) =
    let rest = fresh_once (earlier ++ t ∷ []) ts in
    let P : List Marked → Type 0 = SpotsOnce in
    subst P (sym (fresh_front earlier t ts)) (by (is_none (level_at earlier (spot_of t))) rest)
  where
    seen : (o : Option Thousandths) → unless (option_or o (cond (is_same_spot (spot_of t) (spot_of t)) (Some t.z) None)) (level_at ts (spot_of t)) ≡ None
    seen None = ap (λ c. unless (cond c (Some t.z) None) (level_at ts (spot_of t))) (spot_itself t)
    seen (Some z) = refl

    by : (b : Bool) → SpotsOnce (fresh (earlier ++ t ∷ []) ts) → SpotsOnce (cond b ((t, level_at earlier (spot_of t)) ∷ fresh (earlier ++ t ∷ []) ts) (fresh (earlier ++ t ∷ []) ts))
    by true rest = (fresh_levels (earlier ++ t ∷ []) ts t ∙ ap (λ o. unless o (level_at ts (spot_of t))) (level_last earlier t t) ∙ seen (level_at earlier (spot_of t)), rest)
    by false rest = rest
