-- The order of places, by their numbers.
use Rattle.std.proofs.Common.{arith, ◌≡◌, ◌^◌, Bool, true, false, cond, inl, inr, ◌⊎◌, refl, sym, ap, ◌∙◌}
use Rattle.std.specs.Prelude.{ℤ, pos, neg_ℤ, ◌-ℤ◌, ◌<ℤ◌, ◌≤ℤ◌, int_lt}
use Rattle.std.specs.declared.cmp.Ordering.{Ordering}
use Rattle.std.specs.declared.cmp.Ordering.TheVariants.{Less, Equal, Greater}
use Rattle.std.specs.Prelude.{IsSome, IfSome, ◌↔◌}
use Rattle.std.specs.declared.option.Option.{Option}
use Rattle.std.specs.declared.option.Option.TheVariants.{Some, None}
use Rattle.std.specs.Ordering.{is_lt, ordering_then}
use Rattle.std.proofs.Common.{to_z, of_z, w32}
use Rattle.std.proofs.lemmas.Int.{ints, by_lt_z, to_z-of_z}
use Rattle.ground_model.specs.Place.{Coords, IsPlace, is_before}
use Rattle.ground_model.proofs.Along.{not_before}
use Rattle.document_commands.specs.Agreeing.{IsRightBefore}

-- the order by the four tests that it comes to
abbrev by_tests : Bool → Bool → Bool → Bool → Ordering
by_tests a b c d = ordering_then (cond a Less (cond b Greater Equal)) (cond c Less (cond d Greater Equal))

less : (a b c d : Bool) → is_lt (by_tests a b c d) ≡ true → (a ≡ true) ⊎ ((b ≡ false) × (c ≡ true))
less true b c d h = inl refl
less false true c d h = cc
less false false true d h = inr (refl, refl)
less false false false true h = cc
less false false false false h = cc

less_from : (a b c d : Bool) → (a ≡ true) ⊎ ((a ≡ false) × (b ≡ false) × (c ≡ true)) → is_lt (by_tests a b c d) ≡ true
less_from true b c d h = refl
less_from false b c d (inl e) = cc
less_from false true c d (inr e) = let f = e.1 in cc
less_from false false true d (inr e) = refl
less_from false false false d (inr e) = let f = e.2 in cc

-- p comes before q
abbrev pub Below : Coords → Coords → Type 0
Below p q = (p.e <ℤ q.e) ⊎ ((p.e ≡ q.e) × (p.n <ℤ q.n))

pub below : (p q : Coords) → is_before p q ≡ true → Below p q
below p q h = of_tests (less (int_lt p.e q.e) (int_lt q.e p.e) (int_lt p.n q.n) (int_lt q.n p.n) h)
  where
    of_tests : (int_lt p.e q.e ≡ true) ⊎ ((int_lt q.e p.e ≡ false) × (int_lt p.n q.n ≡ true)) → Below p q
    of_tests (inl lt) = inl (omega (arith, ints, sym lt))
    of_tests (inr e) = by_lt_z p.e q.e (λ lt. inl lt) (λ ge. inr (omega (arith, ints, sym e.0), omega (arith, ints, sym e.1)))

pub before_from : (p q : Coords) → Below p q → is_before p q ≡ true
before_from p q (inl lt) =
    let e : true ≡ int_lt p.e q.e = omega (arith, ints) in
    less_from (int_lt p.e q.e) (int_lt q.e p.e) (int_lt p.n q.n) (int_lt q.n p.n) (inl (sym e))
before_from p q (inr h) =
    let e : false ≡ int_lt p.e q.e = omega (arith, ints, h.0) in
    let f : false ≡ int_lt q.e p.e = omega (arith, ints, h.0) in
    let g : true ≡ int_lt p.n q.n = omega (arith, ints, h.1) in
    less_from (int_lt p.e q.e) (int_lt q.e p.e) (int_lt p.n q.n) (int_lt q.n p.n) (inr (sym e, sym f, sym g))

-- the place one northing south
pub south_is : (p c : Coords) → p.e ≡ c.e → p.n ≡ c.n -ℤ pos 1 → IsRightBefore c (Some p)
south_is p c e n = (before_from p c (inr (e, omega (arith, ints, n))), λ q is h. not_before c q (by q (below p q h)))
  where
    by : (q : Coords) → Below p q → (c.e <ℤ q.e) ⊎ ((c.e ≡ q.e) × (c.n ≤ℤ q.n))
    by q (inl lt) = inl (omega (arith, ints, lt, e))
    by q (inr h) = inr (sym e ∙ h.0, omega (arith, ints, h.1, n))

-- a place without one to the south stands at the southern end
southern : (c : Coords) → IsPlace c → (IsPlace (record { e = c.e; n = c.n -ℤ pos 1 }) → ⊥) → c.n ≡ neg_ℤ (pos (2 ^ 29))
southern c is none = by_lt_z (neg_ℤ (pos (2 ^ 29))) c.n (λ lt. absurd (none (record { west = is.west; east = is.east; south = (let s = is.south in omega (arith, ints, lt, s)); north = (let s = is.north in omega (arith, ints, s)) }))) (λ ge. let s = is.south in omega (arith, ints, ge, s))

-- the northern end of the easting before
pub west_is : (p c : Coords) → IsPlace c → (IsPlace (record { e = c.e; n = c.n -ℤ pos 1 }) → ⊥) → p.e ≡ c.e -ℤ pos 1 → p.n ≡ pos (2 ^ 29) → IsRightBefore c (Some p)
west_is p c is none e n = (before_from p c (inl (omega (arith, ints, e))), λ q at h. not_before c q (by q at (below p q h)))
  where
    by : (q : Coords) → IsPlace q → Below p q → (c.e <ℤ q.e) ⊎ ((c.e ≡ q.e) × (c.n ≤ℤ q.n))
    by q at (inl lt) = by_lt_z c.e q.e (λ less. inl less) (λ ge. inr (omega (arith, ints, lt, e, ge), (let s = at.south in let t = southern c is none in omega (arith, ints, s, t))))
    by q at (inr h) = absurd (let s = at.north in let k = h.1 in omega (arith, ints, s, k, n))

-- the first of all places
pub none_is : (c : Coords) → IsPlace c → (IsPlace (record { e = c.e; n = c.n -ℤ pos 1 }) → ⊥) → (IsPlace (record { e = c.e -ℤ pos 1; n = pos (2 ^ 29) }) → ⊥) → IsRightBefore c None
none_is c is none west = λ q at. not_before c q (by q at)
  where
    western : c.e ≡ neg_ℤ (pos (2 ^ 29))
    western = by_lt_z (neg_ℤ (pos (2 ^ 29))) c.e (λ lt. absurd (west (record { west = omega (arith, ints, lt); east = (let s = is.east in omega (arith, ints, s)); south = omega (arith, ints); north = omega (arith, ints) }))) (λ ge. let s = is.west in omega (arith, ints, ge, s))

    by : (q : Coords) → IsPlace q → (c.e <ℤ q.e) ⊎ ((c.e ≡ q.e) × (c.n ≤ℤ q.n))
    by q at = by_lt_z c.e q.e (λ less. inl less) (λ ge. inr ((let s = at.west in omega (arith, ints, ge, s, western)), (let s = at.south in let t = southern c is none in omega (arith, ints, s, t))))

-- the northern end of the easting before, where it is a place
pub west_or_none : (c : Coords) (r : Option Coords) → IsPlace c → (IsPlace (record { e = c.e; n = c.n -ℤ pos 1 }) → ⊥) → IfSome r (λ p. p ≡ record { e = c.e -ℤ pos 1; n = pos (2 ^ 29) }) → IsSome r ↔ IsPlace (record { e = c.e -ℤ pos 1; n = pos (2 ^ 29) }) → IsRightBefore c r
west_or_none c None is none value within = none_is c is none (λ at. let h = within.1 at in cc)
west_or_none c (Some p) is none value within = west_is p c is none (ap (λ (q : Coords). q.e) value) (ap (λ (q : Coords). q.n) value)

-- ---- what the code reckons with

-- a coordinate, or one off it, in 32 bits
stored : (z : ℤ) → neg_ℤ (pos (2 ^ 30)) ≤ℤ z → z ≤ℤ pos (2 ^ 30) → to_z w32 (of_z w32 z) ≡ z
stored z low high = to_z-of_z w32 z (omega (arith, ints, low, high))

less_one : (z : ℤ) → neg_ℤ (pos (2 ^ 29)) ≤ℤ z → z ≤ℤ pos (2 ^ 29) → to_z w32 (of_z w32 (to_z w32 (of_z w32 z) -ℤ pos 1)) ≡ z -ℤ pos 1
less_one z low high = ap (λ k. to_z w32 (of_z w32 (k -ℤ pos 1))) (stored z (omega (arith, ints, low)) (omega (arith, ints, high))) ∙ stored (z -ℤ pos 1) (omega (arith, ints, low)) (omega (arith, ints, high))

pub south_value : (x y : ℤ) (c : Coords) → IsPlace c → x ≡ c.e → y ≡ c.n → ◌≡◌ {A = Coords} (record { e = to_z w32 (of_z w32 x); n = to_z w32 (of_z w32 (to_z w32 (of_z w32 y) -ℤ pos 1)) }) (record { e = c.e; n = c.n -ℤ pos 1 })
south_value x y c is ex ey =
    let e : to_z w32 (of_z w32 x) ≡ c.e = ap (λ k. to_z w32 (of_z w32 k)) ex ∙ stored c.e (let s = is.west in omega (arith, ints, s)) (let s = is.east in omega (arith, ints, s)) in
    let n : to_z w32 (of_z w32 (to_z w32 (of_z w32 y) -ℤ pos 1)) ≡ c.n -ℤ pos 1 = ap (λ k. to_z w32 (of_z w32 (to_z w32 (of_z w32 k) -ℤ pos 1))) ey ∙ less_one c.n is.south is.north in
    λ i. record { e = e i; n = n i }

pub west_value : (x : ℤ) (c : Coords) → IsPlace c → x ≡ c.e → ◌≡◌ {A = Coords} (record { e = to_z w32 (of_z w32 (to_z w32 (of_z w32 x) -ℤ pos 1)); n = pos (2 ^ 29) }) (record { e = c.e -ℤ pos 1; n = pos (2 ^ 29) })
west_value x c is ex =
    let e : to_z w32 (of_z w32 (to_z w32 (of_z w32 x) -ℤ pos 1)) ≡ c.e -ℤ pos 1 = ap (λ k. to_z w32 (of_z w32 (to_z w32 (of_z w32 k) -ℤ pos 1))) ex ∙ less_one c.e is.west is.east in
    λ i. record { e = e i; n = pos (2 ^ 29) }
