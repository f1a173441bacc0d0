-- The words of a written document: numbers of thousandths, and ids.
use Rattle.std.proofs.Common.{◌≡◌, ℕ, suc, zero, ◌+◌, ◌/◌, ◌%◌, ◌<◌, ◌≤◌, ◌^◌, Bool, true, false, ◌==◌, ◌&&◌, ◌||◌, not, cond, nat_lt, List, [], ◌∷◌, length, Option, None, Some, refl, sym, ◌∙◌, ap, arith, length-append, ℤ, pos, negsuc, unsigned_abs}
use Rattle.std.proofs.lemmas.Bool.Decides.{nat_tests}
use Rattle.std.proofs.lemmas.Fmt.{decimal_by_steps, length-decimal-le, decimal_nonempty}
use Rattle.std.proofs.lemmas.List.Folds.{list_all-append}
use Rattle.std.specs.List.{list_all}
use Rattle.std.specs.Option.{is_none}
use Rattle.std.specs.Fmt.{decimal}
use Rattle.ground_num.specs.Decimal.{three_digits, magnitude_text, thousandths_text, IsWithin}
use Rattle.ground_num.specs.Spelling.{Sign, Bare, Plus, Minus, Decimal, signed, magnitude, thousandths, number_limit, IsTextOf}
use Rattle.ground_num.proofs.Written.{read_back, reads_back}
use Rattle.landxml_read.specs.declared.kind.Kind.{Kind}
use Rattle.landxml_read.specs.declared.fault.DocCause.TheVariants as cause
use Rattle.landxml_read.specs.Markup.{is_white}
use Rattle.landxml_read.specs.Course.{is_plain_byte}
use Rattle.landxml_read.specs.Numbers.{decimal_of, is_over, number_cause, value_or_zero}
use Rattle.landxml_read.specs.Faults.{has_numbers}
use Rattle.landxml_read.specs.Events.{Read, event_faults, causes}
use Rattle.landxml_read.proofs.Bytes.{and_is}
use Rattle.landxml_read.proofs.Decimals.{cause_none, value_is}

-- bytes of words

digit_plain : (b : ℕ) → 48 ≤ b → b ≤ 57 → is_plain_byte b ≡ true
digit_plain b low high =
    let a : nat_lt b 128 ≡ true = grind (arith, nat_tests) in
    let c : nat_lt 31 b ≡ true = grind (arith, nat_tests) in
    let s : (b == 32) ≡ false = grind (arith, nat_tests) in
    let t : (b == 9) ≡ false = grind (arith, nat_tests) in
    let l : (b == 10) ≡ false = grind (arith, nat_tests) in
    let r : (b == 13) ≡ false = grind (arith, nat_tests) in
    let less : (b == 60) ≡ false = grind (arith, nat_tests) in
    let amp : (b == 38) ≡ false = grind (arith, nat_tests) in
    let white : is_white b ≡ false = λ i. s i || t i || l i || r i in
    λ i. a i && (c i || is_white b) && not (white i) && not (less i) && not (amp i)

pub decimal_plain : (n : ℕ) → n < 2 ^ 64 → list_all is_plain_byte (decimal n) ≡ true
decimal_plain =
    decimal_by_steps (λ n ds. list_all is_plain_byte ds ≡ true) (λ n h. and_is (is_plain_byte (48 + n)) true (digit_plain (48 + n) (omega arith) (omega arith)) refl)
    (λ n ds more h. list_all-append is_plain_byte ds ((48 + n % 10) ∷ []) ∙ and_is (list_all is_plain_byte ds) (is_plain_byte (48 + n % 10) && true) h (and_is (is_plain_byte (48 + n % 10)) true (digit_plain (48 + n % 10) (omega arith) (omega arith)) refl))

three_plain : (n : ℕ) → n < 1000 → list_all is_plain_byte (three_digits n) ≡ true
three_plain n small =
    and_is (is_plain_byte (48 + n / 100)) _ (digit_plain (48 + n / 100) (omega arith) (omega arith))
    (and_is (is_plain_byte (48 + n / 10 % 10)) _ (digit_plain (48 + n / 10 % 10) (omega arith) (omega arith))
    (and_is (is_plain_byte (48 + n % 10)) true (digit_plain (48 + n % 10) (omega arith) (omega arith)) refl))

magnitude_plain : (m : ℕ) → m ≤ number_limit → list_all is_plain_byte (magnitude_text m) ≡ true
magnitude_plain m small =
    list_all-append is_plain_byte (decimal (m / 1000)) (46 ∷ three_digits (m % 1000))
    ∙ and_is (list_all is_plain_byte (decimal (m / 1000))) _ (decimal_plain (m / 1000) (omega arith)) (three_plain (m % 1000) (omega arith))

magnitude_short : (m : ℕ) → m ≤ number_limit → length (magnitude_text m) ≤ 24
magnitude_short m small =
    let a = length-decimal-le 20 (m / 1000) (omega arith) (omega arith) (omega arith) in
    let b = length-append (decimal (m / 1000)) (46 ∷ three_digits (m % 1000)) in
    omega (arith, a, b)

pub thousandths_plain : (z : ℤ) → IsWithin number_limit z → list_all is_plain_byte (thousandths_text z) ≡ true
thousandths_plain (pos m) w = magnitude_plain m w
thousandths_plain (negsuc m) w = magnitude_plain (suc m) w

thousandths_short : (z : ℤ) → IsWithin number_limit z → length (thousandths_text z) ≤ 25
thousandths_short (pos m) w = let a = magnitude_short m w in omega (arith, a)
thousandths_short (negsuc m) w = let a = magnitude_short (suc m) w in omega (arith, a)

-- a list that begins with a byte
pub record IsCons (xs : List ℕ) : Type 0 where
  pub first : ℕ
  pub rest : List ℕ
  pub is : xs ≡ first ∷ rest

pub cons_of : (xs : List ℕ) → 0 < length xs → IsCons xs
cons_of [] some = absurd (omega (arith, some))
cons_of (x ∷ xs) some = record { first = x; rest = xs; is = refl }

pub decimal_some : (n : ℕ) → n < 2 ^ 64 → IsCons (decimal n)
decimal_some n small = cons_of (decimal n) (decimal_nonempty n small)

pub thousandths_some : (z : ℤ) → IsWithin number_limit z → IsCons (thousandths_text z)
thousandths_some (pos m) w =
    let a = decimal_nonempty (m / 1000) (omega arith) in
    let b = length-append (decimal (m / 1000)) (46 ∷ three_digits (m % 1000)) in
    cons_of (magnitude_text m) (omega (arith, a, b))
thousandths_some (negsuc m) w = record { first = 45; rest = magnitude_text (suc m); is = refl }

-- what they are read as

signed_abs : (s : Sign) (m : ℕ) → unsigned_abs (signed s m) ≡ m
signed_abs Minus zero = refl
signed_abs Minus (suc k) = refl
signed_abs Plus m = refl
signed_abs Bare m = refl

thousandths_is : (z : ℤ) → IsWithin number_limit z → IsTextOf z (thousandths_text z)
thousandths_is (pos m) w = let b = reads_back (pos m) w in (read_back (pos m), b.is, b.text, sym (ap (λ k. signed Bare k) b.magnitude))
thousandths_is (negsuc m) w = let b = reads_back (negsuc m) w in (read_back (negsuc m), b.is, b.text, sym (ap (λ k. signed Minus k) b.magnitude))

pub thousandths_value : (z : ℤ) → IsWithin number_limit z → value_or_zero (decimal_of (thousandths_text z)) ≡ z
thousandths_value z w = sym (value_is z (thousandths_text z) (thousandths_is z w))

thousandths_cause : (z : ℤ) → IsWithin number_limit z → number_cause (thousandths_text z) ≡ None
thousandths_cause z w =
    let is = thousandths_is z w in
    cause_none (thousandths_text z) (is.0, is.1, is.2)
    (λ big.
    let other : value_or_zero (decimal_of (thousandths_text z)) ≡ thousandths big.0 = sym (value_is (thousandths big.0) (thousandths_text z) (big.0, big.1, big.2, refl)) in
    let same : magnitude big.0 ≡ unsigned_abs z = sym (signed_abs big.0.sign (magnitude big.0)) ∙ ap unsigned_abs (sym other ∙ thousandths_value z w) in
    let limit = (reads_back z w).limit in
    let more = big.3 in
    omega (arith, same, limit, more))

-- a word of an element of a kind that has no fault
abbrev pub IsGood : Kind → List ℕ → Type 0
IsGood kind text = (at shown : ℕ) → event_faults (Read kind (record { at = at; text = text }) shown) ≡ []

no_cause : (text : List ℕ) → number_cause text ≡ None → (is_none (decimal_of text) ≡ false) × (is_over (decimal_of text) ≡ false)
no_cause text e = by (decimal_of text) e
  where
    by : (o : Option Decimal) → cond (is_none o) (Some cause.Number) (cond (is_over o) (Some cause.Big) None) ≡ None → (is_none o ≡ false) × (is_over o ≡ false)
    by None e = cc
    by (Some d) e = (refl, small (nat_lt number_limit (magnitude d)) e)
      where
        small : (t : Bool) → cond t (Some cause.Big) None ≡ None → t ≡ false
        small true e = cc
        small false e = refl

pub thousandths_good : (kind : Kind) (z : ℤ) → IsWithin number_limit z → IsGood kind (thousandths_text z)
thousandths_good kind z w at shown =
    let short = thousandths_short z w in
    let long : nat_lt 255 (length (thousandths_text z)) ≡ false = grind (arith, nat_tests, short) in
    let n = no_cause (thousandths_text z) (thousandths_cause z w) in
    rows (nat_lt 255 (length (thousandths_text z))) (has_numbers kind) (is_none (decimal_of (thousandths_text z))) (is_over (decimal_of (thousandths_text z))) long n.0 n.1
  where
    rows : (a b c d : Bool) → a ≡ false → c ≡ false → d ≡ false
        → causes shown at ((a, cause.Long) ∷ (b && c, cause.Number) ∷ (b && d, cause.Big) ∷ []) ≡ []
    rows true b c d e f g = cc
    rows false b true d e f g = cc
    rows false b false true e f g = cc
    rows false true false false e f g = refl
    rows false false false false e f g = refl

pub id_good : (kind : Kind) (n : ℕ) → has_numbers kind ≡ false → n < 2 ^ 64 → IsGood kind (decimal n)
id_good kind n has small at shown =
    let short = length-decimal-le 20 n (omega arith) (omega arith) small in
    let long : nat_lt 255 (length (decimal n)) ≡ false = grind (arith, nat_tests, short) in
    rows (nat_lt 255 (length (decimal n))) (has_numbers kind) (is_none (decimal_of (decimal n))) (is_over (decimal_of (decimal n))) long has
  where
    rows : (a b c d : Bool) → a ≡ false → b ≡ false
        → causes shown at ((a, cause.Long) ∷ (b && c, cause.Number) ∷ (b && d, cause.Big) ∷ []) ≡ []
    rows true b c d e f = cc
    rows false true c d e f = cc
    rows false false c d e f = refl
