-- The decimal that a text spells is found by its parts.
use Rattle.std.proofs.Common.{◌≡◌, ℕ, ◌+◌, ◌<◌, Bool, true, false, ◌==◌, ◌&&◌, ◌||◌, not, cond, nat_lt, List, [], ◌∷◌, ◌++◌, length, Option, None, Some, ℤ, refl, sym, ◌∙◌, ap, subst, arith, append_assoc, eqb-true, lt-ltb}
use Rattle.std.proofs.lemmas.Bool.Decides.{nat_tests}
use Rattle.std.proofs.lemmas.List.{take-append-drop}
use Rattle.std.proofs.lemmas.Str.Parse.{digit_from_value}
use Rattle.std.specs.Option.{option_map, is_none}
use Rattle.std.specs.List.{list_all, prefix_len}
use Rattle.std.specs.Char.{digit_value}
use Rattle.std.specs.Str.Parse.{AllDigits, IsNumeral, digits_value}
use Rattle.ground_num.specs.Spelling.{Sign, Bare, Plus, Minus, Exponent, Decimal, IsDecimal, IsDecimalText, IsTooBig, decimal_text, sign_text, fraction_text, exponent_text, fraction_digits, digits_of, magnitude, signed, IsTextOf, moved_right, moved_left, rounded, number_limit}
use Rattle.ground_num.specs.Reading.{is_digit}
use Rattle.ground_num.specs.Parts.{is_minus, has_minus, after_sign, leading_digits, after_digits, pointed_digits, after_point}
use Rattle.std.proofs.lemmas.List.Sums.{take_while-cons}
use Rattle.std.specs.Prelude.{IfSome}
use Rattle.ground_num.proofs.Parts.{parts_are, take_taken}
use Rattle.landxml_read.specs.Numbers.{sign_of, fraction_of, exponent_of, decimal_of, is_over, number_cause, value_or_zero}
use Rattle.landxml_read.specs.declared.fault.DocCause.TheVariants as cause
use Rattle.landxml_read.proofs.Bytes.{both, and_is}
use Rattle.landxml_read.proofs.Running.{if_true, if_false}

-- digits

digit_small : (b : ℕ) → is_digit b ≡ true → digit_value b < 10
digit_small b e = grind arith

small_digit : (b : ℕ) → digit_value b < 10 → is_digit b ≡ true
small_digit b small = let r = digit_from_value b small in grind (arith, r)

all_digits : (bs : List ℕ) → list_all is_digit bs ≡ true → AllDigits 10 bs
all_digits [] e = tt
all_digits (b ∷ bs) e = let h = both (is_digit b) (list_all is_digit bs) e in (digit_small b h.0, all_digits bs h.1)

digits_all : (bs : List ℕ) → AllDigits 10 bs → list_all is_digit bs ≡ true
digits_all [] h = refl
digits_all (b ∷ bs) h = and_is (is_digit b) (list_all is_digit bs) (small_digit b h.0) (digits_all bs h.1)

leading_all : (bs : List ℕ) → AllDigits 10 (leading_digits bs)
leading_all [] = tt
leading_all (b ∷ bs) = by (is_digit b) refl (leading_all bs)
  where
    by : (t : Bool) → is_digit b ≡ t → AllDigits 10 (leading_digits bs) → AllDigits 10 (leading_digits (b ∷ bs))
    by true e h = let P : List ℕ → Type 0 = AllDigits 10 in subst P (sym (take_while-cons is_digit b bs ∙ ap (λ t. cond t (b ∷ leading_digits bs) []) e)) (digit_small b e, h)
    by false e h = let P : List ℕ → Type 0 = AllDigits 10 in subst P (sym (take_while-cons is_digit b bs ∙ ap (λ t. cond t (b ∷ leading_digits bs) []) e)) tt

-- the parts put together

signed_again : (bs : List ℕ) → bs ≡ sign_text (sign_of bs) ++ after_sign bs
signed_again [] = refl
signed_again (b ∷ bs) = by (b == 45) refl (b == 43) refl
  where
    by : (m : Bool) → (b == 45) ≡ m → (p : Bool) → (b == 43) ≡ p → b ∷ bs ≡ sign_text (cond (b == 45) Minus (cond (b == 43) Plus Bare)) ++ cond (b == 43 || b == 45) bs (b ∷ bs)
    by true e true f = ap (λ x. x ∷ bs) (eqb-true b 45 e) ∙ sym (λ i. sign_text (cond (e i) Minus (cond (f i) Plus Bare)) ++ cond (f i || e i) bs (b ∷ bs))
    by true e false f = ap (λ x. x ∷ bs) (eqb-true b 45 e) ∙ sym (λ i. sign_text (cond (e i) Minus (cond (f i) Plus Bare)) ++ cond (f i || e i) bs (b ∷ bs))
    by false e true f = ap (λ x. x ∷ bs) (eqb-true b 43 f) ∙ sym (λ i. sign_text (cond (e i) Minus (cond (f i) Plus Bare)) ++ cond (f i || e i) bs (b ∷ bs))
    by false e false f = sym (λ i. sign_text (cond (e i) Minus (cond (f i) Plus Bare)) ++ cond (f i || e i) bs (b ∷ bs))

digits_again : (bs : List ℕ) → bs ≡ leading_digits bs ++ after_digits bs
digits_again bs =
    sym (take-append-drop (length (leading_digits bs)) bs) ∙ ap (λ w. w ++ after_digits bs) (take_taken (prefix_len is_digit bs) bs)

pointed_again : (bs : List ℕ) → bs ≡ fraction_text (fraction_of bs) ++ after_point bs
pointed_again [] = refl
pointed_again (b ∷ bs) = by (b == 46) refl
  where
    by : (t : Bool) → (b == 46) ≡ t → b ∷ bs ≡ fraction_text (cond (b == 46) (Some (leading_digits bs)) None) ++ cond (b == 46) (after_digits bs) (b ∷ bs)
    by true e = ap (λ x. x ∷ bs) (eqb-true b 46 e) ∙ ap (λ w. 46 ∷ w) (digits_again bs) ∙ sym (ap (λ t. fraction_text (cond t (Some (leading_digits bs)) None) ++ cond t (after_digits bs) (b ∷ bs)) e)
    by false e = sym (ap (λ t. fraction_text (cond t (Some (leading_digits bs)) None) ++ cond t (after_digits bs) (b ∷ bs)) e)

-- the digits of a fraction
fraction_is : (bs : List ℕ) → digits_of (fraction_of bs) ≡ pointed_digits bs
fraction_is [] = refl
fraction_is (b ∷ bs) = by (b == 46)
  where
    by : (t : Bool) → digits_of (cond t (Some (leading_digits bs)) None) ≡ cond t (leading_digits bs) []
    by true = refl
    by false = refl

fraction_all : (bs : List ℕ) → AllDigits 10 (digits_of (fraction_of bs))
fraction_all [] = tt
fraction_all (b ∷ bs) = by (b == 46)
  where
    by : (t : Bool) → AllDigits 10 (digits_of (cond t (Some (leading_digits bs)) None))
    by true = leading_all bs
    by false = tt

-- exponents

-- the test of an exponent's text
abbrev is_exponent : ℕ → List ℕ → Bool
is_exponent b bs = (b == 69 || b == 101) && not (length (after_sign bs) == 0) && list_all is_digit (after_sign bs)

abbrev exponent_here : ℕ → List ℕ → Exponent
exponent_here b bs = record { is_upper = b == 69; sign = sign_of bs; digits = after_sign bs }

-- an exponent that is found spells the text
record Found (bs : List ℕ) (x : Option Exponent) : Type 0 where
  text : bs ≡ exponent_text x
  is : IfSome x (λ y. IsNumeral 10 y.digits)

found : (bs : List ℕ) (x : Option Exponent) → exponent_of bs ≡ Some x → Found bs x
found [] x e = let same : x ≡ None = cc in let P : Option Exponent → Type 0 = Found [] in subst P (sym same) (record { text = refl; is = tt })
found (b ∷ bs) x e = by (is_exponent b bs) refl
  where
    letter : (u l : Bool) → (b == 69) ≡ u → (b == 101) ≡ l → (u || l) ≡ true → b ≡ cond u 69 101
    letter true l h k o = eqb-true b 69 h
    letter false true h k o = eqb-true b 101 k
    letter false false h k o = cc

    positive : (n : ℕ) → not (n == 0) ≡ true → 0 < n
    positive n h = grind (arith, nat_tests)

    by : (t : Bool) → is_exponent b bs ≡ t → Found (b ∷ bs) x
    by true h =
        let same : x ≡ Some (exponent_here b bs) = some (sym e ∙ if_true (is_exponent b bs) _ _ h) in
        let p = both ((b == 69 || b == 101) && not (length (after_sign bs) == 0)) (list_all is_digit (after_sign bs)) h in
        let q = both (b == 69 || b == 101) (not (length (after_sign bs) == 0)) p.0 in
        let P : Option Exponent → Type 0 = Found (b ∷ bs) in
        subst P (sym same) (record {
          text = (λ i. letter (b == 69) (b == 101) refl refl q.0 i ∷ signed_again bs i);
          is = (positive (length (after_sign bs)) q.1, all_digits (after_sign bs) p.1);
        })
      where
        some : {y z : Option Exponent} → Some y ≡ Some z → y ≡ z
        some k = cc
    by false h = let none = sym e ∙ if_false (is_exponent b bs) _ _ h in cc

-- an exponent's text is found

first_no_sign : (s : Sign) (ds : List ℕ) → IsNumeral 10 ds → (sign_of (sign_text s ++ ds) ≡ s) × (after_sign (sign_text s ++ ds) ≡ ds)
first_no_sign Plus ds n = (refl, refl)
first_no_sign Minus ds n = (refl, refl)
first_no_sign Bare [] n = absurd (omega (arith, n.0))
first_no_sign Bare (d ∷ ds) n =
    let r = digit_from_value d n.1.0 in
    let plus : (d == 43) ≡ false = grind (arith, r) in
    let minus : (d == 45) ≡ false = grind (arith, r) in
    ((λ i. cond (minus i) Minus (cond (plus i) Plus Bare)), (λ i. cond (plus i || minus i) ds (d ∷ ds)))

exponent_back : (x : Option Exponent) → IfSome x (λ y. IsNumeral 10 y.digits) → exponent_of (exponent_text x) ≡ Some x
exponent_back None n = refl
exponent_back (Some x) n = by x.is_upper (first_no_sign x.sign x.digits n)
  where
    nonzero : not (length x.digits == 0) ≡ true
    nonzero = let some = n.0 in grind (arith, nat_tests, some)

    by : (u : Bool) → (sign_of (sign_text x.sign ++ x.digits) ≡ x.sign) × (after_sign (sign_text x.sign ++ x.digits) ≡ x.digits)
        → exponent_of (cond u 69 101 ∷ (sign_text x.sign ++ x.digits)) ≡ Some (Some (record { is_upper = u; sign = x.sign; digits = x.digits }))
    by true p =
        (λ i. cond ((true && not (length (p.1 i) == 0)) && list_all is_digit (p.1 i)) (Some (Some (record { is_upper = true; sign = p.0 i; digits = p.1 i }))) None)
        ∙ if_true ((true && not (length x.digits == 0)) && list_all is_digit x.digits) _ _ (and_is (true && not (length x.digits == 0)) (list_all is_digit x.digits) nonzero (digits_all x.digits n.1))
    by false p =
        (λ i. cond ((true && not (length (p.1 i) == 0)) && list_all is_digit (p.1 i)) (Some (Some (record { is_upper = false; sign = p.0 i; digits = p.1 i }))) None)
        ∙ if_true ((true && not (length x.digits == 0)) && list_all is_digit x.digits) _ _ (and_is (true && not (length x.digits == 0)) (list_all is_digit x.digits) nonzero (digits_all x.digits n.1))

-- decimals

-- the decimal of some parts
abbrev of_parts : List ℕ → Option Exponent → Decimal
of_parts text x = record { sign = sign_of text; whole = leading_digits (after_sign text); fraction = fraction_of (after_digits (after_sign text)); exponent = x }

minus_found : (text : List ℕ) → is_minus (sign_of text) ≡ has_minus text
minus_found [] = refl
minus_found (b ∷ bs) = by (b == 45) (b == 43)
  where
    by : (x y : Bool) → is_minus (cond x Minus (cond y Plus Bare)) ≡ x
    by true y = refl
    by false true = refl
    by false false = refl

-- what is found where a text spells a decimal
record Finds (text : List ℕ) (d : Decimal) : Type 0 where
  decimal : Decimal
  is : decimal_of text ≡ Some decimal
  same : magnitude decimal ≡ magnitude d
  minus : is_minus decimal.sign ≡ is_minus d.sign

finds : (text : List ℕ) (d : Decimal) → IsDecimal d → text ≡ decimal_text d → Finds text d
unfolding decimal_of
finds text d is e =
    let h = parts_are d text is e in
    let rest = after_digits (after_sign text) in
    let fraction : digits_of (fraction_of rest) ≡ fraction_digits d = fraction_is rest ∙ h.fraction in
    let some = is.some in
    let nonzero : (length (d.whole ++ fraction_digits d) == 0) ≡ false = grind (arith, nat_tests, some) in
    let test : (length (leading_digits (after_sign text) ++ pointed_digits rest) == 0) ≡ false = (λ i. length (h.whole i ++ h.fraction i) == 0) ∙ nonzero in
    record {
      decimal = of_parts text d.exponent;
      is = if_false (length (leading_digits (after_sign text) ++ pointed_digits rest) == 0) None (option_map (of_parts text) (exponent_of (after_point rest))) test
          ∙ ap (λ w. option_map (of_parts text) (exponent_of w)) h.exponent ∙ ap (option_map (of_parts text)) (exponent_back d.exponent is.exponent);
      same = λ i. rounded (digits_value 10 (h.whole i ++ fraction i)) (moved_right d.exponent + 3) (moved_left d.exponent + length (fraction i));
      minus = minus_found text ∙ h.minus;
    }

spells : (text : List ℕ) (d : Decimal) → decimal_of text ≡ Some d → IsDecimalText text
unfolding decimal_of
spells text d e = by (length (leading_digits (after_sign text) ++ pointed_digits (after_digits (after_sign text))) == 0) refl (exponent_of (after_point (after_digits (after_sign text)))) refl
  where
    rest : List ℕ
    rest = after_digits (after_sign text)

    regroup : (a b c d : List ℕ) → a ++ (b ++ (c ++ d)) ≡ a ++ b ++ c ++ d
    regroup a b c d = sym (simp append_assoc)

    by : (z : Bool) → (length (leading_digits (after_sign text) ++ pointed_digits (after_digits (after_sign text))) == 0) ≡ z → (o : Option (Option Exponent)) → exponent_of (after_point (after_digits (after_sign text))) ≡ o → IsDecimalText text
    by true h o g = let none = sym e ∙ if_true (length (leading_digits (after_sign text) ++ pointed_digits (after_digits (after_sign text))) == 0) None (option_map (of_parts text) (exponent_of (after_point (after_digits (after_sign text))))) h in cc
    by false h None g =
        let none = sym e ∙ if_false (length (leading_digits (after_sign text) ++ pointed_digits (after_digits (after_sign text))) == 0) None (option_map (of_parts text) (exponent_of (after_point (after_digits (after_sign text))))) h ∙ ap (option_map (of_parts text)) g in
        cc
    by false h (Some x) g =
        let f = found (after_point (after_digits (after_sign text))) x g in
        let fraction = fraction_is (after_digits (after_sign text)) in
        let size : length (leading_digits (after_sign text) ++ digits_of (fraction_of (after_digits (after_sign text)))) ≡ length (leading_digits (after_sign text) ++ pointed_digits (after_digits (after_sign text))) = ap (λ w. length (leading_digits (after_sign text) ++ w)) fraction in
        let some : 0 < length (leading_digits (after_sign text) ++ pointed_digits (after_digits (after_sign text))) = grind (arith, nat_tests, h) in (
          of_parts text x,
          record { whole = leading_all (after_sign text); fraction = fraction_all (after_digits (after_sign text)); some = omega (arith, size, some); exponent = f.is },
          signed_again text
              ∙ ap (λ w. sign_text (sign_of text) ++ w) (digits_again (after_sign text))
              ∙ ap (λ w. sign_text (sign_of text) ++ (leading_digits (after_sign text) ++ w)) (pointed_again (after_digits (after_sign text)) ∙ ap (λ w. fraction_text (fraction_of (after_digits (after_sign text))) ++ w) f.text)
              ∙ regroup (sign_text (sign_of text)) (leading_digits (after_sign text)) (fraction_text (fraction_of (after_digits (after_sign text)))) (exponent_text x),
        )

-- why a text is no number

pub cause_not : (text : List ℕ) → (IsDecimalText text → ⊥) → number_cause text ≡ Some cause.Number
cause_not text never = by (decimal_of text) refl
  where
    by : (o : Option Decimal) → decimal_of text ≡ o → number_cause text ≡ Some cause.Number
    by None e = ap (λ x. cond (is_none x) (Some cause.Number) (cond (is_over x) (Some cause.Big) None)) e
    by (Some d) e = absurd (never (spells text d e))

cause_of : (text : List ℕ) (d : Decimal) → IsDecimal d → text ≡ decimal_text d → number_cause text ≡ cond (nat_lt number_limit (magnitude d)) (Some cause.Big) None
cause_of text d is e =
    let f = finds text d is e in ap (λ x. cond (is_none x) (Some cause.Number) (cond (is_over x) (Some cause.Big) None)) f.is ∙ ap (λ m. cond (nat_lt number_limit m) (Some cause.Big) None) f.same

pub cause_big : (text : List ℕ) → IsTooBig text → number_cause text ≡ Some cause.Big
cause_big text big = cause_of text big.0 big.1 big.2 ∙ if_true (nat_lt number_limit (magnitude big.0)) (Some cause.Big) None (lt-ltb number_limit (magnitude big.0) big.3)

pub cause_none : (text : List ℕ) → IsDecimalText text → (IsTooBig text → ⊥) → number_cause text ≡ None
cause_none text d never = by (nat_lt number_limit (magnitude d.0)) refl
  where
    by : (t : Bool) → nat_lt number_limit (magnitude d.0) ≡ t → number_cause text ≡ None
    by true e = let more : number_limit < magnitude d.0 = grind (arith, nat_tests, e) in absurd (never (d.0, d.1, d.2, more))
    by false e = cause_of text d.0 d.1 d.2 ∙ if_false (nat_lt number_limit (magnitude d.0)) (Some cause.Big) None e

-- the number that a text spells

signed_by : (s t : Sign) (m : ℕ) → is_minus s ≡ is_minus t → signed s m ≡ signed t m
signed_by Bare Bare m e = refl
signed_by Bare Plus m e = refl
signed_by Bare Minus m e = cc
signed_by Plus Bare m e = refl
signed_by Plus Plus m e = refl
signed_by Plus Minus m e = cc
signed_by Minus Bare m e = cc
signed_by Minus Plus m e = cc
signed_by Minus Minus m e = refl

pub value_is : (number : ℤ) (text : List ℕ) → IsTextOf number text → number ≡ value_or_zero (decimal_of text)
value_is number text is =
    let d = is.0 in
    let f = finds text d is.1 is.2 in
    is.3 ∙ sym (ap value_or_zero f.is ∙ ap (signed f.decimal.sign) f.same ∙ signed_by f.decimal.sign d.sign (magnitude d) f.minus)
