-- The states of reading accept the decimals and nothing else.
use Rattle.std.proofs.Common.{◌≡◌, ℕ, zero, suc, ◌+◌, ◌≤◌, ◌<◌, Bool, true, false, nat_lt, ◌==◌, ◌||◌, cond, List, [], ◌∷◌, ◌++◌, length, take, drop, get_or, Option, None, Some, IfSome, refl, sym, ◌∙◌, ap, subst, arith, append_assoc, eqb-true}
use Rattle.std.proofs.lemmas.List.{take_more, take-append-drop}
use Rattle.std.proofs.Math.Seq.{take-length}
use Rattle.std.specs.Char.{digit_value}
use Rattle.std.proofs.lemmas.Str.Parse.{digit_from_value}
use Rattle.std.specs.Str.Parse.{AllDigits, IsNumeral}
use Rattle.ground_num.specs.FirstFault.{Begins, IsFirstFault}
use Rattle.ground_num.specs.Spelling.{Sign, Bare, Plus, Minus, Exponent, Decimal, IsDecimal, IsDecimalText, decimal_text, sign_text, fraction_text, exponent_text, digits_of}
use Rattle.ground_num.specs.Reading.{is_digit, Class, Digit, SignByte, Dot, Letter, Other, class_of, next_by, next, is_final}
use Rattle.ground_num.specs.declared.reading.Reading.{Reading}
use Rattle.ground_num.specs.declared.reading.Reading.TheVariants as at

-- the state after some bytes, where each may stand
abbrev pub run : Option Reading → List ℕ → Option Reading
run o [] = o
run None (b ∷ bs) = None
run (Some s) (b ∷ bs) = run (next s b) bs

run_none : (bs : List ℕ) → run None bs ≡ None
run_none [] = refl
run_none (b ∷ bs) = refl

pub run_more : (o : Option Reading) (xs ys : List ℕ) → run o (xs ++ ys) ≡ run (run o xs) ys
run_more o [] ys = refl
run_more None (x ∷ xs) ys = sym (run_none ys)
run_more (Some s) (x ∷ xs) ys = run_more (next s x) xs ys

abbrev pub Ends : Option Reading → Type 0
Ends None = ⊥
Ends (Some s) = is_final s ≡ true

-- classes

digit_class : (b : ℕ) → digit_value b < 10 → class_of b ≡ Digit
digit_class b small = let r = digit_from_value b small in let e : is_digit b ≡ true = grind (arith, r) in rw e refl

class_digit : (b : ℕ) → class_of b ≡ Digit → digit_value b < 10
class_digit b e = pick (is_digit b) refl
  where
    pick : (t : Bool) → is_digit b ≡ t → digit_value b < 10
    pick true h = grind arith
    pick false h = absurd (chain (b == 43 || b == 45) (b == 46) (b == 69 || b == 101) (rw h at e))
      where
        chain : (x y z : Bool) → cond x SignByte (cond y Dot (cond z Letter Other)) ≡ Digit → ⊥
        chain true y z e = cc
        chain false true z e = cc
        chain false false true e = cc
        chain false false false e = cc

digits_run : (s : Reading) (ds : List ℕ) → next_by s Digit ≡ Some s → AllDigits 10 ds → run (Some s) ds ≡ Some s
digits_run s [] e all = refl
digits_run s (d ∷ ds) e all = ap (λ c. run (next_by s c) ds) (digit_class d all.0) ∙ ap (λ o. run o ds) e ∙ digits_run s ds e all.1

class_sign : (b : ℕ) → class_of b ≡ SignByte → (s : Sign) × (sign_text s ≡ b ∷ [])
class_sign b e = pick (is_digit b) refl (b == 43) refl (b == 45) refl (b == 46) (b == 69 || b == 101)
  where
    pick : (d : Bool) → is_digit b ≡ d → (p : Bool) → (b == 43) ≡ p → (m : Bool) → (b == 45) ≡ m → (y z : Bool) → (s : Sign) × (sign_text s ≡ b ∷ [])
    pick d hd true hp m hm y z = (Plus, ap (λ x. x ∷ []) (sym (eqb-true b 43 hp)))
    pick d hd false hp true hm y z = (Minus, ap (λ x. x ∷ []) (sym (eqb-true b 45 hm)))
    pick d hd false hp false hm y z = absurd (chain (is_digit b) (b == 46) (b == 69 || b == 101) (rw (hp, hm) at e))
      where
        chain : (x y z : Bool) → cond x Digit (cond y Dot (cond z Letter Other)) ≡ SignByte → ⊥
        chain true y z e = cc
        chain false true z e = cc
        chain false false true e = cc
        chain false false false e = cc

class_letter : (b : ℕ) → class_of b ≡ Letter → (u : Bool) × (cond u 69 101 ≡ b)
class_letter b e = pick (b == 69) refl (b == 101) refl
  where
    pick : (p : Bool) → (b == 69) ≡ p → (m : Bool) → (b == 101) ≡ m → (u : Bool) × (cond u 69 101 ≡ b)
    pick true hp m hm = (true, sym (eqb-true b 69 hp))
    pick false hp true hm = (false, sym (eqb-true b 101 hm))
    pick false hp false hm = absurd (chain (is_digit b) (b == 43 || b == 45) (b == 46) (rw (hp, hm) at e))
      where
        chain : (x y z : Bool) → cond x Digit (cond y SignByte (cond z Dot Other)) ≡ Letter → ⊥
        chain true y z e = cc
        chain false true z e = cc
        chain false false true e = cc
        chain false false false e = cc

class_dot : (b : ℕ) → class_of b ≡ Dot → b ≡ 46
class_dot b e = pick (b == 46) refl
  where
    pick : (m : Bool) → (b == 46) ≡ m → b ≡ 46
    pick true hm = eqb-true b 46 hm
    pick false hm = absurd (chain (is_digit b) (b == 43 || b == 45) (b == 69 || b == 101) (rw hm at e))
      where
        chain : (x y z : Bool) → cond x Digit (cond y SignByte (cond z Letter Other)) ≡ Dot → ⊥
        chain true y z e = cc
        chain false true z e = cc
        chain false false true e = cc
        chain false false false e = cc

stuck : (bs : List ℕ) → Ends (run None bs) → ⊥
stuck bs h = let P : Option Reading → Type 0 = Ends in subst P (run_none bs) h

-- what is left to read in each state

pub record Powered (bs : List ℕ) : Type 0 where
  pub exponent : Option Exponent
  pub digits : IfSome exponent (λ x. IsNumeral 10 x.digits)
  pub text : bs ≡ exponent_text exponent

pub record Fractional (bs : List ℕ) : Type 0 where
  pub digits : List ℕ
  pub are : AllDigits 10 digits
  pub exponent : Option Exponent
  pub numeral : IfSome exponent (λ x. IsNumeral 10 x.digits)
  pub text : bs ≡ digits ++ exponent_text exponent

pub record Mantissa (bs : List ℕ) : Type 0 where
  pub whole : List ℕ
  pub are : AllDigits 10 whole
  pub fraction : Option (List ℕ)
  pub too : AllDigits 10 (digits_of fraction)
  pub exponent : Option Exponent
  pub numeral : IfSome exponent (λ x. IsNumeral 10 x.digits)
  pub text : bs ≡ whole ++ (fraction_text fraction ++ exponent_text exponent)

at_exponent : (bs : List ℕ) → Ends (run (Some at.Exponent) bs) → AllDigits 10 bs
at_exponent [] h = tt
at_exponent (b ∷ bs) h = by (class_of b) refl h (at_exponent bs)
  where
    by : (c : Class) → class_of b ≡ c → Ends (run (next_by at.Exponent c) bs) → (Ends (run (Some at.Exponent) bs) → AllDigits 10 bs) → AllDigits 10 (b ∷ bs)
    by Digit e h again = (class_digit b e, again h)
    by _ e h again = absurd (stuck bs h)

at_mark_signed : (bs : List ℕ) → Ends (run (Some at.MarkSigned) bs) → IsNumeral 10 bs
at_mark_signed [] h = cc
at_mark_signed (b ∷ bs) h = by (class_of b) refl h
  where
    by : (c : Class) → class_of b ≡ c → Ends (run (next_by at.MarkSigned c) bs) → IsNumeral 10 (b ∷ bs)
    by Digit e h = (omega arith, (class_digit b e, at_exponent bs h))
    by _ e h = absurd (stuck bs h)

at_mark : (bs : List ℕ) → Ends (run (Some at.Mark) bs) → (s : Sign) × (ds : List ℕ) × IsNumeral 10 ds × (bs ≡ sign_text s ++ ds)
at_mark [] h = cc
at_mark (b ∷ bs) h = by (class_of b) refl h
  where
    by : (c : Class) → class_of b ≡ c → Ends (run (next_by at.Mark c) bs) → (s : Sign) × (ds : List ℕ) × IsNumeral 10 ds × (b ∷ bs ≡ sign_text s ++ ds)
    by Digit e h = (Bare, b ∷ bs, (omega arith, (class_digit b e, at_exponent bs h)), refl)
    by SignByte e h = let s = class_sign b e in (s.0, bs, at_mark_signed bs h, sym (ap (λ w. w ++ bs) s.1))
    by _ e h = absurd (stuck bs h)

after_letter : (b : ℕ) (bs : List ℕ) → class_of b ≡ Letter → Ends (run (Some at.Mark) bs) → Powered (b ∷ bs)
after_letter b bs e h =
    let m = at_mark bs h in
    let u = class_letter b e in
    record { exponent = Some (record { is_upper = u.0; sign = m.0; digits = m.1 }); digits = m.2; text = ap (λ x. x ∷ bs) (sym u.1) ∙ ap (λ w. cond u.0 69 101 ∷ w) m.3 }

at_fraction : (bs : List ℕ) → Ends (run (Some at.Fraction) bs) → Fractional bs
at_fraction [] h = record { digits = []; are = tt; exponent = None; numeral = tt; text = refl }
at_fraction (b ∷ bs) h = by (class_of b) refl h (at_fraction bs)
  where
    by : (c : Class) → class_of b ≡ c → Ends (run (next_by at.Fraction c) bs) → (Ends (run (Some at.Fraction) bs) → Fractional bs) → Fractional (b ∷ bs)
    by Digit e h again = let r = again h in record { digits = b ∷ r.digits; are = (class_digit b e, r.are); exponent = r.exponent; numeral = r.numeral; text = ap (λ w. b ∷ w) r.text }
    by Letter e h again = let x = after_letter b bs e h in record { digits = []; are = tt; exponent = x.exponent; numeral = x.digits; text = x.text }
    by _ e h again = absurd (stuck bs h)

at_point : (bs : List ℕ) → Ends (run (Some at.Point) bs) → (r : Fractional bs) × (0 < length r.digits)
at_point [] h = cc
at_point (b ∷ bs) h = by (class_of b) refl h
  where
    by : (c : Class) → class_of b ≡ c → Ends (run (next_by at.Point c) bs) → (r : Fractional (b ∷ bs)) × (0 < length r.digits)
    by Digit e h = let r = at_fraction bs h in (record { digits = b ∷ r.digits; are = (class_digit b e, r.are); exponent = r.exponent; numeral = r.numeral; text = ap (λ w. b ∷ w) r.text }, omega arith)
    by _ e h = absurd (stuck bs h)

at_whole : (bs : List ℕ) → Ends (run (Some at.Whole) bs) → Mantissa bs
at_whole [] h = record { whole = []; are = tt; fraction = None; too = tt; exponent = None; numeral = tt; text = refl }
at_whole (b ∷ bs) h = by (class_of b) refl h (at_whole bs)
  where
    by : (c : Class) → class_of b ≡ c → Ends (run (next_by at.Whole c) bs) → (Ends (run (Some at.Whole) bs) → Mantissa bs) → Mantissa (b ∷ bs)
    by Digit e h again = let r = again h in record { whole = b ∷ r.whole; are = (class_digit b e, r.are); fraction = r.fraction; too = r.too; exponent = r.exponent; numeral = r.numeral; text = ap (λ w. b ∷ w) r.text }
    by Dot e h again = let r = at_fraction bs h in record { whole = []; are = tt; fraction = Some r.digits; too = r.are; exponent = r.exponent; numeral = r.numeral; text = ap (λ x. x ∷ bs) (class_dot b e) ∙ ap (λ w. 46 ∷ w) r.text }
    by Letter e h again = let x = after_letter b bs e h in record { whole = []; are = tt; fraction = None; too = tt; exponent = x.exponent; numeral = x.digits; text = x.text }
    by _ e h again = absurd (stuck bs h)

led_by_digit : (b : ℕ) (bs : List ℕ) → class_of b ≡ Digit → Ends (run (Some at.Whole) bs) → (r : Mantissa (b ∷ bs)) × (0 < length (r.whole ++ digits_of r.fraction))
led_by_digit b bs e h = let r = at_whole bs h in (record { whole = b ∷ r.whole; are = (class_digit b e, r.are); fraction = r.fraction; too = r.too; exponent = r.exponent; numeral = r.numeral; text = ap (λ w. b ∷ w) r.text }, omega arith)

led_by_dot : (b : ℕ) (bs : List ℕ) → class_of b ≡ Dot → Ends (run (Some at.Point) bs) → (r : Mantissa (b ∷ bs)) × (0 < length (r.whole ++ digits_of r.fraction))
led_by_dot b bs e h = let p = at_point bs h in let r = p.0 in (record { whole = []; are = tt; fraction = Some r.digits; too = r.are; exponent = r.exponent; numeral = r.numeral; text = ap (λ x. x ∷ bs) (class_dot b e) ∙ ap (λ w. 46 ∷ w) r.text }, p.1)

at_signed : (bs : List ℕ) → Ends (run (Some at.Signed) bs) → (r : Mantissa bs) × (0 < length (r.whole ++ digits_of r.fraction))
at_signed [] h = cc
at_signed (b ∷ bs) h = by (class_of b) refl h
  where
    by : (c : Class) → class_of b ≡ c → Ends (run (next_by at.Signed c) bs) → (r : Mantissa (b ∷ bs)) × (0 < length (r.whole ++ digits_of r.fraction))
    by Digit e h = led_by_digit b bs e h
    by Dot e h = led_by_dot b bs e h
    by _ e h = absurd (stuck bs h)

from_mantissa : (s : Sign) (bs : List ℕ) → (r : Mantissa bs) × (0 < length (r.whole ++ digits_of r.fraction)) → IsDecimalText (sign_text s ++ bs)
from_mantissa s bs p =
    let r = p.0 in (
      record { sign = s; whole = r.whole; fraction = r.fraction; exponent = r.exponent },
      record { whole = r.are; fraction = r.too; some = p.1; exponent = r.numeral },
      ap (λ w. sign_text s ++ w) r.text ∙ grouped (sign_text s) r.whole (fraction_text r.fraction) (exponent_text r.exponent),
    )
  where
    grouped : (a b c d : List ℕ) → a ++ (b ++ (c ++ d)) ≡ ((a ++ b) ++ c) ++ d
    grouped a b c d = simp append_assoc

-- what the states accept is a decimal
pub at_start : (bs : List ℕ) → Ends (run (Some at.Start) bs) → IsDecimalText bs
at_start [] h = cc
at_start (b ∷ bs) h = by (class_of b) refl h
  where
    by : (c : Class) → class_of b ≡ c → Ends (run (next_by at.Start c) bs) → IsDecimalText (b ∷ bs)
    by Digit e h = from_mantissa Bare (b ∷ bs) (led_by_digit b bs e h)
    by Dot e h = from_mantissa Bare (b ∷ bs) (led_by_dot b bs e h)
    by SignByte e h =
        let s = class_sign b e in
        let P : List ℕ → Type 0 = IsDecimalText in
        subst P (ap (λ w. w ++ bs) s.1) (from_mantissa s.0 bs (at_signed bs h))
    by _ e h = absurd (stuck bs h)

-- a decimal is accepted

first_digit : (s t : Reading) (ds : List ℕ) → 0 < length ds → AllDigits 10 ds → next_by s Digit ≡ Some t → next_by t Digit ≡ Some t → run (Some s) ds ≡ Some t
first_digit s t [] some all e f = absurd (omega arith)
first_digit s t (d ∷ ds) some all e f = ap (λ c. run (next_by s c) ds) (digit_class d all.0) ∙ ap (λ o. run o ds) e ∙ digits_run t ds f all.1

record Done (o : Option Reading) : Type 0 where
  state : Reading
  is : o ≡ Some state
  final : is_final state ≡ true
  letter : next_by state Letter ≡ Some at.Mark

mantissa_run : (s : Reading) (whole : List ℕ) (f : Option (List ℕ)) → next_by s Digit ≡ Some at.Whole → next_by s Dot ≡ Some at.Point
    → AllDigits 10 whole → AllDigits 10 (digits_of f) → 0 < length (whole ++ digits_of f) → Done (run (run (Some s) whole) (fraction_text f))
mantissa_run s (d ∷ ds) None e g all too some =
    record { state = at.Whole; is = first_digit s at.Whole (d ∷ ds) (omega arith) all e refl; final = refl; letter = refl }
mantissa_run s (d ∷ ds) (Some fs) e g all too some =
    record { state = at.Fraction; is = ap (λ o. run o (46 ∷ fs)) (first_digit s at.Whole (d ∷ ds) (omega arith) all e refl) ∙ digits_run at.Fraction fs refl too; final = refl; letter = refl }
mantissa_run s [] None e g all too some = absurd (omega arith)
mantissa_run s [] (Some fs) e g all too some =
    record { state = at.Fraction; is = ap (λ o. run o fs) g ∙ first_digit at.Point at.Fraction fs some too refl refl; final = refl; letter = refl }

exponent_run : (o : Option Reading) (x : Option Exponent) → Done o → IfSome x (λ x. IsNumeral 10 x.digits) → Ends (run o (exponent_text x))
exponent_run o None d h = let P : Option Reading → Type 0 = Ends in subst P (sym d.is) d.final
exponent_run o (Some x) d h =
    let P : Option Reading → Type 0 = Ends in
    subst P (sym (ap (λ o. run o (cond x.is_upper 69 101 ∷ sign_text x.sign ++ x.digits)) d.is
    ∙ ap (λ c. run (next_by d.state c) (sign_text x.sign ++ x.digits)) (letter_class x.is_upper)
    ∙ ap (λ o. run o (sign_text x.sign ++ x.digits)) d.letter
    ∙ tail x.sign x.digits h)) refl
  where
    letter_class : (u : Bool) → class_of (cond u 69 101) ≡ Letter
    letter_class true = refl
    letter_class false = refl

    tail : (s : Sign) (ds : List ℕ) → IsNumeral 10 ds → run (Some at.Mark) (sign_text s ++ ds) ≡ Some at.Exponent
    tail Bare ds n = first_digit at.Mark at.Exponent ds n.0 n.1 refl refl
    tail Plus ds n = first_digit at.MarkSigned at.Exponent ds n.0 n.1 refl refl
    tail Minus ds n = first_digit at.MarkSigned at.Exponent ds n.0 n.1 refl refl

pub accepted : (d : Decimal) → IsDecimal d → Ends (run (Some at.Start) (decimal_text d))
accepted d is =
    let P : Option Reading → Type 0 = Ends in
    subst P (sym (run_more (Some at.Start) (sign_text d.sign ++ d.whole ++ fraction_text d.fraction) (exponent_text d.exponent)))
    (exponent_run _ d.exponent (mantissa d.sign d.whole d.fraction is.whole is.fraction is.some) is.exponent)
  where
    mantissa : (s : Sign) (whole : List ℕ) (f : Option (List ℕ)) → AllDigits 10 whole → AllDigits 10 (digits_of f) → 0 < length (whole ++ digits_of f)
        → Done (run (Some at.Start) (sign_text s ++ whole ++ fraction_text f))
    mantissa s whole f all too some =
        let Q : Option Reading → Type 0 = Done in
        subst Q (sym (run_more (Some at.Start) (sign_text s ++ whole) (fraction_text f) ∙ ap (λ o. run o (fraction_text f)) (run_more (Some at.Start) (sign_text s) whole))) (by_sign s)
      where
        by_sign : (s : Sign) → Done (run (run (run (Some at.Start) (sign_text s)) whole) (fraction_text f))
        by_sign Bare = mantissa_run at.Start whole f refl refl all too some
        by_sign Plus = mantissa_run at.Signed whole f refl refl all too some
        by_sign Minus = mantissa_run at.Signed whole f refl refl all too some

-- each state goes on to a decimal
alive : (s : Reading) → (more : List ℕ) × Ends (run (Some s) more)
alive at.Start = (48 ∷ [], refl)
alive at.Signed = (48 ∷ [], refl)
alive at.Whole = ([], refl)
alive at.Point = (48 ∷ [], refl)
alive at.Fraction = ([], refl)
alive at.Mark = (48 ∷ [], refl)
alive at.MarkSigned = (48 ∷ [], refl)
alive at.Exponent = ([], refl)

begins_at : (xs : List ℕ) (s : Reading) → run (Some at.Start) xs ≡ Some s → Begins IsDecimalText xs
begins_at xs s e =
    let a = alive s in
    let P : Option Reading → Type 0 = Ends in
    (a.0, at_start (xs ++ a.0) (subst P (sym (run_more (Some at.Start) xs a.0 ∙ ap (λ o. run o a.0) e)) a.1))

take_past : (xs : List ℕ) (n m : ℕ) → n < m → n < length xs → (more : List ℕ) × (take m xs ≡ take n xs ++ get_or xs n 0 ∷ more)
take_past [] n m a b = absurd (omega arith)
take_past (x ∷ xs) zero zero a b = absurd (omega arith)
take_past (x ∷ xs) zero (suc m) a b = (take m xs, refl)
take_past (x ∷ xs) (suc n) zero a b = absurd (omega arith)
take_past (x ∷ xs) (suc n) (suc m) a b = let p = take_past xs n m (omega arith) (omega arith) in (p.0, ap (λ w. x ∷ w) p.1)

take_less : (xs : List ℕ) (m n : ℕ) → m ≤ n → (more : List ℕ) × (take n xs ≡ take m xs ++ more)
take_less xs zero n less = (take n xs, refl)
take_less xs (suc m) zero less = absurd (omega arith)
take_less [] (suc m) (suc n) less = ([], refl)
take_less (x ∷ xs) (suc m) (suc n) less = let p = take_less xs m n (omega arith) in (p.0, ap (λ w. x ∷ w) p.1)

-- a front of a front that begins a decimal begins one
begins_less : (xs : List ℕ) (m n : ℕ) → m ≤ n → Begins IsDecimalText (take n xs) → Begins IsDecimalText (take m xs)
begins_less xs m n less b =
    let p = take_less xs m n less in
    let P : List ℕ → Type 0 = IsDecimalText in
    (p.0 ++ b.0, subst P (ap (λ w. w ++ b.0) p.1 ∙ append_assoc (take m xs) p.0 b.0) b.1)

-- after a byte that may not stand there, nothing makes a decimal
not_begun : (xs : List ℕ) (n : ℕ) (s : Reading) → run (Some at.Start) (take n xs) ≡ Some s → n < length xs → next s (get_or xs n 0) ≡ None → Begins IsDecimalText (take (n + 1) xs) → ⊥
not_begun xs n s e in_it none b =
    let past = take_past xs n (n + 1) (omega arith) in_it in
    let d = b.1 in
    let P : Option Reading → Type 0 = Ends in
    let text : take n xs ++ (get_or xs n 0 ∷ (past.0 ++ b.0)) ≡ decimal_text d.0 = sym (append_assoc (take n xs) (get_or xs n 0 ∷ past.0) b.0) ∙ ap (λ w. w ++ b.0) (sym past.1) ∙ d.2 in
    stuck (past.0 ++ b.0) (subst P (ap (run (Some at.Start)) (sym text) ∙ run_more (Some at.Start) (take n xs) (get_or xs n 0 ∷ (past.0 ++ b.0)) ∙ ap (λ o. run o (get_or xs n 0 ∷ (past.0 ++ b.0))) e ∙ ap (λ o. run o (past.0 ++ b.0)) none) (accepted d.0 d.1))

-- a byte that may not stand there is the first fault
pub fault_at : (xs : List ℕ) (n : ℕ) (s : Reading) → run (Some at.Start) (take n xs) ≡ Some s → n < length xs → next s (get_or xs n 0) ≡ None → IsFirstFault IsDecimalText xs n
fault_at xs n s e in_it none = record {
  within = omega arith;
  allowed = λ j less. begins_less xs (j + 1) n (omega arith) (begins_at (take n xs) s e);
  not_allowed = λ less. not_begun xs n s e in_it none;
}

-- and the text is no decimal
pub no_decimal : (xs : List ℕ) (n : ℕ) (s : Reading) → run (Some at.Start) (take n xs) ≡ Some s → n < length xs → next s (get_or xs n 0) ≡ None → ¬ (IsDecimalText xs)
no_decimal xs n s e in_it none d =
    let P : List ℕ → Type 0 = IsDecimalText in
    not_begun xs n s e in_it none (drop (n + 1) xs, subst P (sym (take-append-drop (n + 1) xs)) d)

run_all : (xs : List ℕ) (s : Reading) → run (Some at.Start) (take (length xs) xs) ≡ Some s → run (Some at.Start) xs ≡ Some s
run_all xs s e = ap (run (Some at.Start)) (sym (take-length xs)) ∙ e

-- at the end, a state in which a decimal may end
pub ends_well : (xs : List ℕ) (s : Reading) → run (Some at.Start) (take (length xs) xs) ≡ Some s → is_final s ≡ true → IsDecimalText xs
ends_well xs s e final = let P : Option Reading → Type 0 = Ends in at_start xs (subst P (sym (run_all xs s e)) final)

-- at the end, a state in which no decimal may end
pub ends_early : (xs : List ℕ) (s : Reading) → run (Some at.Start) (take (length xs) xs) ≡ Some s → is_final s ≡ false → ¬ (IsDecimalText xs)
ends_early xs s e early d =
    let P : Option Reading → Type 0 = Ends in
    let final : is_final s ≡ true = subst P (ap (run (Some at.Start)) (sym d.2) ∙ run_all xs s e) (accepted d.0 d.1) in
    cc

-- and then the fault is the length
pub fault_at_end : (xs : List ℕ) (s : Reading) → run (Some at.Start) (take (length xs) xs) ≡ Some s → IsFirstFault IsDecimalText xs (length xs)
fault_at_end xs s e = record {
  within = omega arith;
  allowed = λ j less. begins_less xs (j + 1) (length xs) (omega arith) (begins_at (take (length xs) xs) s e);
  not_allowed = λ less. absurd (omega arith);
}

pub run_step : (xs : List ℕ) (n : ℕ) (s t : Reading) → run (Some at.Start) (take n xs) ≡ Some s → n < length xs → next s (get_or xs n 0) ≡ Some t → run (Some at.Start) (take (n + 1) xs) ≡ Some t
run_step xs n s t e in_it f = ap (run (Some at.Start)) (take_more xs n 0 in_it) ∙ run_more (Some at.Start) (take n xs) (get_or xs n 0 ∷ []) ∙ ap (λ o. run o (get_or xs n 0 ∷ [])) e ∙ f

-- a text has one first fault
pub one_fault : (xs : List ℕ) (j k : ℕ) → IsFirstFault IsDecimalText xs j → IsFirstFault IsDecimalText xs k → j ≡ k
one_fault xs j k f g = by (nat_lt j k) refl (nat_lt k j) refl
  where
    by : (a : Bool) → nat_lt j k ≡ a → (b : Bool) → nat_lt k j ≡ b → j ≡ k
    by true e b h = let less : j < k = grind arith in let within = g.within in absurd (f.not_allowed (omega arith) (g.allowed j less))
    by false e true h = let less : k < j = grind arith in let within = f.within in absurd (g.not_allowed (omega arith) (f.allowed k less))
    by false e false h = grind arith
