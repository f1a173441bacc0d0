-- Digits with a point among them: where the point is moved to the right, to the left, and out of the digits.
use Rattle.std.proofs.Common.{◌≡◌, ℕ, zero, suc, ◌+◌, ◌-◌, ◌*◌, ◌/◌, ◌^◌, ◌<◌, ◌≤◌, ap, sym, ◌∙◌, arith, refl, cond, true, false, Bool, nat_lt, List, [], ◌∷◌, ◌++◌, length, take, get_or, min, length-append}
use Rattle.std.proofs.lemmas.Nat.{div-mul-add, pow-add, mul-le}
use Rattle.std.proofs.Math.Nat.{mul_assoc, mul_comm, one-le-pow, pow-suc, pow-le-pow_right, mul-lt-mul_of_pos_left}
use Rattle.std.proofs.lemmas.Int.Digits.{digits_value-lt}
use Rattle.std.specs.Char.{digit_value}
use Rattle.std.specs.Str.Parse.{digits_value, digits_value_after, AllDigits}
use Rattle.ground_num.specs.Spelling.{rounded}
use Rattle.ground_num.specs.Pointed.{pointed}

ten_pos : (k : ℕ) → 0 < 10 ^ k
ten_pos k = omega (arith, one-le-pow k 10 (omega arith))

le_pow : (i j : ℕ) → i ≤ j → 10 ^ i ≤ 10 ^ j
le_pow i j h = pow-le-pow_right {n = 10} (omega arith) h

product_raised : (n t p : ℕ) → 2 * (n * (p * t)) + p ≡ n * t * (2 * p) + p
product_raised n t p = grind (arith, mul_assoc, mul_comm)

-- to the right by j places
pub raised : (n v j : ℕ) → rounded n (v + j) v ≡ n * 10 ^ j
unfolding rounded
raised n v j =
    rw (pow-add, product_raised n (10 ^ j) (10 ^ v)) (div-mul-add (n * 10 ^ j) (2 * 10 ^ v) (10 ^ v) (omega (arith, ten_pos v)))

product_lowered : (a b t u : ℕ) → 2 * ((a * (10 * t) + b) * u) + u * (10 * t) ≡ a * (2 * (u * (10 * t))) + u * (2 * b + 10 * t)
product_lowered a b t u = grind (arith, mul_assoc, mul_comm)

-- to the left, where what is cut off is below a half
below_half : (a b t u : ℕ) → 0 < u → 2 * b < 10 * t → (2 * ((a * (10 * t) + b) * u) + u * (10 * t)) / (2 * (u * (10 * t))) ≡ a
below_half a b t u pos small =
    let less : u * (2 * b + 10 * t) < u * (2 * (10 * t)) = mul-lt-mul_of_pos_left (omega arith) pos in
    let same : u * (2 * (10 * t)) ≡ 2 * (u * (10 * t)) = grind (arith, mul_assoc, mul_comm) in
    rw (product_lowered a b t u) (div-mul-add a (2 * (u * (10 * t))) (u * (2 * b + 10 * t)) (omega arith))

product_upper : (a b t u : ℕ) → 10 * t ≤ 2 * b → 2 * ((a * (10 * t) + b) * u) + u * (10 * t) ≡ (a + 1) * (2 * (u * (10 * t))) + u * (2 * b - 10 * t)
product_upper a b t u big =
    let e : 2 * b ≡ 10 * t + (2 * b - 10 * t) = omega arith in
    product_lowered a b t u ∙ more a (2 * b - 10 * t) (10 * t) u (2 * b) e
  where
    more : (a c s u d : ℕ) → d ≡ s + c → a * (2 * (u * s)) + u * (d + s) ≡ (a + 1) * (2 * (u * s)) + u * c
    more a c s u d e = rw e (grind (arith, mul_assoc, mul_comm))

from_half : (a b t u : ℕ) → 0 < u → b < 10 * t → 10 * t ≤ 2 * b → (2 * ((a * (10 * t) + b) * u) + u * (10 * t)) / (2 * (u * (10 * t))) ≡ a + 1
from_half a b t u pos small big =
    let less : u * (2 * b - 10 * t) < u * (2 * (10 * t)) = mul-lt-mul_of_pos_left (omega arith) pos in
    let same : u * (2 * (10 * t)) ≡ 2 * (u * (10 * t)) = grind (arith, mul_assoc, mul_comm) in
    rw (product_upper a b t u big) (div-mul-add (a + 1) (2 * (u * (10 * t))) (u * (2 * b - 10 * t)) (omega arith))

-- the digit after the point decides
by_digit : (a d r t u : ℕ) → 0 < u → d < 10 → r < t → (2 * ((a * (10 * t) + (d * t + r)) * u) + u * (10 * t)) / (2 * (u * (10 * t))) ≡ a + cond (nat_lt 4 d) 1 0
by_digit a d r t u pos ten small = pick (nat_lt 4 d) refl
  where
    pick : (c : Bool) → nat_lt 4 d ≡ c → (2 * ((a * (10 * t) + (d * t + r)) * u) + u * (10 * t)) / (2 * (u * (10 * t))) ≡ a + cond c 1 0
    pick true e = let five : 5 ≤ d = grind arith in let more : 5 * t ≤ d * t = mul-le 5 t d t five (omega arith) in let less : d * t ≤ 9 * t = mul-le d t 9 t (omega arith) (omega arith) in from_half a (d * t + r) t u pos (omega arith) (omega arith)
    pick false e = let four : d ≤ 4 = grind arith in let less : d * t ≤ 4 * t = mul-le d t 4 t four (omega arith) in below_half a (d * t + r) t u pos (omega arith) ∙ omega arith

-- the digits before and after a place
pub digits_split : (n : ℕ) (xs ys : List ℕ) → digits_value_after 10 n (xs ++ ys) ≡ digits_value_after 10 (digits_value_after 10 n xs) ys
digits_split n [] ys = refl
digits_split n (x ∷ xs) ys = digits_split (n * 10 + digit_value x) xs ys

digits_lead : (n : ℕ) (ys : List ℕ) → digits_value_after 10 n ys ≡ n * 10 ^ length ys + digits_value 10 ys
digits_lead n [] = omega arith
digits_lead n (y ∷ ys) =
    let a = digits_lead (n * 10 + digit_value y) ys in
    let b = digits_lead (0 * 10 + digit_value y) ys in
    a ∙ lead n (digit_value y) (10 ^ length ys) (digits_value 10 ys) (10 ^ length (y ∷ ys)) _ (pow-suc 10 (length ys)) b
  where
    lead : (n d p v q w : ℕ) → q ≡ p * 10 → w ≡ (0 * 10 + d) * p + v → (n * 10 + d) * p + v ≡ n * q + w
    lead n d p v q w e f = rw (e, f) (grind (arith, mul_assoc, mul_comm))

-- a place among the digits: those before it, its digit, and those behind
digits_at : (ds : List ℕ) (p : ℕ) → AllDigits 10 ds → p < length ds
    → (r : ℕ) × (r < 10 ^ (length ds - p - 1)) × (digit_value (get_or ds p 0) < 10)
    × (digits_value 10 ds ≡ digits_value 10 (take p ds) * (10 * 10 ^ (length ds - p - 1)) + (digit_value (get_or ds p 0) * 10 ^ (length ds - p - 1) + r))
digits_at ds p all in_it = from ds p 0 all in_it
  where
    put : (a b n d v t q : ℕ) → a ≡ n * q + (d * t + v) → q ≡ 10 * t → a ≡ n * (10 * t) + (d * t + v)
    put a b n d v t q e f = e ∙ ap (λ k. n * k + (d * t + v)) f

    from : (ds : List ℕ) (p n : ℕ) → AllDigits 10 ds → p < length ds
        → (r : ℕ) × (r < 10 ^ (length ds - p - 1)) × (digit_value (get_or ds p 0) < 10)
        × (digits_value_after 10 n ds ≡ digits_value_after 10 n (take p ds) * (10 * 10 ^ (length ds - p - 1)) + (digit_value (get_or ds p 0) * 10 ^ (length ds - p - 1) + r))
    from [] p n all in_it = absurd (omega arith)
    from (x ∷ xs) zero n all in_it =
        let e : suc (length xs) - 0 - 1 ≡ length xs = omega arith in
        rw e ((digits_value 10 xs, digits_value-lt 10 xs all.1, all.0, digits_lead (n * 10 + digit_value x) xs ∙ spread n (digit_value x) (10 ^ length xs) (digits_value 10 xs)))
      where
        spread : (n d t v : ℕ) → (n * 10 + d) * t + v ≡ n * (10 * t) + (d * t + v)
        spread n d t v = grind (arith, mul_assoc, mul_comm)
    from (x ∷ xs) (suc p) n all in_it =
        let e : suc (length xs) - suc p - 1 ≡ length xs - p - 1 = omega arith in
        rw e (from xs p (n * 10 + digit_value x) all.1 (omega arith))

-- the digits, moved, are those with a point among them
pub pointed_is : (ds : List ℕ) (u v p : ℕ) → AllDigits 10 ds → v + p ≡ u + length ds → rounded (digits_value 10 ds) u v ≡ pointed ds p
unfolding pointed rounded
pointed_is ds u v p all e = pick (nat_lt p (length ds)) refl
  where
    inner : (n a d r t u v k : ℕ) → n ≡ a * (10 * t) + (d * t + r) → t ≡ 10 ^ k → v ≡ u + suc k → d < 10 → r < t
        → (2 * (n * 10 ^ u) + 10 ^ v) / (2 * 10 ^ v) ≡ a + cond (nat_lt 4 d) 1 0
    inner n a d r t u v k e f g ten small =
        let q : 10 ^ v ≡ 10 ^ u * (10 * t) = ap (λ i. 10 ^ i) g ∙ pow-add 10 u (suc k) ∙ ap (λ i. 10 ^ u * i) (pow-suc 10 k ∙ mul_comm (10 ^ k) 10 ∙ ap (λ i. 10 * i) (sym f)) in
        rw (q, e) (by_digit a d r t (10 ^ u) (ten_pos u) ten small)

    pick : (c : Bool) → nat_lt p (length ds) ≡ c → rounded (digits_value 10 ds) u v ≡ cond c (digits_value 10 (take p ds) + cond (nat_lt 4 (digit_value (get_or ds p 0))) 1 0) (digits_value 10 ds * 10 ^ (p - length ds))
    pick true h =
        let in_it : p < length ds = grind arith in
        let x = digits_at ds p all in_it in
        inner (digits_value 10 ds) (digits_value 10 (take p ds)) (digit_value (get_or ds p 0)) x.0 (10 ^ (length ds - p - 1)) u v (length ds - p - 1) x.3 refl (omega arith) x.2 x.1
    pick false h =
        let past : length ds ≤ p = grind arith in
        let g : u ≡ v + (p - length ds) = omega arith in
        rw g (raised (digits_value 10 ds) v (p - length ds))

-- moved out to the left, nothing is left
pub vanishes : (ds : List ℕ) (u v : ℕ) → AllDigits 10 ds → u + length ds < v → rounded (digits_value 10 ds) u v ≡ 0
unfolding rounded
vanishes ds u v all out =
    let small : digits_value 10 ds < 10 ^ length ds = digits_value-lt 10 ds all in
    let less : 10 ^ u * digits_value 10 ds < 10 ^ u * 10 ^ length ds = mul-lt-mul_of_pos_left small (ten_pos u) in
    let step : 10 ^ suc (u + length ds) ≤ 10 ^ v = pow-le-pow_right {n = 10} (omega arith) out in
    let apart : 10 ^ suc (u + length ds) ≡ 10 ^ (u + length ds) * 10 = pow-suc 10 (u + length ds) in
    let whole : 10 ^ (u + length ds) ≡ 10 ^ u * 10 ^ length ds = pow-add 10 u (length ds) in
    let turned : digits_value 10 ds * 10 ^ u ≡ 10 ^ u * digits_value 10 ds = mul_comm (digits_value 10 ds) (10 ^ u) in
    let front : 2 * (digits_value 10 ds * 10 ^ u) + 10 ^ v ≡ 0 * (2 * 10 ^ v) + (2 * (digits_value 10 ds * 10 ^ u) + 10 ^ v) = omega arith in
    ap (λ k. k / (2 * 10 ^ v)) front ∙ div-mul-add 0 (2 * 10 ^ v) (2 * (digits_value 10 ds * 10 ^ u) + 10 ^ v) (omega arith)

-- far to the right of its digits a point stands as well as farther
pub far_right : (ds : List ℕ) (p q : ℕ) → length ds + 12 ≤ p → p ≤ q → min (pointed ds p) (10 ^ 12) ≡ min (pointed ds q) (10 ^ 12)
unfolding pointed
far_right ds p q far more =
    let e : nat_lt p (length ds) ≡ false = grind arith in
    let f : nat_lt q (length ds) ≡ false = grind arith in
    rw (e, f) (same (digits_value 10 ds))
  where
    same : (n : ℕ) → min (n * 10 ^ (p - length ds)) (10 ^ 12) ≡ min (n * 10 ^ (q - length ds)) (10 ^ 12)
    same zero = rw (zero_times (10 ^ (p - length ds)), zero_times (10 ^ (q - length ds))) refl
      where
        zero_times : (k : ℕ) → 0 * k ≡ 0
        zero_times k = omega arith
    same (suc n) =
        let a : 10 ^ 12 ≤ 10 ^ (p - length ds) = le_pow 12 (p - length ds) (omega arith) in
        let b : 10 ^ 12 ≤ 10 ^ (q - length ds) = le_pow 12 (q - length ds) (omega arith) in
        let c : 1 * 10 ^ 12 ≤ suc n * 10 ^ (p - length ds) = mul-le 1 (10 ^ 12) (suc n) (10 ^ (p - length ds)) (omega arith) a in
        let d : 1 * 10 ^ 12 ≤ suc n * 10 ^ (q - length ds) = mul-le 1 (10 ^ 12) (suc n) (10 ^ (q - length ds)) (omega arith) b in
        omega arith

-- each digit is one

pub digit_front : (xs ys : List ℕ) (i : ℕ) → AllDigits 10 (xs ++ ys) → i < length xs → digit_value (get_or xs i 0) < 10
digit_front [] ys i all in_it = absurd (omega arith)
digit_front (x ∷ xs) ys zero all in_it = all.0
digit_front (x ∷ xs) ys (suc i) all in_it = digit_front xs ys i all.1 (omega arith)

pub digit_there : (xs : List ℕ) (i : ℕ) → AllDigits 10 xs → i < length xs → digit_value (get_or xs i 0) < 10
digit_there [] i all in_it = absurd (omega arith)
digit_there (x ∷ xs) zero all in_it = all.0
digit_there (x ∷ xs) (suc i) all in_it = digit_there xs i all.1 (omega arith)

pub digit_behind : (xs ys : List ℕ) (i : ℕ) → AllDigits 10 (xs ++ ys) → length xs ≤ i → i < length xs + length ys → digit_value (get_or ys (i - length xs) 0) < 10
digit_behind [] ys i all past in_it = let e : i - 0 ≡ i = omega arith in rw e (digit_there ys i all (omega arith))
digit_behind (x ∷ xs) ys zero all past in_it = absurd (omega arith)
digit_behind (x ∷ xs) ys (suc i) all past in_it =
    let e : suc i - suc (length xs) ≡ i - length xs = omega arith in
    rw e (digit_behind xs ys i all.1 (omega arith) (omega arith))

-- capped numbers

pub one_more : (cap n m d : ℕ) → n ≡ min m cap → min (n * 10 + d) cap ≡ min (m * 10 + d) cap
one_more cap n m d e = omega arith

pub ten_times : (cap n m i : ℕ) → n ≡ min (m * 10 ^ i) cap → min (n * 10) cap ≡ min (m * 10 ^ (i + 1)) cap
ten_times cap n m i e =
    let f : m * 10 ^ (i + 1) ≡ m * 10 ^ i * 10 = ap (λ k. m * k) (pow-add 10 i 1) ∙ sym (mul_assoc m (10 ^ i) 10) in
    omega arith

pub enough_zeros : (n zeros i : ℕ) → 0 < n → i ≡ min zeros 12 → min (n * 10 ^ i) (10 ^ 12) ≡ min (n * 10 ^ zeros) (10 ^ 12)
enough_zeros n zeros i some e = pick (nat_lt 12 zeros) refl
  where
    pick : (c : Bool) → nat_lt 12 zeros ≡ c → min (n * 10 ^ i) (10 ^ 12) ≡ min (n * 10 ^ zeros) (10 ^ 12)
    pick false h = let f : i ≡ zeros = grind arith in ap (λ k. min (n * 10 ^ k) (10 ^ 12)) f
    pick true h =
        let f : 12 ≤ i = grind arith in
        let g : 12 ≤ zeros = grind arith in
        let a : 1 * 10 ^ 12 ≤ n * 10 ^ i = mul-le 1 (10 ^ 12) n (10 ^ i) (omega arith) (le_pow 12 i f) in
        let b : 1 * 10 ^ 12 ≤ n * 10 ^ zeros = mul-le 1 (10 ^ 12) n (10 ^ zeros) (omega arith) (le_pow 12 zeros g) in
        omega arith

-- the two ways to reckon a number with a point

pub pointed_within : (ds : List ℕ) (p n d : ℕ) → p < length ds → n ≡ min (digits_value 10 (take p ds)) (10 ^ 12) → d ≡ cond (nat_lt 4 (digit_value (get_or ds p 0))) 1 0
    → min (n + d) (10 ^ 12) ≡ min (pointed ds p) (10 ^ 12)
unfolding pointed
pointed_within ds p n d in_it e f =
    let g : nat_lt p (length ds) ≡ true = grind arith in
    rw (g, f) (capped (digits_value 10 (take p ds)) n (cond (nat_lt 4 (digit_value (get_or ds p 0))) 1 0) e)
  where
    capped : (m n d : ℕ) → n ≡ min m (10 ^ 12) → min (n + d) (10 ^ 12) ≡ min (m + d) (10 ^ 12)
    capped m n d e = omega arith

pub pointed_past : (ds : List ℕ) (p n r : ℕ) → length ds ≤ p → n ≡ min (digits_value 10 ds) (10 ^ 12) → r ≡ min (n * 10 ^ (p - length ds)) (10 ^ 12)
    → min r (10 ^ 12) ≡ min (pointed ds p) (10 ^ 12)
unfolding pointed
pointed_past ds p n r past e f =
    let g : nat_lt p (length ds) ≡ false = grind arith in
    rw g (capped (digits_value 10 ds) n r (10 ^ (p - length ds)) (ten_pos (p - length ds)) e f)
  where
    capped : (m n r t : ℕ) → 0 < t → n ≡ min m (10 ^ 12) → r ≡ min (n * t) (10 ^ 12) → min r (10 ^ 12) ≡ min (m * t) (10 ^ 12)
    capped m n r t pos e f = pick (nat_lt m (10 ^ 12)) refl
      where
        pick : (c : Bool) → nat_lt m (10 ^ 12) ≡ c → min r (10 ^ 12) ≡ min (m * t) (10 ^ 12)
        pick true h = let g : n ≡ m = grind arith in let k : r ≡ min (m * t) (10 ^ 12) = f ∙ ap (λ x. min (x * t) (10 ^ 12)) g in omega arith
        pick false h =
            let g : n ≡ 10 ^ 12 = grind arith in
            let big : 10 ^ 12 ≤ m = grind arith in
            let a : 10 ^ 12 * 1 ≤ n * t = mul-le (10 ^ 12) 1 n t (omega arith) (omega arith) in
            let b : 10 ^ 12 * 1 ≤ m * t = mul-le (10 ^ 12) 1 m t big (omega arith) in
            omega arith

-- what an exponent does, kept within 64 bits

pub to_the_right : (w f : List ℕ) (moved right places m : ℕ) → AllDigits 10 (w ++ f) → length w + length f < 2 ^ 63
    → moved ≡ min right (2 ^ 64 - 1) → places ≡ min (length w + 3 + moved) (2 ^ 64 - 1) → min m (10 ^ 12) ≡ min (pointed (w ++ f) places) (10 ^ 12)
    → min m (10 ^ 12) ≡ min (rounded (digits_value 10 (w ++ f)) (right + 3) (length f)) (10 ^ 12)
to_the_right w f moved right places m all fits e g h =
    let len : length (w ++ f) ≡ length w + length f = length-append w f in
    h ∙ pick (nat_lt right (2 ^ 64 - 4 - length w)) refl
    ∙ ap (λ k. min k (10 ^ 12)) (sym (pointed_is (w ++ f) (right + 3) (length f) (length w + 3 + right) all (omega arith)))
  where
    pick : (c : Bool) → nat_lt right (2 ^ 64 - 4 - length w) ≡ c → min (pointed (w ++ f) places) (10 ^ 12) ≡ min (pointed (w ++ f) (length w + 3 + right)) (10 ^ 12)
    pick true near =
        let a : right < 2 ^ 64 - 4 - length w = grind arith in
        let b : places ≡ length w + 3 + right = omega arith in
        ap (λ k. min (pointed (w ++ f) k) (10 ^ 12)) b
    pick false far =
        let a : 2 ^ 64 - 4 - length w ≤ right = grind arith in
        let len : length (w ++ f) ≡ length w + length f = length-append w f in
        far_right (w ++ f) places (length w + 3 + right) (omega arith) (omega arith)

pub to_the_left : (w f : List ℕ) (moved left m : ℕ) → AllDigits 10 (w ++ f) → length w < 2 ^ 63
    → moved ≡ min left (2 ^ 64 - 1) → moved ≤ length w + 3 → min m (10 ^ 12) ≡ min (pointed (w ++ f) (length w + 3 - moved)) (10 ^ 12)
    → min m (10 ^ 12) ≡ min (rounded (digits_value 10 (w ++ f)) 3 (left + length f)) (10 ^ 12)
to_the_left w f moved left m all fits_w e near h =
    let len : length (w ++ f) ≡ length w + length f = length-append w f in
    h ∙ ap (λ k. min k (10 ^ 12)) (sym (pointed_is (w ++ f) 3 (left + length f) (length w + 3 - moved) all (omega arith)))

pub out_to_the_left : (w f : List ℕ) (moved left : ℕ) → AllDigits 10 (w ++ f)
    → moved ≡ min left (2 ^ 64 - 1) → length w + 3 < moved
    → min 0 (10 ^ 12) ≡ min (rounded (digits_value 10 (w ++ f)) 3 (left + length f)) (10 ^ 12)
out_to_the_left w f moved left all e far =
    let len : length (w ++ f) ≡ length w + length f = length-append w f in
    ap (λ k. min k (10 ^ 12)) (sym (vanishes (w ++ f) 3 (left + length f) all (omega arith)))
