-- The scan of a number takes what the grammar takes.
use Rattle.std.proofs.Common.{◌≡◌, ℕ, zero, suc, ◌+◌, ◌-◌, Bool, true, false, cond, [], ◌∷◌, length, take, drop, refl, sym, subst, ◌∙◌, ap, arith, add-one, Option, None, Some}
use Rattle.std.specs.Prelude.{◌==◌, ◌&&◌, not, is_some, pos, neg_ℤ, nat_lt, nat_le, option_map, if◌then◌else◌}
use Rattle.std.specs.List.{list_all, position, position_or_len}
use Rattle.std.specs.Char.{is_ascii_digit}
use Rattle.std.proofs.lemmas.Bool.{eqb-true}
use Rattle.std.proofs.lemmas.Bool.Decides.{nat_tests}
use Rattle.line_protocol.specs.declared.figure.Figure.{Figure}
use Rattle.line_protocol.specs.declared.figure.Figure.TheVariants.{Start, Minus, Digits, Point, Decimals, IdStart, IdDigits}
use Rattle.line_protocol.specs.Grammar.{Word, is_point, are_digits, unsigned_at, unsigned_of, number_of, id_of}
use Rattle.line_protocol.specs.Scanning.{next_figure, ends_number}
use Rattle.line_protocol.proofs.Scans.{and_false}

pub is_some_if : {X : Type 0} (b : Bool) (x : X) → is_some (if b then Some x else None) ≡ b
is_some_if true x = refl
is_some_if false x = refl

pub and_true : (a : Bool) → (a && true) ≡ a
and_true true = refl
and_true false = refl

pub is_some_map : {X Y : Type 0} (f : X → Y) (o : Option X) → is_some (option_map f o) ≡ is_some o
is_some_map f None = refl
is_some_map f (Some x) = refl

one_more : (k : ℕ) → 1 + k ≡ suc k
one_more k = omega arith

one_less : (k : ℕ) → suc k - 1 ≡ k
one_less k = omega arith

has_room : (k : ℕ) → nat_lt 0 (suc k) ≡ true
has_room k = grind (arith, nat_tests)

none_fits : (k : ℕ) → nat_le 0 k ≡ true
none_fits k = grind (arith, nat_tests)

one_too_many : (n : ℕ) → nat_le (suc n) 0 ≡ false
one_too_many n = grind (arith, nat_tests)

both_less : (n k : ℕ) → nat_le (suc n) (suc k) ≡ nat_le n k
both_less n k = grind (arith, nat_tests)

-- at most so many digits
abbrev at_most : ℕ → Word → Bool
at_most most w = nat_le (length w) most && list_all is_ascii_digit w

at_most_none : (most : ℕ) → at_most most [] ≡ true
at_most_none most = rw (none_fits most) refl

at_most_full : (b : ℕ) (w : Word) → at_most zero (b ∷ w) ≡ false
at_most_full b w = rw (one_too_many (length w)) refl

-- one digit more
one_digit : (digit fits all : Bool) → (fits && (digit && all)) ≡ cond digit (fits && all) false
one_digit true fits all = refl
one_digit false fits all = and_false fits

at_most_next : (k b : ℕ) (w : Word) → at_most (suc k) (b ∷ w) ≡ cond (is_ascii_digit b) (at_most k w) false
at_most_next k b w = rw (both_less (length w) k) (one_digit (is_ascii_digit b) (nat_le (length w) k) (list_all is_ascii_digit w))

are_digits_next : (k b : ℕ) (w : Word) → are_digits (suc k) (b ∷ w) ≡ cond (is_ascii_digit b) (at_most k w) false
are_digits_next k b w = rw (has_room (length w)) (at_most_next k b w)

if_digit : (digit : Bool) (figure : Figure) (w : Word) (rest : Bool) → ends_number (Some figure) w ≡ rest → ends_number (if digit then Some figure else None) w ≡ cond digit rest false
if_digit true figure w rest h = h
if_digit false figure w rest h = refl

counted : (figure : ℕ → Figure) (k : ℕ) (digit : Bool) (w : Word) → ends_number (if nat_lt 0 (suc k) && digit then Some (figure (suc k - 1)) else None) w ≡ ends_number (if digit then Some (figure k) else None) w
counted figure k digit w = rw (has_room k, one_less k) refl

decimals : (most : ℕ) (w : Word) → ends_number (Some (Decimals most)) w ≡ at_most most w
decimals most [] = sym (at_most_none most)
decimals zero (b ∷ w) = sym (at_most_full b w)
decimals (suc k) (b ∷ w) = counted (λ n. Decimals n) k (is_ascii_digit b) w ∙ if_digit (is_ascii_digit b) (Decimals k) w (at_most k w) (decimals k w) ∙ sym (at_most_next k b w)

id_digits : (most : ℕ) (w : Word) → ends_number (Some (IdDigits most)) w ≡ at_most most w
id_digits most [] = sym (at_most_none most)
id_digits zero (b ∷ w) = sym (at_most_full b w)
id_digits (suc k) (b ∷ w) = counted (λ n. IdDigits n) k (is_ascii_digit b) w ∙ if_digit (is_ascii_digit b) (IdDigits k) w (at_most k w) (id_digits k w) ∙ sym (at_most_next k b w)

-- what stands after a point
after_point : (w : Word) → ends_number (Some Point) w ≡ are_digits 3 w
after_point [] = refl
after_point (b ∷ w) = if_digit (is_ascii_digit b) (Decimals 2) w (at_most 2 w) (decimals 2 w) ∙ sym (are_digits_next 2 b w)

-- ---- the offset of the point
position_next : (b : ℕ) (w : Word) → position is_point (b ∷ w) ≡ (if is_point b then Some 0 else option_map suc (position is_point w))
position_next b w = by (is_point b)
  where
    further : (test : Bool) (n : ℕ) → cond test (Some (suc n)) None ≡ option_map suc (cond test (Some n) None)
    further true n = refl
    further false n = refl

    by : (point : Bool) → cond (nat_lt (cond (not point) (1 + position_or_len is_point w) 0) (suc (length w))) (Some (cond (not point) (1 + position_or_len is_point w) 0)) None ≡ (if point then Some 0 else option_map suc (position is_point w))
    by true = rw (has_room (length w)) refl
    by false = rw (one_more (position_or_len is_point w), both_less (suc (position_or_len is_point w)) (length w)) (further (nat_lt (position_or_len is_point w) (length w)) (position_or_len is_point w))

-- what may follow the first digits, where the point is at this offset
abbrev rest_at : ℕ → Word → Option ℕ → Bool
rest_at most w None = at_most most w
rest_at most w (Some at) = at_most most (take at w) && are_digits 3 (drop (at + 1) w)

drop_next : (b : ℕ) (w : Word) (at : ℕ) → drop (suc at + 1) (b ∷ w) ≡ drop (at + 1) w
drop_next b w at = ap (λ n. drop n (b ∷ w)) (add-one (suc at)) ∙ ap (λ n. drop n w) (sym (add-one at))

cond_and : (digit all more : Bool) → (cond digit all false && more) ≡ cond digit (all && more) false
cond_and true all more = refl
cond_and false all more = refl

rest_next : (k b : ℕ) (w : Word) (at : Option ℕ) → rest_at (suc k) (b ∷ w) (option_map suc at) ≡ cond (is_ascii_digit b) (rest_at k w at) false
rest_next k b w None = at_most_next k b w
rest_next k b w (Some at) =
    rw (drop_next b w at)
    (ap (λ t. t && are_digits 3 (drop (at + 1) w)) (at_most_next k b (take at w))
    ∙ cond_and (is_ascii_digit b) (at_most k (take at w)) (are_digits 3 (drop (at + 1) w)))

rest_full : (b : ℕ) (w : Word) (at : Option ℕ) → rest_at zero (b ∷ w) (option_map suc at) ≡ false
rest_full b w None = at_most_full b w
rest_full b w (Some at) = rw (at_most_full b (take at w)) refl

at_point : (most : ℕ) (w : Word) → ends_number (next_figure (Digits most) 46) w ≡ rest_at most (46 ∷ w) (Some 0)
at_point most w = rw (and_false (nat_lt 0 most), at_most_none most) (after_point w)

first_digits : (most : ℕ) (w : Word) → ends_number (Some (Digits most)) w ≡ rest_at most w (position is_point w)
first_digits most [] = sym (at_most_none most)
first_digits most (b ∷ w) = rw (position_next b w) (by_point most (is_point b) refl (λ (k : ℕ). first_digits k w))
  where
    by_room : (most : ℕ) → ((k : ℕ) → ends_number (Some (Digits k)) w ≡ rest_at k w (position is_point w)) → ends_number (if nat_lt 0 most && is_ascii_digit b then Some (Digits (most - 1)) else None) w ≡ rest_at most (b ∷ w) (option_map suc (position is_point w))
    by_room zero h = sym (rest_full b w (position is_point w))
    by_room (suc k) h = rw (has_room k, one_less k) (if_digit (is_ascii_digit b) (Digits k) w (rest_at k w (position is_point w)) (h k) ∙ sym (rest_next k b w (position is_point w)))

    by_point : (most : ℕ) (point : Bool) → is_point b ≡ point → ((k : ℕ) → ends_number (Some (Digits k)) w ≡ rest_at k w (position is_point w))
        → ends_number (if nat_lt 0 most && is_ascii_digit b then Some (Digits (most - 1)) else if b == 46 then Some Point else None) w ≡ rest_at most (b ∷ w) (if point then Some 0 else option_map suc (position is_point w))
    by_point most true e h = let P : ℕ → Type 0 = λ c. ends_number (next_figure (Digits most) c) w ≡ rest_at most (c ∷ w) (Some 0) in subst P (sym (eqb-true b 46 e)) (at_point most w)
    by_point most false e h = rw e (by_room most h)

-- the unsigned number, where the point is at this offset
unsigned_next : (b : ℕ) (w : Word) (at : Option ℕ) → is_some (unsigned_at (b ∷ w) (option_map suc at)) ≡ cond (is_ascii_digit b) (rest_at 8 w at) false
unsigned_next b w None = is_some_if (are_digits 9 (b ∷ w)) _ ∙ are_digits_next 8 b w
unsigned_next b w (Some at) =
    is_some_if (are_digits 9 (b ∷ take at w) && are_digits 3 (drop (suc at + 1) (b ∷ w))) _
    ∙ rw (drop_next b w at)
    (ap (λ t. t && are_digits 3 (drop (at + 1) w)) (are_digits_next 8 b (take at w))
    ∙ cond_and (is_ascii_digit b) (at_most 8 (take at w)) (are_digits 3 (drop (at + 1) w)))

after_minus : (w : Word) → ends_number (Some Minus) w ≡ is_some (unsigned_of w)
after_minus [] = refl
after_minus (b ∷ w) = rw (position_next b w) (by_point (is_point b) refl)
  where
    by_point : (point : Bool) → is_point b ≡ point → ends_number (next_figure Minus b) w ≡ is_some (unsigned_at (b ∷ w) (if point then Some 0 else option_map suc (position is_point w)))
    by_point true e = let P : ℕ → Type 0 = λ c. ends_number (next_figure Minus c) w ≡ is_some (unsigned_at (c ∷ w) (Some 0)) in subst P (sym (eqb-true b 46 e)) refl
    by_point false e = if_digit (is_ascii_digit b) (Digits 8) w (rest_at 8 w (position is_point w)) (first_digits 8 w) ∙ sym (unsigned_next b w (position is_point w))

-- the scan of a number takes numbers
pub number_scanned : (w : Word) → ends_number (Some Start) w ≡ is_some (number_of w)
unfolding number_of
number_scanned [] = refl
number_scanned (b ∷ w) = by (b == 45) (after_minus w) (after_minus (b ∷ w))
  where
    by : (minus : Bool) → ends_number (Some Minus) w ≡ is_some (unsigned_of w) → ends_number (Some Minus) (b ∷ w) ≡ is_some (unsigned_of (b ∷ w))
        → ends_number (if minus then Some Minus else next_figure Minus b) w ≡ is_some (if minus then option_map (λ n. neg_ℤ (pos n)) (unsigned_of w) else option_map pos (unsigned_of (b ∷ w)))
    by true signed unsigned = signed ∙ sym (is_some_map (λ n. neg_ℤ (pos n)) (unsigned_of w))
    by false signed unsigned = unsigned ∙ sym (is_some_map pos (unsigned_of (b ∷ w)))

-- the scan of a line's number takes these
pub id_scanned : (w : Word) → ends_number (Some IdStart) w ≡ is_some (id_of w)
unfolding id_of
id_scanned [] = refl
id_scanned (b ∷ w) =
    by (nat_lt 48 b) (is_ascii_digit b) (id_digits 7 w)
    ∙ sym (ap (λ t. t && nat_lt 48 b) (are_digits_next 7 b w))
    ∙ sym (is_some_if (are_digits 8 (b ∷ w) && nat_lt 48 b) _)
  where
    by : (above digit : Bool) → ends_number (Some (IdDigits 7)) w ≡ at_most 7 w → ends_number (if above && digit then Some (IdDigits 7) else None) w ≡ (cond digit (at_most 7 w) false && above)
    by true true h = h ∙ sym (and_true (at_most 7 w))
    by true false h = refl
    by false digit h = sym (and_false (cond digit (at_most 7 w) false))
