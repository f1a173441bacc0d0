-- How many digits a number has, one after another.
use Rattle.std.proofs.Common.{◌≡◌, ℕ, ◌+◌, ◌/◌, ◌%◌, ◌<◌, ◌≤◌, ◌^◌, length, ◌∷◌, [], ◌∙◌, ap, arith, length-append}
use Rattle.std.specs.Fmt.{decimal}
use Rattle.std.proofs.lemmas.Fmt.{decimal_step, length-decimal-le, decimal_nonempty}

-- a number of more than one digit: those of its tenth, and the last
pub one_digit_more : (n : ℕ) → 10 ≤ n → n < 2 ^ 64 → length (decimal n) ≡ length (decimal (n / 10)) + 1
one_digit_more n more small = ap length (decimal_step n more small) ∙ length-append (decimal (n / 10)) ((48 + n % 10) ∷ [])

pub few_digits : (n : ℕ) → n < 2 ^ 64 → length (decimal n) ≤ 20
few_digits n small = length-decimal-le 20 n (omega arith) (omega arith) small

pub one_digit : (n : ℕ) → n < 10 → length (decimal n) ≡ 1
one_digit n less = omega (arith, length-decimal-le 1 n (omega arith) (omega arith) (omega arith), decimal_nonempty n (omega arith))
