-- The values of digits.
use Rattle.std.proofs.Common.{◌≡◌, ℕ, ◌+◌, ◌<◌, ◌≤◌, true, arith, ◌*◌, ◌^◌, add-one}
use Rattle.std.proofs.Math.Nat.{pow-le-pow_right, pow-suc}
use Rattle.std.specs.Char.{is_ascii_digit, digit_value}
use Rattle.std.proofs.lemmas.Bool.Decides.{nat_tests}

pub digit_step : (c : ℕ) → is_ascii_digit c ≡ true → (digit_value c + 48 ≡ c) × (digit_value c < 10)
digit_step c h = (grind (arith, nat_tests), grind (arith, nat_tests))

pub ten_times : (i : ℕ) → 10 ^ (i + 1) ≡ 10 ^ i * 10
ten_times i = rw add-one (pow-suc 10 i)

pub power_of_ten_mono : (i j : ℕ) → i ≤ j → 10 ^ i ≤ 10 ^ j
power_of_ten_mono i j h = pow-le-pow_right {n = 10} (omega arith) h
