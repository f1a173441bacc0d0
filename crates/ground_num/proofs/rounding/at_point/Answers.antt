use Rattle.std.proofs.Common.{arith, ◌++◌, ◌≡◌, ◌+◌, ◌-◌, ◌*◌, ◌^◌, min, sym, length, take, length-append, ◌∙◌, ap, cond, nat_lt, Bool, true, false, refl, slice_index}
use mir.Val.{bool_byte}
use Rattle.std.specs.Char.{digit_value}
use Rattle.std.proofs.Math.Seq.{take-length}
use Rattle.std.specs.Str.Parse.{digits_value}
use Rattle.ground_num.proofs.Digits.{pointed_within, pointed_past}
use Rattle.ground_num.proofs.rounding.at_point.Goals as goal

byte_is : (b : Bool) → bool_byte b ≡ cond b 1 0
byte_is true = refl
byte_is false = refl

pub returns-then-places-digits : goal.returns-then-places-digits
returns-then-places-digits c =
    pointed_within (c.args.whole.now ++ c.args.fraction.now) c.args.places c.leading.result c.from.result
    (omega (arith, length-append c.args.whole.now c.args.fraction.now)) c.leading.ensures
    (c.from.ensures ∙ ap (λ k. bool_byte (nat_lt 4 k)) c.digit_at-half.ensures.value ∙ byte_is (nat_lt 4 (digit_value (slice_index (c.args.whole.now ++ c.args.fraction.now) c.args.places))))

pub returns-else-places-digits : goal.returns-else-places-digits
returns-else-places-digits c =
    let ds = c.args.whole.now ++ c.args.fraction.now in
    let len : length ds ≡ length c.args.whole.now + length c.args.fraction.now = length-append c.args.whole.now c.args.fraction.now in
    pointed_past ds c.args.places c.leading-else-places-digits.result c.with_zeros.result (omega arith)
    (c.leading-else-places-digits.ensures ∙ ap (λ k. min (digits_value 10 (take k ds)) (10 ^ 12)) (sym len) ∙ ap (λ xs. min (digits_value 10 xs) (10 ^ 12)) (take-length ds))
    (c.with_zeros.ensures ∙ ap (λ k. min (c.leading-else-places-digits.result * 10 ^ (c.args.places - k)) (10 ^ 12)) (sym len))
