use Rattle.std.proofs.Common.{arith, get_or}
use Rattle.std.specs.Char.{is_ascii_digit}
use Rattle.std.proofs.lemmas.Int.Digits.{digits_value_more}
use Rattle.std.proofs.lemmas.List.Sums.{AllPass-from_list_all}
use Rattle.line_protocol.proofs.Digits.{digit_step, ten_times}
use Rattle.line_protocol.proofs.number.value_of_digits.Goals as goal

pub loop-b-preserved : goal.loop-b-preserved
loop-b-preserved c =
    let i = c.loop-b.b-index in
    let digit = digit_step (get_or c.args.text.now c.loop-b.b-index 0) (AllPass-from_list_all is_ascii_digit c.args.text.now c.requires.digits c.loop-b.b-index 0 (omega arith)) in
    let more = digits_value_more 10 c.args.text.now c.loop-b.b-index (omega arith) in
    let power = ten_times c.loop-b.b-index in
    record {
      value = omega (arith, digit.0, digit.1, more);
      small = omega (arith, digit.0, digit.1, power);
    }
