use Rattle.std.proofs.Common.{◌∙◌, ap, take}
use Rattle.std.specs.List.{prefix_len}
use Rattle.ground_num.specs.Reading.{is_digit}
use Rattle.ground_num.proofs.Parts.{take_taken}
use Rattle.ground_num.proofs.read.split_digits.Goals as goal

pub returns-clause-digits : goal.returns-clause-digits
returns-clause-digits c =
    c.split_at.ensures.front ∙ ap (λ n. take n c.args.text.now) c.count_digits.ensures.count ∙ take_taken (prefix_len is_digit c.args.text.now) c.args.text.now
