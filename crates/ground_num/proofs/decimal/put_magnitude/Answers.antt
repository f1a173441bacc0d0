use Rattle.std.proofs.Common.{◌∙◌, ◌≤◌, ◌/◌, length, arith}
use Rattle.ground_num.proofs.Minus.{short_digits}
use Rattle.ground_num.proofs.decimal.put_magnitude.Goals as goal

pub put_parts-requires-clause-room : goal.put_parts-requires-clause-room
put_parts-requires-clause-room c =
    let short : length c.as_bytes-whole.result.now ≤ 16 = short_digits (c.args.magnitude / 1000) _ (omega arith) (c.as_bytes-whole.ensures.value ∙ c.format.ensures.text) in
    omega arith

pub returns-clause-fits : goal.returns-clause-fits
returns-clause-fits c =
    let short : length c.as_bytes-whole.result.now ≤ 16 = short_digits (c.args.magnitude / 1000) _ (omega arith) (c.as_bytes-whole.ensures.value ∙ c.format.ensures.text) in
    omega arith
