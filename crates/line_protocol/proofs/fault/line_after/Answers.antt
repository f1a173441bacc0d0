use Rattle.std.proofs.lemmas.List.{take_rest}
use Rattle.line_protocol.proofs.Faults.{left_phrase, kept_phrase}
use Rattle.line_protocol.proofs.Rows.{some_line}
use Rattle.line_protocol.proofs.fault.line_after.Goals as goal

pub returns-then-front-phrase : goal.returns-then-front-phrase
returns-then-front-phrase c = left_phrase some_line c.args.phrase.now c.args.text.now c.common_front-front.result c.common_front-front.ensures.value c.if-front-phrase.true

pub returns : goal.returns
returns c = kept_phrase some_line c.args.phrase.now c.args.text.now _ c.common_front-front.result c.line_fault.result c.common_front-front.ensures.value c.if-front-phrase.false (take_rest c.args.text.now c.common_front-front.result) c.line_fault.ensures
