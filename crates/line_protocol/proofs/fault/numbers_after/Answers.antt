use Rattle.std.proofs.lemmas.List.{take_rest}
use Rattle.line_protocol.proofs.Faults.{left_phrase, kept_phrase}
use Rattle.line_protocol.proofs.Scans.{scan_has_end}
use Rattle.line_protocol.proofs.fault.numbers_after.Goals as goal

pub returns-then-front-phrase : goal.returns-then-front-phrase
returns-then-front-phrase c = left_phrase (scan_has_end c.args.scan) c.args.phrase.now c.args.text.now c.common_front-front.result c.common_front-front.ensures.value c.if-front-phrase.true

pub returns : goal.returns
returns c = kept_phrase (scan_has_end c.args.scan) c.args.phrase.now c.args.text.now _ c.common_front-front.result c.numbers_fault.result c.common_front-front.ensures.value c.if-front-phrase.false (take_rest c.args.text.now c.common_front-front.result) c.numbers_fault.ensures
