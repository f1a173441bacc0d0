use Rattle.line_protocol.proofs.Faults.{phrase_alone}
use Rattle.line_protocol.proofs.fault.word_fault.Goals as goal

pub returns : goal.returns
returns c = rw c.common_front.ensures.value (phrase_alone c.args.word.now c.args.text.now)
