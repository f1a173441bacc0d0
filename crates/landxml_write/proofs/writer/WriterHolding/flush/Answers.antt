use Rattle.std.proofs.Common.{refl, [], append-nil}
use Rattle.landxml_write.proofs.Written.{written-flows}
use Rattle.landxml_write.proofs.writer.WriterHolding.flush.Goals as goal

pub returns-then-not-self-clause-flows : goal.returns-then-not-self-clause-flows
returns-then-not-self-clause-flows g c =
    let sent = c.send.ensures in
    written-flows _ _ [] _ c.send.result (append-nil _) c.if-not-self.true c.is_err-self.ensures.value sent.held sent.bytes sent.order sent.cause sent.rest refl
