use Rattle.std.proofs.Common.{refl, ap, ◌++◌}
use Rattle.landxml_write.proofs.Written.{written-flows}
use Rattle.landxml_write.proofs.writer.WriterHolding.pass.Goals as goal

pub returns-then-not-self : goal.returns-then-not-self
returns-then-not-self g c =
    let written = c.write_all.ensures in
    let empty = c.requires c.if-not-self.true in
    written-flows _ _ c.args.piece.now _ c.write_all.result (ap (λ w. w ++ c.args.piece.now) empty) c.if-not-self.true c.is_err-self.ensures.value empty written.bytes written.order written.cause written.rest refl
