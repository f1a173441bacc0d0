use Rattle.std.proofs.Common.{ap}
use Rattle.std.specs.declared.result.Result.TheVariants.{Err}
use Rattle.document_commands.specs.Streams.{stream}
use Rattle.document_commands.proofs.Reached.{refused_so}
use Rattle.document_commands.proofs.reaching.reach.Goals as goal

pub returns-in-Err-Refused : goal.returns-in-Err-Refused
returns-in-Err-Refused g c =
    let fault = c.in-Err-Refused in
    refused_so c.args.limits c.args.number c.args.draft.now
    (stream (g.O.Sink.written c.args.output.now) (g.O.Sink.write_faults c.args.output.now)) (stream (g.O.Sink.written c.refuse_draft.new.output) (g.O.Sink.write_faults c.refuse_draft.new.output))
    fault.line fault.refusal (fault.ensures.refused fault.line fault.refusal (ap Err fault.field-0-is)) c.refuse_draft.ensures
