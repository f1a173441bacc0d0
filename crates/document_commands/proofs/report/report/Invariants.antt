use Rattle.std.proofs.Common.{◌≡◌, drop}
use Rattle.document_commands.specs.Streams.{stream}
use Rattle.document_commands.proofs.Reported.{Going}
use Rattle.document_commands.proofs.report.report.Given as goal

abbrev pub invariant-loop-draft : goal.invariant-loop-draft
invariant-loop-draft g l = record {
  going : Going l.limits l.drafts (drop l.draft-index l.drafts) l.draft-index (stream (g.O.Sink.written l.fn.output) (g.O.Sink.write_faults l.fn.output)) (stream (g.O.Sink.written l.output) (g.O.Sink.write_faults l.output));
  count : l.count ≡ l.draft-index;
}
