use Rattle.document_commands.specs.Streams.{sides}
use Rattle.document_commands.proofs.Reached.{not_rewritten}
use Rattle.document_commands.proofs.rewriting.rewrite.Goals as goal

pub returns-in-Err : goal.returns-in-Err
returns-in-Err g c = record {
  rewrites = not_rewritten _ c.args.rule c.args.limits
      (sides (g.S.Source.left c.args.source.now) (g.S.Source.read_faults c.args.source.now) (g.O.Sink.written c.args.output.now) (g.O.Sink.write_faults c.args.output.now))
      (sides (g.S.Source.left c.open_surface.new.source) (g.S.Source.read_faults c.open_surface.new.source) (g.O.Sink.written c.open_surface.new.output) (g.O.Sink.write_faults c.open_surface.new.output))
      c.in-Err.end c.in-Err.ensures.opens;
}
