use Rattle.document_commands.specs.Streams.{stream}
use Rattle.document_commands.proofs.Putting.{line_put}
use Rattle.document_commands.proofs.refusal.put_line.Goals as goal

pub returns : goal.returns
returns g c =
    line_put (stream (g.O.Sink.written c.args.output.now) (g.O.Sink.write_faults c.args.output.now)) (stream (g.O.Sink.written c.write_all.new.sink) (g.O.Sink.write_faults c.write_all.new.sink))
    c.args.line.now c.write_all.result c.write_all.ensures.bytes c.write_all.ensures.cause
