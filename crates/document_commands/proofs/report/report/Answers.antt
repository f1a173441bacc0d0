use Rattle.std.proofs.Common.{◌+◌, ◌∙◌, ap}
use Rattle.document_commands.specs.Streams.{stream}
use Rattle.document_commands.proofs.Reported.{goes_at, stops_at, ends_well, ends_short}
use Rattle.document_commands.proofs.report.report.Goals as goal

pub returns-in_default : goal.returns-in_default
returns-in_default g c =
    let loop = c.loop-draft in
    stops_at c.args.limits c.args.drafts.now loop.draft-index c.draft-item.result c.loop-draft-test.true c.draft-item.is
    (stream (g.O.Sink.written c.args.output.now) (g.O.Sink.write_faults c.args.output.now)) (stream (g.O.Sink.written loop.output) (g.O.Sink.write_faults loop.output)) (stream (g.O.Sink.written c.report_one.new.output) (g.O.Sink.write_faults c.report_one.new.output))
    loop.invariant.going (loop.count + 1) (ap (λ n. n + 1) loop.invariant.count) c.report_one.result c.in_default.not-Done c.report_one.ensures

pub loop-draft-preserved : goal.loop-draft-preserved
loop-draft-preserved g c =
    let loop = c.loop-draft in
    record {
      going = goes_at c.args.limits c.args.drafts.now loop.draft-index c.draft-item.result c.loop-draft-test.true c.draft-item.is
          (stream (g.O.Sink.written c.args.output.now) (g.O.Sink.write_faults c.args.output.now)) (stream (g.O.Sink.written loop.output) (g.O.Sink.write_faults loop.output)) (stream (g.O.Sink.written c.report_one.new.output) (g.O.Sink.write_faults c.report_one.new.output))
          loop.invariant.going (loop.count + 1) (ap (λ n. n + 1) loop.invariant.count) c.in-Done.ensures;
      count = ap (λ n. n + 1) loop.invariant.count;
    }

pub returns-in-Ok : goal.returns-in-Ok
returns-in-Ok g c =
    let loop = c.loop-draft in
    ends_well c.args.limits c.args.drafts.now loop.draft-index c.loop-draft-test.false
    (stream (g.O.Sink.written c.args.output.now) (g.O.Sink.write_faults c.args.output.now)) (stream (g.O.Sink.written loop.output) (g.O.Sink.write_faults loop.output)) (stream (g.O.Sink.written c.write_all.new.sink) (g.O.Sink.write_faults c.write_all.new.sink))
    loop.invariant.going loop.count c.as_bytes.result.now loop.invariant.count (c.as_bytes.ensures ∙ c.count_line.ensures) c.in-Ok.ensures.bytes c.in-Ok.ensures.cause.kept

pub returns-in-Err : goal.returns-in-Err
returns-in-Err g c =
    let loop = c.loop-draft in
    ends_short c.args.limits c.args.drafts.now loop.draft-index c.loop-draft-test.false
    (stream (g.O.Sink.written c.args.output.now) (g.O.Sink.write_faults c.args.output.now)) (stream (g.O.Sink.written loop.output) (g.O.Sink.write_faults loop.output)) (stream (g.O.Sink.written c.write_all.new.sink) (g.O.Sink.write_faults c.write_all.new.sink))
    loop.invariant.going loop.count c.as_bytes.result.now loop.invariant.count (c.as_bytes.ensures ∙ c.count_line.ensures) c.in-Err.ensures.bytes c.in-Err.ensures.cause.failed
