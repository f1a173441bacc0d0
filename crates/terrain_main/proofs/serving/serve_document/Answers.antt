use Rattle.document_commands.specs.Streams.{sides}
use Rattle.terrain_main.proofs.Made.{opened_by_load}
use Rattle.terrain_main.proofs.serving.serve_document.Goals as goal

pub serve_loaded-requires-clause-loaded : goal.serve_loaded-requires-clause-loaded
serve_loaded-requires-clause-loaded g c κs within = opened_by_load _ c.args.rule _
    (sides (g.S.Source.left c.args.file.now) (g.S.Source.read_faults c.args.file.now) (g.O.Sink.written c.args.output.now) (g.O.Sink.write_faults c.args.output.now))
    (sides (g.S.Source.left c.open_surface.new.source) (g.S.Source.read_faults c.open_surface.new.source) (g.O.Sink.written c.open_surface.new.output) (g.O.Sink.write_faults c.open_surface.new.output))
    c.in-Ok.store c.in-Ok.ensures.opens
