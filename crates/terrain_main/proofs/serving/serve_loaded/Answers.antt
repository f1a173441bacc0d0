use Rattle.std.proofs.Common.{◌≡◌, ◌∙◌, ◌^◌, ◌-◌, ℕ, List, Some, sym, ap, subst, length, arith}
use Rattle.document_commands.specs.Streams.{stream}
use Rattle.terrain_main.specs.Serving.{EndsServing}
use Rattle.terrain_main.proofs.Made.{made_past, line_of}
use Rattle.terrain_main.proofs.serving.serve_loaded.Goals as goal

pub returns-in-Ok-clause-to : goal.returns-in-Ok-clause-to
returns-in-Ok-clause-to g c =
    let closing = c.in-Ok.store.journal in
    let made = made_past g.D.Door.coming g.D.Door.back g.D.Door.out g.D.Door.sessions g.D.Door.accept_faults (2 ^ 40) c.args.store.journal closing c.args.workers.now c.serve_surface.new.workers c.in-Ok.ensures.ok c.requires.loaded in
    let loaded = c.front-loaded.ensures.value in
    let front = c.front-front.ensures.value in
    let line = line_of (c.front-front.result - c.front-loaded.result) c.front-front.result closing.entries (omega (arith, made, loaded, front)) front in
    let text = c.as_bytes.ensures ∙ c.last_line-line.ensures ∙ line in (
      Some closing,
      record {
        serves = c.in-Ok.ensures.ok;
        ends = subst (λ (bytes : List ℕ). EndsServing (stream (g.O.Sink.written c.args.output.now) (g.O.Sink.write_faults c.args.output.now)) (stream (g.O.Sink.written c.put_last.new.output) (g.O.Sink.write_faults c.put_last.new.output)) c.serve_surface.new.workers bytes c.put_last.result) text c.put_last.ensures;
      },
    )
