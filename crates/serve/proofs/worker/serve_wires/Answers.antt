use Rattle.std.proofs.Common.{arith, ◌∷◌, ◌++◌, [], Some, refl, ◌∙◌}
use Rattle.ground_io.specs.Wires.{WireView, wire_view}
use Rattle.turn_lock.proofs.Prefix.{prefix_refl, prefix_trans}
use Rattle.serve.specs.AtDesk.{goes_none, goes_both}
use Rattle.serve.proofs.Wires.{serves_more, leave_none, leave_more, leave_same, come_none, come_more, come_same}
use Rattle.serve.proofs.worker.serve_wires.Goals as goal

pub sessions-init : goal.sessions-init
sessions-init g c = record {
  served = ([], [], refl, leave_none (g.D.Door.coming c.args.door.now), come_none (g.D.Door.back c.args.door.now));
  goes = ([], goes_none (Some c.args.pass));
  goes_on = prefix_refl c.args.pass.seen;
  same_out = refl;
  faults = refl;
}

pub sessions-preserved : goal.sessions-preserved
sessions-preserved g c =
    let so = c.sessions.invariant.served in
    let goes = c.sessions.invariant.goes in
    let one = c.serve_wire-pass.ensures.served in
    let more = c.serve_wire-pass.ensures.pass in
    let wire : WireView = wire_view g.D.Wire.Source.left g.D.Wire.Sink.written g.D.Wire.Source.read_order g.D.Wire.Source.read_faults g.D.Wire.Sink.write_faults c.in-Ok-Some.wire in
    record {
      served = (
        so.0 ++ wire ∷ [],
        so.1 ++ one.0 ∷ [],
        serves_more c.args.pass c.sessions.pass c.serve_wire-pass.result c.args.budget so.0 so.1 wire one.0 so.2 one.1,
        leave_same (g.D.Door.coming c.args.door.now) (g.D.Door.coming c.accept.new.self) (g.D.Door.coming c.serve_wire-pass.new.door) (so.0 ++ wire ∷ [])
            (leave_more (g.D.Door.coming c.args.door.now) (g.D.Door.coming c.sessions.door) (g.D.Door.coming c.accept.new.self) so.0 wire so.3 (rw c.in-Ok-Some.field-0-is at c.in-Ok-Some.ensures.first)) c.serve_wire-pass.ensures.same_coming,
        come_more (g.D.Door.back c.args.door.now) (g.D.Door.back c.accept.new.self) (g.D.Door.back c.serve_wire-pass.new.door) so.1 one.0
            (come_same (g.D.Door.back c.args.door.now) (g.D.Door.back c.sessions.door) (g.D.Door.back c.accept.new.self) so.1 so.4 c.in-Ok-Some.ensures.same_back) one.2,
      );
      goes = (goes.0 ++ more.0, goes_both (Some c.args.pass) (Some c.sessions.pass) (Some c.serve_wire-pass.result) goes.0 more.0 goes.1 more.1);
      goes_on = prefix_trans c.args.pass.seen c.sessions.pass.seen c.serve_wire-pass.result.seen c.sessions.invariant.goes_on one.1.2;
      same_out = omega (arith, c.serve_wire-pass.ensures.comes_in, rw c.in-Ok-Some.field-0-is at c.in-Ok-Some.ensures.goes_out, c.sessions.invariant.same_out);
      faults = c.serve_wire-pass.ensures.same_faults ∙ c.in-Ok-Some.ensures.cause.kept ∙ c.sessions.invariant.faults;
    }
