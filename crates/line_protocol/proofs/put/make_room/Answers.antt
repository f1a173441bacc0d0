use Rattle.std.proofs.Common.{◌≡◌, ◌++◌, ap, subst, ◌∙◌}
use Rattle.std.proofs.lemmas.List.{append-nil}
use Rattle.ground_io.specs.Order.{SendsAll}
use Rattle.line_protocol.proofs.put.make_room.Goals as goal

pub returns-clause-order : goal.returns-clause-order
returns-clause-order g c = (c.args.text.now, ap (λ left. c.args.text.now ++ left) c.clear.ensures ∙ append-nil c.args.text.now, subst (SendsAll (g.S.Sink.write_order c.args.sink.now) (g.S.Sink.write_order c.write_all.new.sink)) c.as_bytes.ensures c.in_ok-write_all.ensures.order)
