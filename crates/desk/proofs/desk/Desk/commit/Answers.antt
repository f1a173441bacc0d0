use Rattle.std.proofs.Common.{ap, sym, subst}
use Rattle.ground_model.specs.History.{IsLegal}
use Rattle.turn_lock.specs.Seat.{Seat}
use Rattle.turn_lock.specs.declared.journal.Journal.{Journal}
use Rattle.turn_lock.proofs.Prefix.{prefix_trans}
use Rattle.store.specs.Versions.{as_pending}
use Rattle.desk.proofs.Settling.{begins-found, begun-by, turned, settled-in, settled-seen}
use Rattle.desk.proofs.desk.Desk.commit.Goals as goal

pub settle_plan-settled-requires-clause-prefix : goal.settle_plan-settled-requires-clause-prefix
settle_plan-settled-requires-clause-prefix g c =
    prefix_trans c.args.plan.journal c.args.pass.seen c.take-turn.result.1.journal c.requires.plan (begins-found c.args.pass c.pass.inside.seat c.pass.view_is c.take-turn.result.1.journal c.take-turn.ensures.added c.take-turn.ensures.bounded)

pub end_turn-seat-requires : goal.end_turn-seat-requires
end_turn-seat-requires g c =
    let begun = begun-by c.args.pass c.pass.inside.seat c.pass.view_is c.take-turn.result.1.journal c.take-turn.ensures.added c.take-turn.ensures.bounded c.take-turn.result.0 c.take-turn.ensures.turn in
    settled-in c.args.pass c.take-turn.result.0 c.author-author.result c.take-turn.result.1.journal c.settle_plan-settled.new.store.journal (as_pending c.args.plan) c.settle_plan-settled.result begun c.author-author.ensures.author c.settle_plan-settled.ensures

pub returns : goal.returns
returns g c = record {
  turn = record {
    found = c.take-turn.result.1.journal;
    finds = turned c.args.pass c.pass.inside.seat c.pass.view_is c.take-turn.result.1.journal c.take-turn.ensures.added c.take-turn.ensures.bounded c.take-turn.result.0 c.end_turn-seat.result c.settle_plan-settled.new.store.journal c.take-turn.ensures.turn c.end_turn-seat.ensures;
    commits = c.of.ensures c.args.pass.number c.take-turn.result.1.journal c.end_turn-seat.result.seen
        (settled-seen c.take-turn.result.0 c.end_turn-seat.result c.author-author.result c.args.pass.number c.take-turn.result.1.journal c.settle_plan-settled.new.store.journal (as_pending c.args.plan) c.settle_plan-settled.result c.author-author.ensures.author c.end_turn-seat.ensures c.settle_plan-settled.ensures);
  };
  legal = subst (λ (j : Journal). IsLegal j.limits j.entries) (sym (ap (λ (s : Seat). s.seen) c.end_turn-seat.ensures)) c.front-front.ensures.legal;
}
