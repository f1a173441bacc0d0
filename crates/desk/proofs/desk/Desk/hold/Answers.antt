use Rattle.std.proofs.Common.{ap, ◌∙◌, sym, subst}
use Rattle.ground_model.specs.History.{IsLegal}
use Rattle.turn_lock.specs.declared.journal.Journal.{Journal}
use Rattle.turn_lock.specs.Seat.{Seat}
use Rattle.store.proofs.Oks.{ok_by}
use Rattle.desk.proofs.Settling.{held}
use Rattle.desk.proofs.desk.Desk.hold.Goals as goal

pub returns-clause-turn : goal.returns-clause-turn
returns-clause-turn g c = held c.args.pass c.pass.inside.seat c.pass.view_is c.take-turn.result.1.journal c.take-turn.ensures.added c.take-turn.ensures.bounded c.leave-seat.result (c.leave-seat.ensures.seat ∙ c.take-turn.ensures.turn)

pub returns-clause-version : goal.returns-clause-version
returns-clause-version g c = ok_by (λ version. version.journal) c.newest-version.result c.take-turn.result.1.journal c.leave-seat.result.seen (sym (ap (λ (s : Seat). s.seen) (c.leave-seat.ensures.seat ∙ c.take-turn.ensures.turn))) c.newest-version.ensures

pub returns-clause-legal : goal.returns-clause-legal
returns-clause-legal g c = subst (λ (j : Journal). IsLegal j.limits j.entries) (sym (ap (λ (s : Seat). s.seen) (c.leave-seat.ensures.seat ∙ c.take-turn.ensures.turn))) c.front-front.ensures.legal
