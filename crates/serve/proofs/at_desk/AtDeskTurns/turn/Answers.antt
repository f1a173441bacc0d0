use Rattle.std.proofs.Common.{Option, Some, sym, subst, ◌∙◌}
use Rattle.turn_lock.specs.Seat.{Seat}
use Rattle.session.specs.Turns.{TakesTurn}
use Rattle.serve.specs.AtDesk.{number_of, seen_of, GoesBy}
use Rattle.serve.proofs.at_desk.AtDeskTurns.turn.Goals as goal

pub returns-clause-turn : goal.returns-clause-turn
returns-clause-turn g c =
    subst (λ (p : Option Seat). TakesTurn (number_of p) (seen_of c.args.self.now.desk.now.opening p, c.turn_at-pass.result.0.seen) c.args.session.now c.turn_at-pass.new.session c.args.request c.turn_at-pass.result.1 (GoesBy p (Some c.turn_at-pass.result.0))) (sym c.in-Some.is ∙ c.take.ensures.value)
    c.turn_at-pass.ensures.turn
