use Rattle.std.proofs.Common.{◌∷◌, [], Option, sym, subst, ◌∙◌}
use Rattle.turn_lock.specs.Journal.{OthersAdded}
use Rattle.turn_lock.specs.Seat.{Seat}
use Rattle.serve.specs.AtDesk.{number_of, seen_of}
use Rattle.serve.proofs.Turns.{by-others}
use Rattle.serve.proofs.at_desk.AtDeskTurns.hold.Goals as goal

pub returns-clause-added : goal.returns-clause-added
returns-clause-added g c =
    subst (λ (p : Option Seat). OthersAdded (number_of p ∷ []) (seen_of c.args.self.now.desk.now.opening p) c.hold-pass.result.0.seen) (sym c.in-Some.is ∙ c.take.ensures.value)
    (by-others c.in-Some.pass _ _ c.hold-pass.ensures.turn.added)
