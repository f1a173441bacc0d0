use Rattle.session.proofs.Alone.{turn_alone}
use Rattle.session.proofs.turns.StoreTurns.turn.Goals as goal

pub returns-clause-turn : goal.returns-clause-turn
returns-clause-turn c = turn_alone _ _ _ _ _ _ _ c.requires.author c.turn_on-reply.ensures.step c.front-front.ensures.legal
