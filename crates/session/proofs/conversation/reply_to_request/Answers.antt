use Rattle.std.proofs.Common.{◌∙◌, sym}
use Rattle.session.proofs.Stepped.{serves-turn}
use Rattle.session.proofs.conversation.reply_to_request.Goals as goal

pub returns-then-needs_turn-clause-serves : goal.returns-then-needs_turn-clause-serves
returns-then-needs_turn-clause-serves g c = serves-turn _ _ _ _ _ _ _ c.requires.author (sym c.needs_turn.ensures ∙ c.if-needs_turn.true) c.turn.ensures.turn
