use Rattle.std.proofs.Common.{◌∷◌, []}
use Rattle.session.specs.Alone.{added_none}
use Rattle.session.proofs.turns.StoreTurns.before_reply.Goals as goal

pub returns-clause-finds : goal.returns-clause-finds
returns-clause-finds c = added_none (1 ∷ []) c.args.self.now.journal
