use Rattle.std.proofs.Common.{◌∷◌, [], refl}
use Rattle.turn_lock.proofs.Prefix.{prefix_refl}
use Rattle.session.specs.Alone.{added_none}
use Rattle.session.proofs.turns.StoreTurns.hold.Goals as goal

pub returns-clause-added : goal.returns-clause-added
returns-clause-added c = record { prefix = prefix_refl c.args.self.now.journal; own = λ a is. refl }

pub returns-clause-finds : goal.returns-clause-finds
returns-clause-finds c = added_none (1 ∷ []) c.args.self.now.journal
