use Rattle.store.proofs.Born.{births-empty}
use Rattle.store.proofs.births.Births.empty.Goals as goal

pub returns : goal.returns
returns c birth = births-empty birth _ c.new.ensures.empty c.new-2.ensures.items
