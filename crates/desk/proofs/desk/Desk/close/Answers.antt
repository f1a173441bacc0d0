use Rattle.std.proofs.Common.{sym, subst}
use Rattle.turn_lock.specs.Seat.{Lock, numbers_of, HasAll}
use Rattle.desk.proofs.Joining.{has-all}
use Rattle.desk.proofs.desk.Desk.close.Goals as goal

pub close-requires-clause-last : goal.close-requires-clause-last
close-requires-clause-last c = subst (λ (l : Lock). HasAll l (numbers_of c.join_all-seat.result)) (sym c.self.view_is) (has-all c.args.self c.args.passes.items c.join_all-seat.result c.requires.all c.join_all-seat.ensures.all)
