use Rattle.turn_lock.proofs.Gathers.{first_all}
use Rattle.lock_tests.proofs.seats.new_lock.Goals as goal

pub returns : goal.returns
returns g c = first_all c.in-Ok-new.made.0 c.in-Ok-new.made.1.items c.in-Ok-new.ensures.seats
