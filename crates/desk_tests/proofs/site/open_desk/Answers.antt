use Rattle.turn_lock.proofs.Gathers.{first_all}
use Rattle.desk_tests.proofs.site.open_desk.Goals as goal

pub returns-clause-all : goal.returns-clause-all
returns-clause-all g c = first_all c.in-Ok-open.opened.0 c.in-Ok-open.opened.1.items c.in-Ok-open.ensures.passes
