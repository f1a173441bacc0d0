use Rattle.landxml_read.proofs.Readers.{taken_at_start}
use Rattle.landxml_read.proofs.course.Course.new.Goals as goal

pub returns-clause-taken : goal.returns-clause-taken
returns-clause-taken c = taken_at_start c.new.result c.new-2.result c.new-3.result c.new.ensures c.new-2.ensures c.new-3.ensures
