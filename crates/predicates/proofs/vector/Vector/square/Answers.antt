use Rattle.std.proofs.Common.{rules}
use Rattle.predicates.proofs.vector.Vector.square.Goals as goal

pub overflow_add-result : goal.overflow_add-result
overflow_add-result c = search rules

pub returns-clause-value : goal.returns-clause-value
returns-clause-value c = search rules

pub returns-clause-size : goal.returns-clause-size
returns-clause-size c = search rules
