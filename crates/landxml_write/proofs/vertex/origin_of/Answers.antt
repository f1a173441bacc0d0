use Rattle.std.proofs.Common.{subst, sym, ap}
use Rattle.ground_num.specs.declared.head.Head.{Head}
use Rattle.ground_num.specs.Head.{IsOrigin}
use Rattle.landxml_write.proofs.vertex.origin_of.Goals as goal

pub returns-clause-within : goal.returns-clause-within
returns-clause-within g c = subst (λ (h : Head). IsOrigin h.origin) (sym c.head.ensures.value) c.head.ensures.lawful.origin
