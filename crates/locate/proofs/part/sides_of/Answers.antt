use Rattle.std.proofs.Common.{sym, subst}
use Rattle.predicates.specs.Far.{IsKnown}
use Rattle.mesh.specs.Net.{first, second, third}
use Rattle.locate.proofs.part.sides_of.Goals as goal

pub sign_of-ab-requires-clause-a : goal.sign_of-ab-requires-clause-a
sign_of-ab-requires-clause-a c = subst IsKnown (sym c.seen_from-seen.ensures.a) (c.requires.turned.known first)

pub sign_of-ab-requires-clause-b : goal.sign_of-ab-requires-clause-b
sign_of-ab-requires-clause-b c = subst IsKnown (sym c.seen_from-seen.ensures.b) (c.requires.turned.known second)

pub sign_of-bc-requires-clause-a : goal.sign_of-bc-requires-clause-a
sign_of-bc-requires-clause-a c = subst IsKnown (sym c.seen_from-seen.ensures.b) (c.requires.turned.known second)

pub sign_of-bc-requires-clause-b : goal.sign_of-bc-requires-clause-b
sign_of-bc-requires-clause-b c = subst IsKnown (sym c.seen_from-seen.ensures.c) (c.requires.turned.known third)

pub sign_of-ca-requires-clause-a : goal.sign_of-ca-requires-clause-a
sign_of-ca-requires-clause-a c = subst IsKnown (sym c.seen_from-seen.ensures.c) (c.requires.turned.known third)

pub sign_of-ca-requires-clause-b : goal.sign_of-ca-requires-clause-b
sign_of-ca-requires-clause-b c = subst IsKnown (sym c.seen_from-seen.ensures.a) (c.requires.turned.known first)
