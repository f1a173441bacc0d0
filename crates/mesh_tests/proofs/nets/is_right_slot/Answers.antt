use Rattle.std.proofs.Common.{◌∙◌, sym, subst}
use Rattle.predicates.specs.Far.{IsKnown}
use Rattle.mesh.specs.Net.{first, second, third}
use Rattle.mesh_tests.proofs.ReadAcrosses.{known}
use Rattle.mesh_tests.proofs.nets.is_right_slot.Goals as goal

pub is_left-requires-clause-a : goal.is_left-requires-clause-a
is_left-requires-clause-a c = subst IsKnown (sym c.seen_from-seen.ensures.a) (known c.args.mesh.now.slots c.args.slot c.in-Some.t first c.requires (sym c.triangle.ensures ∙ c.in-Some.is))

pub is_left-requires-clause-b : goal.is_left-requires-clause-b
is_left-requires-clause-b c = subst IsKnown (sym c.seen_from-seen.ensures.b) (known c.args.mesh.now.slots c.args.slot c.in-Some.t second c.requires (sym c.triangle.ensures ∙ c.in-Some.is))

pub is_left-requires-clause-c : goal.is_left-requires-clause-c
is_left-requires-clause-c c = subst IsKnown (sym c.seen_from-seen.ensures.c) (known c.args.mesh.now.slots c.args.slot c.in-Some.t third c.requires (sym c.triangle.ensures ∙ c.in-Some.is))
