use Rattle.std.proofs.Common.{◌≤◌, length, ap, subst, ◌∙◌}
use Rattle.locate.proofs.Walks.{some_live}
use Rattle.locate.proofs.walk.start.Goals as goal

pub unreachable-requires : goal.unreachable-requires
unreachable-requires c =
    some_live c.args.mesh.now.slots c.loop-slot.slot c.requires.sheet c.loop-slot.invariant
    (subst (λ n. n ≤ c.loop-slot.slot) (c.len-slot-end.ensures.len ∙ ap length c.pages.ensures) c.loop-slot-test.false)
