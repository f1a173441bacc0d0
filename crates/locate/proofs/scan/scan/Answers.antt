use Rattle.std.proofs.Common.{◌≤◌, length, ap, subst, ◌∙◌}
use Rattle.locate.proofs.Covered.{somewhere}
use Rattle.locate.proofs.scan.scan.Goals as goal

pub unreachable-requires : goal.unreachable-requires
unreachable-requires c =
    somewhere c.args.mesh.now.slots c.loop-slot.slot c.args.place c.requires.sheet c.e-easting.ensures.place c.loop-slot.invariant
    (subst (λ n. n ≤ c.loop-slot.slot) (c.len-slot-end.ensures.len ∙ ap length c.pages.ensures) c.loop-slot-test.false)
