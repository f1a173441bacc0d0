use Rattle.locate.proofs.Walks.{next_live}
use Rattle.locate.proofs.walk.walk.Goals as goal

pub loop-step-preserved : goal.loop-step-preserved
loop-step-preserved c = next_live c.args.mesh.now.slots c.requires.sheet c.loop-step.slot c.args.place c.in-Next.next c.e-easting.ensures.place c.in-Next.ensures
