use Rattle.mesh.proofs.StepSheets.{far_inside}
use Rattle.mesh.proofs.tests.split_at.Goals as goal

pub split-requires-clause-inside : goal.split-requires-clause-inside
split-requires-clause-inside g c = far_inside c.in_ok-mesh.mesh.slots c.args.place c.in_ok-mesh.ensures.far c.e-easting.ensures.place
