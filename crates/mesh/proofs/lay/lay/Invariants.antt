use Rattle.std.proofs.Common.{◌≤◌, ◌+◌}
use Rattle.mesh.specs.Laying.{layout, IsLaying}
use Rattle.mesh.proofs.lay.lay.Given as goal

abbrev pub invariant-loop-index : goal.invariant-loop-index
invariant-loop-index g l = IsLaying l.fn.pages l.pages (layout l.news l.slots l.was) l.front l.index × (l.steps ≤ l.fn.steps + l.index)
