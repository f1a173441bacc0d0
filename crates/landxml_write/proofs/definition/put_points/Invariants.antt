use Rattle.std.proofs.Common.{take}
use Rattle.landxml_write.specs.Text.{points_text}
use Rattle.landxml_write.proofs.definition.put_points.Given as goal

abbrev pub invariant-loop-k : goal.invariant-loop-k
invariant-loop-k g l = g.O.Output.Takes l.initial.out l.out (points_text (g.E.Export.shown l.export) 1 (take l.k (g.E.Export.shown l.export).points))
