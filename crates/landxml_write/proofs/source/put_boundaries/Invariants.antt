use Rattle.std.proofs.Common.{take}
use Rattle.std.specs.List.{flat_map}
use Rattle.landxml_write.specs.Text.{boundary_text}
use Rattle.landxml_write.proofs.source.put_boundaries.Given as goal

abbrev pub invariant-loop-k : goal.invariant-loop-k
invariant-loop-k g l = g.O.Output.Takes l.initial.out l.out (flat_map (boundary_text (g.E.Export.shown l.export)) (take l.k (g.E.Export.shown l.export).lines))
