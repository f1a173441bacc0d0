use Rattle.std.proofs.Common.{take}
use Rattle.std.specs.List.{flat_map}
use Rattle.landxml_write.specs.Text.{next_text}
use Rattle.landxml_write.proofs.line.put_rest.Given as goal

abbrev pub invariant-loop-place : goal.invariant-loop-place
invariant-loop-place g l = g.O.Output.Takes l.initial.out l.out (flat_map (next_text (g.E.Export.shown l.export)) (take l.place-index l.places))
