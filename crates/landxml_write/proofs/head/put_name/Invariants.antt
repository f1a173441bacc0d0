use Rattle.std.proofs.Common.{take}
use Rattle.std.specs.List.{flat_map}
use Rattle.ground_num.specs.Names.{escape}
use Rattle.landxml_write.proofs.head.put_name.Given as goal

abbrev pub invariant-loop-offset : goal.invariant-loop-offset
invariant-loop-offset g l = g.O.Output.Takes l.initial.out l.out (flat_map escape (take l.offset l.name))
