use Rattle.std.proofs.Common.{◌≡◌, ◌++◌, take}
use Rattle.std.specs.List.{flat_map}
use Rattle.ground_num.specs.Names.{escape}
use Rattle.document_commands.proofs.surface_line.add_name.Given as goal

abbrev pub invariant-loop-offset : goal.invariant-loop-offset
invariant-loop-offset l = l.line.items ≡ l.fn.line.items ++ flat_map escape (take l.offset l.name)
