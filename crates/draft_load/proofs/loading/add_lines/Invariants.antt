use Rattle.std.proofs.Common.{take}
use Rattle.std.specs.Prelude.{map}
use Rattle.document_law.specs.Reloaded.{line_edit}
use Rattle.draft_load.specs.Loads.{Loads}
use Rattle.draft_load.proofs.loading.add_lines.Given as goal

abbrev pub invariant-loop-line : goal.invariant-loop-line
invariant-loop-line l = Loads l.fn.store.journal l.store.journal (map line_edit (take l.line-index l.lines))
