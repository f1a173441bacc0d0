use Rattle.std.proofs.Common.{◌≡◌, ◌++◌}
use Rattle.std.specs.Prelude.{map}
use Rattle.std.specs.List.{flat_map}
use Rattle.ground_model.specs.Table.{live}
use Rattle.line_table.specs.Ends.{next_points}
use Rattle.line_table.proofs.lines.Lines.gather_ends.Given as goal

abbrev pub invariant-loop-line : goal.invariant-loop-line
invariant-loop-line l =
    (goal.iterator-loop-line).can_next l.line-iterator
    × (goal.iterator-loop-line).is_finite l.line-iterator
    × (flat_map (next_points l.later l.p) (live l.self) ≡ l.ends.items ++ flat_map (next_points l.later l.p) (map (λ entry. entry.1) l.line-iterator))
