use Rattle.std.proofs.Common.{◌≡◌, ◌++◌}
use Rattle.std.specs.List.{filter_map}
use Rattle.line_table.specs.Ends.{next_on}
use Rattle.line_table.proofs.pieces.add_ends.Given as goal

abbrev pub invariant-loop-link : goal.invariant-loop-link
invariant-loop-link l =
    (goal.iterator-loop-link).can_next l.link-iterator
    × (goal.iterator-loop-link).is_finite l.link-iterator
    × (l.fn.ends.items ++ filter_map (next_on l.later l.p) l.fn.links ≡ l.ends.items ++ filter_map (next_on l.later l.p) l.link-iterator)
