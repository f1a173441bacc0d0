use Rattle.std.proofs.Common.{◌≡◌}
use Rattle.std.specs.FinMap as finmap
use Rattle.line_table.proofs.Searches.{first_pair}
use Rattle.line_table.proofs.Joined.{joined}
use Rattle.line_table.proofs.lines.Lines.joint_links.Given as goal

abbrev pub invariant-loop-id : goal.invariant-loop-id
invariant-loop-id l =
    (goal.iterator-loop-id).can_next l.id-iterator
    × (goal.iterator-loop-id).is_finite l.id-iterator
    × (first_pair (joined l.place) (finmap.entries l.self.lines) (finmap.entries l.self.lines) ≡ first_pair (joined l.place) (finmap.entries l.self.lines) l.id-iterator)
