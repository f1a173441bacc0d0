use Rattle.std.proofs.Common.{◌≡◌, ◌+◌, length}
use Rattle.std.specs.List.{position_from}
use Rattle.ground_model.specs.Crossings.{cross_between}
use Rattle.line_table.proofs.crossing.first_crossing.Given as goal

abbrev pub invariant-loop-link : goal.invariant-loop-link
invariant-loop-link l =
    (goal.iterator-loop-link).can_next l.link-iterator
    × (goal.iterator-loop-link).is_finite l.link-iterator
    × (position_from (cross_between l.points l.s) l.fn.first l.fn.links ≡ position_from (cross_between l.points l.s) l.number l.link-iterator)
    × (l.number + length l.link-iterator ≡ l.fn.first + length l.fn.links)
