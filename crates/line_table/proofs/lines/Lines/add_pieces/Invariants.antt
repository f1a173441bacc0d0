use Rattle.std.proofs.Common.{◌≡◌, ◌++◌}
use Rattle.std.specs.Prelude.{map, take}
use Rattle.ground_model.specs.Table.{live}
use Rattle.line_table.specs.Ends.{count_over}
use Rattle.line_table.proofs.lines.Lines.add_pieces.Given as goal

abbrev pub invariant-loop-q : goal.invariant-loop-q
invariant-loop-q l =
    l.found.items ≡ l.fn.found.items ++ map (λ q. record { p = l.p; q = q; count = count_over (live l.self) l.p q }) (take l.q-index l.ends)
