use Rattle.std.proofs.Common.{◌++◌, ◌∷◌, [], ◌-◌, take, drop, sym, ap, ◌∙◌, arith}
use Rattle.ground_model.specs.Line.{Line}
use Rattle.line_table.proofs.Ranks.{last_of}
use Rattle.line_table.proofs.live.LiveLinesDoubleEndedIterator.next_back.Goals as goal

pub returns-clause-steps : goal.returns-clause-steps
returns-clause-steps c =
    sym c.self.view_is
    ∙ last_of c.self.inside.lines.now c.self.inside.front c.self.inside.back c.in-Some.entry.now (omega (arith, c.self.invariant.ordered)) (sym c.in-Some.ensures.pair)
    ∙ ap (λ (l : Line). take ((c.self.inside.back - 1) - c.self.inside.front) (drop c.self.inside.front c.self.inside.lines.now) ++ (c.in-Some.entry.now.0, l) ∷ []) (sym c.get.ensures)
