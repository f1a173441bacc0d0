use Rattle.std.proofs.Common.{◌<◌, ◌+◌, ◌-◌, ◌∷◌, ◌^◌, ℕ, length, take, drop, sym, ap, ◌∙◌, arith}
use Rattle.ground_model.specs.Line.{Line}
use Rattle.line_table.proofs.Ranks.{each_at, first_of, walked}
use Rattle.line_table.proofs.live.LiveLinesIterator.next.Goals as goal

pub overflow_cast-result : goal.overflow_cast-result
overflow_cast-result c =
    let within : c.self.inside.front < length c.self.inside.lines.now = omega (arith, c.self.invariant.ordered, c.self.invariant.within) in
    let w = walked c.self.inside.lines.now c.run_from-run.result.now c.in-Some.rest.now c.self.inside.front c.in-Some.entry.now within c.in-Some.ensures.cases.0 c.run_from-run.ensures.first in
    let small : c.in-Some.entry.now.0 < 2 ^ 32 = each_at c.self.inside.lines.now (λ (e : ℕ × Line). e.0 < 2 ^ 32) c.self.inside.front c.in-Some.entry.now c.self.invariant.numbers within w.0 in
    omega (arith, small)

pub invariant_of-self : goal.invariant_of-self
invariant_of-self c =
    let within : c.self.inside.front < length c.self.inside.lines.now = omega (arith, c.self.invariant.ordered, c.self.invariant.within) in
    let w = walked c.self.inside.lines.now c.run_from-run.result.now c.in-Some.rest.now c.self.inside.front c.in-Some.entry.now within c.in-Some.ensures.cases.0 c.run_from-run.ensures.first in record {
      numbers = c.self.invariant.numbers;
      ordered = omega (arith, c.self.invariant.ordered);
      within = c.self.invariant.within;
      at_hand = w.1;
    }

pub returns-clause-steps : goal.returns-clause-steps
returns-clause-steps c =
    let within : c.self.inside.front < length c.self.inside.lines.now = omega (arith, c.self.invariant.ordered, c.self.invariant.within) in
    let w = walked c.self.inside.lines.now c.run_from-run.result.now c.in-Some.rest.now c.self.inside.front c.in-Some.entry.now within c.in-Some.ensures.cases.0 c.run_from-run.ensures.first in
    sym c.self.view_is ∙ first_of c.self.inside.lines.now c.self.inside.front c.self.inside.back c.in-Some.entry.now (omega (arith, c.self.invariant.ordered)) within w.0
    ∙ ap (λ (l : Line). (c.in-Some.entry.now.0, l) ∷ take (c.self.inside.back - (c.self.inside.front + 1)) (drop (c.self.inside.front + 1) c.self.inside.lines.now)) (sym c.get.ensures)
