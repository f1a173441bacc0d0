use Rattle.std.proofs.Common.{◌+◌, arith, ap, sym, ◌∙◌, length}
use Rattle.std.specs.List.{position_from}
use Rattle.ground_model.specs.Crossings.{cross_between}
use Rattle.line_table.proofs.SelfCrossings.{pair_from, pair-nil, pair-some, pair-none, self_cross-is, few_links}
use Rattle.line_table.proofs.crossing.self_cross.Goals as goal

pub overflow_add-number : goal.overflow_add-number
overflow_add-number c = omega (arith, few_links c.args.line.now, c.requires.short, c.links.invariant.1)

pub first_crossing-requires : goal.first_crossing-requires
first_crossing-requires c = omega (arith, few_links c.args.line.now, c.requires.short, c.links.invariant.1, ap length c.in-Some.ensures.steps, ap length c.again.ensures)

pub overflow_cast-result : goal.overflow_cast-result
overflow_cast-result c = omega (arith, few_links c.args.line.now, c.requires.short, c.links.invariant.1, ap length c.in-Some.ensures.steps)

pub returns-in-Some-first_crossing : goal.returns-in-Some-first_crossing
returns-in-Some-first_crossing c =
    sym (self_cross-is c.args.points.now c.args.line.now c.requires.own ∙ c.links.invariant.0 ∙ ap (pair_from c.args.points.now c.links.number) c.in-Some.ensures.steps
    ∙ pair-some c.args.points.now c.links.number c.in-Some.link c.next.new.self c.in-Some-first_crossing.other (ap (position_from (cross_between c.args.points.now c.in-Some.link) (c.links.number + 1)) (sym c.again.ensures) ∙ sym c.in-Some-first_crossing.ensures.value))

pub overflow_add-number-in-Some : goal.overflow_add-number-in-Some
overflow_add-number-in-Some c = omega (arith, few_links c.args.line.now, c.requires.short, c.links.invariant.1)

pub links-preserved : goal.links-preserved
links-preserved c = (
  c.links.invariant.0 ∙ ap (pair_from c.args.points.now c.links.number) c.in-Some.ensures.steps ∙ pair-none c.args.points.now c.links.number c.in-Some.link c.next.new.self (ap (position_from (cross_between c.args.points.now c.in-Some.link) (c.links.number + 1)) (sym c.again.ensures) ∙ sym c.in_default-first_crossing.ensures.value),
  omega (arith, c.links.invariant.1, ap length c.in-Some.ensures.steps),
)

pub returns : goal.returns
returns c = sym (self_cross-is c.args.points.now c.args.line.now c.requires.own ∙ c.links.invariant.0 ∙ ap (pair_from c.args.points.now c.links.number) c.in_default.ensures.steps.0 ∙ pair-nil c.args.points.now c.links.number)
