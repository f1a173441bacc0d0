use Rattle.std.proofs.Common.{sym, ap, ◌∙◌, arith, rules, pos, of_z}
use Rattle.std.specs.Prelude.{int_lt}
use mir.Syntax.{w128}
use Rattle.std.proofs.lemmas.Int.{ints}
use Rattle.predicates.proofs.Sizes.{read_is}
use Rattle.predicates.proofs.InsideSum.{inside-sum}
use Rattle.predicates.proofs.Corners.{tie_anywhere}
use Rattle.predicates.proofs.circle.is_inside.Goals as goal

pub returns-then-sum-eq0 : goal.returns-then-sum-eq0
returns-then-sum-eq0 c =
    c.is_inside_at_tie.ensures ∙ sym (tie_anywhere c.args.a c.args.b c.args.c c.args.d c.in_circle_sum-sum.ensures.places c.requires.turned (omega (arith, ints)))

pub returns-else-sum-eq0 : goal.returns-else-sum-eq0
returns-else-sum-eq0 c =
    let sum = read_is w128 c.in_circle_sum-sum.result _ (search rules) c.in_circle_sum-sum.ensures.value in
    ap (λ k. int_lt (pos 0) k) sum
    ∙ inside-sum c.args.a c.args.b c.args.c c.args.d c.in_circle_sum-sum.ensures.places (λ zero. c.if-sum-eq0.false (ap (of_z w128) (c.in_circle_sum-sum.ensures.value ∙ zero)))
