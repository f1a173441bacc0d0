use Rattle.std.proofs.Common.{◌+ℤ◌, ◌-ℤ◌, ◌*ℤ◌, w64, ◌∙◌, rules}
use mir.Syntax.{w128}
use Rattle.predicates.proofs.Sizes.{read_is, read_both}
use Rattle.predicates.proofs.Determinant.{in_circle_sum-from}
use Rattle.predicates.proofs.circle.in_circle_sum.Goals as goal

pub returns-clause-value : goal.returns-clause-value
returns-clause-value c =
    let u = c.between-to_a.ensures in
    let v = c.between-to_b.ensures in
    let w = c.between-to_c.ensures in
    let square_a = c.square.ensures.value ∙ (λ i. u.e i *ℤ u.e i +ℤ u.n i *ℤ u.n i) in
    let square_b = c.square-2.ensures.value ∙ (λ i. v.e i *ℤ v.e i +ℤ v.n i *ℤ v.n i) in
    let square_c = c.square-3.ensures.value ∙ (λ i. w.e i *ℤ w.e i +ℤ w.n i *ℤ w.n i) in
    let side_a = c.cross.ensures.value ∙ (λ i. v.e i *ℤ w.n i -ℤ v.n i *ℤ w.e i) in
    let side_b = c.cross-2.ensures.value ∙ (λ i. w.e i *ℤ u.n i -ℤ w.n i *ℤ u.e i) in
    let side_c = c.cross-3.ensures.value ∙ (λ i. u.e i *ℤ v.n i -ℤ u.n i *ℤ v.e i) in
    let at_a = c.weighted-at_a.ensures.value ∙ read_both ◌*ℤ◌ w64 c.square.result c.cross.result (search rules) (search rules) ∙ (λ i. square_a i *ℤ side_a i) in
    let at_b = c.weighted-at_b.ensures.value ∙ read_both ◌*ℤ◌ w64 c.square-2.result c.cross-2.result (search rules) (search rules) ∙ (λ i. square_b i *ℤ side_b i) in
    let at_c = c.weighted-at_c.ensures.value ∙ read_both ◌*ℤ◌ w64 c.square-3.result c.cross-3.result (search rules) (search rules) ∙ (λ i. square_c i *ℤ side_c i) in
    let read_a = read_is w128 c.weighted-at_a.result _ (search rules) at_a in
    let read_b = read_is w128 c.weighted-at_b.result _ (search rules) at_b in
    let read_c = read_is w128 c.weighted-at_c.result _ (search rules) at_c in
    read_is w128 c.combined.result _ (search rules) (c.combined.ensures ∙ (λ i. read_a i +ℤ read_b i +ℤ read_c i) ∙ in_circle_sum-from c.args.a c.args.b c.args.c c.args.d)
