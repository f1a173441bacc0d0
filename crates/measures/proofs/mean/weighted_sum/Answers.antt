use Rattle.std.proofs.Common.{◌+ℤ◌, ◌*ℤ◌, w64, ◌∙◌, rules}
use mir.Syntax.{w128}
use Rattle.ground_model.specs.Level.{weighted_level}
use Rattle.ground_model.specs.Side.{side}
use Rattle.predicates.proofs.Sizes.{read_is}
use Rattle.measures.proofs.mean.weighted_sum.Goals as goal

pub returns-clause-value : goal.returns-clause-value
unfolding weighted_level
returns-clause-value c =
    let s = c.args.slope.now in
    let p = c.args.place in
    let side_a = read_is w64 c.exact_side.result (side s.facet.b s.facet.c p) (search rules) c.exact_side.ensures.value in
    let side_b = read_is w64 c.exact_side-2.result (side s.facet.c s.facet.a p) (search rules) c.exact_side-2.ensures.value in
    let side_c = read_is w64 c.exact_side-3.result (side s.facet.a s.facet.b p) (search rules) c.exact_side-3.ensures.value in
    let at_a = read_is w128 c.weighted-at_a.result _ (search rules) (c.weighted-at_a.ensures.value ∙ (λ i. s.za *ℤ side_a i)) in
    let at_b = read_is w128 c.weighted-at_b.result _ (search rules) (c.weighted-at_b.ensures.value ∙ (λ i. s.zb *ℤ side_b i)) in
    let at_c = read_is w128 c.weighted-at_c.result _ (search rules) (c.weighted-at_c.ensures.value ∙ (λ i. s.zc *ℤ side_c i)) in
    read_is w128 c.combined.result _ (search rules) (c.combined.ensures.value ∙ (λ i. at_a i +ℤ at_b i +ℤ at_c i))
