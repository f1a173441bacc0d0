use Rattle.std.proofs.Common.{◌≡◌, ◌+ℤ◌, ◌-ℤ◌, ◌*ℤ◌, pos, neg_ℤ, ◌∙◌, sym, rules, arith, to_z, of_z}
use mir.Syntax.{w128}
use Rattle.std.specs.Prelude.{ℤ}
use Rattle.std.proofs.lemmas.Int.{ints, to_z-of_z}
use Rattle.ground_model.specs.Volume.{part_above, turned_over}
use Rattle.predicates.proofs.Sizes.{read_is, read_op}
use Rattle.measures.proofs.FacetVolumes.{none_above, one_above, two_above}
use Rattle.measures.proofs.part.facet_volume.Goals as goal

pub returns-then-is_none_above-clause-value : goal.returns-then-is_none_above-clause-value
returns-then-is_none_above-clause-value c =
    let net = to_z-of_z w128 c.net_of-net.result (search rules) in
    let area = to_z-of_z w128 c.args.area c.ranges.area in
    let heights = read_is w128 c.heights.result _ (search rules) c.heights.ensures.value in
    let fill : to_z w128 (of_z w128 (pos 0 -ℤ to_z w128 (of_z w128 c.net_of-net.result))) ≡ neg_ℤ c.net_of-net.result = omega (arith, ints, c.net_of-net.ensures.size) in
    (λ i. record { cut = pos 0; fill = fill i; net = net i })
    ∙ none_above c.args.area c.args.x.now c.args.y.now c.args.z.now c.net_of-net.result (sym c.if-is_none_below.ensures) (sym c.if-is_none_above.ensures) (c.net_of-net.ensures.value ∙ (λ i. area i *ℤ heights i))

pub returns-then-is_one_above-clause-value : goal.returns-then-is_one_above-clause-value
returns-then-is_one_above-clause-value c =
    let net = to_z-of_z w128 c.net_of-net.result (search rules) in
    let cut = to_z-of_z w128 c.part_above-cut.result (search rules) in
    let area = to_z-of_z w128 c.args.area c.ranges.area in
    let heights = read_is w128 c.heights.result _ (search rules) c.heights.ensures.value in
    let fill = read_op ◌-ℤ◌ w128 c.part_above-cut.result c.net_of-net.result (search rules) (search rules) (omega (arith, ints, c.net_of-net.ensures.size, c.part_above-cut.ensures.size)) in
    (λ i. record { cut = cut i; fill = fill i; net = net i })
    ∙ one_above c.args.area c.args.x.now c.args.y.now c.args.z.now c.net_of-net.result c.part_above-cut.result (sym c.if-is_none_below.ensures) (sym c.if-is_none_above.ensures) (sym c.if-is_one_above.ensures) (c.net_of-net.ensures.value ∙ (λ i. area i *ℤ heights i)) (c.part_above-cut.ensures.value ∙ (λ i. part_above (area i) c.args.x.now c.args.y.now c.args.z.now))

pub returns-then-is_one_above-clause-net : goal.returns-then-is_one_above-clause-net
returns-then-is_one_above-clause-net c =
    let net = to_z-of_z w128 c.net_of-net.result (search rules) in
    let cut = to_z-of_z w128 c.part_above-cut.result (search rules) in
    let fill = read_op ◌-ℤ◌ w128 c.part_above-cut.result c.net_of-net.result (search rules) (search rules) (omega (arith, ints, c.net_of-net.ensures.size, c.part_above-cut.ensures.size)) in
    (λ i. cut i -ℤ fill i) ∙ differ c.part_above-cut.result c.net_of-net.result ∙ sym net
  where
    differ : (x y : ℤ) → x -ℤ (x -ℤ y) ≡ y
    differ x y = omega (arith, ints)

pub returns-then-is_one_above-clause-size : goal.returns-then-is_one_above-clause-size
returns-then-is_one_above-clause-size c =
    let net = to_z-of_z w128 c.net_of-net.result (search rules) in
    let cut = to_z-of_z w128 c.part_above-cut.result (search rules) in
    let fill = read_op ◌-ℤ◌ w128 c.part_above-cut.result c.net_of-net.result (search rules) (search rules) (omega (arith, ints, c.net_of-net.ensures.size, c.part_above-cut.ensures.size)) in
    record {
      cut = omega (arith, ints, cut, c.part_above-cut.ensures.size);
      fill = omega (arith, ints, fill, c.net_of-net.ensures.size, c.part_above-cut.ensures.size);
      net = omega (arith, ints, net, c.net_of-net.ensures.size);
    }

pub returns-else-is_one_above-clause-value : goal.returns-else-is_one_above-clause-value
returns-else-is_one_above-clause-value c =
    let net = to_z-of_z w128 c.net_of-net.result (search rules) in
    let fill = to_z-of_z w128 c.part_below-fill.result (search rules) in
    let area = to_z-of_z w128 c.args.area c.ranges.area in
    let heights = read_is w128 c.heights.result _ (search rules) c.heights.ensures.value in
    let cut = read_op ◌+ℤ◌ w128 c.part_below-fill.result c.net_of-net.result (search rules) (search rules) (omega (arith, ints, c.net_of-net.ensures.size, c.part_below-fill.ensures.size)) in
    (λ i. record { cut = cut i; fill = fill i; net = net i })
    ∙ two_above c.args.area c.args.x.now c.args.y.now c.args.z.now c.net_of-net.result c.part_below-fill.result (sym c.if-is_none_below.ensures) (sym c.if-is_none_above.ensures) (sym c.if-is_one_above.ensures) (c.net_of-net.ensures.value ∙ (λ i. area i *ℤ heights i)) (c.part_below-fill.ensures.value ∙ (λ i. part_above (area i) (turned_over c.args.x.now) (turned_over c.args.y.now) (turned_over c.args.z.now)))

pub returns-else-is_one_above-clause-net : goal.returns-else-is_one_above-clause-net
returns-else-is_one_above-clause-net c =
    let net = to_z-of_z w128 c.net_of-net.result (search rules) in
    let fill = to_z-of_z w128 c.part_below-fill.result (search rules) in
    let cut = read_op ◌+ℤ◌ w128 c.part_below-fill.result c.net_of-net.result (search rules) (search rules) (omega (arith, ints, c.net_of-net.ensures.size, c.part_below-fill.ensures.size)) in
    (λ i. cut i -ℤ fill i) ∙ differ c.part_below-fill.result c.net_of-net.result ∙ sym net
  where
    differ : (x y : ℤ) → (x +ℤ y) -ℤ x ≡ y
    differ x y = omega (arith, ints)
