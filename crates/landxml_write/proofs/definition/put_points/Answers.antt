use Rattle.std.proofs.Common.{◌≡◌, ◌+◌, ◌∙◌, arith, sym, ap, subst, take, List, ℕ}
use Rattle.std.proofs.lemmas.List.{take_all}
use Rattle.landxml_write.specs.Text.{points_text, point_text}
use Rattle.landxml_write.proofs.Shown.{is_there, points-more}
use Rattle.landxml_write.proofs.definition.put_points.Goals as goal

pub loop-k-init : goal.loop-k-init
unfolding points_text
loop-k-init g c = g.met.O.Output.takes_none c.args.out.now

pub unreachable-requires : goal.unreachable-requires
unreachable-requires g c = is_there (g.E.Export.shown c.args.export.now).points c.loop-k.k (omega (arith, c.points-k-end.ensures.value, c.loop-k-test.true)) (sym c.point.ensures ∙ c.in_default.is)

pub loop-k-preserved : goal.loop-k-preserved
loop-k-preserved g c =
    let e = g.E.Export.shown c.args.export.now in
    let next : c.loop-k.k + 1 ≡ 1 + c.loop-k.k = omega arith in
    let put = subst (λ (n : ℕ). g.O.Output.Takes c.loop-k.out c.put_point.new.out (point_text e n c.in-Some.vertex)) next c.put_point.ensures in
    subst (g.O.Output.Takes c.args.out.now c.put_point.new.out) (sym (points-more e 1 e.points c.loop-k.k _ (sym c.point.ensures ∙ c.in-Some.is)))
    (g.met.O.Output.takes_both _ _ _ _ _ c.loop-k.invariant put)

pub returns : goal.returns
returns g c =
    let e = g.E.Export.shown c.args.export.now in
    subst (λ (vs : List _). g.O.Output.Takes c.args.out.now c.loop-k.out (points_text e 1 vs)) (take_all c.loop-k.k e.points (omega (arith, c.points-k-end.ensures.value, c.loop-k-test.false))) c.loop-k.invariant
