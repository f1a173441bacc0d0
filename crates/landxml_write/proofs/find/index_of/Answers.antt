use Rattle.std.proofs.Common.{◌≡◌, ◌+◌, ◌/◌, ◌-◌, arith, subst, sym, ap, ◌∙◌, length}
use Rattle.std.specs.Prelude.{slice_get, Some}
use Rattle.landxml_write.specs.Found.{IsWithin}
use Rattle.landxml_write.proofs.Found.{within-all, within-below, within-from, id-is, level-is}
use Rattle.landxml_write.proofs.find.index_of.Goals as goal

pub loop-high-init : goal.loop-high-init
loop-high-init g c = (
  subst (IsWithin (g.E.Export.shown c.args.export.now).points c.args.place 0) (sym c.points-high.ensures.value) (within-all (g.E.Export.shown c.args.export.now).points c.args.place c.requires),
  omega (arith, c.points-high.ensures.value),
)

pub overflow_sub-high : goal.overflow_sub-high
overflow_sub-high g c = let w = c.loop-high.invariant.0 in omega (arith, w.from, w.below)

pub vertex_at-requires : goal.vertex_at-requires
vertex_at-requires g c = omega (arith, c.loop-high.invariant.1, c.loop-high-test.true)

pub loop-high-preserved-then-comes_before : goal.loop-high-preserved-then-comes_before
loop-high-preserved-then-comes_before g c =
    let before = sym c.comes_before.ensures ∙ c.if-comes_before.true in (
      within-below (g.E.Export.shown c.args.export.now).points c.points-high.ensures.lawful.points c.args.place c.loop-high.low c.loop-high.high _ c.vertex_at.result c.vertex_at.ensures before c.loop-high.invariant.0,
      omega (arith, c.loop-high.invariant.1, c.loop-high-test.true),
    )

pub loop-high-preserved : goal.loop-high-preserved
loop-high-preserved g c =
    let not_before = sym c.comes_before.ensures ∙ c.if-comes_before.false in (
      within-from (g.E.Export.shown c.args.export.now).points c.points-high.ensures.lawful.points c.args.place c.loop-high.low c.loop-high.high _ c.vertex_at.result c.vertex_at.ensures not_before c.loop-high.invariant.0,
      c.loop-high.invariant.1,
    )

pub returns-clause-below : goal.returns-clause-below
returns-clause-below g c = let w = c.loop-high.invariant.0 in omega (arith, w.from, w.below, c.loop-high.invariant.1)

pub returns-clause-fits : goal.returns-clause-fits
returns-clause-fits g c = let w = c.loop-high.invariant.0 in omega (arith, w.from, w.below, c.loop-high.invariant.1, c.points-high.ensures.value, c.points-high.type_inv)

pub returns-clause-id : goal.returns-clause-id
returns-clause-id g c =
    let w = c.loop-high.invariant.0 in
    let here : w.index ≡ c.loop-high.low = omega (arith, w.from, w.below, c.loop-high-test.false) in
    sym (id-is (g.E.Export.shown c.args.export.now).points c.points-high.ensures.lawful.points c.args.place c.loop-high.low w.level (ap (slice_get (g.E.Export.shown c.args.export.now).points) (sym here) ∙ w.at))

pub returns-clause-at : goal.returns-clause-at
returns-clause-at g c =
    let w = c.loop-high.invariant.0 in
    let here : w.index ≡ c.loop-high.low = omega (arith, w.from, w.below, c.loop-high-test.false) in
    let at = ap (slice_get (g.E.Export.shown c.args.export.now).points) (sym here) ∙ w.at in
    at ∙ ap (λ z. Some (c.args.place, z)) (sym (level-is (g.E.Export.shown c.args.export.now).points c.points-high.ensures.lawful.points c.args.place c.loop-high.low w.level at))
