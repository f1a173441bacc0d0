use Rattle.std.proofs.Common.{◌∙◌, arith, sym, subst}
use Rattle.std.proofs.lemmas.Option.{slice_get_within}
use Rattle.landxml_write.specs.Text.{data_text}
use Rattle.landxml_write.proofs.Shown.{flat-more}
use Rattle.landxml_write.proofs.Sizes.{short_more}
use Rattle.landxml_write.proofs.source.put_data_points.Goals as goal

pub loop-k-preserved : goal.loop-k-preserved
loop-k-preserved g c =
    let e = g.E.Export.shown c.args.export.now in
    let at = sym c.point.ensures ∙ c.in-Some.is in
    record {
      takes = subst (g.O.Output.Takes c.args.out.now c.put_data_point.new.out) (sym (flat-more (data_text e) e.points c.loop-k.k _ at)) (g.met.O.Output.takes_both _ _ _ _ _ c.loop-k.invariant.takes c.put_data_point.ensures.takes);
      short = short_more e c.loop-k.k _ at c.put_data_point.ensures.short c.loop-k.invariant.short;
    }

pub returns-clause-short : goal.returns-clause-short
returns-clause-short g c k v at = c.loop-k.invariant.short k v (omega (arith, slice_get_within _ k v at, c.points-k-end.ensures.value, c.loop-k-test.false)) at
