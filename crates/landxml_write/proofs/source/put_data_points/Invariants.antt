use Rattle.std.proofs.Common.{take}
use Rattle.std.specs.List.{flat_map}
use Rattle.landxml_write.specs.Sizes.{AreShortTo}
use Rattle.landxml_write.specs.Text.{data_text}
use Rattle.landxml_write.proofs.source.put_data_points.Given as goal

abbrev pub invariant-loop-k : goal.invariant-loop-k
invariant-loop-k g l = record {
  takes : g.O.Output.Takes l.initial.out l.out (flat_map (data_text (g.E.Export.shown l.export)) (take l.k (g.E.Export.shown l.export).points));
  short : AreShortTo (g.E.Export.shown l.export) l.k;
}
