use Rattle.std.proofs.Common.{◌∙◌, ap}
use Rattle.std.specs.Prelude.{Option}
use Rattle.landxml_read.specs.declared.fault.DocFault.{DocFault}
use Rattle.landxml_surface.specs.Faults.{earlier_fault, pair_faults}
use Rattle.landxml_surface.proofs.Least.{least-more}
use Rattle.landxml_surface.proofs.check.pairs_fault.Goals as goal

pub loop-pair-preserved : goal.loop-pair-preserved
loop-pair-preserved c ts are =
    c.earlier-least.ensures ∙ ap (λ (f : Option DocFault). earlier_fault f c.pair_fault.result) (c.loop-pair.invariant ts are) ∙ ap (earlier_fault _) (c.pair_fault.ensures ts are)
    ∙ least-more (pair_faults ts) c.args.pairs.now c.loop-pair.pair-index _ c.loop-pair-test.true
