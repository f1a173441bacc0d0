use Rattle.std.proofs.Common.{◌∙◌, ap}
use Rattle.std.specs.Prelude.{Option}
use Rattle.landxml_read.specs.declared.fault.DocFault.{DocFault}
use Rattle.landxml_surface.specs.Faults.{earlier_fault, range_faults}
use Rattle.landxml_surface.proofs.Least.{least-more}
use Rattle.landxml_surface.proofs.check.triples_fault.Goals as goal

pub loop-triple-preserved : goal.loop-triple-preserved
loop-triple-preserved c =
    c.earlier-least.ensures ∙ ap (λ (f : Option DocFault). earlier_fault f c.range_fault.result) c.loop-triple.invariant ∙ ap (earlier_fault _) c.range_fault.ensures
    ∙ least-more (range_faults c.args.origin.now) c.args.triples.now c.loop-triple.triple-index _ c.loop-triple-test.true
