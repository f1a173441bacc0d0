use Rattle.std.proofs.Common.{◌∙◌, sym, ap, not, Bool}
use Rattle.std.specs.Prelude.{is_some}
use Rattle.indexmap.specs.IndexMap.{get}
use Rattle.landxml_read.specs.declared.fault.DocCause.TheVariants.{NoHeight}
use Rattle.landxml_surface.specs.Faults.{least_of, when, pair_spot}
use Rattle.landxml_surface.specs.Heights.{is_same_spot}
use Rattle.landxml_surface.proofs.Marks.{any-level}
use Rattle.landxml_surface.proofs.check.pair_fault.Goals as goal

pub returns : goal.returns
returns c ts are =
    let high = c.is_some-is_high.ensures ∙ ap is_some (c.level.ensures ∙ ap (get is_same_spot c.args.heights.now.levels) c.pair_spot.ensures ∙ are.levels (pair_spot c.args.pair.now)) ∙ sym (any-level ts (pair_spot c.args.pair.now)) in
    c.fault_if.ensures ∙ ap (λ (b : Bool). least_of (when (not b) c.args.pair.now.at NoHeight)) high
