use Rattle.std.proofs.Common.{◌≡◌, None}
use Rattle.std.specs.Prelude.{map}
use Rattle.landxml_surface.specs.Drafts.{draft_of, document_faults}
use Rattle.landxml_surface.specs.Faults.{least_of}
use Rattle.landxml_surface.proofs.document.surfaces.Given as goal

abbrev pub invariant-loop-surface : goal.invariant-loop-surface
invariant-loop-surface l =
    (l.all.least ≡ least_of (document_faults l.rule l.yielded)) × (least_of (document_faults l.rule l.yielded) ≡ None → l.all.drafts.items ≡ map (draft_of l.unit l.rule) l.yielded)
