-- Bytes that a reader has taken show no fault.
use Rattle.std.proofs.Common.{◌≡◌, ℕ, arith, true, List, [], ◌++◌, length, sym, ap, ◌∙◌, inl, inr}
use Rattle.landxml_read.specs.declared.course.Course.{Course}
use Rattle.landxml_read.specs.Course.{HasTaken}
use Rattle.landxml_read.specs.Events.{event_faults}
use Rattle.landxml_read.specs.Faults.{Fault}
use Rattle.landxml_read.specs.Answer.{Shows}
use Rattle.landxml_read.specs.Tokens.{Reading}
use Rattle.landxml_read.proofs.Encoded.{utf8_begun}
use Rattle.landxml_read.proofs.Scanning.{begun}
use Rattle.landxml_read.proofs.Outlines.{shown_later}
use Rattle.landxml_read.proofs.Faulted.{tree_later, kinds_of}
use Rattle.landxml_read.proofs.Totals.{total, total_flat}
use Rattle.document_source.specs.Reading.{ShowsNoFault}

pub none_shown : ShowsNoFault []
none_shown more f h = omega arith

pub taken_quietly : (seen : List ℕ) (c : Course) → HasTaken seen c → ShowsNoFault seen
taken_quietly seen c t more f h =
    let at = t.read.outline in
    let r : Reading = record { scan = c.standing.scan; offset = c.standing.offset; tokens = c.tokens; told = t.read.told } in
    elim (kinds_of (seen ++ more) f h) [
      | inl x ↦ shown_later seen more f (utf8_begun seen c.standing.utf8 at.utf8) (begun seen c.standing.scan at.scan) x.0
      | inr x ↦ tree_later seen more r f t.read.reading (sym (total_flat (λ g. true) event_faults t.read.told) ∙ ap (total (λ g. true)) t.read.quiet) x.0
    ]
