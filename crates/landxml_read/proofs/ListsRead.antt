-- What was gathered of all that a document's bytes showed is what the document holds.
use Rattle.std.proofs.Common.{◌≡◌, ℕ, List, [], Option, None, Some, sym, ◌∙◌, ap}
use Rattle.landxml_read.specs.declared.standing.Standing.{Standing}
use Rattle.landxml_read.specs.declared.tokens.Tokens.{Tokens}
use Rattle.landxml_read.specs.Markup.{Document}
use Rattle.landxml_read.specs.Answer.{IsTreeOf}
use Rattle.landxml_read.specs.Events.{Event, document_events}
use Rattle.landxml_read.specs.Tokens.{Reading, reads, at_start, pushed}
use Rattle.landxml_read.specs.Gather.{gathered_of, unit_or_meter, IsGatheredOf}
use Rattle.landxml_read.specs.Course.{Reads}
use Rattle.landxml_read.proofs.Accepted.{document_read}
use Rattle.landxml_read.proofs.Gathered.{unit_told, surfaces_told}

-- all that a reading was shown
abbrev told_by : Option Reading → List Event
told_by None = []
told_by (Some r) = r.told

pub lists_at_end : (seen : List ℕ) (s : Standing) (t : Tokens) (r : Reads seen s t) (d : Document) → IsTreeOf seen d → IsGatheredOf d (gathered_of r.told)
lists_at_end seen s t r d tree =
    let read = document_read d tree.shaped in
    let e : r.told ≡ pushed (document_events d) [] = ap told_by (sym r.reading ∙ ap (reads (Some at_start)) tree.text ∙ read.runs) in
    record { unit = ap (λ told. unit_or_meter (gathered_of told).unit) e ∙ unit_told d; surfaces = ap (λ told. (gathered_of told).surfaces) e ∙ surfaces_told d }
