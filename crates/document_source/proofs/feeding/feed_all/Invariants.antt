use Rattle.std.proofs.Common.{◌≡◌, ◌-◌, ℕ, List}
use Rattle.std.specs.Io.KnownBytes.{Consumes}
use Rattle.document_source.specs.Feeding.{IsGoing}
use Rattle.document_source.specs.Reading.{longest}
use Rattle.document_source.proofs.feeding.feed_all.Given as goal

abbrev pub invariant-reading : goal.invariant-reading
invariant-reading g l = record {
  so_far : (seen : List ℕ) × Consumes (g.S.Source.left l.fn.source) (g.S.Source.left l.source) seen × IsGoing seen l.reader l.count;
  faults : g.S.Source.read_faults l.source ≡ g.S.Source.read_faults l.fn.source;
  rest : g.S.Source.beside_reads l.source ≡ g.S.Source.beside_reads l.fn.source;
}

abbrev pub decreases-reading : goal.decreases-reading
decreases-reading g l = longest - l.count
