use Rattle.std.proofs.Common.{◌≡◌, ◌≤◌, ◌++◌, List, ℕ, length, take}
use Rattle.std.specs.Io.KnownBytes.{Appends}
use Rattle.ground_io.specs.Order.{SendsAll}
use Rattle.line_protocol.specs.Replies.{lines_text, cut_text}
use Rattle.line_protocol.proofs.put.put_cuts.Given as goal

abbrev pub invariant-loop-cut : goal.invariant-loop-cut
invariant-loop-cut g l = record {
  room : length l.text ≤ 500;
  so_far : (written : List ℕ) × (written ++ l.text ≡ l.fn.text ++ lines_text (cut_text l.fn.origin) (take l.cut-index l.cuts)) × Appends (g.S.Sink.written l.fn.sink) (g.S.Sink.written l.sink) written
      × SendsAll (g.S.Sink.write_order l.fn.sink) (g.S.Sink.write_order l.sink) written;
  faults : g.S.Sink.write_faults l.sink ≡ g.S.Sink.write_faults l.fn.sink;
  rest : g.S.Sink.beside_writes l.sink ≡ g.S.Sink.beside_writes l.fn.sink;
}
