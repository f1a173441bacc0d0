use Rattle.std.proofs.Common.{◌≡◌, ◌+◌, ◌-◌, ◌≤◌, ◌++◌, List, ℕ, length, take}
use Rattle.ground_model.specs.declared.entry.Entry.{Entry}
use Rattle.turn_lock.specs.Journal.{IsPrefix}
use Rattle.turn_lock.specs.Setting.{setting}
use Rattle.session.specs.Lines.{unfinished}
use Rattle.session.specs.Talking.{Output, start_at, Talking}
use Rattle.session.proofs.conversation.answer_bytes.Given as goal

abbrev pub invariant-loop-b : goal.invariant-loop-b
invariant-loop-b g l = record {
  room : length l.line + (length l.bytes - l.b-index) ≤ 131072;
  goes : (own : List ℕ)
      × (g.T.Turns.Finds l.fn.turns l.turns own)
      × ((first : List Entry) (front : ℕ) (seen fronts : List ℕ) (at_first : Output)
      → Talking (start_at (g.T.Turns.number l.fn.turns) (g.T.Turns.seen l.fn.turns) first front at_first) (g.T.Turns.seen l.fn.turns).entries (length l.fn.session.journal.entries) l.fn.session.pending (record { written = g.L.Sink.written l.fn.link; order = g.L.Sink.write_order l.fn.link }) fronts (seen ++ l.bytes) seen
      → unfinished seen ≡ l.fn.line
      → Talking (start_at (g.T.Turns.number l.fn.turns) (g.T.Turns.seen l.fn.turns) first front at_first) (g.T.Turns.seen l.turns).entries (length l.session.journal.entries) l.session.pending (record { written = g.L.Sink.written l.link; order = g.L.Sink.write_order l.link }) (fronts ++ own) (seen ++ l.bytes) (seen ++ take l.b-index l.bytes)
      × (unfinished (seen ++ take l.b-index l.bytes) ≡ l.line));
  ready : g.T.Turns.Ready l.turns;
  number : g.T.Turns.number l.turns ≡ g.T.Turns.number l.fn.turns;
  author : l.session.author ≡ l.fn.session.author;
  mine : l.session.author ≡ g.T.Turns.number l.turns;
  holds : IsPrefix l.session.journal (g.T.Turns.seen l.turns);
  stays : setting (g.T.Turns.seen l.turns) ≡ setting (g.T.Turns.seen l.fn.turns);
  faults : g.L.Sink.write_faults l.link ≡ g.L.Sink.write_faults l.fn.link;
  rest : g.L.Sink.beside_writes l.link ≡ g.L.Sink.beside_writes l.fn.link;
}
