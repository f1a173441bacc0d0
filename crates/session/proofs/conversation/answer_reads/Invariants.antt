use Rattle.std.proofs.Common.{◌≡◌, ◌+◌, ◌<◌, ◌≤◌, ◌∷◌, [], List, ℕ, length}
use Rattle.std.specs.List.{All}
use Rattle.std.specs.Io.KnownBytes.{Consumes}
use Rattle.turn_lock.specs.declared.journal.Journal.{Journal}
use Rattle.turn_lock.specs.Journal.{IsPrefix, OthersAdded}
use Rattle.turn_lock.specs.Setting.{setting}
use Rattle.session.specs.Lines.{ended, unfinished}
use Rattle.session.specs.Talk.{line_limit}
use Rattle.session.specs.Talking.{start_at, Talking}
use Rattle.session.proofs.conversation.answer_reads.Given as goal

abbrev pub invariant-reading : goal.invariant-reading
invariant-reading g l = record {
  so_far : (own : List ℕ)
      × (g.T.Turns.Finds l.fn.turns l.turns own)
      × (seen : List ℕ)
      × ((first : Journal) → OthersAdded (g.T.Turns.number l.fn.turns ∷ []) first (g.T.Turns.seen l.fn.turns)
      → Talking (start_at (g.T.Turns.number l.fn.turns) (g.T.Turns.seen l.fn.turns) first.entries (length (g.T.Turns.seen l.fn.turns).entries) (record { written = g.L.Sink.written l.fn.link; order = g.L.Sink.write_order l.fn.link })) (g.T.Turns.seen l.turns).entries (length l.session.journal.entries) l.session.pending (record { written = g.L.Sink.written l.link; order = g.L.Sink.write_order l.link }) own seen seen)
      × Consumes (g.L.Source.left l.fn.link) (g.L.Source.left l.link) seen
      × (unfinished seen ≡ l.line)
      × (length seen + l.left ≡ l.fn.budget)
      × All (λ (line : List ℕ). length line < line_limit) (ended seen);
  fits : length l.line ≤ line_limit;
  ready : g.T.Turns.Ready l.turns;
  number : g.T.Turns.number l.turns ≡ g.T.Turns.number l.fn.turns;
  author : l.session.author ≡ g.T.Turns.number l.fn.turns;
  holds : IsPrefix l.session.journal (g.T.Turns.seen l.turns);
  stays : setting (g.T.Turns.seen l.turns) ≡ setting (g.T.Turns.seen l.fn.turns);
  reads : g.L.Source.read_faults l.link ≡ g.L.Source.read_faults l.fn.link;
  names : g.L.Link.names l.link ≡ g.L.Link.names l.fn.link;
  writes : g.L.Sink.write_faults l.link ≡ g.L.Sink.write_faults l.fn.link;
}

abbrev pub decreases-reading : goal.decreases-reading
decreases-reading g l = l.left
