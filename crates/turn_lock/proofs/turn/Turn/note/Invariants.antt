use Rattle.turn_lock.proofs.turn.Turn.note.Given as goal

abbrev pub ghosts-note_entry : goal.ghosts-note_entry
ghosts-note_entry g a = record { entry = a.entry.now }
