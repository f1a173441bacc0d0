use Rattle.store.proofs.state.State.entry.Given as goal

abbrev pub ghosts-entry_on : goal.ghosts-entry_on
ghosts-entry_on a = record { name = a.blank.name; parts = a.blank.parts }
