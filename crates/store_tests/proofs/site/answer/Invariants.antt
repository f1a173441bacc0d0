use Rattle.store_tests.proofs.site.answer.Given as goal

abbrev pub ghosts-take_turn : goal.ghosts-take_turn
ghosts-take_turn a = record { name = a.blank.name; parts = a.blank.parts }
