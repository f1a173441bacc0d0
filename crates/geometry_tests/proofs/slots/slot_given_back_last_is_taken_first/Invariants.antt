use Rattle.geometry_tests.proofs.slots.slot_given_back_last_is_taken_first.Given as goal

abbrev pub ghosts-go_round : goal.ghosts-go_round
ghosts-go_round _ a = record { name = a.blank.name; parts = a.blank.parts }
