use Rattle.page_vec.proofs.tests.page_is_shared_until_one_of_its_entries_is_written.Given as goal

abbrev pub ghosts-change_log : goal.ghosts-change_log
ghosts-change_log _ a = record { name = a.blank.name; parts = a.blank.parts }
