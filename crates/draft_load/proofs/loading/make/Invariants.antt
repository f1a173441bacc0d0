use Rattle.draft_load.proofs.loading.make.Given as goal

abbrev pub ghosts-make_on : goal.ghosts-make_on
ghosts-make_on a = record { name = a.blank.name; parts = a.blank.parts }
