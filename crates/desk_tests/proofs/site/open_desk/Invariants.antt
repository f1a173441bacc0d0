use Rattle.desk_tests.proofs.site.open_desk.Given as goal

abbrev pub ghosts-add_all : goal.ghosts-add_all
ghosts-add_all g a = record { name = a.blank.name; parts = a.blank.parts }
