use Rattle.desk.proofs.desk.Desk.apply.Given as goal

abbrev pub ghosts-settle_edit : goal.ghosts-settle_edit
ghosts-settle_edit g a = record { name = a.blank.name; parts = a.blank.parts }
