use Rattle.desk.proofs.desk.Desk.commit.Given as goal

abbrev pub ghosts-settle_plan : goal.ghosts-settle_plan
ghosts-settle_plan g a = record { name = a.blank.name; parts = a.blank.parts }
