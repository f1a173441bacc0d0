use Rattle.trial.proofs.course.Course.commit.Given as goal

abbrev pub ghosts-commit_on : goal.ghosts-commit_on
ghosts-commit_on a = record { name = a.blank.name; parts = a.blank.parts }
