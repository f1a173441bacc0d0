use Rattle.mesh.proofs.mesh.Mesh.unsplit.Given as goal

abbrev pub ghosts-unsplit_slots : goal.ghosts-unsplit_slots
ghosts-unsplit_slots a = record { name = a.blank.name; parts = a.blank.parts }
