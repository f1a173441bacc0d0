use Rattle.mesh.proofs.mesh.Mesh.split.Given as goal

abbrev pub ghosts-split_slots : goal.ghosts-split_slots
ghosts-split_slots a = record { name = a.blank.name; parts = a.blank.parts }
