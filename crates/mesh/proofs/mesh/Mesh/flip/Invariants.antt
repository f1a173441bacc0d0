use Rattle.mesh.proofs.mesh.Mesh.flip.Given as goal

abbrev pub ghosts-flip_slots : goal.ghosts-flip_slots
ghosts-flip_slots a = record { name = a.blank.name; parts = a.blank.parts }
