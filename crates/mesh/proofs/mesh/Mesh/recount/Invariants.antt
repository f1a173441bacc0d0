use Rattle.mesh.proofs.mesh.Mesh.recount.Given as goal

abbrev pub ghosts-set_count : goal.ghosts-set_count
ghosts-set_count a = record { name = a.blank.name; parts = a.blank.parts }
