use Rattle.mesh.proofs.mesh.Mesh.empty.Given as goal

abbrev pub ghosts-far_pages : goal.ghosts-far_pages
ghosts-far_pages a = record { name = a.blank.name; parts = a.blank.parts }
