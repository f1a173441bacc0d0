use Rattle.mesh.proofs.mesh.Mesh.triangle.Given as goal

abbrev pub ghosts-triangle_on : goal.ghosts-triangle_on
ghosts-triangle_on a = record { name = a.blank.name; parts = a.blank.parts }
