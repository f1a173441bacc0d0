use Rattle.mesh.proofs.mesh.Mesh.across.Given as goal

abbrev pub ghosts-across_on : goal.ghosts-across_on
ghosts-across_on a = record { name = a.blank.name; parts = a.blank.parts }
