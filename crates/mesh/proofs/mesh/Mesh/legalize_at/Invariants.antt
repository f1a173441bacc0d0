use Rattle.mesh.proofs.mesh.Mesh.legalize_at.Given as goal

abbrev pub ghosts-due_edge : goal.ghosts-due_edge
ghosts-due_edge a = record { name = a.blank.name; parts = a.blank.parts }
