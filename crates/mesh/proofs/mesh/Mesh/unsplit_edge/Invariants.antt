use Rattle.mesh.proofs.mesh.Mesh.unsplit_edge.Given as goal

abbrev pub ghosts-line_edge : goal.ghosts-line_edge
ghosts-line_edge a = record { name = a.blank.name; parts = a.blank.parts }

abbrev pub ghosts-unsplit_edge_slots : goal.ghosts-unsplit_edge_slots
ghosts-unsplit_edge_slots a = record { name = a.blank.name; parts = a.blank.parts }
