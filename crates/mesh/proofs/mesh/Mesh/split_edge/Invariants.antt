use Rattle.mesh.proofs.mesh.Mesh.split_edge.Given as goal

abbrev pub ghosts-split_edge_slots : goal.ghosts-split_edge_slots
ghosts-split_edge_slots a = record { name = a.blank.name; parts = a.blank.parts }
