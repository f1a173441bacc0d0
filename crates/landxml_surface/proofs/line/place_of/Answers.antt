use Rattle.landxml_surface.proofs.Vertices.{vertex-placed}
use Rattle.landxml_surface.proofs.line.place_of.Goals as goal

pub place_from-requires : goal.place_from-requires
place_from-requires c = vertex-placed c.args.origin.now c.args.surface.now c.args.vertex c.spot_at.result c.requires.placed c.spot_at.ensures
