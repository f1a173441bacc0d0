use Rattle.std.proofs.Common.{◌≡◌, take}
use Rattle.std.specs.Prelude.{filter_map}
use Rattle.landxml_surface.specs.Drafts.{vertex_place}
use Rattle.landxml_surface.proofs.line.places_of.Given as goal

abbrev pub invariant-loop-vertex : goal.invariant-loop-vertex
invariant-loop-vertex l = l.places.items ≡ filter_map (vertex_place l.origin l.surface) (take l.vertex-index l.line.vertices)
