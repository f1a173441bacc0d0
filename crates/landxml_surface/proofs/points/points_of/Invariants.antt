use Rattle.std.proofs.Common.{◌≡◌, take}
use Rattle.std.specs.Prelude.{map}
use Rattle.landxml_surface.specs.Drafts.{point_of}
use Rattle.landxml_surface.proofs.points.points_of.Given as goal

abbrev pub invariant-loop-k : goal.invariant-loop-k
invariant-loop-k l = l.points.items ≡ map (point_of l.origin) (take l.k l.heights.levels.entries)
