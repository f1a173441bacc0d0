use Rattle.std.proofs.Common.{ap, ◌∙◌}
use Rattle.point_table.specs.Vertices.{levels_by}
use Rattle.point_table.proofs.Vertices.{none_is}
use Rattle.point_table.proofs.points.Points.empty.Goals as goal

pub returns : goal.returns
returns c = ap levels_by c.empty.ensures.empty ∙ none_is
