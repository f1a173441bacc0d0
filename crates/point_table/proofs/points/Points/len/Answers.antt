use Rattle.std.proofs.Common.{sym, ◌∙◌}
use Rattle.point_table.proofs.Vertices.{len_is}
use Rattle.point_table.proofs.points.Points.len.Goals as goal

pub returns-clause-len : goal.returns-clause-len
returns-clause-len c = rw (← c.self.view_is) (c.len.ensures.len ∙ sym (len_is c.self.inside.index c.self.invariant))
