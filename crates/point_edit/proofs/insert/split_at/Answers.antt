use Rattle.std.proofs.Common.{subst}
use Rattle.point_edit.specs.Insertions.{IsNoCorner}
use Rattle.point_edit.proofs.insert.split_at.Goals as goal

pub unreachable-requires : goal.unreachable-requires
unreachable-requires c = subst IsNoCorner c.in-Corner.is c.requires.no_corner
