use Rattle.std.proofs.Common.{ap, sym, ◌∙◌}
use Rattle.ground_model.specs.Content.{after}
use Rattle.store.specs.Births.{renewed_point}
use Rattle.store.proofs.Born.{point-out, point-lines, set-point, line-points, unline-points}
use Rattle.store.proofs.Oks.{ok_map}
use Rattle.store.proofs.births.Births.points_after.Goals as goal

pub returns-in-AddPoint : goal.returns-in-AddPoint
returns-in-AddPoint c = ok_map _ _ c.points_leveled.result (λ points is birth are p. is birth are p ∙ ap (λ e. renewed_point c.args.before.now e c.args.front birth p) (sym c.in-AddPoint.is)) c.points_leveled.ensures

pub returns-in-RemovePoint : goal.returns-in-RemovePoint
returns-in-RemovePoint c = ok_map _ _ c.points_without.result (λ points is birth are p. point-out c.args.before.now c.args.front birth c.args.self.now are c.in-RemovePoint.place points.entries is p ∙ ap (λ e. renewed_point c.args.before.now e c.args.front birth p) (sym c.in-RemovePoint.is)) c.points_without.ensures

pub returns-in-SetLevel : goal.returns-in-SetLevel
returns-in-SetLevel c = ok_map _ _ c.points_leveled-in-SetLevel.result (λ points is birth are p. is birth are p ∙ set-point c.args.before.now c.in-SetLevel.place c.in-SetLevel.level c.args.front birth p ∙ ap (λ e. renewed_point c.args.before.now e c.args.front birth p) (sym c.in-SetLevel.is)) c.points_leveled-in-SetLevel.ensures

pub returns-in-AddLine : goal.returns-in-AddLine
returns-in-AddLine c = ok_map _ _ c.same_points.result (λ points is birth are p. is p ∙ point-lines c.args.before.now c.args.front birth c.args.self.now are c.args.edit.now (ap (λ e. (after c.args.before.now e).points) c.in-AddLine.is ∙ line-points c.args.before.now _ _) p) c.same_points.ensures

pub returns-in-RemoveLine : goal.returns-in-RemoveLine
returns-in-RemoveLine c = ok_map _ _ c.same_points-in-RemoveLine.result (λ points is birth are p. is p ∙ point-lines c.args.before.now c.args.front birth c.args.self.now are c.args.edit.now (ap (λ e. (after c.args.before.now e).points) c.in-RemoveLine.is ∙ unline-points c.args.before.now _) p) c.same_points-in-RemoveLine.ensures
