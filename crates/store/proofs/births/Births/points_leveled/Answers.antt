use Rattle.std.proofs.Common.{◌≡◌, ◌≢◌, Some, ◌∙◌, rules}
use Rattle.ground_model.specs.Content.{level_of}
use Rattle.store.proofs.Born.{point-put, point-same}
use Rattle.store.proofs.Oks.{ok_map}
use Rattle.store.proofs.births.Births.points_leveled.Goals as goal

pub returns-then-eq : goal.returns-then-eq
returns-then-eq c =
    let same : level_of c.args.before.now c.args.place ≡ Some c.args.level = search rules in
    ok_map _ _ c.same_points.result (λ points is birth are p. is p ∙ point-same c.args.before.now c.args.front birth c.args.self.now are c.args.place c.args.level same p) c.same_points.ensures

pub returns-else-eq : goal.returns-else-eq
returns-else-eq c =
    let other : level_of c.args.before.now c.args.place ≢ Some c.args.level = search rules in
    ok_map _ _ c.points_with.result (λ points is birth are p. point-put c.args.before.now c.args.front birth c.args.self.now are c.args.place c.args.level points.entries other is p) c.points_with.ensures
