use Rattle.std.proofs.Common.{ap, ◌∙◌}
use Rattle.ground_model.specs.Table.{without_line}
use Rattle.store.specs.Surfaces.{content_by}
use Rattle.store.proofs.Contents.{without_line-after}
use Rattle.store.proofs.Oks.{ok_as}
use Rattle.store.proofs.surface.Surface.without_line.Goals as goal

pub returns : goal.returns
returns c =
    ok_as _ _ _ (ap (content_by c.in_ok-same_points.field-0.entries) c.in_ok-lines_without.ensures ∙ c.in_ok-same_points.ensures.content (without_line (c.args.self.now.table) c.args.id.0) ∙ without_line-after c.args.self.now c.args.id) c.of.ensures
