use Rattle.std.proofs.Common.{ap, ◌∙◌}
use Rattle.ground_model.specs.Table.{with_line}
use Rattle.store.specs.Surfaces.{content_by}
use Rattle.store.proofs.Contents.{with_line-after}
use Rattle.store.proofs.Oks.{ok_as}
use Rattle.store.proofs.surface.Surface.with_line.Goals as goal

pub returns : goal.returns
returns c =
    ok_as _ _ _ (ap (content_by c.in_ok-same_points.field-0.entries) c.in_ok-lines_with.ensures ∙ c.in_ok-same_points.ensures.content (with_line (c.args.self.now.table) c.args.line) ∙ with_line-after c.args.self.now c.args.line) c.of.ensures
