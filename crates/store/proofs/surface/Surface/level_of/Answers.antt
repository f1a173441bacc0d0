use Rattle.std.proofs.Common.{sym, ◌∙◌}
use Rattle.store.proofs.Contents.{level_of-content}
use Rattle.store.proofs.surface.Surface.level_of.Goals as goal

pub returns : goal.returns
returns c = rw (← c.self.view_is) (c.copied.ensures ∙ c.get.ensures.value ∙ sym (level_of-content c.self.inside.points.entries c.self.inside.lines c.self.invariant.sorted c.args.place))
