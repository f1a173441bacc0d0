use Rattle.std.proofs.Common.{sym, ◌∙◌}
use Rattle.store.proofs.Contents.{len-content}
use Rattle.store.proofs.surface.Surface.points.Goals as goal

pub returns : goal.returns
returns c = rw (← c.self.view_is) (c.len.ensures.len ∙ sym (len-content c.self.inside.points.entries c.self.inside.lines c.self.invariant.sorted))
