use Rattle.ground_model.specs.History.{content_of}
use Rattle.store.proofs.Exported.{lines-len}
use Rattle.store.proofs.shown.VersionExport.lines.Goals as goal

pub returns-clause-value : goal.returns-clause-value
returns-clause-value c = rw (c.len.ensures.len, c.lines.ensures, c.surface.ensures.content, c.get.ensures, ← c.self.view_is) (lines-len (content_of c.self.inside.state.journal.entries))
