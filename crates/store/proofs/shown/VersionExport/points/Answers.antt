use Rattle.std.specs.FinMap as finmap
use Rattle.ground_model.specs.History.{content_of}
use Rattle.store.proofs.shown.VersionExport.points.Goals as goal

pub returns-clause-value : goal.returns-clause-value
returns-clause-value c = rw (c.points.ensures, c.surface.ensures.content, c.get.ensures, ← c.self.view_is) (finmap.len-entries (content_of c.self.inside.state.journal.entries).points)
