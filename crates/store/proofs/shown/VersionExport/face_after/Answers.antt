use Rattle.ground_model.specs.History.{content_of}
use Rattle.store.proofs.Exported.{tri-order, face-after}
use Rattle.store.proofs.shown.VersionExport.face_after.Goals as goal

pub facet_after-requires : goal.facet_after-requires
facet_after-requires c = rw c.facets.ensures.value (tri-order c.surface-surface.result.now)

pub returns : goal.returns
returns c = rw (c.with_kept.ensures, c.facet_after.ensures, c.facets.ensures.value, c.lines.ensures, c.surface-surface.ensures.content, c.get.ensures, ← c.self.view_is) (face-after (content_of c.self.inside.state.journal.entries) c.args.after)
