use Rattle.std.proofs.Common.{sym}
use Rattle.store.proofs.Contents.{points_of-content}
use Rattle.store.proofs.Oks.{ok_by}
use Rattle.store.proofs.surface.Surface.places.Goals as goal

pub returns : goal.returns
returns c = rw (← c.self.view_is) (ok_by (λ places. places.items) _ _ _ (sym (points_of-content c.self.inside.points.entries c.self.inside.lines c.self.invariant.sorted)) c.places_of.ensures.value)
