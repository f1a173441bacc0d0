use Rattle.std.proofs.Common.{ap, sym, ◌∙◌}
use Rattle.std.specs.Prelude.{slice_get}
use Rattle.std.specs.FinMap as finmap
use Rattle.ground_model.specs.Place.{place_cmp}
use Rattle.store.proofs.surface.Surface.vertex.Goals as goal

pub returns : goal.returns
returns c = rw (← c.self.view_is) (c.vertex_at.ensures ∙ ap (λ es. slice_get es c.args.k) (sym (finmap.entries-from_sorted place_cmp c.self.inside.points.entries c.self.invariant.sorted)))
