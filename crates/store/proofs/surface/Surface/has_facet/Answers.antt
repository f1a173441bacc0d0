use Rattle.std.proofs.Common.{ap, ◌∙◌}
use Rattle.std.specs.Prelude.{is_some}
use Rattle.store.proofs.Born.{is_facet-placed}
use Rattle.store.proofs.surface.Surface.has_facet.Goals as goal

pub returns : goal.returns
returns c = c.is_some.ensures ∙ ap is_some c.index_of.ensures ∙ is_facet-placed c.args.self.now c.args.facet.now
