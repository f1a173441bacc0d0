use Rattle.std.proofs.Common.{ap, sym, ◌∙◌}
use Rattle.std.specs.Prelude.{slice_get}
use Rattle.std.proofs.lemmas.List.Folds.{find_at}
use Rattle.landxml_write.specs.Exports.{comes_after}
use Rattle.store.proofs.shown.facet_after.Goals as goal

pub returns : goal.returns
returns c = c.facet_at.ensures ∙ ap (slice_get c.args.facets.now) c.index_after.ensures ∙ sym (find_at (comes_after c.args.after) c.args.facets.now)
