use Rattle.std.proofs.Common.{◌∙◌}
use Rattle.store.proofs.Contents.{surface_empty, seen_empty}
use Rattle.store.proofs.surface.Surface.empty.Goals as goal

pub invariant_of-result : goal.invariant_of-result
invariant_of-result c = surface_empty _ _ _ _ c.new-3.ensures.empty c.empty.ensures (c.in_ok-facets.ensures ∙ c.from_vec.ensures ∙ c.new.ensures.items) c.no_slopes.ensures

pub returns : goal.returns
returns c = seen_empty _ _ c.new-3.ensures.empty c.empty.ensures
