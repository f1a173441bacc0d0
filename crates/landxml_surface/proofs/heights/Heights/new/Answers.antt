use Rattle.std.proofs.Common.{refl, ap}
use Rattle.std.specs.Map.{lookup}
use Rattle.landxml_surface.specs.Heights.{is_same_spot, marked}
use Rattle.landxml_surface.proofs.heights.Heights.new.Goals as goal

pub returns : goal.returns
unfolding marked
returns c = record { entries = c.new.ensures.empty; levels = λ p. ap (lookup (is_same_spot p)) c.new.ensures.empty; doubles = refl; clashes = refl }
