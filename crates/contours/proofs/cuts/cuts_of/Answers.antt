use Rattle.std.proofs.Common.{arith}
use Rattle.std.proofs.lemmas.Grind.{common_steps}
use Rattle.std.proofs.lemmas.List.Elements.{filter_map-append}
use Rattle.contours.proofs.cuts.cuts_of.Goals as goal

pub loop-slope-preserved : goal.loop-slope-preserved
loop-slope-preserved c = grind (arith, common_steps, filter_map-append)
