use Rattle.std.proofs.Common.{◌≡◌, take}
use Rattle.std.specs.List.{filter_map}
use Rattle.ground_model.specs.Contour.{cut_of}
use Rattle.contours.proofs.cuts.cuts_of.Given as goal

abbrev pub invariant-loop-slope : goal.invariant-loop-slope
invariant-loop-slope l = l.cuts.items ≡ filter_map (cut_of l.contour) (take l.slope-index l.slopes)
