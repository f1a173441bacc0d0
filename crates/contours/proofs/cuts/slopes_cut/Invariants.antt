use Rattle.std.proofs.Common.{◌≡◌, take}
use Rattle.std.specs.List.{filter}
use Rattle.measures.proofs.Slots.{found_in}
use Rattle.contours.specs.Cuts.{is_cut}
use Rattle.contours.proofs.cuts.slopes_cut.Given as goal

abbrev pub invariant-loop-slot : goal.invariant-loop-slot
invariant-loop-slot g l = l.found.items ≡ filter (is_cut l.contour) (found_in (take l.slot (g.R.Relief.table l.relief)))
