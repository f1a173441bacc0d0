use Rattle.std.proofs.Common.{◌≡◌, ◌≤◌, take, length}
use Rattle.page_index.specs.Parts.{joined}
use Rattle.page_index.proofs.node.count_of.Given as goal

abbrev pub invariant-loop-kid : goal.invariant-loop-kid
invariant-loop-kid g l = (l.total ≡ length (joined (take l.kid-index l.kid-items))) × (l.kid-index ≤ l.total)
