use Rattle.std.proofs.Common.{◌≡◌, drop, slice_get}
use Rattle.page_index.specs.Parts.{joined}
use Rattle.page_index.proofs.node.NodeLevel.at.Given as goal

abbrev pub invariant-loop-kid : goal.invariant-loop-kid
invariant-loop-kid g l = slice_get (joined (drop l.kid-index l.kid-items)) l.rest ≡ slice_get l.self l.k
