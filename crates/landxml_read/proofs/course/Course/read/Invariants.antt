use Rattle.std.proofs.Common.{◌≡◌, ◌+◌, ◌++◌, ℕ, List, take}
use Rattle.landxml_read.specs.Course.{HasTaken}
use Rattle.landxml_read.specs.Known.{IsKnown}
use Rattle.landxml_read.proofs.course.Course.read.Given as goal

abbrev pub invariant-loop-b : goal.invariant-loop-b
invariant-loop-b l = record {
  taken : (seen : List ℕ) → HasTaken seen l.initial.self → HasTaken (seen ++ take l.b-index l.piece) l.self;
  known : IsKnown l.self.standing l.self.tokens l.self.gathered;
  offset : l.self.standing.offset ≡ l.initial.self.standing.offset + l.b-index;
}
