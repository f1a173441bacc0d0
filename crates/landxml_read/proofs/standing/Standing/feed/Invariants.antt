use Rattle.std.proofs.Common.{◌≡◌, ◌+◌, ◌++◌, ℕ, List, take}
use Rattle.landxml_read.specs.Outline.{StandsAt}
use Rattle.landxml_read.proofs.standing.Standing.feed.Given as goal

abbrev pub invariant-loop-b : goal.invariant-loop-b
invariant-loop-b l = record {
  stands : (seen : List ℕ) → StandsAt seen l.initial.standing → StandsAt (seen ++ take l.b-index l.piece) l.standing;
  offset : l.standing.offset ≡ l.initial.standing.offset + l.b-index;
}
