use Rattle.std.proofs.Common.{take}
use Rattle.std.specs.List.{list_any}
use Rattle.ground_model.specs.Place.{is_same}
use Rattle.line_table.specs.ByPlace.{IsChangedAt, with_number}
use Rattle.line_table.proofs.by_place.with_line.Given as goal

abbrev pub invariant-loop-place : goal.invariant-loop-place
invariant-loop-place l = IsChangedAt (λ p. list_any (is_same p) (take l.place-index l.places)) (with_number l.number) l.index l.more
