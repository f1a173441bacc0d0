use Rattle.std.proofs.Common.{arith}
use Rattle.line_table.specs.ByPlace.{without_number}
use Rattle.line_table.proofs.Places.{changed-more, without_number-twice}
use Rattle.line_table.proofs.by_place.without_line.Goals as goal

pub loop-place-preserved : goal.loop-place-preserved
loop-place-preserved c =
    changed-more (without_number c.args.number) (without_number-twice c.args.number) c.args.places.now c.loop-place.place-index c.place-item.result c.args.index.now c.loop-place.rest c.take_at.new.index (omega arith) c.place-item.is c.loop-place.invariant c.in_ok-take_at.ensures
