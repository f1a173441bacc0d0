use Rattle.std.proofs.Common.{arith}
use Rattle.line_table.specs.ByPlace.{with_number}
use Rattle.line_table.proofs.Places.{changed-more, with_number-twice}
use Rattle.line_table.proofs.by_place.with_line.Goals as goal

pub loop-place-preserved : goal.loop-place-preserved
loop-place-preserved c =
    changed-more (with_number c.args.number) (with_number-twice c.args.number) c.args.places.now c.loop-place.place-index c.place-item.result c.args.index.now c.loop-place.more c.put_at.new.index (omega arith) c.place-item.is c.loop-place.invariant c.in_ok-put_at.ensures
