use Rattle.line_table.proofs.Rows.{line_ends}
use Rattle.line_table.proofs.pieces.find_ends_on.Goals as goal

pub returns : goal.returns
returns c = line_ends c.args.later.now c.args.p c.args.line.now c.gather_ends_on.new.ends.items c.order.new.places.items c.in_ok-gather_ends_on.ensures c.order.ensures.each c.order.ensures.in_order
