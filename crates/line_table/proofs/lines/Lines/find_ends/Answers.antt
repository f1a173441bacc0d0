use Rattle.ground_model.specs.Table.{live}
use Rattle.line_table.proofs.Rows.{all_ends}
use Rattle.line_table.proofs.lines.Lines.find_ends.Goals as goal

pub returns : goal.returns
returns c = all_ends c.args.later.now c.args.p (live c.args.self.now) c.gather_ends.new.ends.items c.order.new.places.items c.in_ok-gather_ends.ensures c.order.ensures.each c.order.ensures.in_order
