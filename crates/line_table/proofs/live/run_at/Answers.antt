use Rattle.std.proofs.Common.{sym}
use Rattle.line_table.proofs.Ranks.{front_at, front_none}
use Rattle.line_table.proofs.live.run_at.Goals as goal

pub returns-in-Some : goal.returns-in-Some
returns-in-Some c = front_at c.args.lines.now c.run.result.now c.args.front _ c.len-count.ensures.order (sym c.in-Some.ensures.pair) c.run.ensures.front

pub returns-in-None : goal.returns-in-None
returns-in-None c = front_none c.args.lines.now c.args.front (sym c.in-None.ensures.pair)
