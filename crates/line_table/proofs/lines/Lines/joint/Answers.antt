use Rattle.std.proofs.Common.{◌∙◌}
use Rattle.line_table.proofs.Joined.{least_joint}
use Rattle.line_table.proofs.lines.Lines.joint.Goals as goal

pub returns-clause-pieces : goal.returns-clause-pieces
returns-clause-pieces c = λ points rest without apart on. c.joint_links.ensures ∙ least_joint rest points c.args.place c.args.self.now without apart on
