use Rattle.std.proofs.Common.{set, ap, ◌∙◌}
use Rattle.page_index.specs.Parts.{joined}
use Rattle.page_index.proofs.Kids.{replaced}
use Rattle.page_index.proofs.node.replace.Goals as goal

pub returns : goal.returns
returns g c = ap (λ r. joined (set r c.args.k c.args.lower)) c.in_ok-insert.ensures.items ∙ replaced c.args.kids.now.items c.args.k c.args.lower c.args.upper c.requires.there c.requires.halves
