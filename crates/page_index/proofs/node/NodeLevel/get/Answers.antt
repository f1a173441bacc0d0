use Rattle.std.proofs.Common.{sym, ap, ◌∙◌}
use Rattle.page_index.specs.Pairs.{value_of}
use Rattle.page_index.proofs.Kids.{value_there}
use Rattle.page_index.proofs.node.NodeLevel.get.Goals as goal

pub returns : goal.returns
returns g c =
    c.get.ensures ∙ ap (value_of c.args.key) c.page.ensures
    ∙ sym (ap (value_of c.args.key) (sym c.self.view_is) ∙ value_there c.args.key c.self.inside.kids.items c.place_of-k.result c.self.invariant.0 c.place_of-k.ensures c.index.result.now c.index.ensures)
