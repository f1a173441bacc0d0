use Rattle.std.proofs.Common.{length, sym, ap, ◌∙◌}
use Rattle.std.specs.Arc.{arc_value}
use Rattle.page_vec.proofs.Pieces.{zipped, packed_zipped, loose}
use Rattle.page_vec.proofs.node.Node.shared.Goals as goal

pub invariant_of-result : goal.invariant_of-result
invariant_of-result g c =
    let same = loose (λ x. arc_value x) g.P.Page.list c.self.inside.kids.items c.in_ok-clone.field-0.items c.in_ok-clone.ensures.cases.0 in
    (packed_zipped _ _ _ _ same c.self.invariant.0, c.self.invariant.1 ∙ ap length (sym (zipped _ _ _ same)), c.self.invariant.2)

pub returns : goal.returns
returns g c =
    let same = loose (λ x. arc_value x) g.P.Page.list c.self.inside.kids.items c.in_ok-clone.field-0.items c.in_ok-clone.ensures.cases.0 in
    zipped _ _ _ same ∙ c.self.view_is
