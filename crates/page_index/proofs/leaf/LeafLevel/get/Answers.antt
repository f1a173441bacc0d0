use Rattle.std.proofs.Common.{sym, subst, ap, ◌∙◌}
use Rattle.page_index.specs.Pairs.{IsFoundAt, IsGapAt, value_of}
use Rattle.page_index.proofs.Found.{found_value, gap_value}
use Rattle.page_index.proofs.leaf.LeafLevel.get.Goals as goal

pub returns-in-Ok : goal.returns-in-Ok
returns-in-Ok g c =
    let f = subst (λ xs. IsFoundAt c.args.key xs c.in-Ok.k) c.deref.ensures.value c.in-Ok.ensures.found in
    sym (ap (value_of c.args.key) (sym c.self.view_is) ∙ found_value c.args.key c.self.inside.items.items c.in-Ok.k f c.index.result.now c.index.ensures)

pub returns-in-Err : goal.returns-in-Err
returns-in-Err g c =
    let f = subst (λ xs. IsGapAt c.args.key xs c.in-Err.field-0) c.deref.ensures.value c.in-Err.ensures.gap in
    sym (ap (value_of c.args.key) (sym c.self.view_is) ∙ gap_value c.args.key c.self.inside.items.items c.in-Err.field-0 f)
