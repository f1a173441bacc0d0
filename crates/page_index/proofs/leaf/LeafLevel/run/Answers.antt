use Rattle.std.proofs.Common.{◌-◌, length, drop, sym, ap, ◌∙◌, length-drop, take_all, arith}
use Rattle.page_index.specs.Pairs.{from_on}
use Rattle.page_index.proofs.Found.{ranked, front_is}
use Rattle.page_index.proofs.leaf.LeafLevel.run.Goals as goal

pub returns : goal.returns
returns g c =
    let xs = c.deref.result.now in
    let ys = c.deref-2.result.now in
    let same = c.deref.ensures.value ∙ sym c.deref-2.ensures.value in
    let cut = take_all (length ys - c.rank-k.result) (drop c.rank-k.result ys) (omega (arith, length-drop c.rank-k.result ys)) in
    front_is (from_on c.args.from c.args.self.now) _
    (ap (from_on c.args.from) (sym c.self.view_is ∙ sym c.deref.ensures.value) ∙ ranked c.args.from xs c.rank-k.result c.rank-k.ensures.below c.rank-k.ensures.rest ∙ ap (drop c.rank-k.result) same ∙ sym cut)
