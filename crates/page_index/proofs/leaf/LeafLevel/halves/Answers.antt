use Rattle.std.proofs.Common.{◌-◌, ◌/◌, length, drop, sym, subst}
use Rattle.page_index.specs.Pairs.{IsInOrder}
use Rattle.page_index.proofs.Found.{in_order_front, in_order_back}
use Rattle.page_index.proofs.leaf.LeafLevel.halves.Goals as goal

pub of-requires-clause-order : goal.of-requires-clause-order
of-requires-clause-order g c = in_order_front c.deref.result.now (c.len-half.result / 2) (subst IsInOrder (sym c.deref.ensures.value) c.self.invariant.0)

pub of-requires-2-clause-order : goal.of-requires-2-clause-order
of-requires-2-clause-order g c =
    in_order_front (drop (c.len-half.result / 2) c.deref-2.result.now) (length c.deref-2.result.now - c.len-half.result / 2)
    (in_order_back c.deref-2.result.now (c.len-half.result / 2) (subst IsInOrder (sym c.deref-2.ensures.value) c.self.invariant.0))
