use Rattle.std.proofs.Common.{◌≡◌, ◌<◌, length, IsSome, sym, subst, ap, ◌∙◌, arith}
use Rattle.page_index.specs.Pairs.{IsInOrder, value_of, without}
use Rattle.page_index.specs.Parts.{joined}
use Rattle.page_index.proofs.Order.{without_in_order, without_fits}
use Rattle.page_index.proofs.Kids.{value_there, without_there, none_there, part_length, set_length, part_in_order, some_left, lone, taken_length, same_part}
use Rattle.page_index.proofs.node.Node.take_out.Goals as goal

pub overflow_sub-others : goal.overflow_sub-others
overflow_sub-others g c =
    let long = part_length c.args.key c.self.inside.kids.items c.place_of-k.result c.self.invariant.0 c.place_of-k.ensures c.index.result.now c.index.ensures in
    omega (arith, c.self.invariant.1, c.count-count.ensures.count, long)

pub invariant_of-self : goal.invariant_of-self
invariant_of-self g c =
    let kids = c.self.inside.kids.items in
    let k = c.place_of-k.result in
    let x = c.index.result.now in
    let found = subst IsSome (ap (value_of c.args.key) (sym c.self.view_is) ∙ value_there c.args.key kids k c.self.invariant.0 c.place_of-k.ensures x c.index.ensures) c.requires.there in
    let one : length x ≡ 1 = omega (arith, c.count-count.ensures.count, c.if-count-eq1.true) in
    let done = ap joined c.remove.ensures.items ∙ none_there c.args.key kids k c.self.invariant.0 c.place_of-k.ensures x c.index.ensures (lone c.args.key x one found) in
    let shorter = taken_length c.args.key kids k c.self.invariant.0 c.place_of-k.ensures x c.index.ensures in
    let long = ap (λ r. length (joined r)) c.remove.ensures.items in (
      subst IsInOrder (sym done) (without_in_order c.args.key (joined kids) c.self.invariant.0),
      omega (arith, c.self.invariant.1, c.count-count.ensures.count, shorter, long),
      omega (arith, c.self.invariant.2),
    )

pub returns-then-count-eq1-clause-ok : goal.returns-then-count-eq1-clause-ok
returns-then-count-eq1-clause-ok g c =
    let kids = c.self.inside.kids.items in
    let k = c.place_of-k.result in
    let x = c.index.result.now in
    let found = subst IsSome (ap (value_of c.args.key) (sym c.self.view_is) ∙ value_there c.args.key kids k c.self.invariant.0 c.place_of-k.ensures x c.index.ensures) c.requires.there in
    let one : length x ≡ 1 = omega (arith, c.count-count.ensures.count, c.if-count-eq1.true) in
    ap joined c.remove.ensures.items ∙ none_there c.args.key kids k c.self.invariant.0 c.place_of-k.ensures x c.index.ensures (lone c.args.key x one found) ∙ ap (without c.args.key) c.self.view_is

pub remove-requires-2-clause-there : goal.remove-requires-2-clause-there
remove-requires-2-clause-there g c =
    subst IsSome (ap (value_of c.args.key) (sym c.self.view_is) ∙ value_there c.args.key c.self.inside.kids.items c.place_of-k.result c.self.invariant.0 c.place_of-k.ensures c.index_mut-kid.result.now c.index_mut-kid.ensures.value) c.requires.there

pub remove-requires-2-clause-more : goal.remove-requires-2-clause-more
remove-requires-2-clause-more g c =
    let kids = c.self.inside.kids.items in
    let k = c.place_of-k.result in
    let x = c.index_mut-kid.result.now in
    let same = same_part c.args.key kids k c.self.invariant.0 c.place_of-k.ensures c.index.result.now x c.index.ensures c.index_mut-kid.ensures.value in
    let many : 1 < length x = omega (arith, ap length same, c.count-count.ensures.count, c.count-count.ensures.some, c.if-count-eq1.false) in
    some_left c.args.key x (part_in_order c.args.key kids k c.self.invariant.0 c.place_of-k.ensures x c.index_mut-kid.ensures.value) many

pub invariant_of-self-2 : goal.invariant_of-self-2
invariant_of-self-2 g c =
    let kids = c.self.inside.kids.items in
    let k = c.place_of-k.result in
    let x = c.index_mut-kid.result.now in
    let y = c.remove-2.new.self in
    let same = same_part c.args.key kids k c.self.invariant.0 c.place_of-k.ensures c.index.result.now x c.index.ensures c.index_mut-kid.ensures.value in
    let done = without_there c.args.key kids k c.self.invariant.0 c.place_of-k.ensures x c.index_mut-kid.ensures.value y c.in_ok-remove.ensures.ok in
    let long = part_length c.args.key kids k c.self.invariant.0 c.place_of-k.ensures x c.index_mut-kid.ensures.value in
    let longer = set_length c.args.key kids k c.self.invariant.0 c.place_of-k.ensures x c.index_mut-kid.ensures.value y in
    let few = without_fits (length (joined kids)) c.args.key (joined kids) (omega arith) in (
      subst IsInOrder (sym done) (without_in_order c.args.key (joined kids) c.self.invariant.0),
      omega (arith, c.self.invariant.1, c.count-count.ensures.count, ap length same, c.count.ensures.count, long, longer),
      omega (arith, c.self.invariant.1, c.self.invariant.2, c.count-count.ensures.count, ap length same, c.count.ensures.count, long, longer, few, ap length done),
    )

pub returns-clause-ok : goal.returns-clause-ok
returns-clause-ok g c =
    without_there c.args.key c.self.inside.kids.items c.place_of-k.result c.self.invariant.0 c.place_of-k.ensures c.index_mut-kid.result.now c.index_mut-kid.ensures.value c.remove-2.new.self c.in_ok-remove.ensures.ok
    ∙ ap (without c.args.key) c.self.view_is
