use Rattle.std.proofs.Common.{◌≤◌, ◌^◌, length, sym, subst, ap, ◌∙◌, arith}
use Rattle.page_index.specs.Pairs.{IsInOrder, put}
use Rattle.page_index.proofs.Order.{put_in_order}
use Rattle.page_index.proofs.Kids.{put_there, part_length, set_length, set_fits}
use Rattle.page_index.proofs.node.Node.write.Goals as goal

pub overflow_sub-others : goal.overflow_sub-others
overflow_sub-others g c =
    let long = part_length c.args.key c.self.inside.kids.items c.place_of-k.result c.self.invariant.0 c.place_of-k.ensures c.index_mut-kid.result.now c.index_mut-kid.ensures.value in
    omega (arith, c.self.invariant.1, c.count.ensures.count, long)

pub set-requires : goal.set-requires
set-requires g c =
    let fits = subst (λ r. length (put c.args.key c.args.value r) ≤ 2 ^ 24) (sym c.self.view_is) c.requires.fits in record {
      clones = c.requires.clones;
      fits = set_fits c.args.key c.self.inside.kids.items c.place_of-k.result c.self.invariant.0 c.place_of-k.ensures c.index_mut-kid.result.now c.index_mut-kid.ensures.value c.args.value fits;
    }

pub invariant_of-self-2 : goal.invariant_of-self-2
invariant_of-self-2 g c =
    let kids = c.self.inside.kids.items in
    let x = c.index_mut-kid.result.now in
    let y = c.set.new.self in
    let done = put_there c.args.key kids c.place_of-k.result c.self.invariant.0 c.place_of-k.ensures x c.index_mut-kid.ensures.value c.args.value y c.in_ok-set.ensures.ok in
    let fits = subst (λ r. length (put c.args.key c.args.value r) ≤ 2 ^ 24) (sym c.self.view_is) c.requires.fits in
    let long = part_length c.args.key kids c.place_of-k.result c.self.invariant.0 c.place_of-k.ensures x c.index_mut-kid.ensures.value in
    let longer = set_length c.args.key kids c.place_of-k.result c.self.invariant.0 c.place_of-k.ensures x c.index_mut-kid.ensures.value y in (
      subst IsInOrder (sym done) (put_in_order c.args.key c.args.value _ c.self.invariant.0),
      omega (arith, c.self.invariant.1, c.count.ensures.count, c.count-2.ensures.count, long, longer),
      omega (arith, c.self.invariant.1, c.count.ensures.count, c.count-2.ensures.count, long, longer, fits, ap length done),
    )

pub returns-clause-ok : goal.returns-clause-ok
returns-clause-ok g c =
    put_there c.args.key c.self.inside.kids.items c.place_of-k.result c.self.invariant.0 c.place_of-k.ensures c.index_mut-kid.result.now c.index_mut-kid.ensures.value c.args.value c.set.new.self c.in_ok-set.ensures.ok
    ∙ ap (put c.args.key c.args.value) c.self.view_is
