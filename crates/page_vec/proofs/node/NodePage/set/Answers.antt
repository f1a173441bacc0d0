use Rattle.std.proofs.Common.{rules, ◌/◌, length, sym, ap, ◌∙◌, length-set}
use Rattle.page_vec.proofs.Kids.{kid_there, item_there, item_put, kept, packed}
use Rattle.page_vec.proofs.node.NodePage.set.Goals as goal

pub index_mut-requires : goal.index_mut-requires
index_mut-requires g c =
    let h = kid_there c.self.invariant.0 g.met.P.Page.some_room c.args.self.now c.args.k c.room-room.result c.self.view_is c.requires.there c.room-room.ensures in
    search (rules, h)

pub write_kid-requires-clause-there : goal.write_kid-requires-clause-there
write_kid-requires-clause-there g c =
    let h = item_there c.self.invariant.0 g.met.P.Page.some_room c.args.self.now c.args.k c.room-room.result c.index_mut.result.now c.self.view_is c.requires.there c.room-room.ensures (search rules) in
    search (rules, h)

pub invariant_of-self : goal.invariant_of-self
invariant_of-self g c =
    let there = kid_there c.self.invariant.0 g.met.P.Page.some_room c.args.self.now c.args.k c.room-room.result c.self.view_is c.requires.there c.room-room.ensures in
    let same = kept c.self.invariant.0 c.args.self.now (c.args.k / c.room-room.result) c.index_mut.result.now c.write_kid.new.kid c.self.view_is there (search rules) c.in_err-write_kid.ensures.err in
    let whole = packed c.self.invariant.0 (c.args.k / c.room-room.result) c.index_mut.result.now c.write_kid.new.kid there (search rules) (ap length c.in_err-write_kid.ensures.err) in
    (whole, c.self.invariant.1 ∙ ap length (c.self.view_is ∙ sym same), c.self.invariant.2)

pub returns-in_err-write_kid-clause-err : goal.returns-in_err-write_kid-clause-err
returns-in_err-write_kid-clause-err g c =
    let there = kid_there c.self.invariant.0 g.met.P.Page.some_room c.args.self.now c.args.k c.room-room.result c.self.view_is c.requires.there c.room-room.ensures in
    let same = kept c.self.invariant.0 c.args.self.now (c.args.k / c.room-room.result) c.index_mut.result.now c.write_kid.new.kid c.self.view_is there (search rules) c.in_err-write_kid.ensures.err in
    search (rules, same)

pub invariant_of-self-2 : goal.invariant_of-self-2
invariant_of-self-2 g c =
    let there = kid_there c.self.invariant.0 g.met.P.Page.some_room c.args.self.now c.args.k c.room-room.result c.self.view_is c.requires.there c.room-room.ensures in
    let done = item_put c.self.invariant.0 g.met.P.Page.some_room c.args.self.now c.args.k c.room-room.result c.index_mut.result.now c.write_kid.new.kid c.args.value c.self.view_is c.requires.there c.room-room.ensures (search rules) c.in_ok-write_kid.ensures.ok in
    let whole = packed c.self.invariant.0 (c.args.k / c.room-room.result) c.index_mut.result.now c.write_kid.new.kid there (search rules) (ap length c.in_ok-write_kid.ensures.ok ∙ length-set _ _ _) in
    (whole, c.self.invariant.1 ∙ ap length c.self.view_is ∙ sym (length-set c.args.self.now c.args.k c.args.value) ∙ ap length (sym done), c.self.invariant.2)

pub returns-clause-ok : goal.returns-clause-ok
returns-clause-ok g c =
    item_put c.self.invariant.0 g.met.P.Page.some_room c.args.self.now c.args.k c.room-room.result c.index_mut.result.now c.write_kid.new.kid c.args.value c.self.view_is c.requires.there c.room-room.ensures (search rules) c.in_ok-write_kid.ensures.ok
