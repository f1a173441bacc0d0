use Rattle.std.proofs.Common.{rules}
use Rattle.page_vec.proofs.Kids.{kid_there, item_there, item_read}
use Rattle.page_vec.proofs.node.NodePage.get.Goals as goal

pub index-kid-requires : goal.index-kid-requires
index-kid-requires g c =
    let h = kid_there c.self.invariant.0 g.met.P.Page.some_room c.args.self.now c.args.k c.room-room.result c.self.view_is c.requires c.room-room.ensures in
    search (rules, h)

pub get-requires : goal.get-requires
get-requires g c =
    let h = item_there c.self.invariant.0 g.met.P.Page.some_room c.args.self.now c.args.k c.room-room.result c.index-kid.result.now c.self.view_is c.requires c.room-room.ensures (search rules) in
    search (rules, h)

pub returns : goal.returns
returns g c =
    item_read c.self.invariant.0 g.met.P.Page.some_room c.args.self.now c.args.k c.room-room.result c.index-kid.result.now c.get.result.now c.self.view_is c.requires c.room-room.ensures (search rules) (search rules)
