use Rattle.std.proofs.Common.{refl}
use Rattle.mesh.proofs.TurnedSlots.{by_side, chosen_is}
use Rattle.mesh.proofs.redirect.turned.Goals as goal

pub returns : goal.returns
returns c =
    let s = c.seen_from-seen.ensures in
    record {
      corners = refl;
      counts = refl;
      stamp = refl;
      beyond = by_side _
          (chosen_is _ _ _ _ c.args.from c.args.to c.args.next _ _ c.chosen-ab.result s.a s.b s.beyond_ab c.chosen-ab.ensures)
          (chosen_is _ _ _ _ c.args.from c.args.to c.args.next _ _ c.chosen-bc.result s.b s.c s.beyond_bc c.chosen-bc.ensures)
          (chosen_is _ _ _ _ c.args.from c.args.to c.args.next _ _ c.chosen-ca.result s.c s.a s.beyond_ca c.chosen-ca.ensures);
    }
