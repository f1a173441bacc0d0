use Rattle.std.proofs.Common.{rules}
use Rattle.turn_lock.specs.Seat.{fresh_seat}
use Rattle.serve.proofs.Surfaces.{of-desk, all-there, last-all, serves}
use Rattle.serve.proofs.surface.serve_surface.Goals as goal

pub serve_all-requires : goal.serve_all-requires
serve_all-requires g c = (search rules, (search rules, (search rules, (search rules, of-desk c.in-Ok.desk c.in-Ok.passes.items c.args.workers.now c.give_passes.new.workers c.in-Ok.ensures.passes c.in-Ok.ensures.desk.1 c.give_passes.ensures))))

pub take_passes-passes-requires-clause-there : goal.take_passes-passes-requires-clause-there
take_passes-passes-requires-clause-there g c = all-there g.D.Door.coming g.D.Door.back g.D.Door.out g.D.Door.sessions g.D.Door.accept_faults c.args.budget c.args.workers.now c.give_passes.new.workers c.serve_all.new.workers c.in-Ok.passes.items c.give_passes.ensures c.serve_all.auto.workers c.serve_all.ensures (fresh_seat c.in-Ok.desk.table c.in-Ok.desk.opening 0)

pub close-store-requires : goal.close-store-requires
close-store-requires g c = record {
  all = last-all g.D.Door.coming g.D.Door.back g.D.Door.out g.D.Door.sessions g.D.Door.accept_faults c.args.budget c.args.workers.now c.give_passes.new.workers c.serve_all.new.workers c.in-Ok.passes.items c.give_passes.ensures c.serve_all.auto.workers c.serve_all.ensures
      c.take_passes-passes.new.workers c.take_passes-passes.result.items c.take_passes-passes.ensures c.in-Ok.desk c.in-Ok.ensures.passes c.in-Ok.ensures.desk.1;
}

pub returns-clause-ok : goal.returns-clause-ok
returns-clause-ok g c =
    serves g.D.Door.coming g.D.Door.back g.D.Door.out g.D.Door.sessions g.D.Door.accept_faults c.args.budget c.args.workers.now c.give_passes.new.workers c.serve_all.new.workers c.in-Ok.passes.items c.give_passes.ensures c.serve_all.auto.workers c.serve_all.ensures
    c.take_passes-passes.new.workers c.take_passes-passes.result.items c.take_passes-passes.ensures c.in-Ok.desk c.args.store.journal c.close-store.result.journal c.in-Ok.ensures.desk.0 c.in-Ok.ensures.passes c.in-Ok.ensures.desk.1 c.close-store.ensures.store c.front-front.ensures.legal
