use Rattle.std.proofs.Common.{◌≡◌, ◌++◌, ◌∷◌, [], List, ap, ◌∙◌}
use Rattle.turn_lock.specs.Seat.{Seat}
use Rattle.desk_tests.proofs.Pairs.{pair-all}
use Rattle.desk_tests.proofs.rows.close_two.Goals as goal

pub close-requires : goal.close-requires
close-requires g c = record {
  all = pair-all c.args.desk c.args.a c.args.b c.join.result c.push_reserved.new.self.items c.requires.seats c.requires.desk.0 c.requires.numbers.0 c.requires.numbers.1 c.join.ensures.pass
      (c.push_reserved.ensures.items ∙ ap (λ (ps : List Seat). ps ++ c.join.result ∷ []) c.in-Ok.ensures.items);
}
