use Rattle.std.proofs.Common.{◌≡◌, ◌<◌, ◌++◌, List, length, sym, ap, ◌∙◌, subst, arith}
use Rattle.std.specs.List.{All, flat_map}
use Rattle.turn_lock.specs.Seat.{Seat, numbers_of, HasAll}
use Rattle.turn_lock.proofs.Gathers.{in_reach, first_removed, next_removed, none_left, remove_of_lock}
use Rattle.lock_tests.proofs.seats.join_all.Goals as goal

pub loop-left-init : goal.loop-left-init
loop-left-init g c =
    let some : 0 < c.len-left.result = let none = c.if-left-eq0.false in omega arith in
    let low = in_reach c.args.order c.len-left.result (length c.args.seats.items) (c.len-left.ensures ∙ c.args.seats.ok.0) some in
    let made = c.make_entries-all.ensures in
    let items = c.remove-first.ensures.items in
    let rest = first_removed c.args.lock.now c.args.seats.items _ c.remove-first.result c.make_entries-all.result low c.remove-first.ensures.value c.requires made.0 made.1 in
    record {
      left = c.len-left.ensures ∙ sym c.remove-first.ensures.len;
      table = rest.0;
      of_lock = subst (All (λ (s : Seat). s.table ≡ c.args.lock.now.table)) (sym items) rest.1;
      numbers = subst (λ (xs : List Seat). HasAll c.args.lock.now (numbers_of c.make_entries-all.result ++ flat_map numbers_of xs)) (sym items) rest.2;
    }

pub loop-left-preserved : goal.loop-left-preserved
loop-left-preserved g c =
    let kept = c.loop-left.invariant in
    let count = kept.left in
    let size = c.loop-left.seats.ok.0 in
    let more = c.loop-left-test.true in
    let after = c.remove-next.ensures.len in
    let items = c.remove-next.ensures.items in
    record {
      left = omega arith;
      table = ap (λ (s : Seat). s.table) c.join-all.ensures.seat ∙ kept.table;
      of_lock = subst (All (λ (s : Seat). s.table ≡ c.args.lock.now.table)) (sym items) (remove_of_lock c.args.lock.now c.loop-left.seats.items _ kept.of_lock);
      numbers = let low = in_reach _ _ (length c.loop-left.seats.items) (omega arith) (omega arith) in
          subst (λ (xs : List Seat). HasAll c.args.lock.now (numbers_of c.join-all.result ++ flat_map numbers_of xs)) (sym items)
          (next_removed c.args.lock.now c.loop-left.seats.items _ c.remove-next.result c.make_entries-next.result c.loop-left.all c.join-all.result low c.remove-next.ensures.value kept.numbers c.make_entries-next.ensures.1 c.join-all.ensures.seat);
    }

pub returns : goal.returns
returns g c =
    let kept = c.loop-left.invariant in
    let count = kept.left in
    let size = c.loop-left.seats.ok.0 in
    let done = c.loop-left-test.false in
    (kept.table, none_left c.args.lock.now c.loop-left.all c.loop-left.seats.items (omega arith) kept.numbers)
