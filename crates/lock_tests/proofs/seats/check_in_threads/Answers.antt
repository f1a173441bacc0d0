use Rattle.std.proofs.Common.{◌∙◌, sym, subst, ◌<◌}
use Rattle.turn_lock.proofs.Gathers.{same_all}
use Rattle.lock_tests.proofs.seats.check_in_threads.Goals as goal

pub join_all-requires : goal.join_all-requires
join_all-requires g c =
    let made = c.make_in_threads-made in
    let all = c.new_lock-lock.result.1 in
    let len = sym made.result.ok.0 ∙ (made.ensures.len ∙ all.ok.0) in
    same_all c.new_lock-lock.result.0 all.items made.result.items len c.new_lock-lock.ensures (λ i d low. made.ensures.each i d (subst (λ n. i < n) (sym all.ok.0) low))
