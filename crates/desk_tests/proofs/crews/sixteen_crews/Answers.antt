use Rattle.std.proofs.Common.{◌<◌, sym, ◌∙◌, subst}
use Rattle.turn_lock.proofs.Gathers.{same_all}
use Rattle.desk_tests.proofs.crews.sixteen_crews.Goals as goal

pub close-requires : goal.close-requires
close-requires g c =
    let opened = c.open_desk-desk in
    let planned = c.plan_in_threads-planned in
    let made = c.commit_in_threads-passes in
    let first = opened.result.1.ok.0 in
    let next = planned.result.ok.0 in
    let all = same_all opened.result.0 opened.result.1.items planned.result.items (sym next ∙ (planned.ensures.len ∙ first)) opened.ensures.all (λ i d low. planned.ensures.each i d (subst (λ n. i < n) (sym first) low)) in
    same_all opened.result.0 planned.result.items made.result.items (sym made.result.ok.0 ∙ (made.ensures.len ∙ next)) all (λ i d low. made.ensures.each i d (subst (λ n. i < n) (sym next) low))
