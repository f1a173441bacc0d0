use Rattle.std.proofs.Common.{◌<◌, sym, ◌∙◌, subst}
use Rattle.turn_lock.proofs.Gathers.{same_all}
use Rattle.desk_tests.proofs.crews.two_crews.Goals as goal

pub close-requires : goal.close-requires
close-requires g c =
    let opened = c.open_desk-desk in
    let size = opened.result.1.ok.0 in
    let added = c.add_in_threads-passes in
    same_all opened.result.0 opened.result.1.items added.result.items (sym added.result.ok.0 ∙ (added.ensures.len ∙ size)) opened.ensures.all (λ i d low. added.ensures.each i d (subst (λ n. i < n) (sym size) low))
