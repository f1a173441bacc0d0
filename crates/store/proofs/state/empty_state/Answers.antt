use Rattle.store.proofs.Sound.{version-empty}
use Rattle.store.proofs.state.empty_state.Goals as goal

pub invariant_of-result : goal.invariant_of-result
invariant_of-result c =
    rw (c.in_ok-new.ensures, c.empty-3.ensures.empty, c.in_ok-new-2.ensures)
    (version-empty c.args.head c.args.limits _ _ c.requires c.in_ok-empty.ensures c.empty-2.ensures c.empty-4.ensures)
