use Rattle.store.specs.Core.{first_state, core, core_from}
use Rattle.store.specs.Runs.{state_of}
use Rattle.store.proofs.Oks.{ok_by}
use Rattle.store.proofs.run.run_core.Goals as goal

pub returns : goal.returns
unfolding core
returns c =
    ok_by (λ replies. replies.items) c.run_counted.result (core_from c.in_ok-run.run'.store.journal.limits (state_of c.in_ok-run.run') c.args.events.now).1 (core_from c.args.limits first_state c.args.events.now).1
    (λ i. (core_from (c.in_ok-run.ensures.limits i) (c.in_ok-run.ensures.state i) c.args.events.now).1) c.run_counted.ensures
