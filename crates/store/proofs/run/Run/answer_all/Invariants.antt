use Rattle.std.proofs.Common.{◌≡◌, ◌++◌, drop}
use Rattle.store.specs.Core.{core_from}
use Rattle.store.specs.Runs.{state_of, IsRun}
use Rattle.store.proofs.run.Run.answer_all.Given as goal

abbrev pub invariant-loop-event : goal.invariant-loop-event
invariant-loop-event g l = record {
  run : IsRun l.self;
  replies : l.replies.items ++ (core_from l.self.store.journal.limits (state_of l.self) (drop l.event-index l.events)).1 ≡ (core_from l.fn.self.store.journal.limits (state_of l.fn.self) l.events).1;
}
