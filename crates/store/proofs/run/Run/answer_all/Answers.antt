use Rattle.std.proofs.Common.{◌+◌, ◌++◌, ap, arith, drop, ◌∙◌}
use Rattle.store.specs.Core.{core_from}
use Rattle.store.specs.Runs.{state_of}
use Rattle.store.proofs.Runs.{runs-on}
use Rattle.store.proofs.run.Run.answer_all.Goals as goal

pub loop-event-preserved : goal.loop-event-preserved
loop-event-preserved g c = record {
  run = c.in_ok-step.ensures.run;
  replies =
      ap (λ rs. rs ++ (core_from c.step.new.self.store.journal.limits (state_of c.step.new.self) (drop (c.loop-event.event-index + 1) c.args.events.now)).1) c.in_ok-push.ensures.items
      ∙ runs-on c.loop-event.self c.step.new.self c.args.events.now c.loop-event.event-index c.event-item.result c.loop-event.replies.items c.in_ok-step.field-0 (omega arith) c.event-item.is c.in_ok-step.ensures
      ∙ c.loop-event.invariant.replies;
}
