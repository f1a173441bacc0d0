use Rattle.turn_lock.specs.Setting.{setting}
use Rattle.terrain_main.proofs.FullLimits.{without_memory}
use Rattle.terrain_main.proofs.command.run_talk.Goals as goal

pub returns-in-Err-clause-talks : goal.returns-in-Err-clause-talks
returns-in-Err-clause-talks g c = without_memory _

pub returns-in-Ok-clause-talks : goal.returns-in-Ok-clause-talks
returns-in-Ok-clause-talks g c =
    let session = c.talk_over.ensures.session in
    record {
      set = setting c.in-Ok.store.journal;
      ground = c.in-Ok.ensures.0;
      end = c.talk_over.result;
      entries = session.0;
      is = c.of_session.ensures;
      session = rw c.in-Ok.ensures.1 at session.1;
    }
