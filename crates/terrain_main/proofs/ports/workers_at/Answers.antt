use Rattle.std.proofs.Common.{◌≡◌, ◌+◌, refl, vec_len, arith}
use Rattle.terrain_main.proofs.Idle.{idle_more}
use Rattle.terrain_main.proofs.ports.workers_at.Goals as goal

pub loop-number-preserved : goal.loop-number-preserved
loop-number-preserved g c = record {
  count = omega (arith, c.in_ok-push.ensures.len, c.loop-number.invariant.count);
  idle = idle_more _ _ _ c.in_ok-push.ensures.items refl refl c.loop-number.invariant.idle;
}
