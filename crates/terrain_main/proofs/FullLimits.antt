-- A session that never began, out of memory.
use Rattle.std.proofs.Common.{arith, ◌^◌, [], ◌∷◌, refl}
use Rattle.std.specs.Prelude.{codes}
use Rattle.ground_num.specs.Head.{plain_head}
use Rattle.ground_io.specs.Wires.{WireView}
use Rattle.turn_lock.proofs.Prefix.{prefix_refl}
use Rattle.turn_lock.specs.Setting.{Setting}
use Rattle.turn_lock.specs.declared.journal.Journal.{Journal}
use Rattle.ground_model.specs.declared.limits.Limits.{Limits}
use Rattle.session.specs.Alone.{added_none}
use Rattle.session.specs.declared.conversation.Ended.TheVariants as ended
use Rattle.session.proofs.Alone.{talk_of}
use Rattle.terrain_main.specs.declared.status.Status.TheVariants as statuses
use Rattle.terrain_main.specs.Commands.{RunsTalk}

full : Limits
full = record {
  points = 2 ^ 20;
  lines = 65535;
  places = 65536;
  vertices = 2 ^ 20;
  log = 2 ^ 24;
  points_in = omega arith;
  lines_in = omega arith;
  places_in = omega arith;
  vertices_in = omega arith;
  log_in = omega arith;
}

pub without_memory : (wire : WireView) → RunsTalk wire wire statuses.Memory
unfolding full
without_memory wire =
    let empty : Journal = record { head = plain_head (codes "ground"); limits = full; entries = [] } in
    let set : Setting = record { head = plain_head (codes "ground"); limits = full } in
    record {
      set = set;
      ground = record { head = refl; limits = record { points = refl; lines = refl; places = refl; vertices = refl; log = refl } };
      end = ended.Memory;
      entries = [];
      is = refl;
      session = talk_of 1 empty empty (2 ^ 40) wire wire (λ k x e. cc) ended.Memory (record {
        fronts = [];
        few = omega arith;
        finds = added_none (1 ∷ []) empty;
        added = record { prefix = prefix_refl empty; own = λ a is. refl };
        same = refl;
      });
    }
