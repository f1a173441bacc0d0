use Rattle.std.proofs.Common.{◌≡◌, Some, arith}
use Rattle.tri_pages.specs.Slots.{triangle_at}
use Rattle.mesh.specs.Stamps.{stamped}
use Rattle.mesh.proofs.FreedSlots.{wrote_one}
use Rattle.mesh.proofs.Slots.{live_real, holds_taken}
use Rattle.mesh.proofs.Stamps.{stamp_mesh, stamp_is}
use Rattle.mesh.proofs.stamp.stamp_slot.Goals as goal

pub returns : goal.returns
returns g c =
    let r = c.requires in
    let old = c.args.pages.now in
    let new = c.write.new.self in
    let s = c.args.slot in
    let front = c.args.front in
    let t = c.read_live-t.result in
    let here : triangle_at old s ≡ Some t = c.read_live-t.ensures.is in
    let real = live_real old s r.mesh.few r.live in
    let w = wrote_one old new s c.with_stamp-value.result (stamped t front) c.in_ok-write.ensures.ok c.with_stamp-value.ensures real (holds_taken old s t here) in
    record {
      mesh = stamp_mesh old new s front t r.mesh here real w;
      stamped = stamp_is old new s front t r.mesh here real w;
      cost = omega arith;
    }
