use Rattle.mesh.specs.FlipRuns.{Flip}
use Rattle.mesh.specs.Net.{side}
use Rattle.ground_model.specs.declared.corner.Corner.TheVariants.{At}
use Rattle.point_edit.specs.Removals.{IsFlipAt}
use Rattle.point_edit.proofs.Degrees.{degree_falls}
use Rattle.point_edit.proofs.FlipCorners.{flip_corner}
use Rattle.point_edit.proofs.TakenOut.{flip_then}
use Rattle.point_edit.proofs.remove.flip_down.Goals as goal

pub loop-found-smaller : goal.loop-found-smaller
loop-found-smaller c =
    let old = c.loop-found.mesh.slots in
    let new = c.flip.new.self.slots in
    let found = c.in-Some.found in
    let step = c.in_ok-flip.ensures.flip in
    degree_falls (At c.args.point) old new found.slot (side found.corner) step.n c.loop-found.invariant.0.mesh c.in_ok-flip.ensures.sheet.mesh step.is (c.in-Some.ensures.corner.at step.is.tri step.is.here)

pub loop-found-preserved : goal.loop-found-preserved
loop-found-preserved c =
    let old = c.loop-found.mesh.slots in
    let new = c.flip.new.self.slots in
    let found = c.in-Some.found in
    let inv = c.loop-found.invariant in
    let done = c.in_ok-flip.ensures in
    let step = done.flip in
    let at = c.in-Some.ensures.corner.at step.is.tri step.is.here in
    let f : Flip = record { slot = found.slot; side = side found.corner; beyond = step.n } in
    let x : IsFlipAt (At c.args.point) old new f = record { is = step.is; at = at; free = c.in-Some.ensures.flip.uncounted step.is.tri step.is.here; sheet = done.sheet } in (
      done.sheet,
      flip_corner old new found.slot (side found.corner) step.n c.args.point inv.0.mesh step.is at,
      flip_then (At c.args.point) c.args.mesh.now c.loop-found.mesh c.flip.new.self c.args.script.now c.loop-found.script c.flip.new.script inv.2 f x done.turns step.named,
      (λ before. done.suspects (inv.3 before)),
    )
