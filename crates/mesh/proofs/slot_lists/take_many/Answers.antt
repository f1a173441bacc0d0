use Rattle.std.proofs.Common.{sym, subst, arith}
use Rattle.std.proofs.lemmas.Grind.{common_steps}
use Rattle.mesh.specs.SlotLists.{IsTakingMany}
use Rattle.mesh.proofs.SlotLists.{one_more_taken}
use Rattle.mesh.proofs.slot_lists.take_many.Goals as goal

pub loop-done-preserved : goal.loop-done-preserved
loop-done-preserved g c =
    let old = c.args.pages.now in
    let new = c.take_blank.new.pages in
    let slots = c.loop-done.slots.items in
    let longer = c.push.new.self.items in
    let is = c.in_ok-push.ensures.items in (
      subst (λ xs. IsTakingMany old new xs) (sym is) (one_more_taken old c.loop-done.pages new slots c.in_ok-slot.slot c.loop-done.invariant.0 c.in_ok-slot.ensures.taking),
      grind (arith, common_steps, is, c.loop-done.invariant.1),
      omega (arith, c.loop-done.invariant.2),
    )
