use Rattle.std.proofs.Common.{◌+◌, sym, subst, arith}
use Rattle.mesh.specs.SlotLists.{IsGivingBack}
use Rattle.mesh.proofs.SlotLists.{one_more_given}
use Rattle.mesh.proofs.Slots.{holds_taken}
use Rattle.mesh.proofs.slot_lists.give_many.Goals as goal

pub loop-index-preserved : goal.loop-index-preserved
loop-index-preserved g c =
    let old = c.args.pages.now in
    let mid = c.loop-index.pages in
    let new = c.take_out.new.pages in
    let s = c.slot_at.result in
    let t = c.in_ok-t.t in
    let tri = c.in_ok-t.ensures.was in (
      subst (λ xs. IsGivingBack old new c.args.slots.now xs (c.loop-index.index + 1)) (sym c.in_ok-push.ensures.items)
          (one_more_given old mid new c.args.slots.now c.loop-index.was.items c.loop-index.index s t c.loop-index.invariant.0 c.requires.apart c.slot_at.ensures tri (holds_taken mid s t tri) c.in_ok-t.ensures.freed),
      omega (arith, c.loop-index.invariant.1),
    )
