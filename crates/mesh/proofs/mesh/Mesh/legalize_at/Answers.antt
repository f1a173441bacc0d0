use Rattle.std.proofs.Common.{◌+◌, ap, sym, subst}
use Rattle.mesh.specs.FlipRuns.{OneFlip}
use Rattle.mesh.specs.Net.{side}
use Rattle.mesh.specs.Suspects.{AreSuspectsFrom, IsIllegalAt, IsDoneSlot}
use Rattle.mesh.proofs.LawsonFlips.{illegal_live, illegal_inner, illegal_uncounted, illegal_convex, lawson_flip, flipped_suspects}
use Rattle.mesh.proofs.Legality.{looked_at}
use Rattle.mesh.proofs.mesh.Mesh.legalize_at.Goals as goal

pub returns-in_default-clause-suspects : goal.returns-in_default-clause-suspects
returns-in_default-clause-suspects c =
    let r = c.requires in
    looked_at c.args.self.now.slots r.sheet.mesh c.args.script.now c.args.index c.slot_at-slot.result c.slot_at-slot.ensures
    (subst (λ ps. IsDoneSlot ps c.args.script.now (c.args.index + 1) c.slot_at-slot.result) (ap (λ m. m.slots) c.self.view_is) (c.in_default.ensures.done c.slot_at-slot.result c.slot_at-slot.ensures)) r.suspects

pub flip-requires-clause-live : goal.flip-requires-clause-live
flip-requires-clause-live c =
    let k = side c.in-Some.edge in
    illegal_live c.args.self.now.slots c.requires.sheet c.slot_at-slot.result k (subst (λ ps. IsIllegalAt ps c.slot_at-slot.result k) (ap (λ m. m.slots) c.self.view_is) (c.in-Some.ensures.illegal c.slot_at-slot.result c.slot_at-slot.ensures))

pub flip-requires-clause-uncounted : goal.flip-requires-clause-uncounted
flip-requires-clause-uncounted c =
    let k = side c.in-Some.edge in
    illegal_uncounted c.args.self.now.slots c.requires.sheet c.slot_at-slot.result k (subst (λ ps. IsIllegalAt ps c.slot_at-slot.result k) (ap (λ m. m.slots) c.self.view_is) (c.in-Some.ensures.illegal c.slot_at-slot.result c.slot_at-slot.ensures))

pub flip-requires-clause-inner : goal.flip-requires-clause-inner
flip-requires-clause-inner c =
    let k = side c.in-Some.edge in
    illegal_inner c.args.self.now.slots c.requires.sheet c.slot_at-slot.result k (subst (λ ps. IsIllegalAt ps c.slot_at-slot.result k) (ap (λ m. m.slots) c.self.view_is) (c.in-Some.ensures.illegal c.slot_at-slot.result c.slot_at-slot.ensures))

pub flip-requires-clause-convex : goal.flip-requires-clause-convex
flip-requires-clause-convex c =
    let k = side c.in-Some.edge in
    illegal_convex c.args.self.now.slots c.requires.sheet c.slot_at-slot.result k (subst (λ ps. IsIllegalAt ps c.slot_at-slot.result k) (ap (λ m. m.slots) c.self.view_is) (c.in-Some.ensures.illegal c.slot_at-slot.result c.slot_at-slot.ensures))

pub returns-clause-suspects : goal.returns-clause-suspects
returns-clause-suspects c =
    let old = c.args.self.now.slots in
    let new = c.flip.new.self.slots in
    let s = c.slot_at-slot.result in
    let step = c.in_ok-flip.ensures.flip in
    subst (λ l. AreSuspectsFrom new l (c.args.index + 1)) (sym step.named)
    (flipped_suspects old new s (side c.in-Some.edge) step.n c.args.script.now c.args.index c.in_ok-flip.ensures.sheet.mesh step.is c.slot_at-slot.ensures c.requires.suspects)

pub returns-clause-flip : goal.returns-clause-flip
returns-clause-flip c =
    let old = c.args.self.now.slots in
    let s = c.slot_at-slot.result in
    let k = side c.in-Some.edge in
    let done = c.in_ok-flip.ensures in
    OneFlip (record { slot = s; side = k; beyond = done.flip.n })
    (lawson_flip old c.requires.sheet s k (subst (λ ps. IsIllegalAt ps s k) (ap (λ m. m.slots) c.self.view_is) (c.in-Some.ensures.illegal c.slot_at-slot.result c.slot_at-slot.ensures)) c.flip.new.self.slots done.flip.n done.sheet done.flip.is) done.turns done.flip.named
