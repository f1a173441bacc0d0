use Rattle.std.proofs.Common.{ap, sym, subst}
use Rattle.mesh.specs.Flips.{IsFlippable, IsFlipped}
use Rattle.mesh.specs.Net.{side}
use Rattle.mesh.proofs.InSheets.{two_apexes, convex_unjoined}
use Rattle.mesh.proofs.StepSheets.{flip_sheet}
use Rattle.mesh.specs.Suspects.{AreSuspects}
use Rattle.mesh.proofs.StepSuspects.{flip_suspects}
use Rattle.mesh.proofs.mesh.Mesh.flip.Goals as goal

pub flip_slots-requires-clause-flippable : goal.flip_slots-requires-clause-flippable
flip_slots-requires-clause-flippable c =
    let r = c.requires in
    let old = c.args.self.now.slots in
    let s = c.args.slot in
    let k = side c.args.edge in
    subst (λ ps. IsFlippable ps s k) (sym (ap (λ m. m.slots) c.self.view_is))
    (record { live = r.live; inner = r.inner; uncounted = r.uncounted; two = two_apexes old r.sheet s k; unjoined = convex_unjoined old r.sheet s k r.convex })

pub returns-clause-sheet : goal.returns-clause-sheet
returns-clause-sheet c =
    let r = c.requires in
    let new = c.flip_slots.new.pages in
    let s = c.args.slot in
    let k = side c.args.edge in
    let n = c.in_ok-beyond.beyond in
    let done = c.in_ok-beyond.ensures in
    flip_sheet c.args.self.now.slots new s k n r.sheet done.mesh (subst (λ ps. IsFlipped ps new s k n) (ap (λ m. m.slots) c.self.view_is) done.flipped) r.convex

pub returns-clause-suspects : goal.returns-clause-suspects
returns-clause-suspects c =
    let new = c.flip_slots.new.pages in
    let s = c.args.slot in
    let k = side c.args.edge in
    let n = c.in_ok-beyond.beyond in
    let done = c.in_ok-beyond.ensures in
    λ before. subst (λ l. AreSuspects new l) (sym c.in_ok-note_two.ensures)
    (flip_suspects c.args.self.now.slots new s k n c.args.script.now done.mesh (subst (λ ps. IsFlipped ps new s k n) (ap (λ m. m.slots) c.self.view_is) done.flipped) before)
