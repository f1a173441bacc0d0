use Rattle.std.proofs.Common.{ap, sym, subst}
use Rattle.mesh.specs.Acrosses.{IsInner, HasTwoApexes}
use Rattle.mesh.specs.Net.{side, after, corner_at}
use Rattle.mesh.specs.Recounts.{IsRecounted}
use Rattle.mesh.proofs.InSheets.{two_apexes}
use Rattle.mesh.proofs.StepSheets.{recount_sheet, places_inner, joined_places}
use Rattle.mesh.specs.Suspects.{AreSuspects}
use Rattle.mesh.proofs.StepSuspects.{recount_suspects}
use Rattle.mesh.proofs.mesh.Mesh.recount.Goals as goal

pub set_count-requires-clause-inner : goal.set_count-requires-clause-inner
set_count-requires-clause-inner c =
    let r = c.requires in
    let k = side c.args.edge in
    subst (λ ps. IsInner ps c.args.slot k) (sym (ap (λ m. m.slots) c.self.view_is))
    (places_inner c.args.self.now.slots r.sheet c.args.slot k (λ t e. joined_places (corner_at t k) (corner_at t (after k)) (r.places t e)))

pub set_count-requires-clause-two : goal.set_count-requires-clause-two
set_count-requires-clause-two c =
    subst (λ ps. HasTwoApexes ps c.args.slot (side c.args.edge)) (sym (ap (λ m. m.slots) c.self.view_is)) (two_apexes c.args.self.now.slots c.requires.sheet c.args.slot (side c.args.edge))

pub returns-clause-sheet : goal.returns-clause-sheet
returns-clause-sheet c =
    let r = c.requires in
    let new = c.set_count.new.pages in
    let s = c.args.slot in
    let k = side c.args.edge in
    let n = c.in_ok-beyond.beyond in
    let done = c.in_ok-beyond.ensures in
    recount_sheet c.args.self.now.slots new s k n c.args.count r.sheet done.mesh (subst (λ ps. IsRecounted ps new s k n c.args.count) (ap (λ m. m.slots) c.self.view_is) done.recounted)
    (λ t e. joined_places (corner_at t k) (corner_at t (after k)) (r.places t e))

pub returns-clause-suspects : goal.returns-clause-suspects
returns-clause-suspects c =
    let new = c.set_count.new.pages in
    let s = c.args.slot in
    let k = side c.args.edge in
    let n = c.in_ok-beyond.beyond in
    let done = c.in_ok-beyond.ensures in
    λ before. subst (λ l. AreSuspects new l) (sym c.in_ok-note_two.ensures)
    (recount_suspects c.args.self.now.slots new s k n c.args.count c.args.script.now done.mesh (subst (λ ps. IsRecounted ps new s k n c.args.count) (ap (λ m. m.slots) c.self.view_is) done.recounted) before)
