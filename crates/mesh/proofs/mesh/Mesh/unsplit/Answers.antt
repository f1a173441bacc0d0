use Rattle.std.proofs.Common.{ap, sym, subst}
use Rattle.mesh.specs.Net.{side, after}
use Rattle.mesh.specs.Unsplits.{IsUnsplit}
use Rattle.mesh.proofs.StepSheets.{unsplit_sheet, round_same}
use Rattle.mesh.specs.Suspects.{AreSuspects}
use Rattle.mesh.proofs.StepSuspects.{unsplit_suspects}
use Rattle.mesh.proofs.mesh.Mesh.unsplit.Goals as goal

pub returns-clause-sheet : goal.returns-clause-sheet
returns-clause-sheet c =
    let r = c.requires in
    let old = c.args.self.now.slots in
    let new = c.unsplit_slots.new.pages in
    let s = c.args.slot in
    let k = after (side c.args.corner) in
    let freed = c.in_ok-_freed._freed in
    let done = c.in_ok-_freed.ensures in
    let view = ap (λ m. m.slots) c.self.view_is in
    let is = subst (λ x. x) (λ i. IsUnsplit (view i) new s (c.edge_after.ensures.after i) freed.ahead freed.before) done.unsplit in
    unsplit_sheet old new s k freed.ahead freed.before r.sheet done.mesh is (round_same old new s k freed.ahead freed.before r.unsplittable is)

pub returns-clause-suspects : goal.returns-clause-suspects
returns-clause-suspects c =
    let new = c.unsplit_slots.new.pages in
    let s = c.args.slot in
    let freed = c.in_ok-_freed._freed in
    let done = c.in_ok-_freed.ensures in
    let view = ap (λ m. m.slots) c.self.view_is in
    let is = subst (λ x. x) (λ i. IsUnsplit (view i) new s (c.edge_after.ensures.after i) freed.ahead freed.before) done.unsplit in
    λ before. subst (λ l. AreSuspects new l) (sym c.in_ok-note.ensures) (unsplit_suspects c.args.self.now.slots new s (after (side c.args.corner)) freed.ahead freed.before c.args.script.now done.mesh is before)
