use Rattle.std.proofs.Common.{ap, sym, subst, arith}
use Rattle.ground_model.specs.declared.corner.Corner.TheVariants.{At}
use Rattle.tri_pages.specs.Slots.{triangle_at}
use Rattle.mesh.specs.Meshes.{HasNoCorner}
use Rattle.mesh.specs.Splits.{IsSplit}
use Rattle.mesh.proofs.InSheets.{inside_no_corner}
use Rattle.mesh.proofs.Slots.{some_is, live_within}
use Rattle.mesh.proofs.StepSheets.{split_sheet}
use Rattle.mesh.specs.Suspects.{AreSuspects}
use Rattle.mesh.proofs.StepSuspects.{split_suspects}
use Rattle.mesh.proofs.mesh.Mesh.split.Goals as goal

pub split_slots-requires-clause-no_corner : goal.split_slots-requires-clause-no_corner
split_slots-requires-clause-no_corner c =
    let r = c.requires in
    let old = c.args.self.now.slots in
    let s = c.args.slot in
    let p = c.args.place in
    let t = some_is (triangle_at old s) r.live in
    subst (λ ps. HasNoCorner ps (At p)) (sym (ap (λ m. m.slots) c.self.view_is)) (inside_no_corner old r.sheet s t.tri p t.is c.e-easting.ensures.place (r.inside t.tri t.is))

pub point_id-requires-clause-slot : goal.point_id-requires-clause-slot
point_id-requires-clause-slot c = omega (arith, live_within c.args.self.now.slots c.args.slot c.requires.live, c.requires.sheet.mesh.few)

pub returns-clause-sheet : goal.returns-clause-sheet
returns-clause-sheet c =
    let r = c.requires in
    let new = c.split_slots.new.pages in
    let s = c.args.slot in
    let p = c.args.place in
    let done = c.in_ok-second.ensures in
    split_sheet c.args.self.now.slots new s c.in_ok-second.second c.in_ok-second.third p r.sheet done.mesh
    (subst (λ ps. IsSplit ps new s c.in_ok-second.second c.in_ok-second.third (At p)) (ap (λ m. m.slots) c.self.view_is) done.split) c.e-easting.ensures.place r.inside

pub returns-clause-suspects : goal.returns-clause-suspects
returns-clause-suspects c =
    let new = c.split_slots.new.pages in
    let s = c.args.slot in
    let f = c.in_ok-second.second in
    let g = c.in_ok-second.third in
    let done = c.in_ok-second.ensures in
    λ before. subst (λ l. AreSuspects new l) (sym c.in_ok-note_three.ensures)
    (split_suspects c.args.self.now.slots new s f g (At c.args.place) c.args.script.now done.mesh (subst (λ ps. IsSplit ps new s f g (At c.args.place)) (ap (λ m. m.slots) c.self.view_is) done.split) before)
