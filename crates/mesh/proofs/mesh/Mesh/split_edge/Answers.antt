use Rattle.std.proofs.Common.{ap, sym, subst, arith}
use Rattle.ground_model.specs.declared.corner.Corner.TheVariants.{At}
use Rattle.tri_pages.specs.Slots.{triangle_at}
use Rattle.mesh.specs.Acrosses.{IsInner, HasTwoApexes}
use Rattle.mesh.specs.EdgeSplits.{IsEdgeSplit}
use Rattle.mesh.specs.Meshes.{HasNoCorner}
use Rattle.mesh.specs.Net.{side}
use Rattle.mesh.proofs.InSheets.{on_edge_no_corner, two_apexes}
use Rattle.mesh.proofs.Slots.{some_is, live_within}
use Rattle.mesh.proofs.StepSheets.{edge_split_sheet, on_inner}
use Rattle.mesh.specs.Suspects.{AreSuspects}
use Rattle.mesh.proofs.StepSuspects.{edge_split_suspects}
use Rattle.mesh.proofs.mesh.Mesh.split_edge.Goals as goal

pub split_edge_slots-requires-clause-inner : goal.split_edge_slots-requires-clause-inner
split_edge_slots-requires-clause-inner c =
    let r = c.requires in
    let old = c.args.self.now.slots in
    subst (λ ps. IsInner ps c.args.slot (side c.args.edge)) (sym (ap (λ m. m.slots) c.self.view_is)) (on_inner old r.sheet c.args.slot (side c.args.edge) c.args.place c.e-easting.ensures.place r.on)

pub split_edge_slots-requires-clause-two : goal.split_edge_slots-requires-clause-two
split_edge_slots-requires-clause-two c =
    let r = c.requires in
    subst (λ ps. HasTwoApexes ps c.args.slot (side c.args.edge)) (sym (ap (λ m. m.slots) c.self.view_is)) (two_apexes c.args.self.now.slots r.sheet c.args.slot (side c.args.edge))

pub split_edge_slots-requires-clause-no_corner : goal.split_edge_slots-requires-clause-no_corner
split_edge_slots-requires-clause-no_corner c =
    let r = c.requires in
    let old = c.args.self.now.slots in
    let s = c.args.slot in
    let k = side c.args.edge in
    let p = c.args.place in
    let t = some_is (triangle_at old s) r.live in
    subst (λ ps. HasNoCorner ps (At p)) (sym (ap (λ m. m.slots) c.self.view_is)) (on_edge_no_corner old r.sheet s t.tri k p t.is c.e-easting.ensures.place (r.on t.tri t.is))

pub point_id-requires-clause-slot : goal.point_id-requires-clause-slot
point_id-requires-clause-slot c = omega (arith, live_within c.args.self.now.slots c.args.slot c.requires.live, c.requires.sheet.mesh.few)

pub returns-clause-sheet : goal.returns-clause-sheet
returns-clause-sheet c =
    let r = c.requires in
    let new = c.split_edge_slots.new.pages in
    let s = c.args.slot in
    let k = side c.args.edge in
    let p = c.args.place in
    let parts = c.in_ok-parts.parts in
    let done = c.in_ok-parts.ensures in
    edge_split_sheet c.args.self.now.slots new s k p parts.beyond parts.end parts.back r.sheet done.mesh
    (subst (λ ps. IsEdgeSplit ps new s k (At p) parts.beyond parts.end parts.back) (ap (λ m. m.slots) c.self.view_is) done.split) c.e-easting.ensures.place r.on

pub returns-clause-suspects : goal.returns-clause-suspects
returns-clause-suspects c =
    let new = c.split_edge_slots.new.pages in
    let s = c.args.slot in
    let k = side c.args.edge in
    let p = At c.args.place in
    let parts = c.in_ok-parts.parts in
    let done = c.in_ok-parts.ensures in
    λ before. subst (λ l. AreSuspects new l) (sym c.in_ok-note_four.ensures)
    (edge_split_suspects c.args.self.now.slots new s k p parts.beyond parts.end parts.back c.args.script.now done.mesh (subst (λ ps. IsEdgeSplit ps new s k p parts.beyond parts.end parts.back) (ap (λ m. m.slots) c.self.view_is) done.split) before)
