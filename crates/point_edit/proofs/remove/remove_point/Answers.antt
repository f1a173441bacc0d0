use Rattle.std.proofs.Common.{subst, inl}
use Rattle.ground_model.specs.declared.corner.Corner.TheVariants.{At}
use Rattle.ground_model.specs.Place.{Coords}
use Rattle.cdt_law.proofs.FacetLaws.{net_law}
use Rattle.mesh.specs.Sheets.{net_in}
use Rattle.mesh.proofs.DelaunayNets.{delaunay_legal}
use Rattle.mesh.proofs.NetOfMesh.{sheet_in}
use Rattle.mesh.proofs.StepContents.{flips_law}
use Rattle.point_edit.specs.Removals.{FlipsAt, IsTakenOut, Removal}
use Rattle.point_edit.proofs.Closed.{one_place}
use Rattle.point_edit.proofs.Made.{removal_made}
use Rattle.point_edit.proofs.TakenOut.{flips_at_same, removable_on, taken_on}
use Rattle.point_edit.proofs.remove.remove_point.Goals as goal

pub close-requires-clause-removable : goal.close-requires-clause-removable
close-requires-clause-removable c =
    let old = c.args.mesh.now.slots in
    let mid = c.flip_down.new.mesh.slots in
    let p = c.place_of-place.result in
    let run = c.in_ok-last.ensures.flips in
    removable_on (net_in old) (net_in mid) p (flips_at_same (At p) run.flips old mid c.requires.sheet run.are).1 (c.requires.removable p c.place_of-place.ensures)

pub legalize-requires-clause-suspects : goal.legalize-requires-clause-suspects
legalize-requires-clause-suspects c = c.in_ok-close.ensures.suspects (c.in_ok-last.ensures.suspects (λ s k n x. inl (delaunay_legal c.args.mesh.now.slots c.requires.sheet c.requires.delaunay s k n x)))

pub returns-clause-facets : goal.returns-clause-facets
returns-clause-facets c = net_law (net_in c.legalize.new.self.slots) (sheet_in c.legalize.new.self.slots c.in_ok-legalize.ensures.sheet) c.in_ok-legalize.ensures.delaunay

pub returns-clause-content : goal.returns-clause-content
returns-clause-content c = λ q point.
    let old = c.args.mesh.now.slots in
    let mid = c.flip_down.new.mesh.slots in
    let last = c.close.new.mesh.slots in
    let new = c.legalize.new.self.slots in
    let p = c.place_of-place.result in
    let run = c.in_ok-last.ensures.flips in
    let first = flips_at_same (At p) run.flips old mid c.requires.sheet run.are in
    let legal = flips_law c.close.new.mesh c.legalize.new.self c.close.new.script c.legalize.new.script c.in_ok-close.ensures.sheet c.in_ok-legalize.ensures.flips in
    subst (λ (y : Coords). IsTakenOut (net_in old) (net_in new) y) (one_place old _ _ p q c.place_of-place.ensures point)
    (taken_on (net_in old) (net_in mid) (net_in last) (net_in new) p first.0 first.1 c.in_ok-close.ensures.content legal.0 legal.1)

pub returns-clause-steps : goal.returns-clause-steps
returns-clause-steps c = λ q point.
    let old = c.args.mesh.now in
    let p = c.place_of-place.result in
    subst (λ (y : Coords). Removal old c.legalize.new.self y c.legalize.new.script) (one_place old.slots _ _ p q c.place_of-place.ensures point) (record {
      few = c.flip_down.new.mesh;
      without = c.close.new.mesh;
      named = c.flip_down.new.script;
      then_named = c.close.new.script;
      flips = subst (λ xs. FlipsAt (At c.place_of-place.result) c.args.mesh.now c.flip_down.new.mesh xs c.flip_down.new.script) c.new-script.ensures c.in_ok-last.ensures.flips;
      closed = c.in_ok-close.ensures.closed;
      counted = c.in_ok-close.ensures.turns;
      legal = c.in_ok-legalize.ensures.flips;
    })

pub returns-clause-script : goal.returns-clause-script
returns-clause-script c =
    let p = c.place_of-place.result in
    removal_made c.args.mesh.now c.legalize.new.self p c.legalize.new.script (record {
      few = c.flip_down.new.mesh;
      without = c.close.new.mesh;
      named = c.flip_down.new.script;
      then_named = c.close.new.script;
      flips = subst (λ xs. FlipsAt (At c.place_of-place.result) c.args.mesh.now c.flip_down.new.mesh xs c.flip_down.new.script) c.new-script.ensures c.in_ok-last.ensures.flips;
      closed = c.in_ok-close.ensures.closed;
      counted = c.in_ok-close.ensures.turns;
      legal = c.in_ok-legalize.ensures.flips;
    }) c.in_ok-last.ensures.sheet.mesh
