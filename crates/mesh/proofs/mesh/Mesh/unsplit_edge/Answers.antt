use Rattle.std.proofs.Common.{ap, sym, subst, inl}
use Rattle.mesh.specs.Acrosses.{IsInner}
use Rattle.mesh.specs.EdgeUnsplits.{IsEdgeUnsplittable, IsEdgeUnsplit}
use Rattle.mesh.specs.Net.{side}
use Rattle.mesh.specs.Straights.{IsLineSide}
use Rattle.mesh.proofs.Straights.{place_inner, straight_unsplittable, edge_unsplit_sheet}
use Rattle.mesh.specs.Suspects.{AreSuspects}
use Rattle.mesh.proofs.StepSuspects.{edge_unsplit_suspects}
use Rattle.mesh.proofs.mesh.Mesh.unsplit_edge.Goals as goal

pub unsplit_edge_slots-requires-clause-unsplittable : goal.unsplit_edge_slots-requires-clause-unsplittable
unsplit_edge_slots-requires-clause-unsplittable c =
    let view = ap (λ m. m.slots) c.self.view_is in
    let n = c.line_edge-line.result.slot in
    let j = side c.line_edge-line.result.edge in
    let line = subst (λ ps. IsLineSide ps c.args.slot (side c.args.corner) n j) view c.line_edge-line.ensures.line in
    subst (λ ps. IsEdgeUnsplittable ps n j) (sym view) (straight_unsplittable c.args.self.now.slots c.requires.sheet n j (c.requires.straight n j line))

pub returns-clause-sheet : goal.returns-clause-sheet
returns-clause-sheet c =
    let view = ap (λ m. m.slots) c.self.view_is in
    let old = c.args.self.now.slots in
    let new = c.unsplit_edge_slots.new.pages in
    let n = c.line_edge-line.result.slot in
    let j = side c.line_edge-line.result.edge in
    let line = subst (λ ps. IsLineSide ps c.args.slot (side c.args.corner) n j) view c.line_edge-line.ensures.line in
    let freed = c.in_ok-freed.freed in
    let done = c.in_ok-freed.ensures in
    edge_unsplit_sheet old new n j freed.ahead freed.beyond freed.under c.requires.sheet done.mesh
    (subst (λ ps. IsEdgeUnsplit ps new n j freed.ahead freed.beyond freed.under) view done.unsplit) (c.requires.straight n j line)

pub returns-clause-unsplit : goal.returns-clause-unsplit
returns-clause-unsplit c =
    let view = ap (λ m. m.slots) c.self.view_is in
    let new = c.unsplit_edge_slots.new.pages in
    let n = c.line_edge-line.result.slot in
    let j = side c.line_edge-line.result.edge in
    let freed = c.in_ok-freed.freed in
    record {
      slot = n;
      side = j;
      f = freed.ahead;
      n = freed.beyond;
      g = freed.under;
      line = subst (λ ps. IsLineSide ps c.args.slot (side c.args.corner) n j) view c.line_edge-line.ensures.line;
      is = subst (λ ps. IsEdgeUnsplit ps new n j freed.ahead freed.beyond freed.under) view c.in_ok-freed.ensures.unsplit;
      named = c.in_ok-note_two.ensures;
    }

pub line_edge-line-requires-clause-inner : goal.line_edge-line-requires-clause-inner
line_edge-line-requires-clause-inner c =
    let r = c.requires in
    let k = side c.args.corner in
    subst (λ ps. IsInner ps c.args.slot k) (sym (ap (λ m. m.slots) c.self.view_is)) (λ t there. place_inner c.args.self.now.slots r.sheet c.args.slot t k there (inl (r.place t there)))

pub returns-clause-suspects : goal.returns-clause-suspects
returns-clause-suspects c =
    let new = c.unsplit_edge_slots.new.pages in
    let n = c.line_edge-line.result.slot in
    let j = side c.line_edge-line.result.edge in
    let freed = c.in_ok-freed.freed in
    let done = c.in_ok-freed.ensures in
    λ before. subst (λ l. AreSuspects new l) (sym c.in_ok-note_two.ensures)
    (edge_unsplit_suspects c.args.self.now.slots new n j freed.ahead freed.beyond freed.under c.args.script.now done.mesh
    (subst (λ ps. IsEdgeUnsplit ps new n j freed.ahead freed.beyond freed.under) (ap (λ m. m.slots) c.self.view_is) done.unsplit) before)
