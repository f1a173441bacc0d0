use Rattle.std.proofs.Common.{[], ◌∷◌, List, subst}
use Rattle.ground_model.specs.declared.line.LineKind.{LineKind}
use Rattle.ground_model.specs.Place.{Coords}
use Rattle.document_law.specs.Reloaded.{line_edit}
use Rattle.draft_load.specs.Loads.{Loads, Refuses}
use Rattle.draft_load.proofs.Edits.{loads-more, refuses-more}
use Rattle.draft_load.proofs.loading.add_lines.Goals as goal

pub returns-in-Some : goal.returns-in-Some
returns-in-Some c =
    let P : LineKind × List Coords → Type 0 = λ v. Refuses c.loop-line.store.journal (line_edit v ∷ []) c.args.points c.in-Some.refused.0 c.in-Some.refused.1 in
    refuses-more line_edit c.args.lines.now c.loop-line.line-index c.line-item.result c.loop-line-test.true c.args.store.now.journal c.loop-line.store.journal c.args.points c.in-Some.refused.0 c.in-Some.refused.1
    c.loop-line.invariant (subst P c.line-item.is (rw c.in-Some.is at c.in_ok-refused.ensures))

pub loop-line-preserved : goal.loop-line-preserved
loop-line-preserved c =
    let P : LineKind × List Coords → Type 0 = λ v. Loads c.loop-line.store.journal c.add_line.new.store.journal (line_edit v ∷ []) in
    loads-more line_edit c.args.lines.now c.loop-line.line-index c.line-item.result c.loop-line-test.true c.args.store.now.journal c.loop-line.store.journal c.add_line.new.store.journal
    c.loop-line.invariant (subst P c.line-item.is (rw c.in_default.is at c.in_ok-refused.ensures))
