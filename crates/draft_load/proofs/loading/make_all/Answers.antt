use Rattle.std.proofs.Common.{List, length, subst}
use Rattle.std.specs.Prelude.{ℤ, map, IfOk}
use Rattle.ground_model.specs.declared.line.LineKind.{LineKind}
use Rattle.ground_model.specs.Place.{Coords}
use Rattle.document_law.specs.Reloaded.{point_edit, line_edit}
use Rattle.draft_load.specs.Loads.{Ends, Loads, Refuses}
use Rattle.draft_load.proofs.Edits.{refuses-first, ends-both}
use Rattle.draft_load.proofs.loading.make_all.Goals as goal

pub returns-in-Some : goal.returns-in-Some
returns-in-Some c =
    let draft = c.args.draft.now in
    let P : List (Coords × ℤ) → Type 0 = λ ps. Refuses c.args.store.now.journal (map point_edit ps) (length ps) c.in-Some.refused.0 c.in-Some.refused.1 in
    refuses-first c.args.store.now.journal (map point_edit draft.points) (map line_edit draft.lines) (length draft.points) c.in-Some.refused.0 c.in-Some.refused.1
    (subst P c.as_slice-points.ensures (rw c.in-Some.is at c.in_ok-refused.ensures))

pub returns : goal.returns
returns c =
    let draft = c.args.draft.now in
    let mid = c.add_points.new.store.journal in
    let after = c.add_lines.new.store.journal in
    let P : List (Coords × ℤ) → Type 0 = λ ps. Loads c.args.store.now.journal mid (map point_edit ps) in
    let Q : List (Coords × ℤ) → Type 0 = λ ps. IfOk c.add_lines.result (Ends (length ps) mid after (map line_edit c.as_slice.result.now)) in
    let R : List (LineKind × List Coords) → Type 0 = λ ls. IfOk c.add_lines.result (Ends (length draft.points) mid after (map line_edit ls)) in
    ends-both c.args.store.now.journal mid after (map point_edit draft.points) (map line_edit draft.lines) (length draft.points) c.add_lines.result
    (subst P c.as_slice-points.ensures (rw c.in_default.is at c.in_ok-refused.ensures)) (subst R c.as_slice.ensures (subst Q c.as_slice-points.ensures c.add_lines.ensures))
