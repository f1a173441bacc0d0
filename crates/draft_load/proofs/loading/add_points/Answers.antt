use Rattle.std.proofs.Common.{[], ◌∷◌, length, subst}
use Rattle.std.specs.Prelude.{ℤ}
use Rattle.ground_model.specs.Place.{Coords}
use Rattle.document_law.specs.Reloaded.{point_edit}
use Rattle.draft_load.specs.Loads.{Loads, Refuses}
use Rattle.draft_load.proofs.Edits.{loads-more, refuses-more}
use Rattle.draft_load.proofs.loading.add_points.Goals as goal

pub returns-in-Some : goal.returns-in-Some
returns-in-Some c =
    let P : Coords × ℤ → Type 0 = λ v. Refuses c.loop-point.store.journal (point_edit v ∷ []) (length c.args.points.now) c.in-Some.refused.0 c.in-Some.refused.1 in
    refuses-more point_edit c.args.points.now c.loop-point.point-index c.point-item.result c.loop-point-test.true c.args.store.now.journal c.loop-point.store.journal (length c.args.points.now) c.in-Some.refused.0 c.in-Some.refused.1
    c.loop-point.invariant (subst P c.point-item.is (rw c.in-Some.is at c.in_ok-refused.ensures))

pub loop-point-preserved : goal.loop-point-preserved
loop-point-preserved c =
    let P : Coords × ℤ → Type 0 = λ v. Loads c.loop-point.store.journal c.make.new.store.journal (point_edit v ∷ []) in
    loads-more point_edit c.args.points.now c.loop-point.point-index c.point-item.result c.loop-point-test.true c.args.store.now.journal c.loop-point.store.journal c.make.new.store.journal
    c.loop-point.invariant (subst P c.point-item.is (rw c.in_default.is at c.in_ok-refused.ensures))
