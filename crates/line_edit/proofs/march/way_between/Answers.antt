use Rattle.std.proofs.Common.{subst}
use Rattle.ground_model.specs.Place.{Coords}
use Rattle.mesh.specs.Sheets.{net_in}
use Rattle.point_edit.specs.Removals.{IsPointOf}
use Rattle.line_edit.specs.Crossings.{IsFirstMet}
use Rattle.line_edit.specs.Ways.{IsWay}
use Rattle.line_edit.specs.declared.march.Way.{Way}
use Rattle.line_edit.proofs.Numbers.{one_point, ok_as}
use Rattle.line_edit.proofs.Marches.{is_point_of}
use Rattle.line_edit.proofs.march.way_between.Goals as goal

pub way_from-requires-clause-goal : goal.way_from-requires-clause-goal
way_from-requires-clause-goal c = is_point_of c.args.mesh.now.slots c.requires.sheet c.args.q.0 c.place_of-to.result c.place_of-to.ensures

pub returns-clause-points : goal.returns-clause-points
returns-clause-points c =
    let slots = c.args.mesh.now.slots in
    let from = c.place_of-from in
    let to = c.place_of-to in
    ok_as (λ (way : Way). IsWay (net_in c.args.mesh.now.slots) c.place_of-from.result c.place_of-to.result c.place_of-from.result way.points.items)
    (λ (way : Way). (a b : Coords) → IsPointOf c.args.mesh.now.slots c.args.p.0 a → IsPointOf c.args.mesh.now.slots c.args.q.0 b → IsWay (net_in c.args.mesh.now.slots) a b a way.points.items) c.way_from.result
    (λ way h a b at_p at_q. subst (λ z. z) (λ i. IsWay (net_in slots) (one_point slots c.args.p.0 from.result a from.ensures at_p i) (one_point slots c.args.q.0 to.result b to.ensures at_q i) (one_point slots c.args.p.0 from.result a from.ensures at_p i) way.points.items) h) c.way_from.ensures.points

pub returns-clause-met : goal.returns-clause-met
returns-clause-met c =
    let slots = c.args.mesh.now.slots in
    let from = c.place_of-from in
    let to = c.place_of-to in
    ok_as (λ (way : Way). IsFirstMet c.args.mesh.now.slots c.place_of-from.result c.place_of-to.result way.met)
    (λ (way : Way). (a b : Coords) → IsPointOf c.args.mesh.now.slots c.args.p.0 a → IsPointOf c.args.mesh.now.slots c.args.q.0 b → IsFirstMet c.args.mesh.now.slots a b way.met) c.way_from.result
    (λ way h a b at_p at_q. subst (λ z. z) (λ i. IsFirstMet slots (one_point slots c.args.p.0 from.result a from.ensures at_p i) (one_point slots c.args.q.0 to.result b to.ensures at_q i) way.met) h) c.way_from.ensures.met
