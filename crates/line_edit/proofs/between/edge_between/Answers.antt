use Rattle.std.proofs.Common.{subst}
use Rattle.ground_model.specs.Place.{Coords}
use Rattle.point_edit.specs.Removals.{IsPointOf}
use Rattle.line_edit.specs.Edges.{IsFromTo, HasNoSide}
use Rattle.line_edit.specs.declared.half_edge.HalfEdge.{HalfEdge}
use Rattle.line_edit.proofs.Numbers.{one_point, some_as, none_as}
use Rattle.line_edit.proofs.between.edge_between.Goals as goal

pub returns-clause-some : goal.returns-clause-some
returns-clause-some c =
    let slots = c.args.mesh.now.slots in
    some_as (λ (x : HalfEdge). IsFromTo c.args.mesh.now.slots x.slot x.edge c.place_of-from.result c.place_of-to.result)
    (λ (x : HalfEdge). (a b : Coords) → IsPointOf c.args.mesh.now.slots c.args.p.0 a → IsPointOf c.args.mesh.now.slots c.args.q.0 b → IsFromTo c.args.mesh.now.slots x.slot x.edge a b) c.edge_from.result
    (λ x h a b at_p at_q. subst (λ z. z) (λ i. IsFromTo slots x.slot x.edge (one_point slots c.args.p.0 c.place_of-from.result a c.place_of-from.ensures at_p i) (one_point slots c.args.q.0 c.place_of-to.result b c.place_of-to.ensures at_q i)) h)
    c.edge_from.ensures.some

pub returns-clause-none : goal.returns-clause-none
returns-clause-none c =
    let slots = c.args.mesh.now.slots in
    none_as (HasNoSide c.args.mesh.now.slots c.place_of-from.result c.place_of-to.result) ((a b : Coords) → IsPointOf c.args.mesh.now.slots c.args.p.0 a → IsPointOf c.args.mesh.now.slots c.args.q.0 b → HasNoSide c.args.mesh.now.slots a b)
    c.edge_from.result
    (λ h a b at_p at_q. subst (λ z. z) (λ i. HasNoSide slots (one_point slots c.args.p.0 c.place_of-from.result a c.place_of-from.ensures at_p i) (one_point slots c.args.q.0 c.place_of-to.result b c.place_of-to.ensures at_q i)) h)
    c.edge_from.ensures.none
