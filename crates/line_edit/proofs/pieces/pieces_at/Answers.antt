use Rattle.std.proofs.Common.{subst}
use Rattle.ground_model.specs.Place.{Coords}
use Rattle.mesh.specs.Sheets.{net_in}
use Rattle.point_edit.specs.Removals.{IsPointOf}
use Rattle.line_edit.specs.Ends.{ArePiecesAt}
use Rattle.line_edit.proofs.Numbers.{one_point, ok_as}
use Rattle.line_edit.proofs.pieces.pieces_at.Goals as goal

pub returns : goal.returns
returns c =
    let slots = c.args.mesh.now.slots in
    let place = c.place_of-place in
    ok_as (λ found. ArePiecesAt (net_in c.args.mesh.now.slots) c.place_of-place.result found.items) (λ found. (p : Coords) → IsPointOf c.args.mesh.now.slots c.args.point.0 p → ArePiecesAt (net_in c.args.mesh.now.slots) p found.items) c.pieces_round.result
    (λ found h p at_p. subst (λ (z : Coords). ArePiecesAt (net_in slots) z found.items) (one_point slots c.args.point.0 place.result p place.ensures at_p) h) c.pieces_round.ensures
