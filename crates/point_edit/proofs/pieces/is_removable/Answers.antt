use Rattle.std.proofs.Common.{sym, subst}
use Rattle.ground_model.specs.Place.{Coords}
use Rattle.mesh.specs.Sheets.{net_in}
use Rattle.point_edit.specs.Removals.{IsRemovable}
use Rattle.point_edit.proofs.Closed.{one_place}
use Rattle.point_edit.proofs.MetPieces.{none_free, one_fast, more_fast, two_yes, two_no, first_known, second_known}
use Rattle.point_edit.proofs.pieces.is_removable.Goals as goal

pub returns-then-met-eq0-clause-yes : goal.returns-then-met-eq0-clause-yes
returns-then-met-eq0-clause-yes c = λ e q point.
    let slots = c.args.mesh.now.slots in
    let p = c.place_of-place.result in
    subst (λ (y : Coords). IsRemovable (net_in slots) y) (one_place slots _ _ p q c.place_of-place.ensures point)
    (none_free slots c.requires.sheet p c.pieces_round-met.result c.pieces_round-met.ensures c.if-met-eq0.true)

pub returns-then-met-eq0-2-clause-no : goal.returns-then-met-eq0-2-clause-no
returns-then-met-eq0-2-clause-no c = λ e q point free.
    let slots = c.args.mesh.now.slots in
    let p = c.place_of-place.result in
    one_fast slots c.requires.sheet p c.pieces_round-met.result c.pieces_round-met.ensures c.if-met-eq0.false c.if-met-eq0-2.true
    (subst (λ (y : Coords). IsRemovable (net_in slots) y) (sym (one_place slots _ _ p q c.place_of-place.ensures point)) free)

pub returns-then-met-clause-no : goal.returns-then-met-clause-no
returns-then-met-clause-no c = λ e q point free.
    let slots = c.args.mesh.now.slots in
    let p = c.place_of-place.result in
    more_fast slots c.requires.sheet p c.pieces_round-met.result c.pieces_round-met.ensures c.if-met.true
    (subst (λ (y : Coords). IsRemovable (net_in slots) y) (sym (one_place slots _ _ p q c.place_of-place.ensures point)) free)

pub is_flat-requires-clause-a : goal.is_flat-requires-clause-a
is_flat-requires-clause-a c = first_known c.args.mesh.now.slots c.requires.sheet c.place_of-place.result c.pieces_round-met.result c.pieces_round-met.ensures c.if-met-eq0.false

pub is_flat-requires-clause-c : goal.is_flat-requires-clause-c
is_flat-requires-clause-c c = second_known c.args.mesh.now.slots c.requires.sheet c.place_of-place.result c.pieces_round-met.result c.pieces_round-met.ensures c.if-met-eq0-2.false

pub returns-then-met-2-clause-yes : goal.returns-then-met-2-clause-yes
returns-then-met-2-clause-yes c = λ e q point.
    let slots = c.args.mesh.now.slots in
    let p = c.place_of-place.result in
    subst (λ (y : Coords). IsRemovable (net_in slots) y) (one_place slots _ _ p q c.place_of-place.ensures point)
    (two_yes slots c.requires.sheet p c.pieces_round-met.result c.pieces_round-met.ensures c.if-met-eq0.false c.if-met-eq0-2.false c.if-met.false c.if-met-2.true (c.is_flat.ensures.yes e))

pub returns-then-met-2-clause-no : goal.returns-then-met-2-clause-no
returns-then-met-2-clause-no c = λ e q point free.
    let slots = c.args.mesh.now.slots in
    let p = c.place_of-place.result in
    two_no slots c.requires.sheet p c.pieces_round-met.result c.pieces_round-met.ensures c.if-met-eq0.false c.if-met-eq0-2.false c.if-met.false (λ same flat. c.is_flat.ensures.no e flat)
    (subst (λ (y : Coords). IsRemovable (net_in slots) y) (sym (one_place slots _ _ p q c.place_of-place.ensures point)) free)

pub returns-else-met-2-clause-no : goal.returns-else-met-2-clause-no
returns-else-met-2-clause-no c = λ e q point free.
    let slots = c.args.mesh.now.slots in
    let p = c.place_of-place.result in
    two_no slots c.requires.sheet p c.pieces_round-met.result c.pieces_round-met.ensures c.if-met-eq0.false c.if-met-eq0-2.false c.if-met.false (λ same flat. c.if-met-2.false same)
    (subst (λ (y : Coords). IsRemovable (net_in slots) y) (sym (one_place slots _ _ p q c.place_of-place.ensures point)) free)
