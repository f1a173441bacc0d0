use Rattle.std.proofs.Common.{◌≡◌, ◌++◌, ◌∷◌, [], Some, sym, ap, ◌∙◌}
use Rattle.std.specs.Prelude.{option_map, option_and_then}
use Rattle.ground_model.specs.Place.{Coords}
use Rattle.line_protocol.specs.Grammar.{words_of, places}
use Rattle.line_protocol.specs.Within.{places_within}
use Rattle.line_protocol.proofs.PlaceLists.{checked_within, front_more, outside_there, tail_of, within_more}
use Rattle.line_protocol.proofs.line_edit.fill_places.Goals as goal

pub returns-in_default-place_from : goal.returns-in_default-place_from
returns-in_default-place_from c =
    let so_far = c.pairs.invariant in
    let q : Coords = record { e = c.in-Some.coordinates.e.0; n = c.in-Some.coordinates.n.0 } in
    let tail = tail_of (words_of c.pairs.left.now) q (option_map (λ rest. words_of rest.now) c.in-Some.rest) c.in-Some.ensures.pair in
    let found : places (words_of c.args.text.now) ≡ option_map (λ ps. so_far.0 ++ ps) (option_map (λ ps. q ∷ ps) tail.0) = so_far.2 ∙ ap (option_map (λ ps. so_far.0 ++ ps)) tail.1 in
    ((checked_within c.args.origin.now (places (words_of c.args.text.now)) c.requires.checked).1, ap (option_and_then (places_within c.args.origin.now)) found ∙ outside_there c.args.origin.now so_far.0 q tail.0 (sym c.in_default-place_from.ensures))

pub returns-in_default-push : goal.returns-in_default-push
returns-in_default-push c = (checked_within c.args.origin.now (places (words_of c.args.text.now)) c.requires.checked).0

pub returns-in-None : goal.returns-in-None
returns-in-None c =
    let so_far = c.pairs.invariant in
    let pair = rw c.in-None.is at c.in-Some.ensures.pair in
    rw (so_far.2, pair) (
    within_more c.args.origin.now so_far.0 c.pairs.places.items _ c.in-Some-place_from.place so_far.1 (sym c.in-Some-place_from.ensures)
    ∙ ap Some (sym (c.from_vec.ensures ∙ c.in-Ok.ensures.items))
    )

pub pairs-preserved : goal.pairs-preserved
pairs-preserved c =
    let so_far = c.pairs.invariant in
    let q : Coords = record { e = c.in-Some.coordinates.e.0; n = c.in-Some.coordinates.n.0 } in
    let pair = rw c.in-Some-rest.is at c.in-Some.ensures.pair in (
      so_far.0 ++ q ∷ [],
      within_more c.args.origin.now so_far.0 c.pairs.places.items q c.in-Some-place_from.place so_far.1 (sym c.in-Some-place_from.ensures) ∙ ap Some (sym c.in-Ok.ensures.items),
      so_far.2 ∙ ap (option_map (λ ps. so_far.0 ++ ps)) pair ∙ front_more so_far.0 q (places (words_of c.in-Some-rest.rest.now)),
    )
