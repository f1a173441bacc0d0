use Rattle.std.proofs.Common.{◌++◌, ◌∷◌, [], ◌&&◌, sym, ap, ◌∙◌}
use Rattle.std.specs.Prelude.{option_map}
use Rattle.ground_model.specs.Place.{Coords}
use Rattle.line_protocol.specs.Grammar.{words_of, places}
use Rattle.line_protocol.specs.Within.{is_place, from_origin}
use Rattle.line_protocol.proofs.PlaceLists.{checked_more, front_more}
use Rattle.line_protocol.proofs.line_edit.check_places.Goals as goal

pub pairs-preserved : goal.pairs-preserved
pairs-preserved c =
    let so_far = c.pairs.invariant in
    let q : Coords = record { e = c.in-Some.coordinates.e.0; n = c.in-Some.coordinates.n.0 } in
    let pair = rw c.in-Some-rest.is at c.in-Some.ensures.pair in (
      so_far.0 ++ q ∷ [],
      c.are_still_within-within.ensures ∙ ap (λ b. b && is_place (from_origin c.args.origin.now q)) so_far.1 ∙ sym (checked_more c.args.origin.now so_far.0 q),
      so_far.2 ∙ ap (option_map (λ ps. so_far.0 ++ ps)) pair ∙ front_more so_far.0 q (places (words_of c.in-Some-rest.rest.now)),
    )
