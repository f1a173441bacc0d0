use Rattle.std.proofs.Common.{◌≡◌, ◌++◌, List, Some, length}
use Rattle.std.specs.Prelude.{option_map}
use Rattle.ground_model.specs.Place.{Coords}
use Rattle.line_protocol.specs.Grammar.{words_of, places}
use Rattle.line_protocol.specs.Within.{places_within}
use Rattle.line_protocol.proofs.line_edit.fill_places.Given as goal

abbrev pub invariant-pairs : goal.invariant-pairs
invariant-pairs l = (front : List Coords) × (places_within l.origin front ≡ Some l.places.items) × (places (words_of l.fn.text) ≡ option_map (λ ps. front ++ ps) (places (words_of l.left)))

abbrev pub decreases-pairs : goal.decreases-pairs
decreases-pairs l = length l.left
