use Rattle.std.proofs.Common.{rules, tests, arith, inl, length, ◌≤◌}
use Rattle.std.proofs.lemmas.Iterator.Consumers.{YieldsList-from_first}
use Rattle.std.proofs.lemmas.Iterator.Search.{position_from_yields_List}
use Rattle.ground_model.specs.Place.{is_same}
use Rattle.ground_model.specs.Line.{links}
use Rattle.store.proofs.Causes.{links-few}
use Rattle.store.proofs.refusals.first_link_without_length.Goals as goal

pub position-requires-clause-fits : goal.position-requires-clause-fits
position-requires-clause-fits c =
    let few : length (links c.args.line.now) ≤ length c.args.line.now.places = links-few c.args.line.now in
    inl (rw c.links.ensures (omega (arith, few, c.requires)))

pub returns : goal.returns
returns c = position_from_yields_List (λ link. is_same link.0 link.1) _ _ _ c.position.ensures.ran (YieldsList-from_first (λ x. x) (λ links. links) (links c.args.line.now) c.links.ensures) (λ x b q k. search (rules, tests))
