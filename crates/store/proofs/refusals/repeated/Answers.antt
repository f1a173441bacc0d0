use Rattle.std.proofs.Common.{◌≡◌, ◌+◌, arith, ap, sym, ◌∙◌, length, Some, rules}
use Rattle.std.specs.Prelude.{min, option_map}
use Rattle.ground_model.specs.Place.{is_same}
use Rattle.ground_model.specs.Line.{links}
use Rattle.store.proofs.Causes.{position-from, position-within, links-few}
use Rattle.store.proofs.refusals.repeated.Goals as goal

pub overflow_add-link : goal.overflow_add-link
overflow_add-link c = omega (arith, position-within (λ link. is_same link.0 link.1) (links c.args.line.now) c.in-Some.link c.in-Some.ensures, links-few c.args.line.now, c.requires)

pub returns-in-Some : goal.returns-in-Some
returns-in-Some c =
    let least : c.min.result ≡ min (c.in-Some.link + 2) (length c.args.line.now.places) = search rules in
    ap Some least ∙ sym (ap (option_map (λ k. min k (length c.args.line.now.places))) (position-from (λ link. is_same link.0 link.1) 2 (links c.args.line.now) ∙ ap (option_map (λ k. k + 2)) (sym c.in-Some.ensures)))

pub returns-in-None : goal.returns-in-None
returns-in-None c = sym (ap (option_map (λ k. min k (length c.args.line.now.places))) (position-from (λ link. is_same link.0 link.1) 2 (links c.args.line.now) ∙ ap (option_map (λ k. k + 2)) (sym c.in-None.ensures)))
