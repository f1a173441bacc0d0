use Rattle.std.proofs.Common.{rules, false, ◌∙◌}
use Rattle.std.specs.Prelude.{not}
use Rattle.std.proofs.lemmas.Iterator.Consumers.{YieldsList-at, YieldsList-from_first, YieldsList-from_filter, fold_from_yields_List}
use borrow.Author.Tests.{tests}
use Rattle.ground_model.specs.Line.{links}
use Rattle.ground_model.specs.Kept.{crosses_ray, triple, lies_in_ring}
use Rattle.rings.proofs.Parity.{odd_count}
use Rattle.rings.proofs.ray.lies_in.Goals as goal

pub returns : goal.returns
unfolding lies_in_ring
returns c =
    fold_from_yields_List _ (λ odd _. not odd) false c.fold.result c.fold.ensures.ran
    (YieldsList-from_filter _ (λ link. crosses_ray c.args.place (triple link.0, triple link.1))
    (YieldsList-at c.filter.ensures.source (YieldsList-from_first (λ x. x) (λ s. s) (links c.args.ring.now) c.links.ensures))
    c.filter.ensures.closure (λ x b q k. search (rules, tests)))
    (λ a x b q k. search (rules, tests))
    ∙ odd_count (λ link. crosses_ray c.args.place (triple link.0, triple link.1)) (links c.args.ring.now)
