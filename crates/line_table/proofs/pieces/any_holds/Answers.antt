use Rattle.std.proofs.Common.{rules, tests, refl}
use Rattle.std.specs.Prelude.{◌&&◌}
use Rattle.std.proofs.lemmas.Iterator.Consumers.{YieldsList-from_first}
use Rattle.std.proofs.lemmas.Iterator.Search.{any_from_yields_List}
use Rattle.ground_model.specs.Side.{is_on_segment}
use Rattle.line_table.proofs.pieces.any_holds.Goals as goal

pub returns : goal.returns
returns c =
    any_from_yields_List (λ link. is_on_segment link.0 link.1 c.args.p && is_on_segment link.0 link.1 c.args.q) _ _ _ c.any.ensures.ran
    (YieldsList-from_first (λ x. x) (λ links. links) c.args.links refl) (λ x b q k. search (rules, tests))
