use Rattle.std.proofs.Common.{rules, tests, refl}
use Rattle.std.proofs.lemmas.Iterator.Consumers.{YieldsList-from_first}
use Rattle.std.proofs.lemmas.Iterator.Search.{any_from_yields_List}
use Rattle.ground_model.specs.Crossings.{cross_between}
use Rattle.line_table.proofs.crossing.crosses_any.Goals as goal

pub returns : goal.returns
returns c = any_from_yields_List (cross_between c.args.points.now c.args.s.now) _ _ _ c.any.ensures.ran (YieldsList-from_first (λ x. x) (λ links. links) c.args.links refl) (λ x b q k. search (rules, tests))
