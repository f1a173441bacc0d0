use Rattle.std.proofs.Common.{rules, tests, refl}
use Rattle.std.proofs.lemmas.Iterator.Consumers.{YieldsList-from_first}
use Rattle.std.proofs.lemmas.Iterator.Search.{any_from_yields_List}
use Rattle.std.specs.List.{list_any}
use Rattle.ground_model.specs.Line.{links}
use Rattle.line_table.specs.Joints.{cross_over}
use Rattle.line_table.proofs.crossing.any_crosses_over.Goals as goal

pub returns : goal.returns
returns c = any_from_yields_List (λ s. list_any (cross_over c.args.place s) (links c.args.line.now)) _ _ _ c.any.ensures.ran (YieldsList-from_first (λ x. x) (λ links. links) c.args.links refl) (λ x b q k. search (rules, tests))
