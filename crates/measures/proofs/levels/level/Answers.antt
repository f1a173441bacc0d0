use Rattle.std.proofs.Common.{sym, subst}
use Rattle.std.specs.Prelude.{IfSome, IsTrue}
use Rattle.ground_model.specs.Level.{is_on_slope}
use Rattle.measures.proofs.Found.{found_on}
use Rattle.measures.proofs.levels.level.Goals as goal

pub level_found-requires-clause-on : goal.level_found-requires-clause-on
level_found-requires-clause-on g c = subst (λ k. IfSome k (λ s. IsTrue (is_on_slope c.args.place s))) (sym c.holding.ensures.least) (found_on (g.R.Relief.slopes c.args.relief.now) c.args.place)
