use Rattle.std.proofs.Common.{◌≡◌, sym, subst, rules, arith}
use Rattle.std.proofs.lemmas.Int.{ints}
use Rattle.ground_model.specs.Place.{IsLevel}
use Rattle.ground_model.specs.Level.{level_on}
use Rattle.measures.proofs.Means.{level_on_is_level, mean_is}
use Rattle.measures.proofs.levels.mean_on.Goals as goal

pub overflow_cast-result : goal.overflow_cast-result
overflow_cast-result c =
    let sum = c.weighted_sum.ensures in
    let mean : c.rounded_half_up-mean.result ≡ level_on c.args.place c.args.slope.now = mean_is c.args.place c.args.slope.now c.weighted_sum.result c.exact_side-area.result c.rounded_half_up-mean.result (search rules) (search rules) sum.value c.exact_side-area.ensures.value c.rounded_half_up-mean.ensures in
    let level : IsLevel (level_on c.args.place c.args.slope.now) = level_on_is_level c.args.place c.args.slope.now sum.za sum.zb sum.zc c.requires.turned c.requires.on in
    omega (arith, ints, mean, level.low, level.high)

pub returns-clause-value : goal.returns-clause-value
returns-clause-value c =
    let sum = c.weighted_sum.ensures in
    let mean : c.rounded_half_up-mean.result ≡ level_on c.args.place c.args.slope.now = mean_is c.args.place c.args.slope.now c.weighted_sum.result c.exact_side-area.result c.rounded_half_up-mean.result (search rules) (search rules) sum.value c.exact_side-area.ensures.value c.rounded_half_up-mean.ensures in
    let level : IsLevel (level_on c.args.place c.args.slope.now) = level_on_is_level c.args.place c.args.slope.now sum.za sum.zb sum.zc c.requires.turned c.requires.on in
    omega (arith, ints, mean, level.low, level.high)

pub returns-clause-level : goal.returns-clause-level
returns-clause-level c = subst IsLevel (sym (returns-clause-value c)) (level_on_is_level c.args.place c.args.slope.now c.weighted_sum.ensures.za c.weighted_sum.ensures.zb c.weighted_sum.ensures.zc c.requires.turned c.requires.on)
