use Rattle.std.proofs.Common.{◌≡◌, to_z, of_z, w32, sym, subst, ◌∙◌, arith, false, true}
use Rattle.std.proofs.lemmas.Int.{ints}
use Rattle.ground_model.specs.Place.{IsLevel}
use Rattle.measures.proofs.levels.level_on.Goals as goal

pub unreachable-requires : goal.unreachable-requires
unreachable-requires c =
    let level = c.mean_on.ensures.level in
    let kept : to_z w32 (of_z w32 c.mean_on.result) ≡ c.mean_on.result = omega (arith, ints, level.low, level.high) in
    let some : false ≡ true = c.in-None.ensures.within.1 (subst IsLevel (sym kept) level) in
    cc

pub returns : goal.returns
returns c =
    let level = c.mean_on.ensures.level in
    let kept : to_z w32 (of_z w32 c.mean_on.result) ≡ c.mean_on.result = omega (arith, ints, level.low, level.high) in
    c.in-Some.ensures.value ∙ kept ∙ c.mean_on.ensures.value
