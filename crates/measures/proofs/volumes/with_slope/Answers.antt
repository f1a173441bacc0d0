use Rattle.std.proofs.Common.{◌++◌, [], subst, sym}
use Rattle.std.specs.List.{cons_option}
use Rattle.ground_model.specs.Volume.{plus}
use Rattle.measures.specs.Volumes.{IsSumOf}
use Rattle.measures.proofs.VolumeSums.{slope_more}
use Rattle.measures.proofs.volumes.with_slope.Goals as goal

pub returns-in-Some : goal.returns-in-Some
returns-in-Some c = λ seen so.
    let more = slope_more c.args.datum seen c.in-Some.slope c.args.sum c.volume_on.result so c.volume_on.ensures.value c.volume_on.ensures.net c.volume_on.ensures.size in
    subst (λ v. IsSumOf c.args.datum (seen ++ cons_option c.args.slope []) v) (sym c.plus.ensures)
    (subst (λ o. IsSumOf c.args.datum (seen ++ cons_option o []) (plus c.args.sum c.volume_on.result)) (sym c.in-Some.is) more)
