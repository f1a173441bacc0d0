use Rattle.std.proofs.Common.{◌<◌, ◌^◌, ap, sym, ◌∙◌, arith, rules, length}
use Rattle.std.specs.FinMap as finmap
use Rattle.std.proofs.lemmas.List.{length-map}
use Rattle.ground_model.specs.History.{content_of}
use Rattle.trial.proofs.course.Course.places.Goals as goal

pub returns-clause-few : goal.returns-clause-few
returns-clause-few c =
    let m = (content_of c.in_ok-version.version.journal.entries).points in
    let same = ap length c.in_ok-places.ensures ∙ length-map (finmap.entries m) (λ e. e.0) ∙ sym (finmap.len-entries m) ∙ sym c.points-count.ensures in
    let within : c.points-count.result < 2 ^ 32 = search rules in
    omega (arith, same, within)
