use Rattle.std.proofs.lemmas.Int.{to_z-of_z}
use Rattle.std.specs.Int.{w128}
use Rattle.trial.proofs.Joined.{three_joined}
use Rattle.trial.proofs.text.add_volume.Goals as goal

pub returns : goal.returns
returns c =
    let cut = rw (to_z-of_z w128 c.args.cut c.ranges.cut) at c.in_ok-add_whole.ensures in
    let fill = rw (to_z-of_z w128 c.args.fill c.ranges.fill) at c.in_ok-add_whole-2.ensures in
    let net = rw (to_z-of_z w128 c.args.net c.ranges.net) at c.add_whole-3.ensures in
    three_joined c.add_whole-3.result _ _ _ _ _ _ _ cut fill net
