use Rattle.std.proofs.Common.{◌*◌, ap, ◌∙◌, arith}
use Rattle.turn_lock.specs.Setting.{setting}
use Rattle.trial.specs.Draws.{state_after}
use Rattle.trial.specs.Trials.{Trial, after_points, report_on, with_lines}
use Rattle.trial.proofs.Counts.{points_within}
use Rattle.trial.proofs.run.trial.Goals as goal

pub add_lines_between-requires-clause-room : goal.add_lines_between-requires-clause-room
add_lines_between-requires-clause-room c =
    let within = points_within (setting c.in_ok-course.course.journal) c.new-draws.result c.args.count in
    omega (arith, ap (λ (t : Trial). t.refused) c.in_ok-add_points.ensures.points, within.refused, c.requires)

pub returns : goal.returns
returns c =
    let set = setting c.in_ok-course.course.journal in
    let points = c.in_ok-add_points.ensures.points ∙ ap (λ s. after_points set s c.args.count) c.new-draws.ensures in
    let state = c.in_ok-add_points.ensures.state ∙ ap (λ s. state_after s (3 * c.args.count)) c.new-draws.ensures in
    let lines = c.in_ok-add_lines_between.ensures c.args.seed state in
    (set, c.in_ok-course.ensures.0, c.in_ok-report.ensures ∙ ap (report_on c.args.seed c.args.count) (lines ∙ ap (λ (t : Trial). with_lines t c.args.seed c.args.count) points))
