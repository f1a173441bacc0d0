use Rattle.std.proofs.Common.{◌∙◌, ap, sym, Some}
use Rattle.terrain_main.specs.declared.words.Command.{Command}
use Rattle.terrain_main.specs.Commands.{sink_side}
use Rattle.terrain_main.proofs.Trials.{asked_for}
use Rattle.terrain_main.proofs.command.run.Goals as goal

pub returns-in-Some-Trial-clause-reports : goal.returns-in-Some-Trial-clause-reports
returns-in-Some-Trial-clause-reports g c seed count e =
    let trial = c.in-Some-Trial in
    asked_for trial.seed trial.count seed count
    (sink_side (g.O.Sink.written c.args.output.now) (g.O.Sink.write_faults c.args.output.now))
    (sink_side (g.O.Sink.written c.run_trial.new.output) (g.O.Sink.write_faults c.run_trial.new.output))
    c.run_trial.result _ (ap (λ (asked : Command). Some asked) (sym trial.field-0-is) ∙ trial.ensures.command) e c.run_trial.ensures
