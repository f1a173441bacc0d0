use Rattle.std.proofs.Common.{sym, ap, subst, ◌∙◌, List, String, Global}
use Rattle.document_commands.specs.Streams.{sides}
use Rattle.terrain_main.specs.Commands.{command_of, name_of}
use Rattle.terrain_main.specs.Documents.{RunsRewrite}
use Rattle.terrain_main.proofs.Wordings.{words_are}
use Rattle.terrain_main.specs.declared.status.Status.TheVariants.{Usage, ReadFault, WriteFault}
use Rattle.terrain_main.proofs.Codes.{by_code}
use Rattle.terrain_main.proofs.command.exit_status.Goals as goal

pub returns-in-Some-clause-fault_line : goal.returns-in-Some-clause-fault_line
returns-in-Some-clause-fault_line g c e = c.run.ensures.fault_line (by_code _ Usage (sym c.code.ensures ∙ e))

pub returns-in-Some-clause-checks : goal.returns-in-Some-clause-checks
returns-in-Some-clause-checks g c rule asked =
    let words = words_are c.args.words c.in-Some.words c.as_slice.result.now c.in-Some.is c.as_slice.ensures.value in
    (c.run.result, c.code.ensures, c.run.ensures.checks rule (ap command_of (sym words) ∙ asked))

pub returns-in-Some-clause-rewrites : goal.returns-in-Some-clause-rewrites
returns-in-Some-clause-rewrites g c rule asked =
    let words = words_are c.args.words c.in-Some.words c.as_slice.result.now c.in-Some.is c.as_slice.ensures.value in
    let before = sides (g.I.Source.left c.args.input.now) (g.I.Source.read_faults c.args.input.now) (g.O.Sink.written c.args.output.now) (g.O.Sink.write_faults c.args.output.now) in
    let after = sides (g.I.Source.left c.run.new.input) (g.I.Source.read_faults c.run.new.input) (g.O.Sink.written c.run.new.output) (g.O.Sink.write_faults c.run.new.output) in
    (c.run.result, c.code.ensures, subst (λ (ws : List (String Global)). RunsRewrite (name_of ws) rule before after c.run.result) (sym words) (c.run.ensures.rewrites rule (ap command_of (sym words) ∙ asked)))

pub returns-in-Some-clause-read_fault : goal.returns-in-Some-clause-read_fault
returns-in-Some-clause-read_fault g c e = c.run.ensures.read_fault (by_code _ ReadFault (sym c.code.ensures ∙ e))

pub returns-in-Some-clause-write_fault : goal.returns-in-Some-clause-write_fault
returns-in-Some-clause-write_fault g c e = c.run.ensures.write_fault (by_code _ WriteFault (sym c.code.ensures ∙ e))

pub returns-in-None-clause-fault_line : goal.returns-in-None-clause-fault_line
returns-in-None-clause-fault_line g c e = c.run-in-None.ensures.fault_line (by_code _ Usage (sym c.code-in-None.ensures ∙ e))

pub returns-in-None-clause-read_fault : goal.returns-in-None-clause-read_fault
returns-in-None-clause-read_fault g c e = c.run-in-None.ensures.read_fault (by_code _ ReadFault (sym c.code-in-None.ensures ∙ e))

pub returns-in-None-clause-write_fault : goal.returns-in-None-clause-write_fault
returns-in-None-clause-write_fault g c e = c.run-in-None.ensures.write_fault (by_code _ WriteFault (sym c.code-in-None.ensures ∙ e))
