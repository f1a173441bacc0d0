-- How the commands on documents and the list of commands run.
use Rattle.std.specs.Prelude.{◌≡◌, ℕ, List, [], ◌∷◌, ◌++◌, codes, Option}
use Rattle.std.specs.Io.KnownBytes.{Appends}
use Rattle.ground_io.specs.Causes.{Rose}
use Rattle.ground_io.specs.Streams.{AppendsSome}
use Rattle.ground_model.specs.declared.limits.Limits.{Limits}
use Rattle.ground_model.specs.Limits.{AreFull}
use Rattle.landxml_surface.specs.declared.origin.OriginRule.{OriginRule}
use Rattle.document_commands.specs.declared.ending.Ending.{Ending}
use Rattle.document_commands.specs.declared.ending.Ending.TheVariants as endings
use Rattle.document_commands.specs.Report.{Checks}
use Rattle.document_commands.specs.Rewriting.{Rewrites}
use Rattle.document_commands.specs.Streams.{Stream, Sides}
use Rattle.terrain_main.specs.declared.status.Status.{Status}
use Rattle.terrain_main.specs.declared.status.Status.TheVariants as statuses

-- the status of a command on a document that ends so
abbrev pub status_by : Ending → Status
status_by endings.Done = statuses.Ok
status_by endings.BadDocument = statuses.BadDocument
status_by endings.ReadFault = statuses.ReadFault
status_by endings.WriteFault = statuses.WriteFault
status_by endings.Memory = statuses.Memory
status_by endings.TooLarge = statuses.TooLarge
status_by endings.BadSurface = statuses.BadSurface

-- a report on a document, with the full limits
pub record RunsCheck (rule : OriginRule) (before after : Sides) (status : Status) : Type 0 where
  pub limits : Limits
  pub full : AreFull limits
  pub end : Ending
  pub is : status ≡ status_by end
  pub checks : Checks rule limits before after end

-- a surface of a document written anew, with the full limits
pub record RunsRewrite (name : Option (List ℕ)) (rule : OriginRule) (before after : Sides) (status : Status) : Type 0 where
  pub limits : Limits
  pub full : AreFull limits
  pub end : Ending
  pub is : status ≡ status_by end
  pub rewrites : Rewrites name rule limits before after end

-- a line of the list of commands
abbrev pub row : List ℕ → List ℕ
row words = words ++ 10 ∷ []

-- the words of each command, a line each
unfoldable pub help_text : List ℕ
help_text = row (codes "check [--origin N E]") ++ row (codes "rewrite [--surface NAME] [--origin N E]") ++ row (codes "talk") ++ row (codes "trial SEED COUNT") ++ row (codes "help") ++ row (codes "serve PORT WORKERS SESSIONS [--surface NAME] [--origin N E]")

-- how the list of commands is written
abbrev pub RunsHelp : Stream → Stream → Status → Type 0
RunsHelp before after statuses.Ok = Appends before.bytes after.bytes help_text × (after.faults ≡ before.faults)
RunsHelp before after statuses.WriteFault = AppendsSome before.bytes after.bytes help_text × Rose before.faults after.faults
RunsHelp before after statuses.Usage = ⊥
RunsHelp before after statuses.BadDocument = ⊥
RunsHelp before after statuses.ReadFault = ⊥
RunsHelp before after statuses.Memory = ⊥
RunsHelp before after statuses.TooLarge = ⊥
RunsHelp before after statuses.BadSurface = ⊥
RunsHelp before after statuses.DoorFault = ⊥
RunsHelp before after statuses.Spent = ⊥
RunsHelp before after statuses.LongLine = ⊥
RunsHelp before after statuses.Cut = ⊥
