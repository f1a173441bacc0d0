-- Which words are a command, and how the program ends.
use Rattle.std.specs.Prelude.{◌≡◌, ℕ, ℤ, Bool, true, false, option_map, ◌-◌, ◌^◌, ◌&&◌, nat_le, nat_eq, ◌+◌, if◌then◌else◌, List, [], ◌∷◌, ◌++◌, codes, string_bytes, bytes_eq, Option, None, Some, Result}
use Rattle.std.specs.Fmt.{decimal}
use Rattle.std.specs.Str.Parse.{digits_value}
use Rattle.std.specs.Io.KnownBytes.{Appends}
use Rattle.std.specs.declared.string.String.{String}
use Rattle.std.specs.declared.alloc.Global.{Global}
use Rattle.ground_io.specs.Causes.{HasCause, Rose}
use Rattle.ground_io.specs.Streams.{WritesText, AppendsSome}
use Rattle.ground_io.specs.Wires.{WireView}
use Rattle.ground_io.specs.declared.fault.Failed.{Failed}
use Rattle.ground_model.specs.declared.entry.Entry.{Entry}
use Rattle.turn_lock.specs.Setting.{Setting, setting, IsPlain}
use Rattle.turn_lock.specs.declared.journal.Journal.{Journal}
use Rattle.session.specs.Talk.{Talk}
use Rattle.session.specs.declared.conversation.Ended.{Ended}
use Rattle.session.specs.declared.conversation.Ended.TheVariants.{Quit, End, Cut, LongLine, Spent, ReadFault, WriteFault, Memory}
use Rattle.landxml_surface.specs.declared.origin.OriginRule.{OriginRule}
use Rattle.landxml_surface.specs.declared.origin.OriginRule.TheVariants.{Given, Nearest}
use Rattle.line_protocol.specs.Grammar.{number_of}
use Rattle.trial.specs.declared.report.Report.{Report}
use Rattle.trial.specs.Trials.{IsReport}
use Rattle.trial.specs.Texts.{report_text}
use Rattle.terrain_main.specs.declared.words.Command.{Command}
use Rattle.terrain_main.specs.declared.words.Listen.{Listen}
use Rattle.terrain_main.specs.declared.words.Command.TheVariants as commands
use Rattle.terrain_main.specs.declared.status.Status.{Status}
use Rattle.terrain_main.specs.declared.status.Status.TheVariants as statuses

-- a whole number of at most `most`, as it is written: no sign, and no zero before other digits
abbrev pub whole_of : ℕ → List ℕ → Option ℕ
whole_of most word =
    let n = digits_value 10 word in
    if bytes_eq word (decimal n) && nat_le n most then Some n else None

abbrev pub trial_by : Option ℕ → Option ℕ → Option Command
trial_by None count = None
trial_by (Some seed) None = None
trial_by (Some seed) (Some count) = Some (commands.Trial seed count)

-- a trial of a seed of 64 bits and of at most 100,000 points
abbrev pub trial_of : List ℕ → List ℕ → Option Command
trial_of seed count = trial_by (whole_of (2 ^ 64 - 1) seed) (whole_of 100000 count)

-- a word of a command by its letters
abbrev pub is_word : List ℕ → String Global → Bool
is_word letters word = bytes_eq (string_bytes word) letters

-- an origin of two numbers of the protocol
abbrev pub given_by : Option ℤ → Option ℤ → Option OriginRule
given_by None e = None
given_by (Some n) None = None
given_by (Some n) (Some e) = Some (Given (record { n = record { 0 = n }; e = record { 0 = e } }))

abbrev pub origin_of : String Global → String Global → Option OriginRule
origin_of n e = given_by (number_of (string_bytes n)) (number_of (string_bytes e))

-- an origin after its word
abbrev pub origin_after : String Global → String Global → String Global → Option OriginRule
origin_after key n e = if is_word (codes "--origin") key then origin_of n e else None

-- which origin the options ask for, where a surface isn't asked for
abbrev pub rule_of : List (String Global) → Option OriginRule
rule_of [] = Some Nearest
rule_of (key ∷ []) = None
rule_of (key ∷ n ∷ []) = None
rule_of (key ∷ n ∷ e ∷ []) = origin_after key n e
rule_of (key ∷ n ∷ e ∷ more ∷ words) = None

-- a surface and an origin, or an origin and a surface
abbrev pub rule_of_both : String Global → String Global → String Global → String Global → String Global → Option OriginRule
rule_of_both a b c d e = if is_word (codes "--surface") a then origin_after c d e else (if is_word (codes "--surface") d then origin_after a b c else None)

-- which origin the options ask for, where a surface may be asked for
abbrev pub rule_beside : List (String Global) → Option OriginRule
rule_beside [] = Some Nearest
rule_beside (key ∷ []) = None
rule_beside (key ∷ name ∷ []) = if is_word (codes "--surface") key then Some Nearest else None
rule_beside (key ∷ n ∷ e ∷ []) = origin_after key n e
rule_beside (a ∷ b ∷ c ∷ d ∷ []) = None
rule_beside (a ∷ b ∷ c ∷ d ∷ e ∷ []) = rule_of_both a b c d e
rule_beside (a ∷ b ∷ c ∷ d ∷ e ∷ f ∷ words) = None

-- the name that such options ask for
abbrev pub name_in : List (String Global) → Option (List ℕ)
name_in [] = None
name_in (key ∷ []) = None
name_in (key ∷ name ∷ []) = Some (string_bytes name)
name_in (a ∷ b ∷ c ∷ []) = None
name_in (a ∷ b ∷ c ∷ d ∷ []) = None
name_in (a ∷ b ∷ c ∷ d ∷ e ∷ words) = Some (string_bytes (if is_word (codes "--surface") a then b else e))

-- the name that the words of `rewrite` ask for
abbrev pub name_of : List (String Global) → Option (List ℕ)
name_of [] = None
name_of (word ∷ options) = name_in options

abbrev pub check_by : Option OriginRule → Option Command
check_by rule = option_map commands.Check rule

abbrev pub rewrite_by : Option OriginRule → Option Command
rewrite_by rule = option_map commands.Rewrite rule

-- a command of one word
abbrev pub single_of : String Global → Option Command
single_of word = if is_word (codes "talk") word then Some commands.Talk else (if is_word (codes "help") word then Some commands.Help else None)

-- a command of three words that isn't on documents
abbrev pub trial_in : List (String Global) → Option Command
trial_in [] = None
trial_in (word ∷ []) = single_of word
trial_in (word ∷ seed ∷ []) = None
trial_in (word ∷ seed ∷ count ∷ []) = if is_word (codes "trial") word then trial_of (string_bytes seed) (string_bytes count) else None
trial_in (word ∷ seed ∷ count ∷ more ∷ words) = None

-- the command that the words are
abbrev pub command_of : List (String Global) → Option Command
command_of [] = None
command_of (word ∷ options) =
    if is_word (codes "check") word then check_by (rule_of options)
    else (if is_word (codes "rewrite") word then rewrite_by (rule_beside options)
    else trial_in (word ∷ options))

-- the number, where it isn't 0
abbrev pub at_least_one : Option ℕ → Option ℕ
at_least_one None = None
at_least_one (Some n) = if nat_eq n 0 then None else Some n

-- a whole number from 1 to `most`, as it is written
abbrev pub count_of : ℕ → List ℕ → Option ℕ
count_of most word = at_least_one (whole_of most word)

-- the numbers, where all are there and the last port is at most 65,535
abbrev pub listen_at : Option ℕ → Option ℕ → Option ℕ → Option Listen
listen_at None workers sessions = None
listen_at (Some port) None sessions = None
listen_at (Some port) (Some workers) None = None
listen_at (Some port) (Some workers) (Some sessions) = if nat_le (port + workers) 65536 then Some (record { port = port; workers = workers; sessions = sessions }) else None

-- a first port, 1 to 16 workers, and 1 to 1,000,000 sessions of each
abbrev pub listen_of : List ℕ → List ℕ → List ℕ → Option Listen
listen_of port workers sessions = listen_at (count_of 65535 port) (count_of 16 workers) (count_of 1000000 sessions)

-- the numbers and the origin, where both are there
abbrev pub serving_by : Option Listen → Option OriginRule → Option (Listen × OriginRule)
serving_by None rule = None
serving_by (Some listen) None = None
serving_by (Some listen) (Some rule) = Some (listen, rule)

-- the numbers and the origin of a `serve` command
abbrev pub serving_of : List (String Global) → Option (Listen × OriginRule)
serving_of [] = None
serving_of (word ∷ []) = None
serving_of (word ∷ port ∷ []) = None
serving_of (word ∷ port ∷ workers ∷ []) = None
serving_of (word ∷ port ∷ workers ∷ sessions ∷ options) = if is_word (codes "serve") word then serving_by (listen_of (string_bytes port) (string_bytes workers) (string_bytes sessions)) (rule_beside options) else None

-- the numbers of a `serve` command
abbrev pub serve_words : List (String Global) → Option Listen
serve_words words = option_map (λ s. s.0) (serving_of words)

-- the name that the words of `serve` ask for
abbrev pub serve_name : List (String Global) → Option (List ℕ)
serve_name [] = None
serve_name (word ∷ []) = None
serve_name (word ∷ port ∷ []) = None
serve_name (word ∷ port ∷ workers ∷ []) = None
serve_name (word ∷ port ∷ workers ∷ sessions ∷ options) = name_in options

-- whether the command reads
abbrev pub reads_input : Option Command → Bool
reads_input None = false
reads_input (Some (commands.Check rule)) = true
reads_input (Some (commands.Rewrite rule)) = true
reads_input (Some commands.Talk) = true
reads_input (Some (commands.Trial seed count)) = false
reads_input (Some commands.Help) = false

-- whether a fault line was written
abbrev pub puts_line : Status → Bool
puts_line statuses.Usage = true
puts_line statuses.BadDocument = true
puts_line statuses.TooLarge = true
puts_line statuses.BadSurface = true
puts_line statuses.Ok = false
puts_line statuses.ReadFault = false
puts_line statuses.WriteFault = false
puts_line statuses.Memory = false
puts_line statuses.DoorFault = false
puts_line statuses.Spent = false
puts_line statuses.LongLine = false
puts_line statuses.Cut = false

abbrev pub status_of : Ended → Status
status_of Quit = statuses.Ok
status_of End = statuses.Ok
status_of Cut = statuses.Cut
status_of LongLine = statuses.LongLine
status_of Spent = statuses.Spent
status_of ReadFault = statuses.ReadFault
status_of WriteFault = statuses.WriteFault
status_of Memory = statuses.Memory

-- the exit status
abbrev pub code_of : Status → ℕ
code_of statuses.Ok = 0
code_of statuses.Usage = 2
code_of statuses.BadDocument = 3
code_of statuses.ReadFault = 4
code_of statuses.WriteFault = 5
code_of statuses.Memory = 6
code_of statuses.TooLarge = 7
code_of statuses.BadSurface = 8
code_of statuses.DoorFault = 9
code_of statuses.Spent = 10
code_of statuses.LongLine = 11
code_of statuses.Cut = 12

-- what is written where the words are no command
abbrev pub fault_line : List ℕ
fault_line = codes "fault usage" ++ 10 ∷ []

-- the surface of `talk`
abbrev pub IsGround : Setting → Type 0
IsGround = IsPlain (codes "ground")

-- the journal of that surface without entries
abbrev pub IsEmptyGround : Journal → Type 0
IsEmptyGround j = IsGround (setting j) × (j.entries ≡ [])

-- the text was written, or a beginning of it where the count of faults rose
abbrev pub PutsLine : Option (List ℕ) → Option (List ℕ) → ℕ → ℕ → List ℕ → Type 0
PutsLine written written_now faults faults_now text = (result : Result Unit Failed) × HasCause faults faults_now result × WritesText written written_now result text

-- the two streams of the program as a wire, whose calls have no known order
abbrev pub both_sides : Option (List ℕ) → Option (List ℕ) → ℕ → ℕ → WireView
both_sides left written read_faults write_faults = record { left = left; written = written; order = None; read_faults = read_faults; write_faults = write_faults }

-- A session on that surface, by its one author, and the status that its end gives.
pub record RunsTalk (before after : WireView) (status : Status) : Type 0 where
  pub set : Setting
  pub ground : IsGround set
  pub end : Ended
  pub entries : List Entry
  pub is : status ≡ status_of end
  pub session : Talk (record { setting = set; author = 1; start = 0 }) (2 ^ 40) (record { entries = []; wire = before }) (record { entries = entries; wire = after }) end

-- a sink alone, as a wire
abbrev pub sink_side : Option (List ℕ) → ℕ → WireView
sink_side written faults = both_sides None written 0 faults

-- How a trial ends: its report's text was written; or a beginning of it, since a write failed; or nothing, out of memory.
abbrev pub RunsTrial : ℕ → ℕ → WireView → WireView → Status → Type 0
RunsTrial seed count before after statuses.Ok = (report : Report) × IsReport seed count report × Appends before.written after.written (report_text report) × (after.write_faults ≡ before.write_faults)
RunsTrial seed count before after statuses.WriteFault = (report : Report) × IsReport seed count report × AppendsSome before.written after.written (report_text report) × Rose before.write_faults after.write_faults
RunsTrial seed count before after statuses.Memory = (after.written ≡ before.written) × (after.write_faults ≡ before.write_faults)
RunsTrial seed count before after statuses.Usage = ⊥
RunsTrial seed count before after statuses.BadDocument = ⊥
RunsTrial seed count before after statuses.TooLarge = ⊥
RunsTrial seed count before after statuses.BadSurface = ⊥
RunsTrial seed count before after statuses.ReadFault = ⊥
RunsTrial seed count before after statuses.DoorFault = ⊥
RunsTrial seed count before after statuses.Spent = ⊥
RunsTrial seed count before after statuses.LongLine = ⊥
RunsTrial seed count before after statuses.Cut = ⊥

-- the words that can be had of a command line, which is none where they can't
abbrev pub words_or_none : Option (List (String Global)) → List (String Global)
words_or_none None = []
words_or_none (Some words) = words
