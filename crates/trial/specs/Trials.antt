-- A trial: edits drawn from a seed, some of them planned on an older version, and what comes of them.
use Rattle.std.specs.Prelude.{◌≡◌, ℕ, zero, suc, ◌+◌, ◌*◌, ◌/◌, ◌%◌, pos, List, [], length, codes, Option, None, Some, nat_eq, nat_lt, if◌then◌else◌}
use Rattle.std.specs.FinMap as finmap
use Rattle.ground_model.specs.declared.edit.Edit.{Edit}
use Rattle.ground_model.specs.declared.refusal.Refusal.{Refusal}
use Rattle.ground_model.specs.Answer as answers
use Rattle.ground_model.specs.Answer.{Answer}
use Rattle.ground_model.specs.Content.{points_of}
use Rattle.ground_model.specs.History.{content_of}
use Rattle.ground_model.specs.Place.{Coords}
use Rattle.ground_model.specs.Slope.{relief}
use Rattle.ground_model.specs.Tri.{tri}
use Rattle.ground_model.specs.Volume.{volume_over}
use Rattle.turn_lock.specs.Setting.{Setting, IsPlain}
use Rattle.turn_lock.specs.declared.journal.Journal.{Journal}
use Rattle.store.specs.Versions.{newest_refusal, with_next}
use Rattle.store.specs.Answers.{answer_at}
use Rattle.trial.specs.declared.report.Report.{Report}
use Rattle.trial.specs.Draws.{point_edit, line_edit}

-- the store's journal, that of the version which is kept for plans, and the counts so far
pub record Trial : Type 0 where
  pub journal : Journal
  pub kept : Journal
  pub refused : ℕ
  pub conflicts : ℕ

-- one edit more is refused
abbrev pub refuse : Trial → Trial
refuse t = record t { refused = t.refused + 1 }

-- one plan more is in conflict
abbrev pub clash : Trial → Trial
clash t = record t { conflicts = t.conflicts + 1 }

-- the edit is made, by the one author
abbrev pub make : Edit → Trial → Trial
make edit t = record t { journal = with_next 1 t.journal edit }

-- the edit is made where nothing is against it, and else refused
abbrev pub settle : Option Refusal → Edit → Trial → Trial
settle None edit t = make edit t
settle (Some cause) edit t = refuse t

-- the edit is applied
unfoldable pub applied : Edit → Trial → Trial
applied edit t = settle (newest_refusal t.journal edit) edit t

-- what comes of a commit: after a conflict the edit is applied
abbrev pub by_answer : Answer → Edit → Trial → Trial
by_answer (answers.Conflict front mark) edit t = applied edit (clash t)
by_answer (answers.Refused front cause) edit t = refuse t
by_answer (answers.Done front line) edit t = make edit t

-- the edit is planned on the kept version, and committed where it is lawful there
abbrev pub by_plan : Option Refusal → Edit → Trial → Trial
by_plan None edit t = by_answer (answer_at t.journal (length t.kept.entries) edit) edit t
by_plan (Some cause) edit t = refuse t

unfoldable pub planned : Edit → Trial → Trial
planned edit t = by_plan (newest_refusal t.kept edit) edit t

-- the newest version is kept
abbrev pub keep : Trial → Trial
keep t = record t { kept = t.journal }

-- the k-th edit, counted from 1: each eighth is planned and committed, and four later the version afterwards is kept
unfoldable pub point_step : ℕ → Edit → Trial → Trial
point_step k edit t =
    let done = if nat_eq (k % 8) 0 then planned edit t else applied edit t in
    if nat_eq (k % 8) 4 then keep done else done

-- an empty surface
abbrev pub empty_trial : Setting → Trial
empty_trial set =
    let journal : Journal = record { head = set.head; limits = set.limits; entries = [] } in
    record { journal = journal; kept = journal; refused = 0; conflicts = 0 }

-- after so many points
unfoldable pub after_points : Setting → ℕ → ℕ → Trial
after_points set seed zero = empty_trial set
after_points set seed (suc k) = point_step (suc k) (point_edit seed k) (after_points set seed k)

-- after so many breaklines over these places
unfoldable pub after_lines : Trial → ℕ → ℕ → List Coords → ℕ → Trial
after_lines t seed before places zero = t
after_lines t seed before places (suc k) = applied (line_edit seed before places k) (after_lines t seed before places k)

-- a breakline for every four points, where there are two
abbrev pub with_lines : Trial → ℕ → ℕ → Trial
with_lines t seed count =
    let places = points_of (content_of t.journal.entries) in
    if nat_lt (length places) 2 then t else after_lines t seed (3 * count) places (count / 4)

-- the whole trial
abbrev pub trial_of : Setting → ℕ → ℕ → Trial
trial_of set seed count = with_lines (after_points set seed count) seed count

-- the datum of the volume, in thousandths
abbrev pub datum : ℕ
datum = 5000

-- what is reported of it
unfoldable pub report_on : ℕ → ℕ → Trial → Report
report_on seed count t =
    let c = content_of t.journal.entries in
    let v = volume_over (relief c) (pos datum) in
    record {
      seed = seed;
      count = count;
      front = length t.journal.entries;
      points = finmap.len c.points;
      lines = finmap.len c.table.lines;
      refused = t.refused;
      conflicts = t.conflicts;
      facets = length (tri c);
      cut = v.cut;
      fill = v.fill;
      net = v.net;
    }

-- the surface of a trial
abbrev pub IsTrialGround : Setting → Type 0
IsTrialGround = IsPlain (codes "trial")

-- the report of a seed and a count
abbrev pub IsReport : ℕ → ℕ → Report → Type 0
IsReport seed count report = (set : Setting) × IsTrialGround set × (report ≡ report_on seed count (trial_of set seed count))
