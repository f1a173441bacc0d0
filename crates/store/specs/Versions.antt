-- What versions, stores and plans are seen as, and what is true of them.
use Rattle.std.specs.Prelude.{◌≡◌, ℕ, ◌+◌, ◌≤◌, ◌<◌, ◌^◌, List, [], ◌∷◌, length, Option, None, MatchOption, ⊤}
use Rattle.std.specs.FinMap as finmap
use Rattle.ground_num.specs.Head.{IsOrigin}
use Rattle.ground_model.specs.declared.edit.Edit.{Edit}
use Rattle.ground_model.specs.declared.mark.Mark.{Mark}
use Rattle.ground_model.specs.declared.refusal.Refusal.{Refusal}
use Rattle.ground_model.specs.declared.slope.Slope.{Slope}
use Rattle.ground_model.specs.Content.{after}
use Rattle.ground_model.specs.History.{content_of, born, IsLegal}
use Rattle.ground_model.specs.Refusal.{refusal}
use Rattle.ground_model.specs.Answer.{Pending, next_entry}
use Rattle.ground_model.specs.Zone.{zone}
use Rattle.turn_lock.specs.Journal.{extended, IsPrefix}
use Rattle.turn_lock.specs.declared.journal.Journal.{Journal}
use Rattle.store.specs.declared.state.Made.{Made}
use Rattle.store.specs.Births.{AreBirths, AreCounts, born_after}

-- a version: its journal, and the kept facet or none that lies at each of its slots
pub record VersionView : Type 0 where
  pub journal : Journal
  pub table : List (Option Slope)

-- a plan: the journal of its version, and its edit
pub record PlanView : Type 0 where
  pub journal : Journal
  pub edit : Edit

-- a plan, as an answer to it knows it
abbrev pub as_pending : PlanView → Pending
as_pending plan = record { base = length plan.journal.entries; edit = plan.edit }

-- a pending plan is one of a version that this one begins with
abbrev pub IsPending : Journal → Option PlanView → Type 0
IsPending j plan = MatchOption plan ⊤ (λ p. IsPrefix p.journal j)

-- a store: its journal
pub record StoreView : Type 0 where
  pub journal : Journal

-- why the edit is refused at the front of a journal
abbrev pub newest_refusal : Journal → Edit → Option Refusal
newest_refusal j edit = refusal (content_of j.entries) (length j.entries) j.limits edit

-- the journal with the author's next entry, which makes this edit
abbrev pub with_next : ℕ → Journal → Edit → Journal
with_next author j edit = extended j (next_entry author j.entries edit ∷ [])

-- what is true of a version: its journal is legal, its surface is that of the journal's content, each mark has the front of its birth, and each author the number of his entries
pub record IsVersion (j : Journal) (counts : List (ℕ × ℕ)) (made : Made) : Type 0 where
  pub origin : IsOrigin j.head.origin
  pub legal : IsLegal j.limits j.entries
  pub short : length j.entries ≤ 2 ^ 24
  pub content : made.surface ≡ content_of j.entries
  pub births : AreBirths (content_of j.entries) (born j.entries) made.births
  pub numbers : AreCounts j.entries counts
  pub few_points : finmap.len (content_of j.entries).points ≤ length j.entries
  pub few_lines : (content_of j.entries).table.next ≤ length j.entries + 1

-- what an edit makes of a journal's content, with the births that it will then have
pub record IsMadeBy (j : Journal) (edit : Edit) (made : Made) : Type 0 where
  pub surface : made.surface ≡ after (content_of j.entries) edit
  pub births : AreBirths (after (content_of j.entries) edit) (born_after j.entries edit) made.births

-- what is true of a plan: its edit is lawful at its base, its surface is the one that the edit makes there, and its marks are those of the edit's zone
pub record IsPlan (j : Journal) (edit : Edit) (made : Made) (marks : List Mark) : Type 0 where
  pub lawful : newest_refusal j edit ≡ None
  pub makes : IsMadeBy j edit made
  pub zone : marks ≡ zone (content_of j.entries) edit
  pub few : length marks < 2 ^ 31
