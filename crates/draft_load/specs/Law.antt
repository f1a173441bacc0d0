-- What a version is written as, read and loaded again.
use Rattle.std.specs.Prelude.{◌≡◌, List, [], ◌∷◌, All, None}
use Rattle.std.specs.FinMap as finmap
use Rattle.ground_model.specs.declared.limits.Limits.{Limits}
use Rattle.ground_model.specs.History.{content_of}
use Rattle.landxml_surface.specs.declared.draft.Draft.{Draft}
use Rattle.landxml_surface.specs.declared.origin.OriginRule.TheVariants.{Given}
use Rattle.landxml_write.specs.Text.{document}
use Rattle.turn_lock.specs.declared.journal.Journal.{Journal}
use Rattle.store.specs.Shown.{shown_by}
use Rattle.document_law.specs.Drafts.{AreDrafts}
use Rattle.document_law.specs.Reloaded.{edits_of, AreNoLess}
use Rattle.document_law.specs.Version.{IsNumbered, IsShownBy}
use Rattle.draft_load.specs.Loads.{ground_of, with_edits, first_refused}

-- no edit of the draft is refused, and what is loaded is written as the journal's version is
pub record IsLoadedAgain (limits : Limits) (j : Journal) (draft : Draft) : Type 0 where
  pub lawful : first_refused (ground_of draft limits) (edits_of draft) ≡ None
  pub text : document (shown_by (with_edits (ground_of draft limits) (edits_of draft))) ≡ document (shown_by j)

-- so it is of the one draft of what a version shows, with its origin given, under its limits or larger ones
abbrev pub LoadLaw : Type 0
LoadLaw = (j : Journal) (limits : Limits) (draft : Draft) → AreNoLess j.limits limits → IsShownBy j.limits j.entries (shown_by j) → All (IsNumbered j.head.origin) (finmap.entries (content_of j.entries).points)
    → AreDrafts (document (shown_by j)) (Given j.head.origin) (draft ∷ []) → IsLoadedAgain limits j draft
