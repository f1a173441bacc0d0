-- What comes of drafts that are loaded.
use Rattle.std.specs.Prelude.{ℕ, List, Option}
use Rattle.ground_model.specs.declared.facet.Facet.{Facet}
use Rattle.ground_model.specs.declared.limits.Limits.{Limits}
use Rattle.ground_model.specs.declared.refusal.Refusal.{Refusal}
use Rattle.ground_model.specs.History.{content_of}
use Rattle.ground_model.specs.Tri.{tri}
use Rattle.landxml_surface.specs.declared.draft.Draft.{Draft}
use Rattle.turn_lock.specs.declared.journal.Journal.{Journal}
use Rattle.document_law.specs.Reloaded.{edits_of}
use Rattle.draft_load.specs.Loads.{ground_of, with_edits, first_refused}

-- the front at which an edit of the draft is refused first, and why
abbrev pub refused : Limits → Draft → Option (ℕ × Refusal)
refused limits d = first_refused (ground_of d limits) (edits_of d)

-- the journal of a draft that is loaded
abbrev pub loaded : Limits → Draft → Journal
loaded limits d = with_edits (ground_of d limits) (edits_of d)

-- the facets of a draft that is loaded
abbrev pub facets_of : Limits → Draft → List Facet
facets_of limits d = tri (content_of (loaded limits d).entries)
