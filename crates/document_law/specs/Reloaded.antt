-- What is loaded from a draft, edit by edit, and when that is the surface that was written.
use Rattle.std.specs.Prelude.{◌≡◌, ◌≤◌, List, [], ◌∷◌, ◌++◌, map, All}
use Rattle.std.specs.FinMap as finmap
use Rattle.ground_num.specs.declared.head.Head.{Head}
use Rattle.ground_model.specs.declared.edit.Edit.{Edit}
use Rattle.ground_model.specs.declared.edit.Edit.TheVariants.{AddPoint, AddLine}
use Rattle.ground_model.specs.declared.entry.Entry.{Entry}
use Rattle.ground_model.specs.declared.limits.Limits.{Limits}
use Rattle.ground_model.specs.declared.line.LineKind.{LineKind}
use Rattle.ground_model.specs.Content.{Content, lines_of}
use Rattle.ground_model.specs.Answer.{next_entry}
use Rattle.ground_model.specs.History.{content_of, IsLegal}
use Rattle.ground_model.specs.Kept.{is_kept}
use Rattle.ground_model.specs.Place.{Coords}
use Rattle.ground_model.specs.Tri.{tri}
use Rattle.landxml_surface.specs.declared.draft.Draft.{Draft}
use Rattle.landxml_surface.specs.declared.origin.OriginRule.TheVariants.{Given}
use Rattle.landxml_write.specs.Exports.{Face, Exported, Vertex}
use Rattle.landxml_write.specs.Text.{document}
use Rattle.document_law.specs.Drafts.{AreDrafts}
use Rattle.document_law.specs.Version.{IsShownBy, IsNumbered}

-- a point of a draft is added with its level
abbrev pub point_edit : Vertex → Edit
point_edit v = AddPoint v.0 v.1

-- a line of a draft is added
abbrev pub line_edit : LineKind × List Coords → Edit
line_edit l = AddLine l.0 l.1

-- each point of the draft is added, then each line
abbrev pub edits_of : Draft → List Edit
edits_of d = map point_edit d.points ++ map line_edit d.lines

-- the entries with each of the edits as the next entry of author 0
abbrev pub logged : List Entry → List Edit → List Entry
logged past [] = past
logged past (edit ∷ edits) = logged (past ++ next_entry 0 past edit ∷ []) edits

-- all facets of a content, each with whether it is kept
abbrev pub faces_of : Content → List Face
faces_of c = map (λ f. (f, is_kept (lines_of c) f)) (tri c)

-- the export shows all of a content under this head
pub record ShowsAll (e : Exported) (head : Head) (c : Content) : Type 0 where
  pub head_is : e.head ≡ head
  pub points : e.points ≡ finmap.entries c.points
  pub lines : e.lines ≡ lines_of c
  pub faces : e.faces ≡ faces_of c

-- what is loaded from the draft is lawful, edit by edit, and what shows it under the same head has the same text
pub record IsReloaded (limits : Limits) (e : Exported) (draft : Draft) : Type 0 where
  pub legal : IsLegal limits (logged [] (edits_of draft))
  pub text : (other : Exported) → ShowsAll other e.head (content_of (logged [] (edits_of draft))) → document other ≡ document e

-- the limits are nowhere less
pub record AreNoLess (limits more : Limits) : Type 0 where
  pub points : limits.points ≤ more.points
  pub lines : limits.lines ≤ more.lines
  pub places : limits.places ≤ more.places
  pub vertices : limits.vertices ≤ more.vertices
  pub log : limits.log ≤ more.log

-- so it is of the one draft of what a version shows with its facets, under the version's limits or larger ones
abbrev pub ReloadLaw : Type 0
ReloadLaw = (limits more : Limits) (h : List Entry) (e : Exported) (draft : Draft) → AreNoLess limits more → IsShownBy limits h e → e.faces ≡ faces_of (content_of h) → All (IsNumbered e.head.origin) e.points
    → AreDrafts (document e) (Given e.head.origin) (draft ∷ []) → IsReloaded more e draft
