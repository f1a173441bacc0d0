-- What a version shows to be written.
use Rattle.std.specs.Prelude.{List, map}
use Rattle.std.specs.FinMap as finmap
use Rattle.ground_num.specs.declared.head.Head.{Head}
use Rattle.ground_model.specs.Content.{Content, lines_of}
use Rattle.ground_model.specs.Kept.{is_kept}
use Rattle.ground_model.specs.Tri.{tri}
use Rattle.landxml_write.specs.Exports.{Exported, Face}
use Rattle.turn_lock.specs.declared.journal.Journal.{Journal}
use Rattle.ground_model.specs.History.{content_of}

-- the facets of the content, in order, each with whether it is kept
abbrev pub faces_of : Content → List Face
faces_of c = map (λ f. (f, is_kept (lines_of c) f)) (tri c)

-- what a surface with this head and this content shows: the points in place order with their levels, the live lines by their numbers, and all facets
abbrev pub shown_of : Head → Content → Exported
shown_of head c = record { head = head; points = finmap.entries c.points; lines = lines_of c; faces = faces_of c }

-- what a version with this journal shows
abbrev pub shown_by : Journal → Exported
shown_by j = shown_of j.head (content_of j.entries)
