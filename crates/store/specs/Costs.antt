-- How many page steps a commit may take: a bound by what it edits, and not by the size of the surface or of the journal.
use Rattle.std.specs.Prelude.{ℕ, ◌+◌, ◌*◌, not, List, length, Option, None, Some, count_by, sum_by}
use Rattle.std.specs.FinMap as map
use Rattle.ground_model.specs.declared.edit.Edit.{Edit}
use Rattle.ground_model.specs.declared.edit.Edit.TheVariants.{AddPoint, RemovePoint, SetLevel, AddLine, RemoveLine}
use Rattle.ground_model.specs.Place.{Coords}
use Rattle.ground_model.specs.Side.{is_on_segment}
use Rattle.ground_model.specs.Line.{Line, links}
use Rattle.ground_model.specs.Content.{Content, after, points_of}
use Rattle.ground_model.specs.Tri.{tri, is_facet_of}
use Rattle.ground_model.specs.Zone.{zone}
use Rattle.ground_model.specs.History.{content_of}
use Rattle.turn_lock.specs.declared.journal.Journal.{Journal}

-- how many facets there are now that were not there before
abbrev pub fresh : Content → Content → ℕ
fresh before now = count_by (λ f. not (is_facet_of before f)) (tri now)

-- how many of the points stand on the links of a line, link by link
abbrev pub on_links : List Coords → Line → ℕ
on_links points line = sum_by (λ link. count_by (is_on_segment link.0 link.1) points) (links line)

-- the same of a line that may not be there
abbrev pub on_line : List Coords → Option Line → ℕ
on_line points None = 0
on_line points (Some line) = on_links points line

-- how many points an edit of a line meets
abbrev pub vertices : Content → Edit → ℕ
vertices c (AddLine kind places) = on_links (points_of c) (record { kind = kind; places = places })
vertices c (RemoveLine id) = on_line (points_of c) (map.get c.table.lines id.0)
vertices c (AddPoint p z) = 0
vertices c (RemovePoint p) = 0
vertices c (SetLevel p z) = 0

-- the most page steps of a commit of this edit, planned at a base, which leads from one journal to another: by the marks of its zone, by the facets that are made at the base and by the commit, and by the points on its line
abbrev pub most_steps : Journal → Edit → Journal → Journal → ℕ
most_steps base edit old new =
    8 * (length (zone (content_of base.entries) edit) + fresh (content_of base.entries) (after (content_of base.entries) edit) + fresh (content_of old.entries) (content_of new.entries))
    + 64
    + 4 * (vertices (content_of base.entries) edit + vertices (content_of old.entries) edit)
