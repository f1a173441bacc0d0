-- A request with the origin taken off, where its places and levels are within their limits.
use Rattle.std.specs.Prelude.{ℕ, ℤ, pos, neg_ℤ, ◌-ℤ◌, int_le, Bool, ◌&&◌, List, map, Option, Some, None, option_map, option_and_then, if◌then◌else◌}
use Rattle.std.specs.List.{list_all}
use Rattle.ground_num.specs.declared.head.Origin.{Origin}
use Rattle.ground_model.specs.declared.edit.Edit.{Edit}
use Rattle.ground_model.specs.declared.edit.Edit.TheVariants as edits
use Rattle.ground_model.specs.Place.{Coords, place_limit, level_limit}
use Rattle.line_protocol.specs.declared.request.Request.{Request}
use Rattle.line_protocol.specs.declared.request.Request.TheVariants as requests
use Rattle.line_protocol.specs.Spoken.{Spoken, SpokenEdit, AddPoint, RemovePoint, SetLevel, AddLine, RemoveLine, Sync, Plan, Commit, Apply, Level, Contour, Volume, Stat, Export, Quit}
use Rattle.line_protocol.specs.Grammar.{both, spoken}

abbrev pub is_within : ℕ → ℤ → Bool
is_within m z = int_le (neg_ℤ (pos m)) z && int_le z (pos m)

-- the coordinates of a place
abbrev pub is_place : Coords → Bool
is_place p = is_within place_limit p.e && is_within place_limit p.n

-- the place, as seen from the origin
abbrev pub from_origin : Origin → Coords → Coords
from_origin o p = record { e = p.e -ℤ o.e.0; n = p.n -ℤ o.n.0 }

-- x, where the test passes
abbrev pub where_true : {X : Type 0} → Bool → X → Option X
where_true test x = if test then Some x else None

abbrev pub place_within : Origin → Coords → Option Coords
place_within o p = where_true (is_place (from_origin o p)) (from_origin o p)

abbrev pub level_within : ℤ → Option ℤ
level_within z = where_true (is_within level_limit z) z

abbrev pub spot_within : Origin → Coords × ℤ → Option (Coords × ℤ)
spot_within o s = both (place_within o s.0) (level_within s.1)

abbrev pub places_within : Origin → List Coords → Option (List Coords)
places_within o ps = where_true (list_all is_place (map (from_origin o) ps)) (map (from_origin o) ps)

unfoldable pub edit_within : Origin → SpokenEdit → Option Edit
edit_within o (AddPoint p z) = option_map (λ s. edits.AddPoint s.0 s.1) (spot_within o (p, z))
edit_within o (RemovePoint p) = option_map edits.RemovePoint (place_within o p)
edit_within o (SetLevel p z) = option_map (λ s. edits.SetLevel s.0 s.1) (spot_within o (p, z))
edit_within o (AddLine kind ps) = option_map (edits.AddLine kind) (places_within o ps)
edit_within o (RemoveLine id) = Some (edits.RemoveLine (record { 0 = id }))

-- the request, where all its places and levels are within their limits
unfoldable pub request_within : Origin → Spoken → Option Request
request_within o Sync = Some requests.Sync
request_within o (Plan edit) = option_map requests.Plan (edit_within o edit)
request_within o Commit = Some requests.Commit
request_within o (Apply edit) = option_map requests.Apply (edit_within o edit)
request_within o (Level p) = option_map requests.Level (place_within o p)
request_within o (Contour z) = option_map requests.Contour (level_within z)
request_within o (Volume z) = option_map requests.Volume (level_within z)
request_within o Stat = Some requests.Stat
request_within o Export = Some requests.Export
request_within o Quit = Some requests.Quit

-- the request of a line, within its limits
abbrev pub request_of : Origin → List ℕ → Option Request
request_of o line = option_and_then (request_within o) (spoken line)
