-- How long the text of a surface is at the most.
use Rattle.std.specs.Prelude.{◌≡◌, ℕ, ◌≤◌, ◌<◌, List, length, Some, slice_get}
use Rattle.std.specs.List.{sum_by}
use Rattle.ground_model.specs.Line.{Line}
use Rattle.landxml_write.specs.Exports.{Vertex, Exported}
use Rattle.landxml_write.specs.Text.{vertex_text}

-- the northing, the easting and the level of each point have at most 80 bytes, with the spaces between them
abbrev pub AreShort : Exported → Type 0
AreShort e = (k : ℕ) (v : Vertex) → slice_get e.points k ≡ Some v → length (vertex_text e.head.origin v) ≤ 80

-- that of each of the first so many points
abbrev pub AreShortTo : Exported → ℕ → Type 0
AreShortTo e n = (k : ℕ) (v : Vertex) → k < n → slice_get e.points k ≡ Some v → length (vertex_text e.head.origin v) ≤ 80

-- how many places the lines have together
abbrev pub places_in : List Line → ℕ
places_in lines = sum_by (λ line. length line.places) lines
