-- Where pieces end: the next points on the links over a point.
use Rattle.std.specs.Prelude.{ℕ, Bool, ◌≡◌, ◌&&◌, ◌||◌, List, Option, None, count_by, if◌then◌else◌}
use Rattle.std.specs.List.{filter_map, find, list_any}
use Rattle.std.specs.List.Sorted.{IsStrictlySortedBy}
use Rattle.ground_model.specs.Place.{Coords, place_cmp, is_before, is_same}
use Rattle.ground_model.specs.Side.{is_on_segment}
use Rattle.ground_model.specs.Line.{Line, Segment, links}

-- whether the link holds p, and an end of it comes after p
abbrev pub goes_on : Coords → Segment → Bool
goes_on p link = (is_before p link.0 || is_before p link.1) && is_on_segment link.0 link.1 p

-- the first of the later points on the link, if it goes on from p
abbrev pub next_on : List Coords → Coords → Segment → Option Coords
next_on later p link = if goes_on p link then find (is_on_segment link.0 link.1) later else None

-- the next points after p on the links of the line
unfoldable pub next_points : List Coords → Coords → Line → List Coords
next_points later p line = filter_map (next_on later p) (links line)

-- the next points after p on the links of the lines, each once and in order
pub record AreEnds (later : List Coords) (p : Coords) (lines : List Line) (ends : List Coords) : Type 0 where
  pub each : (q : Coords) → list_any (is_same q) ends ≡ list_any (λ line. list_any (is_same q) (next_points later p line)) lines
  pub in_order : IsStrictlySortedBy place_cmp ends

-- whether one link of the line holds both places
unfoldable pub spans : Coords → Coords → Line → Bool
spans p q line = list_any (λ link. is_on_segment link.0 link.1 p && is_on_segment link.0 link.1 q) (links line)

-- how many of the lines have a link over both places
abbrev pub count_over : List Line → Coords → Coords → ℕ
count_over lines p q = count_by (spans p q) lines
