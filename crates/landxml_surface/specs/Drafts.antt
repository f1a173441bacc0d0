-- What a surface of a document is to be loaded from.
use Rattle.std.specs.Prelude.{ℕ, ℤ, ⊤, Bool, false, not, ◌-◌, nat_lt, List, [], ◌∷◌, length, map, count_by, take, Option, None, Some, slice_get, option_map, option_and_then, unwrap_or, if◌then◌else◌}
use Rattle.std.specs.List.{dedup, filter, filter_map, flat_map}
use Rattle.ground_num.specs.declared.decimal.Thousandths.{Thousandths}
use Rattle.ground_num.specs.declared.head.LinearUnit.{LinearUnit}
use Rattle.ground_num.specs.declared.head.Origin.{Origin}
use Rattle.ground_num.specs.Head.{IsOrigin}
use Rattle.ground_model.specs.declared.line.LineKind.{LineKind}
use Rattle.ground_model.specs.declared.line.LineKind.TheVariants as lines
use Rattle.ground_model.specs.Kind.{is_ring, least_places}
use Rattle.ground_model.specs.Place.{Coords, is_same}
use Rattle.landxml_read.specs.declared.raw.RawKind.{RawKind}
use Rattle.landxml_read.specs.declared.raw.RawKind.TheVariants as raw
use Rattle.landxml_read.specs.declared.raw.RawFace.{RawFace}
use Rattle.landxml_read.specs.declared.raw.RawLine.{RawLine}
use Rattle.landxml_read.specs.declared.raw.RawSurface.{RawSurface}
use Rattle.landxml_read.specs.declared.raw.RawVertex.{RawVertex}
use Rattle.landxml_read.specs.declared.raw.RawVertex.TheVariants as vertex
use Rattle.landxml_surface.specs.declared.draft.Draft.{Draft}
use Rattle.landxml_read.specs.declared.fault.DocFault.{DocFault}
use Rattle.landxml_surface.specs.declared.origin.OriginRule.{OriginRule}
use Rattle.landxml_surface.specs.declared.origin.OriginRule.TheVariants.{Given, Nearest}
use Rattle.landxml_surface.specs.declared.spot.Spot.{Spot}
use Rattle.landxml_surface.specs.Faults.{pair_spot, surface_faults}
use Rattle.landxml_surface.specs.Heights.{spot_of, heights, marked, is_double, is_clash}
use Rattle.landxml_surface.specs.Ids.{triple_of}
use Rattle.landxml_surface.specs.Origins.{origin_by, from_origin}

-- ---- lines

abbrev pub kind_of : RawKind → LineKind
kind_of raw.Breakline = lines.Breakline
kind_of raw.Outer = lines.Outer
kind_of raw.Void = lines.Void
kind_of raw.Island = lines.Island

-- where a vertex is
abbrev pub vertex_spot : RawSurface → RawVertex → Option Spot
vertex_spot s (vertex.Triple k) = option_map spot_of (slice_get s.triples k)
vertex_spot s (vertex.Pair k) = option_map pair_spot (slice_get s.pairs k)

-- where a vertex is, as it is seen from the origin
abbrev pub vertex_place : Origin → RawSurface → RawVertex → Option Coords
vertex_place origin s v = option_map (from_origin origin) (vertex_spot s v)

-- whether the last of the places is this one
abbrev pub ends_at : Coords → List Coords → Bool
ends_at p ps = unwrap_or (option_map (is_same p) (slice_get ps (length ps - 1))) false

-- the places without a last one that is equal to the first
abbrev pub opened : List Coords → List Coords
opened [] = []
opened (p ∷ ps) = if ends_at p ps then p ∷ take (length ps - 1) ps else p ∷ ps

-- of equal places that follow each other one is left; then a ring is opened
abbrev pub cleaned : LineKind → List Coords → List Coords
cleaned kind ps = if is_ring kind then opened (dedup is_same ps) else dedup is_same ps

-- a kind and its places
abbrev pub DraftLine : Type 0
DraftLine = LineKind × List Coords

-- a line of the document, cleaned
unfoldable pub line_of : Origin → RawSurface → RawLine → DraftLine
line_of origin s l = (kind_of l.kind, cleaned (kind_of l.kind) (filter_map (vertex_place origin s) l.vertices))

-- whether a line has too few places for its kind
abbrev pub is_short : DraftLine → Bool
is_short l = nat_lt (length l.1) (least_places l.0)

-- ---- faces

-- where the point with an id is, as it is seen from the origin
abbrev pub corner_place : Origin → RawSurface → List ℕ → Option Coords
corner_place origin s name = option_map (from_origin origin) (option_map spot_of (option_and_then (slice_get s.triples) (triple_of s.ids name)))

abbrev pub three : {X : Type 0} → Option X → Option X → Option X → Option (X × X × X)
three None b c = None
three (Some a) None c = None
three (Some a) (Some b) None = None
three (Some a) (Some b) (Some c) = Some (a, b, c)

-- the corners of a face
unfoldable pub face_of : Origin → RawSurface → RawFace → Option (Coords × Coords × Coords)
face_of origin s f = three (corner_place origin s f.a) (corner_place origin s f.b) (corner_place origin s f.c)

-- ---- the draft

-- a point, as it is seen from the origin
abbrev pub point_of : Origin → Spot × Thousandths → Coords × ℤ
point_of origin h = (from_origin origin h.0, h.1.0)

-- the draft of a surface without a fault
unfoldable pub draft_of : LinearUnit → OriginRule → RawSurface → Draft
draft_of unit rule s =
    let origin = origin_by rule s.triples in
    let all = map (line_of origin s) s.lines in
    record {
      head = record { name = s.name; unit = unit; origin = origin };
      points = map (point_of origin) (heights s.triples);
      lines = filter (λ l. not (is_short l)) all;
      faces = filter_map (face_of origin s) s.faces;
      doubles = count_by is_double (marked s.triples);
      clashes = count_by is_clash (marked s.triples);
      short = count_by is_short all;
    }

-- ---- the document

-- what is wrong with the surfaces of a document
abbrev pub document_faults : OriginRule → List RawSurface → List DocFault
document_faults rule ss = flat_map (surface_faults rule) ss

-- the origin that a rule gives is within its limit
abbrev pub IsRule : OriginRule → Type 0
IsRule (Given origin) = IsOrigin origin
IsRule Nearest = ⊤
