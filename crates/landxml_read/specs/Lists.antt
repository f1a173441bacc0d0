-- What a faultless tree holds: its unit, and of each surface the triples, pairs, lines, ids and faces, in document order.
use Rattle.std.specs.Prelude.{ℕ, zero, suc, ◌+◌, nat_lt, List, [], ◌∷◌, ◌++◌, length, map, filter, flat_map, filter_map, codes, bytes_eq, Option, Some, None, if◌then◌else◌, unwrap_or}
use Rattle.ground_num.specs.declared.head.LinearUnit.{LinearUnit}
use Rattle.ground_num.specs.declared.head.LinearUnit.TheVariants.{Meter, Foot, USSurveyFoot}
use Rattle.ground_num.specs.declared.decimal.Thousandths.{Thousandths}
use Rattle.landxml_read.specs.declared.raw.Triple.{Triple}
use Rattle.landxml_read.specs.declared.raw.Pair2.{Pair2}
use Rattle.landxml_read.specs.declared.raw.RawKind.{RawKind}
use Rattle.landxml_read.specs.declared.raw.RawKind.TheVariants as kind
use Rattle.landxml_read.specs.declared.raw.RawVertex.{RawVertex}
use Rattle.landxml_read.specs.declared.raw.RawVertex.TheVariants as vertex
use Rattle.landxml_read.specs.declared.raw.RawLine.{RawLine}
use Rattle.landxml_read.specs.declared.raw.RawId.{RawId}
use Rattle.landxml_read.specs.declared.raw.RawFace.{RawFace}
use Rattle.landxml_read.specs.declared.raw.RawSurface.{RawSurface}
use Rattle.landxml_read.specs.Markup.{Document}
use Rattle.landxml_read.specs.declared.kind.Kind.{Kind}
use Rattle.landxml_read.specs.declared.kind.Kind.TheVariants.{UnitOf, Surface, Boundary, Breakline, Triples, Pairs, Point, Face}
use Rattle.landxml_read.specs.Elements.{Found, elements}
use Rattle.landxml_read.specs.Words.{Word, words}
use Rattle.landxml_read.specs.Numbers.{decimal_of, value_or_zero}
use Rattle.landxml_read.specs.Faults.{value_of, parts_of, document_elements}

-- the number of a word
abbrev pub number : Word → Thousandths
number w = record { 0 = value_or_zero (decimal_of w.text) }

-- words by threes: northing, easting, elevation
abbrev pub by_three : List Word → List Triple
by_three (a ∷ b ∷ c ∷ ws) = record { n = number a; e = number b; z = number c; n_at = a.at; e_at = b.at; z_at = c.at } ∷ by_three ws
by_three _ = []

-- words by twos: northing, easting
abbrev pub by_two : List Word → List Pair2
by_two (a ∷ b ∷ ws) = record { n = number a; e = number b; at = a.at } ∷ by_two ws
by_two _ = []

-- the triples of a three-dimensional list or a P
abbrev pub triples_of : Found → List Triple
triples_of e = of_kind e.kind where
  of_kind : Kind → List Triple
  of_kind Triples = by_three (words (parts_of e))
  of_kind Point = by_three (words (parts_of e))
  of_kind _ = []

-- the pairs of a two-dimensional list
abbrev pub pairs_of : Found → List Pair2
pairs_of e = of_kind e.kind where
  of_kind : Kind → List Pair2
  of_kind Pairs = by_two (words (parts_of e))
  of_kind _ = []

-- the elements inside an element
abbrev pub inner : Found → List Found
inner e = elements e.kind e.depth (e.tag_end + 1) e.inside

-- those of a surface's elements that begin before an offset
abbrev pub before : ℕ → Found → List Found
before offset surface = filter (λ x. nat_lt x.at offset) (inner surface)

-- the numbers from one on, so many
abbrev pub counted : ℕ → ℕ → List ℕ
counted first zero = []
counted first (suc n) = first ∷ counted (suc first) n

-- the vertices of a list: the indices of its triples or pairs among those of its surface
abbrev pub vertices_of : Found → Found → List RawVertex
vertices_of surface e =
    map vertex.Triple (counted (length (flat_map triples_of (before e.at surface))) (length (triples_of e)))
    ++ map vertex.Pair (counted (length (flat_map pairs_of (before e.at surface))) (length (pairs_of e)))

-- the kind of a boundary
abbrev pub ring_kind : List ℕ → RawKind
ring_kind text = if bytes_eq text (codes "void") then kind.Void else (if bytes_eq text (codes "island") then kind.Island else kind.Outer)

-- the kind of a line
abbrev pub line_kind : Found → Option RawKind
line_kind e = of_kind e.kind where
  of_kind : Kind → Option RawKind
  of_kind Boundary = Some (ring_kind (unwrap_or (value_of e) []))
  of_kind Breakline = Some kind.Breakline
  of_kind _ = None

-- the line that an element of a surface is
abbrev pub line_of : Found → Found → Option RawLine
line_of surface e = of_kind (line_kind e) where
  of_kind : Option RawKind → Option RawLine
  of_kind None = None
  of_kind (Some k) = Some (record { at = e.at; kind = k; vertices = flat_map (vertices_of surface) (inner e) })

-- the id that a P has
abbrev pub id_of : Found → Found → Option RawId
id_of surface e = of_kind e.kind where
  of_kind : Kind → Option RawId
  of_kind Point = Some (record { at = e.at; id = unwrap_or (value_of e) []; triple = length (flat_map triples_of (before e.at surface)) })
  of_kind _ = None

-- ids by threes
abbrev pub faces_in : ℕ → List Word → List RawFace
faces_in at (a ∷ b ∷ c ∷ ws) = record { at = at; a = a.text; b = b.text; c = c.text } ∷ faces_in at ws
faces_in at _ = []

-- the face that an F is
abbrev pub faces_of : Found → List RawFace
faces_of e = of_kind e.kind where
  of_kind : Kind → List RawFace
  of_kind Face = faces_in e.at (words (parts_of e))
  of_kind _ = []

-- the surface that an element is
abbrev pub surface_of : Found → Option RawSurface
surface_of e = of_kind e.kind where
  of_kind : Kind → Option RawSurface
  of_kind Surface = Some (record {
    at = e.at;
    name = unwrap_or (value_of e) [];
    triples = flat_map triples_of (inner e);
    pairs = flat_map pairs_of (inner e);
    lines = filter_map (line_of e) (inner e);
    ids = filter_map (id_of e) (inner e);
    faces = flat_map faces_of (inner e);
  })
  of_kind _ = None

-- the surfaces of a document
abbrev pub surfaces_of : Document → List RawSurface
surfaces_of d = filter_map surface_of (document_elements d)

-- the unit that a value names
abbrev pub named_unit : List ℕ → LinearUnit
named_unit text = if bytes_eq text (codes "foot") then Foot else (if bytes_eq text (codes "USSurveyFoot") then USSurveyFoot else Meter)

-- the unit of a Metric or Imperial
abbrev pub unit_in : Found → Option LinearUnit
unit_in e = of_kind e.kind where
  of_kind : Kind → Option LinearUnit
  of_kind UnitOf = Some (named_unit (unwrap_or (value_of e) []))
  of_kind _ = None

-- the first unit, or the meter
abbrev pub first_or_meter : List LinearUnit → LinearUnit
first_or_meter [] = Meter
first_or_meter (unit ∷ units) = unit

-- the unit of a document
abbrev pub unit_of : Document → LinearUnit
unit_of d = first_or_meter (filter_map unit_in (document_elements d))
