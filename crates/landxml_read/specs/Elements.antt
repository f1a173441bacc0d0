-- The elements of a tree, in document order, each with its place and with what its path makes of it.
use Rattle.std.specs.Prelude.{ℕ, ◌+◌, ◌-◌, List, [], ◌∷◌, ◌++◌, length, codes, bytes_eq, if◌then◌else◌, Option, Some, None}
use Rattle.landxml_read.specs.declared.kind.Kind.{Kind}
use Rattle.landxml_read.specs.declared.kind.Kind.TheVariants.{Outside, Root, Units, UnitOf, Surfaces, Surface, SourceData, Boundaries, Boundary, Breaklines, Breakline, DataPoints, Triples, Pairs, Definition, Points, Point, Faces, Face, Skipped}
use Rattle.landxml_read.specs.Markup.{StartTag, EndTag, Content, Nothing, Byte, Comment, Instruction, CData, Empty, Element, content_text, start_text, empty_text, end_text}

-- the kind of the first row of this name, or skipped
abbrev pub among : List (List ℕ × Kind) → List ℕ → Kind
among [] name = Skipped
among (row ∷ rows) name = if bytes_eq name row.0 then row.1 else among rows name

-- the lists of places
abbrev pub lists : List (List ℕ × Kind)
lists = (codes "PntList3D", Triples) ∷ (codes "PntList2D", Pairs) ∷ []

-- the paths that are read: what a name makes of an element in one of a kind
abbrev pub below : Kind → List ℕ → Kind
below Outside = among ((codes "LandXML", Root) ∷ [])
below Root = among ((codes "Units", Units) ∷ (codes "Surfaces", Surfaces) ∷ [])
below Units = among ((codes "Metric", UnitOf) ∷ (codes "Imperial", UnitOf) ∷ [])
below Surfaces = among ((codes "Surface", Surface) ∷ [])
below Surface = among ((codes "SourceData", SourceData) ∷ (codes "Definition", Definition) ∷ [])
below SourceData = among ((codes "Boundaries", Boundaries) ∷ (codes "Breaklines", Breaklines) ∷ (codes "DataPoints", DataPoints) ∷ [])
below Boundaries = among ((codes "Boundary", Boundary) ∷ [])
below Boundary = among lists
below Breaklines = among ((codes "Breakline", Breakline) ∷ [])
below Breakline = among lists
below DataPoints = among lists
below Definition = among ((codes "Pnts", Points) ∷ (codes "Faces", Faces) ∷ [])
below Points = among ((codes "P", Point) ∷ [])
below Faces = among ((codes "F", Face) ∷ [])
below Triples = among []
below Pairs = among []
below UnitOf = among []
below Point = among []
below Face = among []
below Skipped = among []

-- an element, with its places in the document
pub record Found : Type 0 where
  pub kind : Kind
  pub depth : ℕ  -- how many elements are open, this one with them
  pub at : ℕ  -- its <
  pub tag : StartTag
  pub tag_end : ℕ  -- the > of its tag
  pub inside : Content
  pub ending : Option EndTag
  pub end_at : ℕ  -- the < of its end tag, or its own where it has none
  pub end_end : ℕ  -- the > of its end tag, or its own

-- an element of one tag
abbrev pub empty_found : Kind → ℕ → ℕ → StartTag → Found
empty_found kind depth at tag = let last = at + length (empty_text tag) - 1 in
    record { kind = kind; depth = depth; at = at; tag = tag; tag_end = last; inside = Nothing; ending = None; end_at = at; end_end = last }

-- an element of two tags
abbrev pub whole_found : Kind → ℕ → ℕ → StartTag → Content → EndTag → Found
whole_found kind depth at tag inside end =
    let inside_at = at + length (start_text tag) in
    let end_at = inside_at + length (content_text inside) in
    record { kind = kind; depth = depth; at = at; tag = tag; tag_end = inside_at - 1; inside = inside; ending = Some end; end_at = end_at; end_end = end_at + length (end_text end) - 1 }

-- the elements of what begins at a place, inside an element of a kind, with so many elements open
abbrev pub elements : Kind → ℕ → ℕ → Content → List Found
elements kind depth at Nothing = []
elements kind depth at (Byte b after) = elements kind depth (at + 1) after
elements kind depth at (Comment bytes after) = elements kind depth (at + (length bytes + 7)) after
elements kind depth at (Instruction bytes after) = elements kind depth (at + (length bytes + 4)) after
elements kind depth at (CData bytes after) = elements kind depth (at + (length bytes + 12)) after
elements kind depth at (Empty tag after) =
    empty_found (below kind tag.name) (depth + 1) at tag ∷ elements kind depth (at + length (empty_text tag)) after
elements kind depth at (Element tag inside end after) =
    whole_found (below kind tag.name) (depth + 1) at tag inside end
    ∷ elements (below kind tag.name) (depth + 1) (at + length (start_text tag)) inside
    ++ elements kind depth (at + length (start_text tag) + length (content_text inside) + length (end_text end)) after
