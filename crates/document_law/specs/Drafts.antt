-- What a document is read as, and when a draft is the surface that was written.
use Rattle.std.specs.Prelude.{◌≡◌, ℕ, ℤ, not, List, [], ◌∷◌, ◌++◌, map, Option, None, option_map}
use Rattle.std.specs.List.{filter, find}
use Rattle.ground_model.specs.declared.line.LineKind.{LineKind}
use Rattle.ground_model.specs.Kind.{is_ring}
use Rattle.ground_model.specs.Line.{Line}
use Rattle.ground_model.specs.Place.{Coords, is_same}
use Rattle.landxml_read.specs.declared.raw.RawDoc.{RawDoc}
use Rattle.landxml_read.specs.Reader.{IsRead}
use Rattle.landxml_surface.specs.declared.draft.Draft.{Draft}
use Rattle.landxml_surface.specs.declared.origin.OriginRule.{OriginRule}
use Rattle.landxml_surface.specs.Drafts.{draft_of, document_faults}
use Rattle.landxml_surface.specs.Faults.{least_of}
use Rattle.landxml_write.specs.Exports.{Vertex, Face, Exported}

-- the bytes spell a document without a fault, and these are the drafts of its surfaces
pub record AreDrafts (bytes : List ℕ) (rule : OriginRule) (all : List Draft) : Type 0 where
  pub doc : RawDoc
  pub read : IsRead bytes doc
  pub faultless : least_of (document_faults rule doc.surfaces) ≡ None
  pub drafts : all ≡ map (draft_of doc.unit rule) doc.surfaces

-- the level of the first of the points at a place
abbrev pub level_in : List Vertex → Coords → Option ℤ
level_in points p = option_map (λ v. v.1) (find (λ v. is_same p v.0) points)

-- no point is at the place of an earlier one
abbrev pub AreOnce : List Vertex → Type 0
AreOnce [] = Unit {0}
AreOnce (v ∷ vs) = (level_in vs v.0 ≡ None) × AreOnce vs

-- the same places with the same levels, each once
pub record AreSamePoints (points others : List Vertex) : Type 0 where
  pub levels : (p : Coords) → level_in points p ≡ level_in others p
  pub once : AreOnce points
  pub others_once : AreOnce others

-- a line's kind and its places
abbrev pub drafted : Line → LineKind × List Coords
drafted line = (line.kind, line.places)

-- the rings, then the breaklines
abbrev pub rings_first : List Line → List Line
rings_first lines = filter (λ line. is_ring line.kind) lines ++ filter (λ line. not (is_ring line.kind)) lines

-- a facet's corners
abbrev pub corners : Face → Coords × Coords × Coords
corners f = (f.0.a, f.0.b, f.0.c)

-- the draft is the same surface: nothing of it was left out or changed
pub record IsSameSurface (draft : Draft) (e : Exported) : Type 0 where
  pub head : draft.head ≡ e.head
  pub points : AreSamePoints draft.points e.points
  pub lines : draft.lines ≡ map drafted (rings_first e.lines)
  pub faces : draft.faces ≡ map corners e.faces
  pub clashes : draft.clashes ≡ 0
  pub short : draft.short ≡ 0
