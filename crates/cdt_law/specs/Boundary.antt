-- The facets that one of two sheets has and the other has not, and the boundary that these have.
use Rattle.std.specs.Prelude.{◌≡◌, ◌+◌, true, false, Bool, not, List, Option, Some, None}
use Rattle.std.specs.List.{filter}
use Rattle.ground_model.specs.declared.corner.Corner.{Corner}
use Rattle.ground_model.specs.declared.corner.Corner.TheVariants.{At}
use Rattle.ground_model.specs.declared.facet.Facet.{Facet}
use Rattle.ground_model.specs.Place.{Coords}
use Rattle.ground_model.specs.Mark.{is_among}
use Rattle.predicates.specs.Net.{Net, Triangle, Edge, has, reversed, facet_by, facets_of}
use Rattle.predicates.specs.Sheet.{IsSheet}
use Rattle.cdt_law.specs.Patch.{is_in, times_among}
use Rattle.cdt_law.specs.Hull.{Encloses}

-- whether there is a facet, which is not among those
abbrev pub is_missing : List Facet → Option Facet → Bool
is_missing fs None = false
is_missing fs (Some f) = not (is_among fs f)

-- the triangles whose facets, with their counts, the other net has not
abbrev pub gone : Net → Net → List Triangle
gone net other = filter (λ t. is_missing (facets_of other) (facet_by net t.a t.b t.c)) net.triangles

-- a facet of the net lies beyond the edge
pub record IsMet (net : Net) (a b : Corner) : Type 0 where
  pub third : Coords
  pub there : has net b a (At third) ≡ true

-- a facet lies beyond each edge of those that are gone: none of these edges is on the hull
abbrev pub IsInner : Net → Net → Type 0
IsInner net other = (a b c : Corner) → is_in (gone net other) a b c ≡ true → IsMet net a b

-- of two sheets that enclose each other's points, the facets that each has alone have one boundary, where none is on the hull
abbrev pub BoundaryLaw : Type 0
BoundaryLaw = (base planned : Net) → IsSheet base → IsSheet planned → Encloses base planned → Encloses planned base → IsInner base planned → IsInner planned base
    → (x : Edge) → times_among (gone base planned) x + times_among (gone planned base) (reversed x) ≡ times_among (gone planned base) x + times_among (gone base planned) (reversed x)
