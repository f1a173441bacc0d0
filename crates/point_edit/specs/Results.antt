-- What an edit of a point leaves.
use Rattle.std.specs.Prelude.{◌≡◌, ◌⊎◌, ℕ, None, List}
use Rattle.ground_model.specs.declared.facet.Facet.{Facet}
use Rattle.ground_model.specs.Mark.{is_among}
use Rattle.predicates.specs.Net.{Net, facets_of, tri_of}
use Rattle.tri_pages.specs.Slots.{State}
use Rattle.mesh.specs.Faces.{face_at}
use Rattle.mesh.specs.Net.{slots_of}
use Rattle.mesh.specs.Suspects.{IsNamedFrom}

-- the net's triangles of three places are, with their counts, the facets of its points and pieces
abbrev pub HasFacetsOfNet : Net → Type 0
HasFacetsOfNet net = (f : Facet) → is_among (facets_of net) f ≡ is_among (tri_of net) f

-- the script names each slot whose corners, counts or stamp are others than before
abbrev pub NamesWritten : List State → List State → List ℕ → Type 0
NamesWritten old new script = (s : ℕ) → IsNamedFrom script 0 s ⊎ (face_at (slots_of new) s ≡ face_at (slots_of old) s)

-- so it does, but for slots that are free now
abbrev pub NamesMade : List State → List State → List ℕ → Type 0
NamesMade old new script = (s : ℕ) → IsNamedFrom script 0 s ⊎ ((face_at (slots_of new) s ≡ face_at (slots_of old) s) ⊎ (face_at (slots_of new) s ≡ None))
