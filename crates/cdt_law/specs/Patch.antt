-- Planned triangles put into a newer sheet.
use Rattle.std.specs.Prelude.{◌≡◌, true, Bool, ℕ, ◌+◌, List, ◌++◌}
use Rattle.std.specs.List.{All, list_all, list_any, flat_map}
use Rattle.ground_model.specs.declared.corner.Corner.{Corner}
use Rattle.ground_model.specs.declared.facet.Facet.{Facet}
use Rattle.ground_model.specs.Place.{IsPlace}
use Rattle.ground_model.specs.Mark.{is_among}
use Rattle.predicates.specs.Net.{Net, Triangle, Edge, is_triangle, edges_of, times_in, reversed, has, count_of, facets_of, tri_of}
use Rattle.predicates.specs.Sheet.{IsSheet, IsLocallyDelaunay, are_over}
use Rattle.predicates.specs.Tiling.{IsSpanned}

-- whether a, b, c are the corners of a triangle of the list, in this turn
abbrev pub is_in : List Triangle → Corner → Corner → Corner → Bool
is_in ts a b c = list_any (is_triangle a b c) ts

-- how often the edge is one of the triangles of the list
abbrev pub times_among : List Triangle → Edge → ℕ
times_among ts x = times_in (flat_map edges_of ts) x

-- after is the newest net with triangles of the planned net in the place of those destroyed
pub record IsPatch (planned newest after : Net) : Type 0 where
  pub destroyed : List Triangle
  pub made : List Triangle
  pub others : List Triangle
  pub newest_is : newest.triangles ≡ destroyed ++ others
  pub after_is : after.triangles ≡ made ++ others
  pub made_in : (a b c : Corner) → is_in made a b c ≡ true → has planned a b c ≡ true
  -- the destroyed and the made triangles have one boundary
  pub boundary : (x : Edge) → times_among destroyed x + times_among made (reversed x) ≡ times_among made x + times_among destroyed (reversed x)
  -- a triangle that a made one meets over an edge is the one that it meets there in the planned net
  pub beside : (a b c d : Corner) → is_in made a b c ≡ true → is_in others b a d ≡ true → has planned b a d ≡ true
  -- each edge has its count of after
  pub made_counts : (a b c : Corner) → is_in made a b c ≡ true → count_of planned a b ≡ count_of after a b
  pub other_counts : (a b c : Corner) → is_in others a b c ≡ true → count_of newest a b ≡ count_of after a b
  -- after has places as points, of which its triangles' corners are, each point is a corner, and each piece an edge
  pub places : All IsPlace after.points
  pub over : list_all (are_over after.points) after.triangles ≡ true
  pub spanned : IsSpanned after

-- triangles of one locally Delaunay sheet put into another, in the place of those with the same boundary, make a third, which so has the facets of its points and pieces
abbrev pub PatchLaw : Type 0
PatchLaw = (planned newest after : Net) → IsSheet planned → IsLocallyDelaunay planned → IsSheet newest → IsLocallyDelaunay newest → IsPatch planned newest after
    → IsSheet after × (IsLocallyDelaunay after × ((f : Facet) → is_among (facets_of after) f ≡ is_among (tri_of after) f))
