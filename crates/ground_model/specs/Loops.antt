-- The facets as three loops over the points find them: the same list as `facets`.
use Rattle.std.specs.Prelude.{List, Option, Some, None, if◌then◌else◌}
use Rattle.std.specs.List.{filter_map, flat_map}
use Rattle.ground_model.specs.declared.facet.Facet.{Facet}
use Rattle.ground_model.specs.declared.piece.Piece.{Piece}
use Rattle.ground_model.specs.Place.{Coords}
use Rattle.ground_model.specs.Tri.{is_facet, facet_with}

-- the facet of these corners, if they are those of one
abbrev pub facet_at : List Coords → List Piece → Coords → Coords → Coords → Option Facet
facet_at points ps a b c = if is_facet points ps a b c then Some (facet_with ps (a, (b, c))) else None

-- the facets with the corners a and b, in order
abbrev pub facets_on : List Coords → List Piece → Coords → Coords → List Facet
facets_on points ps a b = filter_map (facet_at points ps a b) points

-- the facets whose least corner is a, in order
abbrev pub facets_from : List Coords → List Piece → Coords → List Facet
facets_from points ps a = flat_map (facets_on points ps a) points

-- all facets, in order
unfoldable pub facets_by_loops : List Coords → List Piece → List Facet
facets_by_loops points ps = flat_map (facets_from points ps) points
