-- Which faces of a document are facets of a surface.
use Rattle.std.specs.Prelude.{◌≡◌, Bool, true, false, ◌&&◌, ◌||◌, List, Option, None, Some}
use Rattle.std.specs.List.{list_any}
use Rattle.ground_model.specs.declared.facet.Facet.{Facet}
use Rattle.ground_model.specs.Place.{Coords, IsPlace, is_before, is_same}

-- the corners of a facet are these three, in this order
abbrev pub has_corners : Coords → Coords → Coords → Facet → Bool
has_corners a b c f = is_same f.a a && is_same f.b b && is_same f.c c

-- the three places, in any order, are the corners of one of the facets
unfoldable pub agrees : List Facet → Coords × Coords × Coords → Bool
agrees fs face =
    list_any (has_corners face.0 face.1 face.2) fs || list_any (has_corners face.1 face.2 face.0) fs || list_any (has_corners face.2 face.0 face.1) fs
    || list_any (has_corners face.0 face.2 face.1) fs || list_any (has_corners face.2 face.1 face.0) fs || list_any (has_corners face.1 face.0 face.2) fs

-- no place stands between the two; or none stands before the one
abbrev pub IsRightBefore : Coords → Option Coords → Type 0
IsRightBefore c None = (q : Coords) → IsPlace q → is_before q c ≡ false
IsRightBefore c (Some p) = (is_before p c ≡ true) × ((q : Coords) → IsPlace q → is_before p q ≡ true → is_before q c ≡ false)
