-- The facets of a content.
use Rattle.std.specs.Prelude.{ℕ, Bool, not, ◌&&◌, ◌||◌, List, map, Option, Some, None, nat_eq}
use Rattle.std.specs.List.{list_all, list_any, filter, flat_map, find}
use Rattle.ground_model.specs.declared.facet.Facet.{Facet}
use Rattle.ground_model.specs.declared.piece.Piece.{Piece}
use Rattle.ground_model.specs.Place.{Coords, is_before, is_same}
use Rattle.ground_model.specs.Side.{is_left, is_right, holds, crosses}
use Rattle.ground_model.specs.Height.{is_inside}
use Rattle.ground_model.specs.Content.{Content, points_of, pieces}
use Rattle.ground_model.specs.Wall.{is_walled}
use Rattle.ground_model.specs.Line.{is_point}

-- no point other than the corners lies in the closed triangle
unfoldable pub is_empty : List Coords → Coords → Coords → Coords → Bool
is_empty points a b c = list_all (λ p. not (holds a b c p) || is_same p a || is_same p b || is_same p c) points

-- no piece crosses the edge
unfoldable pub is_crossed_by_none : List Piece → Coords → Coords → Bool
is_crossed_by_none ps a b = list_all (λ piece. not (crosses a b piece.p piece.q)) ps

-- one piece walls the place from ab
unfoldable pub is_walled_from : List Piece → Coords → Coords → Coords → Bool
is_walled_from ps a b p = list_any (λ piece. is_walled a b p piece.p piece.q) ps

-- each point is walled from ab, unless it does not lie beyond ab
abbrev pub is_walled_if_beyond : List Piece → Coords → Coords → Coords → Bool
is_walled_if_beyond ps a b p = not (is_right a b p) || is_walled_from ps a b p

-- each point inside the circle is walled from the edge beyond which it lies
unfoldable pub is_walled_off : List Coords → List Piece → Coords → Coords → Coords → Bool
is_walled_off points ps a b c = list_all (λ p. not (is_inside a b c p) || (is_walled_if_beyond ps a b p && is_walled_if_beyond ps b c p && is_walled_if_beyond ps c a p)) points

-- whether a, b, c are the corners of a facet, the least first
unfoldable pub is_facet : List Coords → List Piece → Coords → Coords → Coords → Bool
is_facet points ps a b c = (is_before a b && is_before a c && is_left a b c)
    && is_empty points a b c
    && (is_crossed_by_none ps a b && is_crossed_by_none ps b c && is_crossed_by_none ps c a)
    && is_walled_off points ps a b c

-- whether the piece joins p and q
abbrev pub joins : Coords → Coords → Piece → Bool
joins p q piece = is_same piece.p p && is_same piece.q q || is_same piece.p q && is_same piece.q p

-- the count of a piece, 0 where there is none
abbrev pub count_in : Option Piece → ℕ
count_in None = 0
count_in (Some piece) = piece.count

-- the count of the piece that joins p and q, 0 where there is none
abbrev pub count_at : List Piece → Coords → Coords → ℕ
count_at ps p q = count_in (find (joins p q) ps)

-- three places, the corners of what may be a facet
abbrev pub Triple : Type 0
Triple = Coords × (Coords × Coords)

-- all triples, in order by the first place, then the second, then the third
abbrev pub triples : List Coords → List Triple
triples points = flat_map (λ a. flat_map (λ b. map (λ c. (a, (b, c))) points) points) points

-- whether the three are the corners of a facet, the least first
abbrev pub is_facet_at : List Coords → List Piece → Triple → Bool
is_facet_at points ps t = is_facet points ps t.0 t.1.0 t.1.1

-- the three as a facet, with the counts of these pieces
abbrev pub facet_with : List Piece → Triple → Facet
facet_with ps t = record { a = t.0; b = t.1.0; c = t.1.1; ab = count_at ps t.0 t.1.0; bc = count_at ps t.1.0 t.1.1; ca = count_at ps t.1.1 t.0 }

-- the facets, in order by a, then b, then c: each triple is tested by itself
unfoldable pub facets : List Coords → List Piece → List Facet
facets points ps = map (facet_with ps) (filter (is_facet_at points ps) (triples points))

-- whether the facet has the counts of these pieces
abbrev pub has_counts : List Piece → Facet → Bool
has_counts ps f = nat_eq f.ab (count_at ps f.a f.b) && nat_eq f.bc (count_at ps f.b f.c) && nat_eq f.ca (count_at ps f.c f.a)

-- whether it is one of the facets: this is a test of the facet by itself
abbrev pub is_facet_over : List Coords → List Piece → Facet → Bool
is_facet_over points ps f = is_point points f.a && is_point points f.b && is_point points f.c && is_facet points ps f.a f.b f.c && has_counts ps f

-- whether the facets of the content have it
unfoldable pub is_facet_of : Content → Facet → Bool
is_facet_of c f = is_facet_over (points_of c) (pieces c) f

-- the facets of the content, in order
abbrev pub tri : Content → List Facet
tri c = facets (points_of c) (pieces c)
