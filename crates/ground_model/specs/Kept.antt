-- Which facets are kept.
use Rattle.std.specs.Prelude.{◌%◌, pos, ◌+ℤ◌, ◌*ℤ◌, int_lt, Bool, true, not, ◌&&◌, ◌||◌, List, reverse, count_by, unwrap_or, option_map, if◌then◌else◌, nat_eq, find, filter}
use Rattle.std.specs.List.{list_any}
use Rattle.ground_model.specs.declared.facet.Facet.{Facet}
use Rattle.ground_model.specs.Place.{Coords}
use Rattle.ground_model.specs.Side.{is_left}
use Rattle.ground_model.specs.Kind.{is_outer, is_void_or_island, is_island}
use Rattle.ground_model.specs.Line.{Line, Segment, links}
use Rattle.ground_model.specs.Content.{Content, lines_of}
use Rattle.ground_model.specs.Tri.{tri}

-- the centre of the facet, in coordinates times three
abbrev pub centre : Facet → Coords
centre f = record { e = f.a.e +ℤ f.b.e +ℤ f.c.e; n = f.a.n +ℤ f.b.n +ℤ f.c.n }

-- the place in coordinates times three
abbrev pub triple : Coords → Coords
triple p = record { e = pos 3 *ℤ p.e; n = pos 3 *ℤ p.n }

-- whether just one end of the link lies north of p, and p lies left of the link, taken northwards
abbrev pub crosses_ray : Coords → Segment → Bool
crosses_ray p link = if int_lt p.n link.0.n
    then not (int_lt p.n link.1.n) && is_left link.1 link.0 p
    else int_lt p.n link.1.n && is_left link.0 link.1 p

-- whether a place, in coordinates times three, lies in the ring
unfoldable pub lies_in_ring : Coords → Line → Bool
lies_in_ring p ring = nat_eq (count_by (λ link. crosses_ray p (triple link.0, triple link.1)) (links ring) % 2) 1

-- whether there is no outer ring, or the centre lies in one
unfoldable pub is_in_outer : List Line → Coords → Bool
is_in_outer lines p = not (list_any (λ line. is_outer line.kind) lines) || list_any (λ line. is_outer line.kind && lies_in_ring p line) lines

-- whether the centre lies in no void or island, or the highest-numbered one that it lies in is an island
unfoldable pub is_outside_voids : List Line → Coords → Bool
is_outside_voids lines p = unwrap_or (option_map (λ line. is_island line.kind) (find (λ line. is_void_or_island line.kind && lies_in_ring p line) (reverse lines))) true

-- whether these lines, by their numbers, keep the facet
abbrev pub is_kept : List Line → Facet → Bool
is_kept lines f = is_in_outer lines (centre f) && is_outside_voids lines (centre f)

-- the kept facets, in order
unfoldable pub kept : Content → List Facet
kept c = filter (is_kept (lines_of c)) (tri c)
