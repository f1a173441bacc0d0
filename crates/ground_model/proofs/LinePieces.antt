-- Points, links and pieces of a line: what their tests show.
use Rattle.std.proofs.Common.{◌≡◌, refl, sym, ap, subst, Bool, true, false, [], ◌∷◌, ◌++◌, List, inl, inr, ⊎_elim}
use Rattle.std.specs.Prelude.{◌&&◌, take, drop, if◌then◌else◌}
use Rattle.std.specs.List.{list_any, zip}
use Rattle.std.specs.Ordering.{int_eq}
use Rattle.std.proofs.lemmas.Bool.{and_parts, and_from, not-true, not_from_false}
use Rattle.std.proofs.lemmas.Bool.Decides.{Decides-int_eq}
use Rattle.ground_model.specs.Place.{Coords, is_before, is_same}
use Rattle.ground_model.specs.Side.{is_on_segment}
use Rattle.ground_model.specs.Kind.{is_ring}
use Rattle.ground_model.specs.Line.{Line, Segment, links, is_point, is_clear, has_piece, pairs, pieces_of}
use Rattle.ground_model.proofs.Ties.{same_of_is_same}
use Rattle.ground_model.specs.Crossings.{is_on_points}
use Rattle.ground_model.proofs.Elements.{In, any_gives, any_from, all_at, all_from, of_filter, in_filter, in_append, in_pairs}

pub is_same_itself : (p : Coords) → is_same p p ≡ true
is_same_itself p = and_from (int_eq p.e p.e) (int_eq p.n p.n) ((Decides-int_eq p.e p.e).1 refl) ((Decides-int_eq p.n p.n).1 refl)

pub in_points : (points : List Coords) (p : Coords) → is_point points p ≡ true → In p points
in_points points p h = let found = any_gives (is_same p) points h in subst (λ k. In k points) (sym (same_of_is_same p found.0 found.2)) found.1

pub is_point_in : (points : List Coords) (p : Coords) → In p points → is_point points p ≡ true
is_point_in points p i = any_from (is_same p) points p i (is_same_itself p)

-- the ends of a link are places of its line
pub link_ends : (line : Line) (a : Segment) → In a (links line) → In a.0 line.places × In a.1 line.places
link_ends line a i = let ends = in_zip line.places _ i in (ends.0, of_next (is_ring line.kind) ends.1)
  where
    in_zip : (xs ys : List Coords) → In a (zip xs ys) → In a.0 xs × In a.1 ys
    in_zip [] ys i = absurd i
    in_zip (x ∷ xs) [] i = absurd i
    in_zip (x ∷ xs) (y ∷ ys) (inl e) = (inl (ap (λ k. k.0) e), inl (ap (λ k. k.1) e))
    in_zip (x ∷ xs) (y ∷ ys) (inr i) = let ends = in_zip xs ys i in (inr ends.0, inr ends.1)

    next : (xs : List Coords) → In a.1 (drop 1 xs) → In a.1 xs
    next [] i = i
    next (x ∷ xs) i = inr i

    first : (xs : List Coords) → In a.1 (take 1 xs) → In a.1 xs
    first [] i = i
    first (x ∷ xs) (inl e) = inl e
    first (x ∷ xs) (inr i) = absurd i

    of_next : (t : Bool) → In a.1 (drop 1 line.places ++ (if t then take 1 line.places else [])) → In a.1 line.places
    of_next true i = ⊎_elim (next line.places) (first line.places) (in_append (drop 1 line.places) (take 1 line.places) a.1 i)
    of_next false i = ⊎_elim (next line.places) (λ j. absurd j) (in_append (drop 1 line.places) [] a.1 i)

pub ends_on : (points : List Coords) (line : Line) → is_on_points points line ≡ true → (a : Segment) → In a (links line) → In a.0 points × In a.1 points
unfolding is_on_points
ends_on points line on a i =
    let ends = link_ends line a i in
    (in_points points a.0 (all_at (is_point points) line.places a.0 on ends.0), in_points points a.1 (all_at (is_point points) line.places a.1 on ends.1))

pub record IsPiece (points : List Coords) (line : Line) (p q : Coords) : Type 0 where
  pub before : is_before p q ≡ true
  pub first : In p points
  pub last : In q points
  pub clear : list_any (λ r. is_on_segment p q r && is_before p r && is_before r q) points ≡ false
  pub link : Segment
  pub of : In link (links line)
  pub first_on : is_on_segment link.0 link.1 p ≡ true
  pub last_on : is_on_segment link.0 link.1 q ≡ true

pub piece_of : (points : List Coords) (line : Line) (p q : Coords) → has_piece points line p q ≡ true → IsPiece points line p q
unfolding has_piece
piece_of points line p q h =
    let e = and_parts (is_before p q && is_point points p && is_point points q && is_clear points p q) (list_any (λ link. is_on_segment link.0 link.1 p && is_on_segment link.0 link.1 q) (links line)) h in
    let d = and_parts (is_before p q && is_point points p && is_point points q) (is_clear points p q) e.0 in
    let c = and_parts (is_before p q && is_point points p) (is_point points q) d.0 in
    let b = and_parts (is_before p q) (is_point points p) c.0 in
    let found = any_gives (λ link. is_on_segment link.0 link.1 p && is_on_segment link.0 link.1 q) (links line) e.1 in
    let on = and_parts (is_on_segment found.0.0 found.0.1 p) (is_on_segment found.0.0 found.0.1 q) found.2 in
    record { before = b.0; first = in_points points p b.1; last = in_points points q c.1; clear = not-true _ d.1; link = found.0; of = found.1; first_on = on.0; last_on = on.1 }

pub has_piece_from : (points : List Coords) (line : Line) (p q : Coords) → IsPiece points line p q → has_piece points line p q ≡ true
unfolding has_piece
has_piece_from points line p q h =
    and_from (is_before p q && is_point points p && is_point points q && is_clear points p q) (list_any (λ link. is_on_segment link.0 link.1 p && is_on_segment link.0 link.1 q) (links line))
    (and_from (is_before p q && is_point points p && is_point points q) (is_clear points p q)
    (and_from (is_before p q && is_point points p) (is_point points q) (and_from (is_before p q) (is_point points p) h.before (is_point_in points p h.first)) (is_point_in points q h.last))
    (not_from_false _ h.clear))
    (any_from (λ link. is_on_segment link.0 link.1 p && is_on_segment link.0 link.1 q) (links line) h.link h.of (and_from (is_on_segment h.link.0 h.link.1 p) (is_on_segment h.link.0 h.link.1 q) h.first_on h.last_on))

pub of_pieces : (points : List Coords) (line : Line) (s : Segment) → In s (pieces_of points line) → IsPiece points line s.0 s.1
unfolding pieces_of
of_pieces points line s i = piece_of points line s.0 s.1 (of_filter (λ piece. has_piece points line piece.0 piece.1) (pairs points) s i).1

pub in_pieces : (points : List Coords) (line : Line) (p q : Coords) → IsPiece points line p q → In (p, q) (pieces_of points line)
unfolding pieces_of
in_pieces points line p q h = in_filter (λ piece. has_piece points line piece.0 piece.1) (pairs points) (p, q) (in_pairs points p q h.first h.last) (has_piece_from points line p q h)

-- a line on some points is on more
pub on_more : (fewer points : List Coords) (line : Line) → ((x : Coords) → is_point fewer x ≡ true → is_point points x ≡ true) → is_on_points fewer line ≡ true → is_on_points points line ≡ true
unfolding is_on_points
on_more fewer points line more on = all_from (is_point points) line.places (λ x i. more x (all_at (is_point fewer) line.places x on i))
