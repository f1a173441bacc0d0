-- The pieces of a line by some of the points: those on its links are enough.
use Rattle.std.proofs.Common.{◌≡◌, refl, sym, ap, ◌∙◌, Bool, true, false, cond, [], ◌∷◌, ◌++◌, List}
use Rattle.std.specs.Prelude.{Option, Some, None, IfSome, IsTrue, ◌&&◌, map}
use Rattle.std.specs.List.{filter, flat_map}
use Rattle.std.specs.List.Sorted.{IsStrictlySortedBy}
use Rattle.std.proofs.lemmas.Bool.{and_parts, and_from, both_ways, true≢false, false_from_ne_true}
use Rattle.ground_model.specs.declared.piece.Piece.{Piece}
use Rattle.ground_model.specs.Place.{Coords, place_cmp, is_before}
use Rattle.ground_model.specs.Side.{is_on_segment}
use Rattle.ground_model.specs.Line.{Line, Segment, links, has_piece, is_point}
use Rattle.ground_model.specs.Table.{count_on, counted_pieces}
use Rattle.line_table.specs.Along.{is_on_links, AreEnoughAlong}
use Rattle.ground_model.proofs.Elements.{In, both_true, any_from, none_at, none_from, of_filter, each_at}
use Rattle.ground_model.proofs.LinePieces.{in_points, is_point_in, IsPiece, piece_of, has_piece_from}
use Rattle.line_table.proofs.NextPoints.{inside_on}
use Rattle.line_table.proofs.Rows.{piece_at, line_row, filter-alike, map-alike, none_kept, kept_ends, counted_over, line_rows}

-- ---- lists

filter-filter : {X : Type 0} (f g : X → Bool) (xs : List X) → filter f (filter g xs) ≡ filter (λ x. g x && f x) xs
filter-filter f g [] = refl
filter-filter f g (x ∷ xs) = at (g x) (filter-filter f g xs)
  where
    at : (t : Bool) → filter f (filter g xs) ≡ filter (λ x. g x && f x) xs → filter f (cond t (x ∷ filter g xs) (filter g xs)) ≡ cond (t && f x) (x ∷ filter (λ x. g x && f x) xs) (filter (λ x. g x && f x) xs)
    at true e = ap (λ ys. cond (f x) (x ∷ ys) ys) e
    at false e = e

-- what has nothing may be left out
flat_map-filter : {X Y : Type 0} (f : X → List Y) (g : X → Bool) (xs : List X) → ((x : X) → g x ≡ false → f x ≡ []) → flat_map f (filter g xs) ≡ flat_map f xs
flat_map-filter f g [] h = refl
flat_map-filter f g (x ∷ xs) h = at (g x) refl (flat_map-filter f g xs h)
  where
    at : (t : Bool) → g x ≡ t → flat_map f (filter g xs) ≡ flat_map f xs → flat_map f (cond t (x ∷ filter g xs) (filter g xs)) ≡ f x ++ flat_map f xs
    at true e rest = ap (λ ys. f x ++ ys) rest
    at false e rest = rest ∙ ap (λ ys. ys ++ flat_map f xs) (sym (h x e))

flat_map-alike : {X Y : Type 0} (f g : X → List Y) (xs : List X) → ((x : X) → f x ≡ g x) → flat_map f xs ≡ flat_map g xs
flat_map-alike f g [] h = refl
flat_map-alike f g (x ∷ xs) h = λ i. h x i ++ flat_map-alike f g xs h i

-- ---- one line

module _ (all points : List Coords) (line : Line) (enough : AreEnoughAlong all points line) where
  some : (x : Coords) → In x points → In x all
  some x i = in_points all x (each_at (λ x. IsTrue (is_point all x)) points x enough.some i)

  on_link : (link : Segment) → In link (links line) → (x : Coords) → In x all → is_on_segment link.0 link.1 x ≡ true → In x points
  on_link link of x i on =
      in_points points x (each_at (λ x. IsTrue (is_on_links line x) → IsTrue (is_point points x)) all x enough.those_on_it i
      (any_from (λ a. is_on_segment a.0 a.1 x) (links line) link of on))

  fewer : (p q : Coords) → IsPiece all line p q → IsPiece points line p q
  fewer p q h = record {
    before = h.before;
    first = on_link h.link h.of p h.first h.first_on;
    last = on_link h.link h.of q h.last h.last_on;
    clear = none_from (λ r. is_on_segment p q r && is_before p r && is_before r q) points
        (λ r i. none_at (λ r. is_on_segment p q r && is_before p r && is_before r q) all r h.clear (some r i));
    link = h.link;
    of = h.of;
    first_on = h.first_on;
    last_on = h.last_on;
  }

  more : (p q : Coords) → IsPiece points line p q → IsPiece all line p q
  more p q h = record {
    before = h.before;
    first = some p h.first;
    last = some q h.last;
    clear = none_from (λ r. is_on_segment p q r && is_before p r && is_before r q) all (λ r i. false_from_ne_true _ (none r i));
    link = h.link;
    of = h.of;
    first_on = h.first_on;
    last_on = h.last_on;
  }
    where
      -- what lies between p and q lies on their link
      none : (r : Coords) → In r all → (is_on_segment p q r && is_before p r && is_before r q) ≡ true → ⊥
      none r i e =
          let front = and_parts (is_on_segment p q r && is_before p r) (is_before r q) e in
          let on = and_parts (is_on_segment p q r) (is_before p r) front.0 in
          both_ways _ (none_at (λ r. is_on_segment p q r && is_before p r && is_before r q) points r h.clear (on_link h.link h.of r i (inside_on h.link.0 h.link.1 p q r h.first_on h.last_on on.0))) e

  -- the points on its links show each piece of the line
  pub has_piece-enough : (p q : Coords) → has_piece all line p q ≡ has_piece points line p q
  has_piece-enough p q = both_true _ _
      (λ h. has_piece_from points line p q (fewer p q (piece_of all line p q h)))
      (λ h. has_piece_from all line p q (more p q (piece_of points line p q h)))

  -- a piece has one count by either points: that of the lines with a link over it
  count-enough : (lines : List Line) (p q : Coords) → has_piece points line p q ≡ true → count_on all lines p q ≡ count_on points lines p q
  count-enough lines p q h = counted_over all lines line p q (has_piece-enough p q ∙ h) ∙ sym (counted_over points lines line p q h)

  -- what is no point has no piece
  no_row : (lines : List Line) (p : Coords) → is_point points p ≡ false → line_row points lines line p ≡ []
  unfolding line_row
  no_row lines p e = ap (map (piece_at points lines p)) (none_kept (has_piece points line p) points
      (λ q. false_from_ne_true (has_piece points line p q) (λ h. true≢false (sym (is_point_in points p (piece_of points line p q h).first) ∙ e))))

  module _ (sorted : IsStrictlySortedBy place_cmp all) (ordered : IsStrictlySortedBy place_cmp points) where
    kept : filter (is_point points) all ≡ points
    kept = kept_ends all points sorted ordered some

    last_kept : (p : Coords) → filter (has_piece all line p) all ≡ filter (has_piece points line p) points
    last_kept p =
        filter-alike (has_piece all line p) (λ q. is_point points q && has_piece all line p q) all (λ q i. both_true _ _
        (λ h. and_from (is_point points q) (has_piece all line p q) (is_point_in points q (fewer p q (piece_of all line p q h)).last) h)
        (λ h. (and_parts (is_point points q) (has_piece all line p q) h).1))
        ∙ sym (filter-filter (has_piece all line p) (is_point points) all)
        ∙ ap (filter (has_piece all line p)) kept
        ∙ filter-alike (has_piece all line p) (has_piece points line p) points (λ q i. has_piece-enough p q)

    row-enough : (lines : List Line) (p : Coords) → line_row points lines line p ≡ line_row all lines line p
    unfolding line_row
    row-enough lines p = sym (
        ap (map (piece_at all lines p)) (last_kept p)
        ∙ map-alike (piece_at all lines p) (piece_at points lines p) (filter (has_piece points line p) points)
        (λ q i. ap (λ n. record { p = p; q = q; count = n }) (count-enough lines p q (of_filter (has_piece points line p) points q i).1)))

    -- the pieces of the line by the points on its links are its pieces by all points
    pub pieces-enough : (lines : List Line) → counted_pieces points lines line ≡ counted_pieces all lines line
    pieces-enough lines =
        sym (line_rows points lines line)
        ∙ ap (flat_map (line_row points lines line)) (sym kept)
        ∙ flat_map-filter (line_row points lines line) (is_point points) all (no_row lines)
        ∙ flat_map-alike (line_row points lines line) (line_row all lines line) all (row-enough lines)
        ∙ line_rows all lines line

pub counted_pieces-enough : (all points : List Coords) (lines : List Line) (line : Line) → IsStrictlySortedBy place_cmp all → IsStrictlySortedBy place_cmp points → AreEnoughAlong all points line → counted_pieces points lines line ≡ counted_pieces all lines line
counted_pieces-enough all points lines line sorted ordered enough = pieces-enough all points line enough sorted ordered lines

-- the pieces of a line that may be live, from enough points
pub found-enough : (o : Option Line) (found : List Piece) (all points : List Coords) (lines : List Line) → IsStrictlySortedBy place_cmp all → IsStrictlySortedBy place_cmp points
    → IfSome o (λ line. found ≡ counted_pieces points lines line) → IfSome o (λ line. AreEnoughAlong all points line → found ≡ counted_pieces all lines line)
found-enough None found all points lines sorted ordered h = h
found-enough (Some line) found all points lines sorted ordered h = λ enough. h ∙ counted_pieces-enough all points lines line sorted ordered enough
