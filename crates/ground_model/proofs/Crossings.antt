-- Where lines cross: pieces cross exactly where links do at a place that is no point.
use Rattle.std.proofs.Common.{◌≡◌, refl, sym, ap, ◌∙◌, subst, arith, Bool, true, false, [], ◌∷◌, List, inl, inr, ⊎_elim}
use Rattle.std.specs.Prelude.{ℤ, pos, ◌*ℤ◌, ◌<ℤ◌, not, ◌&&◌, ◌||◌}
use Rattle.std.specs.List.{list_any}
use Rattle.std.proofs.lemmas.Int.{ints}
use Rattle.std.proofs.lemmas.Bool.{and_parts, and_from, and_right, both_ways, true≢false, not-true, not-false, not_from_true, not_from_false, false_from_ne_true}
use Rattle.ground_model.specs.declared.line.LineKind.TheVariants.{Breakline}
use Rattle.ground_model.specs.Place.{Coords, is_before, is_same}
use Rattle.ground_model.specs.Side.{side, orientation, oppose, crosses, is_on_segment}
use Rattle.ground_model.specs.Line.{Line, Segment, links, is_point, pieces_of}
use Rattle.ground_model.proofs.Ties.{same_of_is_same}
use Rattle.ground_model.specs.Crossings.{any_cross, lines_cross, pieces_on_link, piece_crosses, cross_between, link_crosses, links_cross, is_on_points}
use Rattle.ground_model.proofs.Along.{not_zero_left, parted, mean_of_on, collinear_of_on, same_place, not_square}
use Rattle.ground_model.proofs.Segments.{not_after, before_trans, side-ends, on_of_mean, on_first, on_last, Crossed, crossed_of, crosses_from, on_crossed, meet_once}
use Rattle.ground_model.proofs.Parts.{crossed_outer, crossed_inner, crossing_between, mean_inside}
use Rattle.ground_model.proofs.Elements.{In, both_true, any_gives, any_from, none_at, none_from, any_agrees, any_swapped}
use Rattle.ground_model.proofs.LinePieces.{is_same_itself, in_points, is_point_in, ends_on, on_more, IsPiece, of_pieces, in_pieces}

-- ---- where a link crosses at no point, some piece of it does
module _ (points : List Coords) (s a : Segment) (crossed : Crossed s.0 s.1 a.0 a.1) (none : list_any (λ x. is_on_segment s.0 s.1 x && is_on_segment a.0 a.1 x) points ≡ false) where
  -- p before q: points of the link on opposite sides of the segment
  record IsSpan (p q : Coords) : Type 0 where
    first : In p points
    last : In q points
    first_on : is_on_segment a.0 a.1 p ≡ true
    last_on : is_on_segment a.0 a.1 q ≡ true
    before : is_before p q ≡ true
    apart : (side s.0 s.1 p *ℤ side s.0 s.1 q) <ℤ pos 0

  -- a span within another, with none of the places strictly between its ends
  record Within (places : List Coords) (p q : Coords) : Type 0 where
    from : Coords
    to : Coords
    span : IsSpan from to
    above : (r : Coords) → is_before from r ≡ true → is_before p r ≡ true
    below : (r : Coords) → is_before r to ≡ true → is_before r q ≡ true
    clear : (r : Coords) → In r places → is_on_segment a.0 a.1 r ≡ true → is_before from r ≡ true → is_before r to ≡ true → ⊥

  -- a point of the link lies on one side or the other
  off : (x : Coords) → In x points → is_on_segment a.0 a.1 x ≡ true → ¬ (side s.0 s.1 x ≡ pos 0)
  off x i on flat = both_ways _ (none_at (λ x. is_on_segment s.0 s.1 x && is_on_segment a.0 a.1 x) points x none i)
      (and_from (is_on_segment s.0 s.1 x) (is_on_segment a.0 a.1 x) (on_crossed s.0 s.1 a.0 a.1 x flat (collinear_of_on a.0 a.1 x on) crossed.second) on)

  not_itself : (x : Coords) → is_before x x ≡ true → ⊥
  not_itself x h = both_ways (is_before x x) (not_after x x h) h

  with_one : (x : Coords) (xs : List Coords) → In x points → ((p q : Coords) → IsSpan p q → Within xs p q) → (p q : Coords) → IsSpan p q → Within (x ∷ xs) p q
  with_one x xs i rest p q n = by_test (is_on_segment a.0 a.1 x && is_before p x && is_before x q) refl
    where
      outside : (is_on_segment a.0 a.1 x && is_before p x && is_before x q) ≡ false → Within xs p q → Within (x ∷ xs) p q
      outside e w = record { from = w.from; to = w.to; span = w.span; above = w.above; below = w.below; clear = clear }
        where
          clear : (r : Coords) → In r (x ∷ xs) → is_on_segment a.0 a.1 r ≡ true → is_before w.from r ≡ true → is_before r w.to ≡ true → ⊥
          clear r (inl same) on lt gt = both_ways _ e (subst (λ k. (is_on_segment a.0 a.1 k && is_before p k && is_before k q) ≡ true) same
              (and_from (is_on_segment a.0 a.1 r && is_before p r) (is_before r q) (and_from (is_on_segment a.0 a.1 r) (is_before p r) on (w.above r lt)) (w.below r gt)))
          clear r (inr j) on lt gt = w.clear r j on lt gt

      before_it : is_before x q ≡ true → Within xs p x → Within (x ∷ xs) p q
      before_it lt w = record { from = w.from; to = w.to; span = w.span; above = w.above; below = λ r h. before_trans r x q (w.below r h) lt; clear = clear }
        where
          clear : (r : Coords) → In r (x ∷ xs) → is_on_segment a.0 a.1 r ≡ true → is_before w.from r ≡ true → is_before r w.to ≡ true → ⊥
          clear r (inl same) on lt gt = not_itself x (subst (λ k. is_before k x ≡ true) same (w.below r gt))
          clear r (inr j) on lt gt = w.clear r j on lt gt

      after_it : is_before p x ≡ true → Within xs x q → Within (x ∷ xs) p q
      after_it lt w = record { from = w.from; to = w.to; span = w.span; above = λ r h. before_trans p x r lt (w.above r h); below = w.below; clear = clear }
        where
          clear : (r : Coords) → In r (x ∷ xs) → is_on_segment a.0 a.1 r ≡ true → is_before w.from r ≡ true → is_before r w.to ≡ true → ⊥
          clear r (inl same) on lt gt = not_itself x (subst (λ k. is_before x k ≡ true) same (w.above r lt))
          clear r (inr j) on lt gt = w.clear r j on lt gt

      by_test : (t : Bool) → (is_on_segment a.0 a.1 x && is_before p x && is_before x q) ≡ t → Within (x ∷ xs) p q
      by_test false e = outside e (rest p q n)
      by_test true e =
          let front = and_parts (is_on_segment a.0 a.1 x && is_before p x) (is_before x q) e in
          let on = and_parts (is_on_segment a.0 a.1 x) (is_before p x) front.0 in
          ⊎_elim
          (λ lt. before_it front.1 (rest p x (record { first = n.first; last = i; first_on = n.first_on; last_on = on.0; before = on.1; apart = lt })))
          (λ lt. after_it on.1 (rest x q (record { first = i; last = n.last; first_on = on.0; last_on = n.last_on; before = front.1; apart = lt })))
          (parted (side s.0 s.1 p) (side s.0 s.1 x) (side s.0 s.1 q) n.apart (off x i on.0))

  within : (places : List Coords) → ((r : Coords) → In r places → In r points) → (p q : Coords) → IsSpan p q → Within places p q
  within [] some p q n = record { from = p; to = q; span = n; above = λ r h. h; below = λ r h. h; clear = λ r i. absurd i }
  within (x ∷ xs) some p q n = with_one x xs (some x (inl refl)) (within xs (λ r i. some r (inr i))) p q n

  turned : (p q : Coords) → (side s.0 s.1 p *ℤ side s.0 s.1 q) <ℤ pos 0 → (side s.0 s.1 q *ℤ side s.0 s.1 p) <ℤ pos 0
  turned p q h = other (side s.0 s.1 p) (side s.0 s.1 q) h
    where
      other : (y z : ℤ) → (y *ℤ z) <ℤ pos 0 → (z *ℤ y) <ℤ pos 0
      other y z h = omega (arith, ints, h)

  ends_apart : (side s.0 s.1 a.0 *ℤ side s.0 s.1 a.1) <ℤ pos 0
  ends_apart = crossed.first

  -- the ends of the link, the lesser first
  whole : In a.0 points → In a.1 points → (p : Coords) × (q : Coords) × IsSpan p q
  whole i j = by_test (is_before a.0 a.1) (is_before a.1 a.0) refl refl
    where
      by_test : (t u : Bool) → is_before a.0 a.1 ≡ t → is_before a.1 a.0 ≡ u → (p : Coords) × (q : Coords) × IsSpan p q
      by_test true u e f = (a.0, a.1, record { first = i; last = j; first_on = on_first a.0 a.1; last_on = on_last a.0 a.1; before = e; apart = ends_apart })
      by_test false true e f = (a.1, a.0, record { first = j; last = i; first_on = on_last a.0 a.1; last_on = on_first a.0 a.1; before = f; apart = turned a.0 a.1 ends_apart })
      by_test false false e f = absurd (not_square (side s.0 s.1 a.0) (subst (λ k. (side s.0 s.1 a.0 *ℤ side s.0 s.1 k) <ℤ pos 0) (sym (same_place a.0 a.1 e f)) ends_apart))

  span_is_piece : (line : Line) → In a (links line) → (p q : Coords) → Within points p q → (x : Coords) × (y : Coords) × IsPiece points line x y × (crosses s.0 s.1 x y ≡ true)
  span_is_piece line i p q w =
      let from = mean_of_on a.0 a.1 w.from w.span.first_on in
      let to = mean_of_on a.0 a.1 w.to w.span.last_on in
      let clear : (r : Coords) → In r points → (is_on_segment w.from w.to r && is_before w.from r && is_before r w.to) ≡ true → ⊥ = λ r j h.
      let after = and_parts (is_on_segment w.from w.to r && is_before w.from r) (is_before r w.to) h in
      let on = and_parts (is_on_segment w.from w.to r) (is_before w.from r) after.0 in
      w.clear r j (on_of_mean a.0 a.1 r (mean_inside a.0 a.1 w.from w.to from to r (mean_of_on w.from w.to r on.0))) on.1 after.1 in (
        w.from,
        w.to,
        record {
          before = w.span.before;
          first = w.span.first;
          last = w.span.last;
          clear = none_from (λ r. is_on_segment w.from w.to r && is_before w.from r && is_before r w.to) points (λ r j. false_from_ne_true _ (clear r j));
          link = a;
          of = i;
          first_on = w.span.first_on;
          last_on = w.span.last_on;
        },
        crosses_from s.0 s.1 w.from w.to (crossed_inner a.0 a.1 w.from w.to from to s.0 s.1 crossed w.span.apart),
      )

  pub some_piece : (line : Line) → In a (links line) → In a.0 points → In a.1 points → (x : Coords) × (y : Coords) × IsPiece points line x y × (crosses s.0 s.1 x y ≡ true)
  some_piece line i j k = let n = whole j k in span_is_piece line i n.0 n.1 (within points (λ r i. i) n.0 n.1 n.2)

-- ---- where a piece crosses, its link does, at no point
link_of_piece : (points : List Coords) (s : Segment) (line : Line) (p q : Coords) → IsPiece points line p q → crosses s.0 s.1 p q ≡ true → (a : Segment) × In a (links line) × (cross_between points s a ≡ true)
link_of_piece points s line p q h c =
    let first = mean_of_on h.link.0 h.link.1 p h.first_on in
    let last = mean_of_on h.link.0 h.link.1 q h.last_on in
    let none : (x : Coords) → In x points → (is_on_segment s.0 s.1 x && is_on_segment h.link.0 h.link.1 x) ≡ true → ⊥ = λ x i on.
    let both = and_parts (is_on_segment s.0 s.1 x) (is_on_segment h.link.0 h.link.1 x) on in
    both_ways _ (none_at (λ r. is_on_segment p q r && is_before p r && is_before r q) points x h.clear i)
    (crossing_between h.link.0 h.link.1 p q first last s.0 s.1 x (crossed_of s.0 s.1 p q c) h.before both.0 both.1) in (
      h.link,
      h.of,
      and_from (crosses s.0 s.1 h.link.0 h.link.1) _
          (crosses_from s.0 s.1 h.link.0 h.link.1 (crossed_outer h.link.0 h.link.1 p q first last s.0 s.1 (crossed_of s.0 s.1 p q c)))
          (not_from_false _ (none_from (λ x. is_on_segment s.0 s.1 x && is_on_segment h.link.0 h.link.1 x) points (λ x i. false_from_ne_true _ (none x i)))),
    )

-- a piece of the line crosses the segment exactly where a link does at a place that is no point
pub piece_crosses-links : (points : List Coords) (s : Segment) (line : Line) → is_on_points points line ≡ true → piece_crosses points s line ≡ link_crosses points s line
unfolding piece_crosses link_crosses
piece_crosses-links points s line on = both_true _ _ to_link to_piece
  where
    to_link : list_any (λ piece. crosses s.0 s.1 piece.0 piece.1) (pieces_of points line) ≡ true → list_any (cross_between points s) (links line) ≡ true
    to_link h =
        let found = any_gives (λ piece. crosses s.0 s.1 piece.0 piece.1) (pieces_of points line) h in
        let link = link_of_piece points s line found.0.0 found.0.1 (of_pieces points line found.0 found.1) found.2 in
        any_from (cross_between points s) (links line) link.0 link.1 link.2

    to_piece : list_any (cross_between points s) (links line) ≡ true → list_any (λ piece. crosses s.0 s.1 piece.0 piece.1) (pieces_of points line) ≡ true
    to_piece h =
        let found = any_gives (cross_between points s) (links line) h in
        let parts = and_parts (crosses s.0 s.1 found.0.0 found.0.1) (not (list_any (λ x. is_on_segment s.0 s.1 x && is_on_segment found.0.0 found.0.1 x) points)) found.2 in
        let ends = ends_on points line on found.0 found.1 in
        let piece = some_piece points s found.0 (crossed_of s.0 s.1 found.0.0 found.0.1 parts.0) (not-true _ parts.1) line found.1 ends.0 ends.1 in
        any_from (λ piece. crosses s.0 s.1 piece.0 piece.1) (pieces_of points line) (piece.0, piece.1) (in_pieces points line piece.0 piece.1 piece.2) piece.3

-- ---- two lines
and_comm : (x y : Bool) → (x && y) ≡ (y && x)
and_comm true true = refl
and_comm true false = refl
and_comm false true = refl
and_comm false false = refl

pub crosses_turned : (a b c d : Coords) → crosses a b c d ≡ crosses c d a b
crosses_turned a b c d = and_comm (oppose (orientation a b c) (orientation a b d)) (oppose (orientation c d a) (orientation c d b))

pub crosses_itself : (a b : Coords) → crosses a b a b ≡ false
crosses_itself a b = false_from_ne_true (crosses a b a b) (λ h. not_zero_left (side a b a) (side a b b) (side-ends a b) (crossed_of a b a b h).first)

pub lines_cross_turned : (points : List Coords) (l m : Line) → lines_cross points l m ≡ lines_cross points m l
unfolding any_cross
lines_cross_turned points l m =
    any_swapped (λ p q. crosses p.0 p.1 q.0 q.1) (pieces_of points l) (pieces_of points m)
    ∙ any_agrees (λ q. list_any (λ p. crosses p.0 p.1 q.0 q.1) (pieces_of points l)) (λ q. list_any (λ p. crosses q.0 q.1 p.0 p.1) (pieces_of points l)) (pieces_of points m)
    (λ q i. any_agrees (λ p. crosses p.0 p.1 q.0 q.1) (λ p. crosses q.0 q.1 p.0 p.1) (pieces_of points l) (λ p j. crosses_turned p.0 p.1 q.0 q.1))

pub cross_between_turned : (points : List Coords) (s t : Segment) → cross_between points s t ≡ cross_between points t s
cross_between_turned points s t = λ i. crosses_turned s.0 s.1 t.0 t.1 i && not (any_agrees (λ x. is_on_segment s.0 s.1 x && is_on_segment t.0 t.1 x) (λ x. is_on_segment t.0 t.1 x && is_on_segment s.0 s.1 x) points (λ x j. and_comm (is_on_segment s.0 s.1 x) (is_on_segment t.0 t.1 x)) i)

-- a piece has no point between its ends at which a segment could cross it
piece_crosses-clear : (points : List Coords) (line : Line) (s t : Segment) → IsPiece points line s.0 s.1 → cross_between points s t ≡ crosses t.0 t.1 s.0 s.1
piece_crosses-clear points line s t h = both_true _ _
    (λ c. sym (crosses_turned s.0 s.1 t.0 t.1) ∙ (and_parts (crosses s.0 s.1 t.0 t.1) _ c).0)
    (λ c. and_from (crosses s.0 s.1 t.0 t.1) _ (crosses_turned s.0 s.1 t.0 t.1 ∙ c)
    (not_from_false _ (none_from (λ x. is_on_segment s.0 s.1 x && is_on_segment t.0 t.1 x) points (λ x i. false_from_ne_true _ (none (crossed_of t.0 t.1 s.0 s.1 c) x i)))))
  where
    none : Crossed t.0 t.1 s.0 s.1 → (x : Coords) → In x points → (is_on_segment s.0 s.1 x && is_on_segment t.0 t.1 x) ≡ true → ⊥
    none c x i on =
        let both = and_parts (is_on_segment s.0 s.1 x) (is_on_segment t.0 t.1 x) on in
        both_ways _ (none_at (λ r. is_on_segment s.0 s.1 r && is_before s.0 r && is_before r s.1) points x h.clear i)
        (crossing_between s.0 s.1 s.0 s.1 (mean_of_on s.0 s.1 s.0 (on_first s.0 s.1)) (mean_of_on s.0 s.1 s.1 (on_last s.0 s.1)) t.0 t.1 x c h.before both.1 both.0)

-- pieces of two lines cross exactly where links of them do at a place that is no point
pub lines_cross-links : (points : List Coords) (l m : Line) → is_on_points points l ≡ true → is_on_points points m ≡ true → lines_cross points l m ≡ links_cross points l m
unfolding any_cross links_cross piece_crosses link_crosses
lines_cross-links points l m on on' =
    any_agrees (λ p. list_any (λ q. crosses p.0 p.1 q.0 q.1) (pieces_of points m)) (λ p. list_any (λ b. crosses b.0 b.1 p.0 p.1) (links m)) (pieces_of points l)
    (λ p i. piece_crosses-links points p m on'
    ∙ any_agrees (cross_between points p) (λ b. crosses b.0 b.1 p.0 p.1) (links m) (λ b j. piece_crosses-clear points l p b (of_pieces points l p i)))
    ∙ any_swapped (λ p b. crosses b.0 b.1 p.0 p.1) (pieces_of points l) (links m)
    ∙ any_agrees (λ b. list_any (λ p. crosses b.0 b.1 p.0 p.1) (pieces_of points l)) (λ b. list_any (λ a. cross_between points a b) (links l)) (links m)
    (λ b i. piece_crosses-links points b l on
    ∙ any_agrees (cross_between points b) (λ a. cross_between points a b) (links l) (λ a j. cross_between_turned points b a))
    ∙ sym (any_swapped (cross_between points) (links l) (links m))

-- pieces of two links cross exactly where the links do at a place that is no point
pub pieces_on_link-links : (points : List Coords) (s t : Segment) → is_point points s.0 ≡ true → is_point points s.1 ≡ true → is_point points t.0 ≡ true → is_point points t.1 ≡ true → any_cross (pieces_on_link points s) (pieces_on_link points t) ≡ cross_between points s t
unfolding links_cross link_crosses is_on_points
pieces_on_link-links points s t s0 s1 t0 t1 = lines_cross-links points (alone s) (alone t) (both s s0 s1) (both t t0 t1) ∙ or_none (cross_between points s t)
  where
    alone : Segment → Line
    alone u = record { kind = Breakline; places = u.0 ∷ u.1 ∷ [] }

    both : (u : Segment) → is_point points u.0 ≡ true → is_point points u.1 ≡ true → (is_point points u.0 && (is_point points u.1 && true)) ≡ true
    both u p q = and_from (is_point points u.0) (is_point points u.1 && true) p (and_from (is_point points u.1) true q refl)

    or_none : (t : Bool) → ((t || false) || false) ≡ t
    or_none true = refl
    or_none false = refl

-- where one place is no point any more, lines cross that didn't exactly where links of them cross at it
module _ (points rest : List Coords) (p : Coords) (without : (x : Coords) → is_point rest x ≡ (is_point points x && not (is_same p x))) where
  through : Segment → Segment → Bool
  through a b = is_on_segment a.0 a.1 p && is_on_segment b.0 b.1 p && crosses a.0 a.1 b.0 b.1

  still : (x : Coords) → is_point rest x ≡ true → is_point points x ≡ true
  still x h = (and_parts (is_point points x) (not (is_same p x)) (sym (without x) ∙ h)).0

  it_is : (x : Coords) → In x points → is_point rest x ≡ false → p ≡ x
  it_is x i none = same_of_is_same p x (not-false (is_same p x) (sym (without x ∙ ap (λ t. t && not (is_same p x)) (is_point_in points x i)) ∙ none))

  it_is_not : (x : Coords) → In x rest → ¬ (x ≡ p)
  it_is_not x i e = true≢false (sym (is_point_in rest x i) ∙ without x ∙ and_right (is_point points x) (not (is_same p x)) (not_from_true (is_same p x) (ap (is_same p) e ∙ is_same_itself p)))

  crosses_at : (a b : Segment) → cross_between points a b ≡ false → cross_between rest a b ≡ through a b
  unfolding through
  crosses_at a b free = both_true _ _ to_p from_p
    where
      to_p : cross_between rest a b ≡ true → (is_on_segment a.0 a.1 p && is_on_segment b.0 b.1 p && crosses a.0 a.1 b.0 b.1) ≡ true
      to_p h =
          let parts = and_parts (crosses a.0 a.1 b.0 b.1) (not (list_any (λ x. is_on_segment a.0 a.1 x && is_on_segment b.0 b.1 x) rest)) h in
          let some = not-false _ (sym (ap (λ t. t && not (list_any (λ x. is_on_segment a.0 a.1 x && is_on_segment b.0 b.1 x) points)) parts.0) ∙ free) in
          let found = any_gives (λ x. is_on_segment a.0 a.1 x && is_on_segment b.0 b.1 x) points some in
          let none : is_point rest found.0 ≡ false = false_from_ne_true (is_point rest found.0)
          (λ e. both_ways _ (none_at (λ x. is_on_segment a.0 a.1 x && is_on_segment b.0 b.1 x) rest found.0 (not-true _ parts.1) (in_points rest found.0 e)) found.2) in
          and_from (is_on_segment a.0 a.1 p && is_on_segment b.0 b.1 p) (crosses a.0 a.1 b.0 b.1) (ap (λ x. is_on_segment a.0 a.1 x && is_on_segment b.0 b.1 x) (it_is found.0 found.1 none) ∙ found.2) parts.0

      from_p : (is_on_segment a.0 a.1 p && is_on_segment b.0 b.1 p && crosses a.0 a.1 b.0 b.1) ≡ true → cross_between rest a b ≡ true
      from_p h =
          let parts = and_parts (is_on_segment a.0 a.1 p && is_on_segment b.0 b.1 p) (crosses a.0 a.1 b.0 b.1) h in
          let on = and_parts (is_on_segment a.0 a.1 p) (is_on_segment b.0 b.1 p) parts.0 in
          let none : (x : Coords) → In x rest → (is_on_segment a.0 a.1 x && is_on_segment b.0 b.1 x) ≡ true → ⊥ = λ x i both.
          let also = and_parts (is_on_segment a.0 a.1 x) (is_on_segment b.0 b.1 x) both in
          it_is_not x i (meet_once a.0 a.1 b.0 b.1 x p (collinear_of_on a.0 a.1 x also.0) (collinear_of_on b.0 b.1 x also.1) (collinear_of_on a.0 a.1 p on.0) (collinear_of_on b.0 b.1 p on.1) (crossed_of a.0 a.1 b.0 b.1 parts.1).second) in
          and_from (crosses a.0 a.1 b.0 b.1) _ parts.1 (not_from_false _ (none_from (λ x. is_on_segment a.0 a.1 x && is_on_segment b.0 b.1 x) rest (λ x i. false_from_ne_true _ (none x i))))

  pub joint-through : (l m : Line) → lines_cross points l m ≡ false → is_on_points rest l ≡ true → is_on_points rest m ≡ true
      → lines_cross rest l m ≡ list_any (λ a. list_any (λ b. is_on_segment a.0 a.1 p && is_on_segment b.0 b.1 p && crosses a.0 a.1 b.0 b.1) (links m)) (links l)
  unfolding through links_cross link_crosses
  joint-through l m free on on' =
      let none = sym (lines_cross-links points l m (on_more rest points l still on) (on_more rest points m still on')) ∙ free in
      lines_cross-links rest l m on on'
      ∙ any_agrees (λ a. list_any (cross_between rest a) (links m)) (λ a. list_any (through a) (links m)) (links l)
      (λ a i. any_agrees (cross_between rest a) (through a) (links m)
      (λ b j. crosses_at a b (none_at (cross_between points a) (links m) b (none_at (λ s. list_any (cross_between points s) (links m)) (links l) a none i) j)))
