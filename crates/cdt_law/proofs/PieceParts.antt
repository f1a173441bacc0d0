-- Pieces of one line over two lists of points, and the two parts that a point makes of a piece.
use Rattle.std.proofs.Common.{◌≡◌, ◌+◌, inl, inr, refl, sym, ap, subst, ◌∙◌, arith, List, [], ◌∷◌, Bool, true, false, cond}
use Rattle.std.specs.Prelude.{ℤ, pos, ◌+ℤ◌, ◌*ℤ◌, count_by, not, ◌&&◌}
use Rattle.std.proofs.lemmas.Int.{ints}
use Rattle.std.proofs.lemmas.Bool.{and_parts, and_from}
use Rattle.std.proofs.lemmas.List.Sums.{sum_by-cons}
use Rattle.ground_model.specs.Place.{Coords, is_before, is_same}
use Rattle.ground_model.specs.Side.{side, is_on_segment}
use Rattle.ground_model.specs.Line.{Line, is_point, has_piece}
use Rattle.ground_model.specs.Table.{count_on}
use Rattle.ground_model.specs.Crossings.{is_on_points}
use Rattle.ground_model.proofs.Elements.{In, both_true, any_from}
use Rattle.ground_model.proofs.LinePieces.{in_points, is_point_in, ends_on, IsPiece, piece_of, has_piece_from}
use Rattle.ground_model.proofs.Along.{mean_of_on, mean_turned, same_place, UpTo, up_to, not_before}
use Rattle.ground_model.proofs.Segments.{not_after, before_trans, on_first, on_last, mean_order, side_of_mean, zero_of_share}
use Rattle.predicates.proofs.NearCorners.{times-zero}
use Rattle.predicates.proofs.FlatSides.{flat_bc, flat_ca}
use Rattle.cdt_law.proofs.ThinnerSites.{collinear}
use Rattle.cdt_law.proofs.NearestPoint.{Last, last}
use Rattle.cdt_law.proofs.PiecesWithout.{itself, on-in-order, on-part, on-by-order, between-none, none-between, first-part, last-part}
use Rattle.cdt_law.proofs.LongerPieces.{Inside, amid, from-before, to-after}

-- no point lies strictly between
abbrev pub IsClear : List Coords → Coords → Coords → Type 0
IsClear points p q = (r : Coords) → is_point points r ≡ true → Inside p q r → ⊥

pub clear-of : (points : List Coords) (line : Line) (p q : Coords) → IsPiece points line p q → IsClear points p q
clear-of points line p q h r at_r i = between-none points p q h.clear r (in_points points r at_r) i.on i.after i.before

-- ---- one line over two lists of points
pub piece-carried : (points others : List Coords) (line : Line) (p q : Coords) → IsPiece points line p q → is_point others p ≡ true → is_point others q ≡ true → IsClear others p q → IsPiece others line p q
piece-carried points others line p q h at_p at_q clear = record {
  before = h.before;
  first = in_points others p at_p;
  last = in_points others q at_q;
  clear = none-between others p q (λ r i on after before. clear r (is_point_in others r i) (record { on = on; after = after; before = before }));
  link = h.link;
  of = h.of;
  first_on = h.first_on;
  last_on = h.last_on;
}

-- where pieces of the line over the points are pieces over the others too, each piece over the others is one of these
module _ (points others : List Coords) (line : Line) (on : is_on_points points line ≡ true)
    (same : (p q : Coords) → IsPiece points line p q → (is_point others p ≡ true) × ((is_point others q ≡ true) × IsClear others p q)) (p q : Coords) (h : IsPiece others line p q) where
  abbrev up-to-p : Coords → Bool
  up-to-p x = is_on_segment h.link.0 h.link.1 x && not (is_before p x)

  abbrev past-p : Coords → Bool
  past-p x = is_on_segment h.link.0 h.link.1 x && is_before p x

  -- the ends of the link are on either side of p
  record Ends : Type 0 where
    low : Coords
    low_in : In low points
    low_on : is_on_segment h.link.0 h.link.1 low ≡ true
    low_le : is_before p low ≡ false
    high : Coords
    high_in : In high points
    high_on : is_on_segment h.link.0 h.link.1 high ≡ true
    high_gt : is_before p high ≡ true

  up : (x y z : Coords) → is_before x y ≡ true → UpTo y z → is_before x z ≡ true
  up x y z lt le = by (is_before y z) refl
    where
      by : (t : Bool) → is_before y z ≡ t → is_before x z ≡ true
      by true e = before_trans x y z lt e
      by false e = subst (λ k. is_before x k ≡ true) (same_place y z e (not_before y z le)) lt

  ends : Ends
  ends = by (is_before h.link.1 h.link.0) refl
    where
      e : In h.link.0 points × In h.link.1 points
      e = ends_on points line on h.link h.of

      by : (t : Bool) → is_before h.link.1 h.link.0 ≡ t → Ends
      by false f =
          let first = mean_order h.link.0 h.link.1 p (mean_of_on h.link.0 h.link.1 p h.first_on) (up_to h.link.0 h.link.1 f) in
          let second = mean_order h.link.0 h.link.1 q (mean_of_on h.link.0 h.link.1 q h.last_on) (up_to h.link.0 h.link.1 f) in record {
            low = h.link.0;
            low_in = e.0;
            low_on = on_first h.link.0 h.link.1;
            low_le = not_before h.link.0 p first.0;
            high = h.link.1;
            high_in = e.1;
            high_on = on_last h.link.0 h.link.1;
            high_gt = up p q h.link.1 h.before second.1;
          }
      by true f =
          let order = up_to h.link.1 h.link.0 (not_after h.link.1 h.link.0 f) in
          let first = mean_order h.link.1 h.link.0 p (mean_turned h.link.0 h.link.1 p (mean_of_on h.link.0 h.link.1 p h.first_on)) order in
          let second = mean_order h.link.1 h.link.0 q (mean_turned h.link.0 h.link.1 q (mean_of_on h.link.0 h.link.1 q h.last_on)) order in record {
            low = h.link.1;
            low_in = e.1;
            low_on = on_last h.link.0 h.link.1;
            low_le = not_before h.link.1 p first.0;
            high = h.link.0;
            high_in = e.0;
            high_on = on_first h.link.0 h.link.1;
            high_gt = up p q h.link.0 h.before second.1;
          }

  at-or-after : (x y z : Coords) → is_before y x ≡ false → is_before y z ≡ true → is_before x z ≡ true
  at-or-after x y z le lt = by (is_before x y) refl
    where
      by : (t : Bool) → is_before x y ≡ t → is_before x z ≡ true
      by true e = before_trans x y z e lt
      by false e = subst (λ k. is_before k z ≡ true) (same_place y x le e) lt

  l : Last up-to-p is_before points
  l = last up-to-p is_before itself before_trans points
      (any_from up-to-p points ends.low ends.low_in (and_from (is_on_segment h.link.0 h.link.1 ends.low) (not (is_before p ends.low)) ends.low_on (ap not ends.low_le)))

  f : Last past-p (λ y z. is_before z y) points
  f = last past-p (λ y z. is_before z y) itself (λ y z w e g. before_trans w z y g e) points
      (any_from past-p points ends.high ends.high_in (and_from (is_on_segment h.link.0 h.link.1 ends.high) (is_before p ends.high) ends.high_on ends.high_gt))

  not-off : (t : Bool) → not t ≡ true → t ≡ false
  not-off true e = cc
  not-off false e = refl

  l-on : is_on_segment h.link.0 h.link.1 l.item ≡ true
  l-on = (and_parts (is_on_segment h.link.0 h.link.1 l.item) (not (is_before p l.item)) l.passes).0

  l-le : is_before p l.item ≡ false
  l-le = not-off (is_before p l.item) (and_parts (is_on_segment h.link.0 h.link.1 l.item) (not (is_before p l.item)) l.passes).1

  f-on : is_on_segment h.link.0 h.link.1 f.item ≡ true
  f-on = (and_parts (is_on_segment h.link.0 h.link.1 f.item) (is_before p f.item) f.passes).0

  f-gt : is_before p f.item ≡ true
  f-gt = (and_parts (is_on_segment h.link.0 h.link.1 f.item) (is_before p f.item) f.passes).1

  apart : (r : Coords) → In r points → is_on_segment l.item f.item r ≡ true → is_before l.item r ≡ true → is_before r f.item ≡ true → ⊥
  apart r i on_r after before = by (is_before p r) refl
    where
      on_link : is_on_segment h.link.0 h.link.1 r ≡ true
      on_link = on-part h.link l.item f.item r l-on f-on on_r

      by : (t : Bool) → is_before p r ≡ t → ⊥
      by true e = f.none r i (and_from (is_on_segment h.link.0 h.link.1 r) (is_before p r) on_link e) before
      by false e = l.none r i (and_from (is_on_segment h.link.0 h.link.1 r) (not (is_before p r)) on_link (ap not e)) after

  around : IsPiece points line l.item f.item
  around = record {
    before = at-or-after l.item p f.item l-le f-gt;
    first = l.of;
    last = f.of;
    clear = none-between points l.item f.item apart;
    link = h.link;
    of = h.of;
    first_on = l-on;
    last_on = f-on;
  }

  there : (is_point others l.item ≡ true) × ((is_point others f.item ≡ true) × IsClear others l.item f.item)
  there = same l.item f.item around

  first-is : l.item ≡ p
  first-is = by (is_before l.item p) refl
    where
      by : (t : Bool) → is_before l.item p ≡ t → l.item ≡ p
      by false e = sym (same_place p l.item l-le e)
      by true e = absurd (there.1.1 p (is_point_in others p h.first) (record { on = on-by-order h.link l.item p f.item l-on h.first_on f-on e f-gt; after = e; before = f-gt }))

  last-is : f.item ≡ q
  last-is = by (is_before q f.item) (is_before f.item q) refl refl
    where
      by : (s t : Bool) → is_before q f.item ≡ s → is_before f.item q ≡ t → f.item ≡ q
      by false false e g = sym (same_place q f.item e g)
      by true t e g =
          let after = at-or-after l.item p q l-le h.before in
          absurd (there.1.1 q (is_point_in others q h.last) (record { on = on-by-order h.link l.item q f.item l-on h.last_on f-on after e; after = after; before = e }))
      by false true e g = absurd (clear-of others line p q h f.item there.1.0 (record { on = on-by-order h.link p f.item q h.first_on f-on h.last_on f-gt g; after = f-gt; before = g }))

  pub piece-back : IsPiece points line p q
  piece-back = subst (λ k. IsPiece points line k q) first-is (subst (λ k. IsPiece points line l.item k) last-is around)

-- ---- the two parts that a point makes of a piece
none-left : (a b c : ℤ) → a ≡ b +ℤ c → a ≡ pos 0 → c ≡ pos 0 → b ≡ pos 0
none-left a b c e f g = omega (arith, ints, e, f, g)

none-right : (a b c : ℤ) → a ≡ b +ℤ c → a ≡ pos 0 → b ≡ pos 0 → c ≡ pos 0
none-right a b c e f g = omega (arith, ints, e, f, g)

-- there is one nearest point beyond c, from w
pub one-before-c : (x u w c : Coords) → Inside x w c → Inside u w c → (Inside x w u → ⊥) → (Inside u w x → ⊥) → x ≡ u
one-before-c x u w c i j no_u no_x = by (is_before x u) (is_before u x) refl refl
  where
    flat : (x u : Coords) → Inside x w c → Inside u w c → side x w u ≡ pos 0
    flat x u i j =
        let a = amid u w c j in
        zero_of_share a.mean.l (side x w u) a.first
        (none-left (pos (a.mean.l + a.mean.m) *ℤ side x w c) (pos a.mean.l *ℤ side x w u) (pos a.mean.m *ℤ side x w w) (side_of_mean u w c a.mean x w)
        (times-zero (pos (a.mean.l + a.mean.m)) (side x w c) (collinear x w c (amid x w c i))) (times-zero (pos a.mean.m) (side x w w) (flat_bc x w w refl)))

    within : (x u : Coords) → Inside x w c → Inside u w c → is_before x u ≡ true → Inside x w u
    within x u i j lt = let gt = before_trans u c w j.after j.before in record { on = on-in-order x u w (flat x u i j) lt gt; after = lt; before = gt }

    by : (s t : Bool) → is_before x u ≡ s → is_before u x ≡ t → x ≡ u
    by true t e f = absurd (no_u (within x u i j e))
    by false true e f = absurd (no_x (within u x j i f))
    by false false e f = same_place x u e f

pub one-after-c : (x u w c : Coords) → Inside w x c → Inside w u c → (Inside w x u → ⊥) → (Inside w u x → ⊥) → x ≡ u
one-after-c x u w c i j no_u no_x = by (is_before x u) (is_before u x) refl refl
  where
    flat : (x u : Coords) → Inside w x c → Inside w u c → side w x u ≡ pos 0
    flat x u i j =
        let a = amid w u c j in
        zero_of_share a.mean.m (side w x u) a.last
        (none-right (pos (a.mean.l + a.mean.m) *ℤ side w x c) (pos a.mean.l *ℤ side w x w) (pos a.mean.m *ℤ side w x u) (side_of_mean w u c a.mean w x)
        (times-zero (pos (a.mean.l + a.mean.m)) (side w x c) (collinear w x c (amid w x c i))) (times-zero (pos a.mean.l) (side w x w) (flat_ca w x w refl)))

    within : (x u : Coords) → Inside w x c → Inside w u c → is_before u x ≡ true → Inside w x u
    within x u i j lt = let gt = before_trans w c u j.after j.before in record { on = on-in-order w u x (flat x u i j) gt lt; after = gt; before = lt }

    by : (s t : Bool) → is_before x u ≡ s → is_before u x ≡ t → x ≡ u
    by true t e f = absurd (no_x (within u x j i e))
    by false true e f = absurd (no_u (within x u i j f))
    by false false e f = same_place x u e f

-- a count counts what it counts
pub counts-agree : {X : Type 0} (f g : X → Bool) (xs : List X) → ((x : X) → In x xs → f x ≡ g x) → count_by f xs ≡ count_by g xs
counts-agree f g [] h = refl
counts-agree f g (x ∷ xs) h =
    sum_by-cons (λ z. cond (f z) 1 0) x xs ∙ (λ i. cond (h x (inl refl) i) 1 0 + counts-agree f g xs (λ y j. h y (inr j)) i) ∙ sym (sum_by-cons (λ z. cond (g z) 1 0) x xs)

module _ (points rest : List Coords) (c : Coords) (without : (x : Coords) → is_point rest x ≡ (is_point points x && not (is_same c x))) (at_c : is_point points c ≡ true) (lines : List Line)
    (on : (line : Line) → In line lines → is_on_points rest line ≡ true) (x w : Coords) (at_x : is_point rest x ≡ true) (at_w : is_point rest w ≡ true) where
  pub half-before : Inside x w c → IsClear rest x w → count_on points lines c w ≡ count_on rest lines x w
  unfolding count_on
  half-before i clear = counts-agree (λ line. has_piece points line c w) (λ line. has_piece rest line x w) lines (λ line of. both_true (has_piece points line c w) (has_piece rest line x w) (to line of) (back line))
    where
      to : (line : Line) → In line lines → has_piece points line c w ≡ true → has_piece rest line x w ≡ true
      to line of e =
          let l = from-before points rest c without at_c line (on line of) w (piece_of points line c w e) in
          let same : x ≡ l.u = one-before-c x l.u w c i l.inside (clear l.u (is_point_in rest l.u l.piece.first)) (clear-of rest line l.u w l.piece x at_x) in
          has_piece_from rest line x w (subst (λ k. IsPiece rest line k w) (sym same) l.piece)

      back : (line : Line) → has_piece rest line x w ≡ true → has_piece points line c w ≡ true
      back line e = has_piece_from points line c w (last-part points rest c without at_c line x w (piece_of rest line x w e) i.on i.after i.before)

  pub half-after : Inside w x c → IsClear rest w x → count_on points lines w c ≡ count_on rest lines w x
  unfolding count_on
  half-after i clear = counts-agree (λ line. has_piece points line w c) (λ line. has_piece rest line w x) lines (λ line of. both_true (has_piece points line w c) (has_piece rest line w x) (to line of) (back line))
    where
      to : (line : Line) → In line lines → has_piece points line w c ≡ true → has_piece rest line w x ≡ true
      to line of e =
          let l = to-after points rest c without at_c line (on line of) w (piece_of points line w c e) in
          let same : x ≡ l.v = one-after-c x l.v w c i l.inside (clear l.v (is_point_in rest l.v l.piece.last)) (clear-of rest line w l.v l.piece x at_x) in
          has_piece_from rest line w x (subst (λ k. IsPiece rest line w k) (sym same) l.piece)

      back : (line : Line) → has_piece rest line w x ≡ true → has_piece points line w c ≡ true
      back line e = has_piece_from points line w c (first-part points rest c without at_c line w x (piece_of rest line w x e) i.on i.after i.before)
