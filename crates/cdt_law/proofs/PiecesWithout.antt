-- How the pieces of lines change where a point is taken out that no line has as a place: two become one.
use Rattle.std.proofs.Common.{◌≡◌, ℕ, zero, suc, ◌+◌, ◌<◌, ◌⊎◌, inl, inr, refl, sym, ap, ◌∙◌, arith, List, [], ◌∷◌, Bool, true, false}
use Rattle.std.specs.Prelude.{ℤ, pos, ◌*ℤ◌, ◌+ℤ◌, ◌-ℤ◌, not, ◌&&◌, ◌||◌}
use Rattle.std.specs.List.{list_any}
use Rattle.std.specs.Ordering.{is_eq}
use Rattle.std.proofs.lemmas.Int.{ints}
use Rattle.std.proofs.lemmas.Bool.{and_parts, and_from, true≢false, both_ways as clash, not_from_false, not_from_true, false_from_ne_true}
use Rattle.std.proofs.lemmas.Bool.Decides.{Decides-int_eq}
use Rattle.ground_model.specs.Place.{Coords, is_before, is_same}
use Rattle.ground_model.specs.Side.{side, orientation, is_on_segment}
use Rattle.ground_model.specs.Line.{Line, Segment, is_point}
use Rattle.ground_model.proofs.Elements.{In, none_at, none_from}
use Rattle.ground_model.proofs.LinePieces.{is_same_itself, in_points, is_point_in, IsPiece}
use Rattle.ground_model.proofs.Ties.{same_of_is_same}
use Rattle.ground_model.proofs.Along.{Mean, mean_of_on, collinear_of_on}
use Rattle.ground_model.proofs.Segments.{not_after, before_trans, on_of_mean, zero_of_share}
use Rattle.ground_model.proofs.Parts.{mean_inside, collinear_between}
use Rattle.ground_model.proofs.Circle.{same_coords}
use Rattle.ground_model.proofs.Ring.{var, ◌⊖◌, ◌⊗◌, ring}
use Rattle.cdt_law.proofs.ThinnerSites.{Amid}

-- ---- what lies between
pub itself : (x : Coords) → is_before x x ≡ true → ⊥
itself x h = clash (is_before x x) (not_after x x h) h

same-share : (k : ℕ) (x y : ℤ) → 0 < k → pos k *ℤ x ≡ pos k *ℤ y → x ≡ y
same-share k x y some e = along x y (zero_of_share k (x -ℤ y) some (apart (pos k) x y ∙ none (pos k *ℤ x) (pos k *ℤ y) e))
  where
    along : (x y : ℤ) → x -ℤ y ≡ pos 0 → x ≡ y
    along x y e = omega (arith, ints, e)

    none : (s t : ℤ) → s ≡ t → s -ℤ t ≡ pos 0
    none s t e = omega (arith, ints, e)

    apart : (k x y : ℤ) → k *ℤ (x -ℤ y) ≡ k *ℤ x -ℤ k *ℤ y
    apart k x y = ring (k ∷ x ∷ y ∷ []) (var 0 ⊗ (var 1 ⊖ var 2)) (var 0 ⊗ var 1 ⊖ var 0 ⊗ var 2) refl

-- a mean that is neither end lies strictly between them
pub amid-of : (u v x : Coords) → Mean u v x → (x ≡ u → ⊥) → (x ≡ v → ⊥) → Amid u v x
amid-of u v x m no_u no_v = record { mean = m; first = more m.l (λ e. no_v (at_last e)); last = more m.m (λ e. no_u (at_first e)) }
  where
    more : (n : ℕ) → (n ≡ 0 → ⊥) → 0 < n
    more zero h = absurd (h refl)
    more (suc n) h = omega arith

    first-only : (l m : ℕ) (x a b : ℤ) → 0 < l + m → pos (l + m) *ℤ x ≡ pos l *ℤ a +ℤ pos m *ℤ b → m ≡ 0 → x ≡ a
    first-only l zero x a b some e f = same-share (l + 0) x a some (e ∙ drop (pos l *ℤ a) b ∙ ap (λ k. pos k *ℤ a) (back l))
      where
        drop : (y z : ℤ) → y +ℤ pos 0 *ℤ z ≡ y
        drop y z = omega (arith, ints)

        back : (l : ℕ) → l ≡ l + 0
        back l = omega arith
    first-only l (suc m) x a b some e f = absurd (omega (arith, f))

    last-only : (l m : ℕ) (x a b : ℤ) → 0 < l + m → pos (l + m) *ℤ x ≡ pos l *ℤ a +ℤ pos m *ℤ b → l ≡ 0 → x ≡ b
    last-only zero m x a b some e f = same-share (0 + m) x b some (e ∙ drop a (pos m *ℤ b) ∙ ap (λ k. pos k *ℤ b) (back m))
      where
        drop : (y z : ℤ) → pos 0 *ℤ y +ℤ z ≡ z
        drop y z = omega (arith, ints)

        back : (m : ℕ) → m ≡ 0 + m
        back m = omega arith
    last-only (suc l) m x a b some e f = absurd (omega (arith, f))

    at_first : m.m ≡ 0 → x ≡ u
    at_first e = same_coords x u (first-only m.l m.m x.e u.e v.e m.some m.e_is e) (first-only m.l m.m x.n u.n v.n m.some m.n_is e)

    at_last : m.l ≡ 0 → x ≡ v
    at_last e = same_coords x v (last-only m.l m.m x.e u.e v.e m.some m.e_is e) (last-only m.l m.m x.n u.n v.n m.some m.n_is e)

-- of three collinear places in order the second lies on the segment of the others
pub on-in-order : (u x v : Coords) → side u v x ≡ pos 0 → is_before u x ≡ true → is_before x v ≡ true → is_on_segment u v x ≡ true
on-in-order u x v flat lt gt = by (is_eq (orientation u v x)) (is_before x u) (is_before v x) (is_before x v) (is_before u x) ((Decides-int_eq (side u v x) (pos 0)).1 flat) (not_after u x lt) (not_after x v gt)
  where
    by : (s t w y z : Bool) → s ≡ true → t ≡ false → w ≡ false → (s && (not t && not w || not y && not z)) ≡ true
    by true false false y z e f g = refl
    by false t w y z e f g = cc
    by true true w y z e f g = cc
    by true false true y z e f g = cc

pub on-by-order : (a : Segment) (u x v : Coords) → is_on_segment a.0 a.1 u ≡ true → is_on_segment a.0 a.1 x ≡ true → is_on_segment a.0 a.1 v ≡ true → is_before u x ≡ true → is_before x v ≡ true → is_on_segment u v x ≡ true
on-by-order a u x v on_u on_x on_v lt gt = on-in-order u x v (collinear_between a.0 a.1 u v (mean_of_on a.0 a.1 u on_u) (mean_of_on a.0 a.1 v on_v) x (collinear_of_on a.0 a.1 x on_x)) lt gt

-- what lies between two places of a link is on the link
pub on-part : (a : Segment) (s t x : Coords) → is_on_segment a.0 a.1 s ≡ true → is_on_segment a.0 a.1 t ≡ true → is_on_segment s t x ≡ true → is_on_segment a.0 a.1 x ≡ true
on-part a s t x on_s on_t e = on_of_mean a.0 a.1 x (mean_inside a.0 a.1 s t (mean_of_on a.0 a.1 s on_s) (mean_of_on a.0 a.1 t on_t) x (mean_of_on s t x e))

-- nothing of the points lies strictly between
pub between-none : (points : List Coords) (u v : Coords) → list_any (λ r. is_on_segment u v r && is_before u r && is_before r v) points ≡ false
    → (r : Coords) → In r points → is_on_segment u v r ≡ true → is_before u r ≡ true → is_before r v ≡ true → ⊥
between-none points u v clear r i on lt gt =
    clash (is_on_segment u v r && is_before u r && is_before r v) (none_at (λ r. is_on_segment u v r && is_before u r && is_before r v) points r clear i)
    (and_from (is_on_segment u v r && is_before u r) (is_before r v) (and_from (is_on_segment u v r) (is_before u r) on lt) gt)

pub none-between : (points : List Coords) (u v : Coords) → ((r : Coords) → In r points → is_on_segment u v r ≡ true → is_before u r ≡ true → is_before r v ≡ true → ⊥)
    → list_any (λ r. is_on_segment u v r && is_before u r && is_before r v) points ≡ false
none-between points u v none = none_from (λ r. is_on_segment u v r && is_before u r && is_before r v) points (λ r i. false_from_ne_true (is_on_segment u v r && is_before u r && is_before r v) (λ h.
    let outer = and_parts (is_on_segment u v r && is_before u r) (is_before r v) h in
    let inner = and_parts (is_on_segment u v r) (is_before u r) outer.0 in
    none r i inner.0 inner.1 outer.1))

-- ---- with p and without it
module _ (points rest : List Coords) (p : Coords) (without : (x : Coords) → is_point rest x ≡ (is_point points x && not (is_same p x))) (at_p : is_point points p ≡ true) where
  pub still : (x : Coords) → is_point rest x ≡ true → is_point points x ≡ true
  still x h = (and_parts (is_point points x) (not (is_same p x)) (sym (without x) ∙ h)).0

  pub still-in : (x : Coords) → In x rest → In x points
  still-in x i = in_points points x (still x (is_point_in rest x i))

  pub not-it : (x : Coords) → is_point rest x ≡ true → x ≡ p → ⊥
  not-it x h e = true≢false (sym (and_parts (is_point points x) (not (is_same p x)) (sym (without x) ∙ h)).1 ∙ not_from_true (is_same p x) (ap (is_same p) e ∙ is_same_itself p))

  pub other : (x : Coords) → is_point points x ≡ true → (x ≡ p → ⊥) → is_point rest x ≡ true
  other x h differs = without x ∙ and_from (is_point points x) (not (is_same p x)) h (not_from_false (is_same p x) (false_from_ne_true (is_same p x) (λ e. differs (sym (same_of_is_same p x e)))))

  -- each point is p or one of the rest
  either : (x : Coords) → In x points → (x ≡ p) ⊎ In x rest
  either x i = by (is_same p x) refl
    where
      by : (t : Bool) → is_same p x ≡ t → (x ≡ p) ⊎ In x rest
      by true e = inl (sym (same_of_is_same p x e))
      by false e = inr (in_points rest x (without x ∙ and_from (is_point points x) (not (is_same p x)) (is_point_in points x i) (not_from_false (is_same p x) e)))

  module _ (line : Line) where
    -- a piece that doesn't end at p
    pub piece-kept : (u v : Coords) → IsPiece points line u v → (u ≡ p → ⊥) → (v ≡ p → ⊥) → IsPiece rest line u v
    piece-kept u v h no_u no_v = record {
      before = h.before;
      first = in_points rest u (other u (is_point_in points u h.first) no_u);
      last = in_points rest v (other v (is_point_in points v h.last) no_v);
      clear = none-between rest u v (λ r i. between-none points u v h.clear r (still-in r i));
      link = h.link;
      of = h.of;
      first_on = h.first_on;
      last_on = h.last_on;
    }

    -- a piece in which p isn't
    pub piece-still : (u v : Coords) → IsPiece rest line u v → (is_on_segment u v p ≡ true → is_before u p ≡ true → is_before p v ≡ true → ⊥) → IsPiece points line u v
    piece-still u v h no_p = record {
      before = h.before;
      first = still-in u h.first;
      last = still-in v h.last;
      clear = none-between points u v (λ r i on lt gt. by r (either r i) on lt gt);
      link = h.link;
      of = h.of;
      first_on = h.first_on;
      last_on = h.last_on;
    }
      where
        by : (r : Coords) → (r ≡ p) ⊎ In r rest → is_on_segment u v r ≡ true → is_before u r ≡ true → is_before r v ≡ true → ⊥
        by r (inl e) on lt gt = no_p (sym (ap (is_on_segment u v) e) ∙ on) (sym (ap (is_before u) e) ∙ lt) (sym (ap (λ k. is_before k v) e) ∙ gt)
        by r (inr i) on lt gt = between-none rest u v h.clear r i on lt gt

    -- a piece in which p is has two parts
    module _ (u v : Coords) (h : IsPiece rest line u v) (on : is_on_segment u v p ≡ true) (lt : is_before u p ≡ true) (gt : is_before p v ≡ true) where
      on-link : (x : Coords) → is_on_segment u v x ≡ true → is_on_segment h.link.0 h.link.1 x ≡ true
      on-link x e = on-part h.link u v x h.first_on h.last_on e

      pub first-part : IsPiece points line u p
      first-part = record {
        before = lt;
        first = still-in u h.first;
        last = in_points points p at_p;
        clear = none-between points u p (λ r i on_r after before. by r (either r i) on_r after before);
        link = h.link;
        of = h.of;
        first_on = h.first_on;
        last_on = on-link p on;
      }
        where
          by : (r : Coords) → (r ≡ p) ⊎ In r rest → is_on_segment u p r ≡ true → is_before u r ≡ true → is_before r p ≡ true → ⊥
          by r (inl e) on_r after before = itself p (sym (ap (λ k. is_before k p) e) ∙ before)
          by r (inr i) on_r after before =
              let further = before_trans r p v before gt in
              between-none rest u v h.clear r i (on-by-order h.link u r v h.first_on (on-part h.link u p r h.first_on (on-link p on) on_r) h.last_on after further) after further

      pub last-part : IsPiece points line p v
      last-part = record {
        before = gt;
        first = in_points points p at_p;
        last = still-in v h.last;
        clear = none-between points p v (λ r i on_r after before. by r (either r i) on_r after before);
        link = h.link;
        of = h.of;
        first_on = on-link p on;
        last_on = h.last_on;
      }
        where
          by : (r : Coords) → (r ≡ p) ⊎ In r rest → is_on_segment p v r ≡ true → is_before p r ≡ true → is_before r v ≡ true → ⊥
          by r (inl e) on_r after before = itself p (sym (ap (is_before p) e) ∙ after)
          by r (inr i) on_r after before =
              let further = before_trans u p r lt after in
              between-none rest u v h.clear r i (on-by-order h.link u r v h.first_on (on-part h.link p v r (on-link p on) h.last_on on_r) h.last_on further before) further before
