-- A piece that ends at a point which no line has as a place is part of a piece there is without that point.
use Rattle.std.proofs.Common.{◌≡◌, ◌⊎◌, inl, inr, refl, sym, ap, subst, ◌∙◌, List, Bool, true, false}
use Rattle.std.specs.Prelude.{not, ◌&&◌}
use Rattle.std.proofs.lemmas.Bool.{and_parts, and_from, true_from_ne_false}
use Rattle.ground_model.specs.Place.{Coords, is_before, is_same}
use Rattle.ground_model.specs.Side.{is_on_segment}
use Rattle.ground_model.specs.Line.{Line, Segment, is_point}
use Rattle.ground_model.specs.Crossings.{is_on_points}
use Rattle.ground_model.proofs.Elements.{In, any_from}
use Rattle.ground_model.proofs.LinePieces.{in_points, is_point_in, ends_on, IsPiece}
use Rattle.ground_model.proofs.Along.{mean_of_on, mean_turned, same_place, UpTo, up_to, not_before}
use Rattle.ground_model.proofs.Segments.{not_after, before_trans, on_first, on_last, mean_order}
use Rattle.cdt_law.proofs.ThinnerSites.{Amid}
use Rattle.cdt_law.proofs.NearestPoint.{Last, last}
use Rattle.cdt_law.proofs.PiecesWithout.{itself, amid-of, on-part, on-by-order, between-none, none-between, still-in, not-it, other}

-- x lies strictly between u and v, of which u is before v
pub record Inside (u v x : Coords) : Type 0 where
  pub on : is_on_segment u v x ≡ true
  pub after : is_before u x ≡ true
  pub before : is_before x v ≡ true

pub not-first : (u v x : Coords) → Inside u v x → x ≡ u → ⊥
not-first u v x h e = itself x (ap (λ k. is_before k x) e ∙ h.after)

pub not-last : (u v x : Coords) → Inside u v x → x ≡ v → ⊥
not-last u v x h e = itself x (ap (is_before x) e ∙ h.before)

pub amid : (u v x : Coords) → Inside u v x → Amid u v x
amid u v x h = amid-of u v x (mean_of_on u v x h.on) (not-first u v x h) (not-last u v x h)

pub amid-back : (u v x : Coords) → Inside u v x → Amid v u x
amid-back u v x h = amid-of v u x (mean_turned u v x (mean_of_on u v x h.on)) (not-last u v x h) (not-first u v x h)

-- of two places one is before the other
pub one-before : (x y : Coords) → (x ≡ y → ⊥) → (is_before x y ≡ true) ⊎ (is_before y x ≡ true)
one-before x y differ = by (is_before x y) refl
  where
    by : (t : Bool) → is_before x y ≡ t → (is_before x y ≡ true) ⊎ (is_before y x ≡ true)
    by true e = inl e
    by false e = inr (true_from_ne_false (is_before y x) (λ f. differ (same_place x y e f)))

pub strictly : (x y : Coords) → (x ≡ y → ⊥) → UpTo x y → is_before x y ≡ true
strictly x y differ h = true_from_ne_false (is_before x y) (λ f. differ (same_place x y f (not_before x y h)))

module _ (points rest : List Coords) (p : Coords) (without : (x : Coords) → is_point rest x ≡ (is_point points x && not (is_same p x))) (at_p : is_point points p ≡ true) where
  -- places of the rest on the link, before p and after it
  record Around (a : Segment) : Type 0 where
    low : Coords
    low_in : In low rest
    low_on : is_on_segment a.0 a.1 low ≡ true
    low_before : is_before low p ≡ true
    high : Coords
    high_in : In high rest
    high_on : is_on_segment a.0 a.1 high ≡ true
    high_after : is_before p high ≡ true

  differs : (x : Coords) → In x rest → x ≡ p → ⊥
  differs x i = not-it points rest p without at_p x (is_point_in rest x i)

  -- the ends of the link are such places
  around : (a : Segment) → In a.0 rest → In a.1 rest → is_on_segment a.0 a.1 p ≡ true → Around a
  around a i j on = by (is_before a.1 a.0) refl
    where
      by : (t : Bool) → is_before a.1 a.0 ≡ t → Around a
      by false e =
          let order = mean_order a.0 a.1 p (mean_of_on a.0 a.1 p on) (up_to a.0 a.1 e) in record {
            low = a.0;
            low_in = i;
            low_on = on_first a.0 a.1;
            low_before = strictly a.0 p (differs a.0 i) order.0;
            high = a.1;
            high_in = j;
            high_on = on_last a.0 a.1;
            high_after = strictly p a.1 (λ f. differs a.1 j (sym f)) order.1;
          }
      by true e =
          let order = mean_order a.1 a.0 p (mean_turned a.0 a.1 p (mean_of_on a.0 a.1 p on)) (up_to a.1 a.0 (not_after a.1 a.0 e)) in record {
            low = a.1;
            low_in = j;
            low_on = on_last a.0 a.1;
            low_before = strictly a.1 p (differs a.1 j) order.0;
            high = a.0;
            high_in = i;
            high_on = on_first a.0 a.1;
            high_after = strictly p a.0 (λ f. differs a.0 i (sym f)) order.1;
          }

  module _ (line : Line) (on : is_on_points rest line ≡ true) where
    ends : (u v : Coords) (h : IsPiece points line u v) → is_on_segment h.link.0 h.link.1 p ≡ true → Around h.link
    ends u v h on_p = let e = ends_on rest line on h.link h.of in around h.link e.0 e.1 on_p

    -- the piece from p to v is the last part of one
    pub record FromBefore (v : Coords) : Type 0 where
      pub u : Coords
      pub inside : Inside u v p
      pub piece : IsPiece rest line u v

    pub from-before : (v : Coords) → IsPiece points line p v → FromBefore v
    from-before v h = record { u = l.item; inside = record { on = on_p; after = passes.1; before = h.before }; piece = piece }
      where
        test : Coords → Bool
        test x = is_on_segment h.link.0 h.link.1 x && is_before x p

        x : Around h.link
        x = ends p v h h.first_on

        l : Last test is_before rest
        l = last test is_before itself before_trans rest (any_from test rest x.low x.low_in (and_from (is_on_segment h.link.0 h.link.1 x.low) (is_before x.low p) x.low_on x.low_before))

        passes : (is_on_segment h.link.0 h.link.1 l.item ≡ true) × (is_before l.item p ≡ true)
        passes = and_parts (is_on_segment h.link.0 h.link.1 l.item) (is_before l.item p) l.passes

        on_p : is_on_segment l.item v p ≡ true
        on_p = on-by-order h.link l.item p v passes.0 h.first_on h.last_on passes.1 h.before

        none : (r : Coords) → In r rest → is_on_segment l.item v r ≡ true → is_before l.item r ≡ true → is_before r v ≡ true → ⊥
        none r i on_r after before = by (one-before r p (differs r i))
          where
            on_link : is_on_segment h.link.0 h.link.1 r ≡ true
            on_link = on-part h.link l.item v r passes.0 h.last_on on_r

            by : (is_before r p ≡ true) ⊎ (is_before p r ≡ true) → ⊥
            by (inl lt) = l.none r i (and_from (is_on_segment h.link.0 h.link.1 r) (is_before r p) on_link lt) after
            by (inr gt) = between-none points p v h.clear r (still-in points rest p without at_p r i) (on-by-order h.link p r v h.first_on on_link h.last_on gt before) gt before

        piece : IsPiece rest line l.item v
        piece = record {
          before = before_trans l.item p v passes.1 h.before;
          first = l.of;
          last = in_points rest v (other points rest p without at_p v (is_point_in points v h.last) (λ e. itself p (subst (λ k. is_before p k ≡ true) e h.before)));
          clear = none-between rest l.item v none;
          link = h.link;
          of = h.of;
          first_on = passes.0;
          last_on = h.last_on;
        }

    -- the piece from u to p is the first part of one
    pub record ToAfter (u : Coords) : Type 0 where
      pub v : Coords
      pub inside : Inside u v p
      pub piece : IsPiece rest line u v

    pub to-after : (u : Coords) → IsPiece points line u p → ToAfter u
    to-after u h = record { v = l.item; inside = record { on = on_p; after = h.before; before = passes.1 }; piece = piece }
      where
        test : Coords → Bool
        test x = is_on_segment h.link.0 h.link.1 x && is_before p x

        x : Around h.link
        x = ends u p h h.last_on

        l : Last test (λ y z. is_before z y) rest
        l = last test (λ y z. is_before z y) itself (λ y z w e f. before_trans w z y f e) rest
            (any_from test rest x.high x.high_in (and_from (is_on_segment h.link.0 h.link.1 x.high) (is_before p x.high) x.high_on x.high_after))

        passes : (is_on_segment h.link.0 h.link.1 l.item ≡ true) × (is_before p l.item ≡ true)
        passes = and_parts (is_on_segment h.link.0 h.link.1 l.item) (is_before p l.item) l.passes

        on_p : is_on_segment u l.item p ≡ true
        on_p = on-by-order h.link u p l.item h.first_on h.last_on passes.0 h.before passes.1

        none : (r : Coords) → In r rest → is_on_segment u l.item r ≡ true → is_before u r ≡ true → is_before r l.item ≡ true → ⊥
        none r i on_r after before = by (one-before r p (differs r i))
          where
            on_link : is_on_segment h.link.0 h.link.1 r ≡ true
            on_link = on-part h.link u l.item r h.first_on passes.0 on_r

            by : (is_before r p ≡ true) ⊎ (is_before p r ≡ true) → ⊥
            by (inl lt) = between-none points u p h.clear r (still-in points rest p without at_p r i) (on-by-order h.link u r p h.first_on on_link h.last_on after lt) after lt
            by (inr gt) = l.none r i (and_from (is_on_segment h.link.0 h.link.1 r) (is_before p r) on_link gt) before

        piece : IsPiece rest line u l.item
        piece = record {
          before = before_trans u p l.item h.before passes.1;
          first = in_points rest u (other points rest p without at_p u (is_point_in points u h.first) (λ e. itself p (subst (λ k. is_before k p ≡ true) e h.before)));
          last = l.of;
          clear = none-between rest u l.item none;
          link = h.link;
          of = h.of;
          first_on = h.first_on;
          last_on = passes.0;
        }
