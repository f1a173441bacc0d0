-- A triangle passes the test of a facet exactly where it is good, and its least corner is first.
use Rattle.std.proofs.Common.{◌≡◌, ℕ, ◌⊎◌, inl, inr, refl, sym, ap, ◌∙◌, arith, List, Bool, true, false}
use Rattle.std.specs.Prelude.{ℤ, pos, ◌*ℤ◌, ◌<ℤ◌, ◌≤ℤ◌, not, ◌&&◌, ◌||◌}
use Rattle.std.specs.List.{All}
use Rattle.std.proofs.lemmas.Int.{ints}
use Rattle.std.proofs.lemmas.Bool.{and_parts, and_from, or_cases, or_left, or_right}
use Rattle.ground_model.specs.declared.corner.Corner.TheVariants.{At}
use Rattle.ground_model.specs.declared.piece.Piece.{Piece}
use Rattle.ground_model.specs.Place.{Coords, IsPlace, is_before, is_same}
use Rattle.ground_model.specs.Side.{side, is_left, is_right, holds, crosses}
use Rattle.ground_model.specs.Height.{is_inside}
use Rattle.ground_model.specs.Line.{is_point}
use Rattle.ground_model.specs.Wall.{is_walled}
use Rattle.ground_model.specs.Table.{pieces_by}
use Rattle.ground_model.specs.Corner.{corner_at}
use Rattle.ground_model.specs.Tri.{is_empty, is_crossed_by_none, is_walled_from, is_walled_if_beyond, is_walled_off, is_facet}
use Rattle.ground_model.proofs.Elements.{In, all_at, all_from, any_gives, any_from}
use Rattle.ground_model.proofs.LinePieces.{in_points, is_point_in, is_same_itself}
use Rattle.ground_model.proofs.Segments.{crosses_from}
use Rattle.ground_model.proofs.Ties.{same_of_is_same, turns_of_left}
use Rattle.ground_model.proofs.Corners.{is_corner_inside-places}
use Rattle.predicates.proofs.Signs.{mul-negative, negative-along, negative-neg, positive-neg}
use Rattle.predicates.proofs.Heights.{lift, deep}
use Rattle.predicates.proofs.Depths.{below_of_deep}
use Rattle.predicates.proofs.Valid.{Place}
use Rattle.predicates.proofs.FarTriangle.{listed-place}
use Rattle.predicates.proofs.CrossedEdges.{Crosses}
use Rattle.predicates.proofs.NeverCross.{crosses-way, right_is}
use Rattle.predicates.proofs.InsideDepths.{inside-deep}
use Rattle.cdt_law.proofs.WallTests.{walled-from, walled-back, walls-of}
use Rattle.cdt_law.proofs.Walls.{Walls}
use Rattle.predicates.proofs.NoFourInPlane.{is_left-from}
use Rattle.cdt_law.proofs.GoodTriangle.{Site, WallAt, IsGood, IsFree}
use Rattle.cdt_law.proofs.Counts.{CountsPieces, both_ways, IsCounted, counted-of, Joined, joined-by, both-some, both-some-back}
use Rattle.cdt_law.proofs.SideTests.{right_from, not_right-from, not_right-is}
use Rattle.predicates.proofs.FlatSides.{side-back}

-- the points with the pieces that a count makes
abbrev pub site_by : (Coords → Coords → ℕ) → List Coords → Site
site_by g points = record { points = points; count = both_ways g }

-- where the one holds the other does
must : (h s : Bool) → (h ≡ true → s ≡ true) → (not h || s) ≡ true
must true s k = k refl
must false s k = refl

must-of : (h s : Bool) → (not h || s) ≡ true → h ≡ true → s ≡ true
must-of true s e f = e
must-of false s e f = cc

grouped : (n x y z : Bool) → (n || (x || y || z)) ≡ (n || x || y || z)
grouped true x y z = refl
grouped false x y z = refl

-- ---- no point in the triangle
empty-clear : (points : List Coords) (a b c : Coords) → is_empty points a b c ≡ true → (p : Coords) → is_point points p ≡ true → pos 0 ≤ℤ side a b p → pos 0 ≤ℤ side b c p → pos 0 ≤ℤ side c a p → (At p ≡ At a) ⊎ ((At p ≡ At b) ⊎ (At p ≡ At c))
unfolding is_empty
empty-clear points a b c e p at ab bc ca =
    one (or_cases (is_same p a || is_same p b) (is_same p c) (must-of (holds a b c p) (is_same p a || is_same p b || is_same p c)
    (grouped (not (holds a b c p)) (is_same p a) (is_same p b) (is_same p c) ∙ all_at (λ x. not (holds a b c x) || is_same x a || is_same x b || is_same x c) points p e (in_points points p at))
    (and_from (not (is_right a b p) && not (is_right b c p)) (not (is_right c a p)) (and_from (not (is_right a b p)) (not (is_right b c p)) (not_right-from a b p ab) (not_right-from b c p bc)) (not_right-from c a p ca))))
  where
    two : (is_same p a ≡ true) ⊎ (is_same p b ≡ true) → (At p ≡ At a) ⊎ ((At p ≡ At b) ⊎ (At p ≡ At c))
    two (inl e) = inl (ap At (same_of_is_same p a e))
    two (inr e) = inr (inl (ap At (same_of_is_same p b e)))

    one : ((is_same p a || is_same p b) ≡ true) ⊎ (is_same p c ≡ true) → (At p ≡ At a) ⊎ ((At p ≡ At b) ⊎ (At p ≡ At c))
    one (inl e) = two (or_cases (is_same p a) (is_same p b) e)
    one (inr e) = inr (inr (ap At (same_of_is_same p c e)))

clear-empty : (points : List Coords) (a b c : Coords) → ((p : Coords) → is_point points p ≡ true → pos 0 ≤ℤ side a b p → pos 0 ≤ℤ side b c p → pos 0 ≤ℤ side c a p → (At p ≡ At a) ⊎ ((At p ≡ At b) ⊎ (At p ≡ At c))) → is_empty points a b c ≡ true
unfolding is_empty
clear-empty points a b c clear =
    all_from (λ p. not (holds a b c p) || is_same p a || is_same p b || is_same p c) points
    (λ p i. sym (grouped (not (holds a b c p)) (is_same p a) (is_same p b) (is_same p c)) ∙ must (holds a b c p) (is_same p a || is_same p b || is_same p c) (λ h. held p i h))
  where
    same : (p x : Coords) → At p ≡ At x → is_same p x ≡ true
    same p x e = ap (λ k. is_same k x) (ap corner_at e) ∙ is_same_itself x

    by : (p : Coords) → (At p ≡ At a) ⊎ ((At p ≡ At b) ⊎ (At p ≡ At c)) → (is_same p a || is_same p b || is_same p c) ≡ true
    by p (inl e) = or_left (is_same p a || is_same p b) (is_same p c) (or_left (is_same p a) (is_same p b) (same p a e))
    by p (inr (inl e)) = or_left (is_same p a || is_same p b) (is_same p c) (or_right (is_same p a) (is_same p b) (same p b e))
    by p (inr (inr e)) = or_right (is_same p a || is_same p b) (is_same p c) (same p c e)

    held : (p : Coords) → In p points → holds a b c p ≡ true → (is_same p a || is_same p b || is_same p c) ≡ true
    held p i h =
        let outer = and_parts (not (is_right a b p) && not (is_right b c p)) (not (is_right c a p)) h in
        let inner = and_parts (not (is_right a b p)) (not (is_right b c p)) outer.0 in
        by p (clear p (is_point_in points p i) (not_right-is a b p inner.0) (not_right-is b c p inner.1) (not_right-is c a p outer.1))

-- ---- no piece across an edge
crosses-true : (a b u v : Coords) → Crosses a b u v → crosses a b u v ≡ true
crosses-true a b u v x = crosses_from a b u v (record { first = back (side a b u) (side a b v) x.u_right x.v_left; second = mul-negative (side u v a) (side u v b) x.a_left x.b_right })
  where
    swap : (s t : ℤ) → s *ℤ t ≡ t *ℤ s
    swap s t = omega (arith, ints)

    back : (s t : ℤ) → s <ℤ pos 0 → pos 0 <ℤ t → (s *ℤ t) <ℤ pos 0
    back s t h k = negative-along (s *ℤ t) (t *ℤ s) (swap s t) (mul-negative t s k h)

crosses-back : (a b u v : Coords) → Crosses a b u v → crosses a b v u ≡ true
crosses-back a b u v x = crosses_from a b v u (record {
  first = mul-negative (side a b v) (side a b u) x.v_left x.u_right;
  second = opposite (side v u a) (side v u b) (negative-neg (side u v a) (side v u a) (side-back u v a) x.a_left) (positive-neg (side u v b) (side v u b) (side-back u v b) x.b_right);
})
  where
    swap : (s t : ℤ) → s *ℤ t ≡ t *ℤ s
    swap s t = omega (arith, ints)

    opposite : (s t : ℤ) → s <ℤ pos 0 → pos 0 <ℤ t → (s *ℤ t) <ℤ pos 0
    opposite s t h k = negative-along (s *ℤ t) (t *ℤ s) (swap s t) (mul-negative t s k h)

uncrossed-free : (g : Coords → Coords → ℕ) (points : List Coords) → CountsPieces points g → (a b : Coords) → is_crossed_by_none (pieces_by g points) a b ≡ true → IsFree (site_by g points) (At a) (At b)
unfolding is_crossed_by_none
uncrossed-free g points c a b e u v piece x = by (joined-by g points c u v piece)
  where
    never : (t : Bool) → not t ≡ true → t ≡ true → ⊥
    never true f h = cc
    never false f h = cc

    none : (y : Piece) → In y (pieces_by g points) → not (crosses a b y.p y.q) ≡ true
    none y i = all_at (λ y. not (crosses a b y.p y.q)) (pieces_by g points) y e i

    ends : (y : Piece) → ((y.p ≡ u) × (y.q ≡ v)) ⊎ ((y.p ≡ v) × (y.q ≡ u)) → crosses a b y.p y.q ≡ true
    ends y (inl k) = (λ i. crosses a b (k.0 i) (k.1 i)) ∙ crosses-true a b u v x
    ends y (inr k) = (λ i. crosses a b (k.0 i) (k.1 i)) ∙ crosses-back a b u v x

    by : Joined g points u v → ⊥
    by j = never (crosses a b j.piece.p j.piece.q) (none j.piece j.of) (ends j.piece j.ends)

free-uncrossed : (g : Coords → Coords → ℕ) (points : List Coords) → CountsPieces points g → (a b : Coords) → IsFree (site_by g points) (At a) (At b) → is_crossed_by_none (pieces_by g points) a b ≡ true
unfolding is_crossed_by_none
free-uncrossed g points c a b free = all_from (λ y. not (crosses a b y.p y.q)) (pieces_by g points) (λ y i. by y (counted-of g points y i) (crosses a b y.p y.q) refl)
  where
    way : (y : Piece) → IsCounted g y → Crosses a b y.p y.q ⊎ Crosses y.p y.q a b → ⊥
    way y k (inl x) = free y.p y.q (both-some g points c y.p y.q k.some) x
    way y k (inr x) = free y.q y.p (both-some-back g points c y.p y.q k.some) (record {
      v_left = x.a_left;
      u_right = x.b_right;
      a_left = positive-neg (side y.p y.q a) (side y.q y.p a) (side-back y.p y.q a) x.u_right;
      b_right = negative-neg (side y.p y.q b) (side y.q y.p b) (side-back y.p y.q b) x.v_left;
    })

    by : (y : Piece) → IsCounted g y → (t : Bool) → crosses a b y.p y.q ≡ t → not t ≡ true
    by y k true e = absurd (way y k (crosses-way a b y.p y.q e))
    by y k false e = refl

-- ---- a wall before each point inside the circle
deep-inside : (a b c p : Coords) → pos 0 <ℤ deep (At a) (At b) (At c) (At p) → is_inside a b c p ≡ true
unfolding is_inside
deep-inside a b c p h = below_of_deep (lift (At a)) (lift (At b)) (lift (At c)) (lift (At p)) h

walled-guard : (g : Coords → Coords → ℕ) (points : List Coords) → CountsPieces points g → (x y p : Coords) → is_walled_if_beyond (pieces_by g points) x y p ≡ true → side x y p <ℤ pos 0 → WallAt (site_by g points) (At x) (At y) p
unfolding is_walled_from
walled-guard g points c x y p e beyond = by (any_gives (λ k. is_walled x y p k.p k.q) (pieces_by g points) (must-of (is_right x y p) (is_walled_from (pieces_by g points) x y p) e (right_from x y p beyond)))
  where
    way : (k : Piece) → IsCounted g k → (Walls k.p k.q x p × Walls k.p k.q y p) ⊎ (Walls k.q k.p x p × Walls k.q k.p y p) → WallAt (site_by g points) (At x) (At y) p
    way k counted (inl w) = record { u = k.p; v = k.q; piece = both-some g points c k.p k.q counted.some; at_a = w.0; at_b = w.1 }
    way k counted (inr w) = record { u = k.q; v = k.p; piece = both-some-back g points c k.p k.q counted.some; at_a = w.0; at_b = w.1 }

    by : (k : Piece) × In k (pieces_by g points) × (is_walled x y p k.p k.q ≡ true) → WallAt (site_by g points) (At x) (At y) p
    by (k, i, w) = way k (counted-of g points k i) (walls-of k.p k.q x y p w)

guard-walled : (g : Coords → Coords → ℕ) (points : List Coords) → CountsPieces points g → (x y p : Coords) → (side x y p <ℤ pos 0 → WallAt (site_by g points) (At x) (At y) p) → is_walled_if_beyond (pieces_by g points) x y p ≡ true
unfolding is_walled_from
guard-walled g points c x y p wall = must (is_right x y p) (is_walled_from (pieces_by g points) x y p) (λ e. by (wall (right_is x y p e)))
  where
    -- the test does not look at a piece's direction
    ends : (w : WallAt (site_by g points) (At x) (At y) p) (k : Piece) → ((k.p ≡ w.u) × (k.q ≡ w.v)) ⊎ ((k.p ≡ w.v) × (k.q ≡ w.u)) → is_walled x y p k.p k.q ≡ true
    ends w k (inl e) = (λ i. is_walled x y p (e.0 i) (e.1 i)) ∙ walled-from w.u w.v x y p w.at_a w.at_b
    ends w k (inr e) = (λ i. is_walled x y p (e.0 i) (e.1 i)) ∙ walled-back w.u w.v x y p w.at_a w.at_b

    by : WallAt (site_by g points) (At x) (At y) p → is_walled_from (pieces_by g points) x y p ≡ true
    by w =
        let j = joined-by g points c w.u w.v w.piece in
        any_from (λ k. is_walled x y p k.p k.q) (pieces_by g points) j.piece j.of (ends w j.piece j.ends)

-- ---- both together
pub facet-good : (g : Coords → Coords → ℕ) (points : List Coords) → CountsPieces points g → All IsPlace points → (a b c : Coords) → is_point points a ≡ true → is_point points b ≡ true → is_point points c ≡ true → is_facet points (pieces_by g points) a b c ≡ true → IsGood (site_by g points) (At a) (At b) (At c)
unfolding is_facet is_walled_off
facet-good g points c places a b d at_a at_b at_d e = record {
  all_in = record { a_in = Place a (listed-place points places a at_a); b_in = Place b (listed-place points places b at_b); c_in = Place d (listed-place points places d at_d) };
  turned = turns_of_left a b d (and_parts (is_before a b && is_before a d) (is_left a b d) first.0).1;
  clear = empty-clear points a b d first.1;
  free_ab = uncrossed-free g points c a b (and_parts (is_crossed_by_none (pieces_by g points) a b) (is_crossed_by_none (pieces_by g points) b d) free.0).0;
  free_bc = uncrossed-free g points c b d (and_parts (is_crossed_by_none (pieces_by g points) a b) (is_crossed_by_none (pieces_by g points) b d) free.0).1;
  free_ca = uncrossed-free g points c d a free.1;
  wall_ab = λ p at h beyond. walled-guard g points c a b p (and_parts (wb a b p) (wb b d p) (and_parts (wb a b p && wb b d p) (wb d a p) (three p at h)).0).0 beyond;
  wall_bc = λ p at h beyond. walled-guard g points c b d p (and_parts (wb a b p) (wb b d p) (and_parts (wb a b p && wb b d p) (wb d a p) (three p at h)).0).1 beyond;
  wall_ca = λ p at h beyond. walled-guard g points c d a p (and_parts (wb a b p && wb b d p) (wb d a p) (three p at h)).1 beyond;
}
  where
    wb : Coords → Coords → Coords → Bool
    wb x y p = is_walled_if_beyond (pieces_by g points) x y p

    outer : (((is_before a b && is_before a d && is_left a b d) && is_empty points a b d && (is_crossed_by_none (pieces_by g points) a b && is_crossed_by_none (pieces_by g points) b d && is_crossed_by_none (pieces_by g points) d a)) ≡ true) × (is_walled_off points (pieces_by g points) a b d ≡ true)
    outer = and_parts ((is_before a b && is_before a d && is_left a b d) && is_empty points a b d && (is_crossed_by_none (pieces_by g points) a b && is_crossed_by_none (pieces_by g points) b d && is_crossed_by_none (pieces_by g points) d a)) (is_walled_off points (pieces_by g points) a b d) e

    inner : (((is_before a b && is_before a d && is_left a b d) && is_empty points a b d) ≡ true) × ((is_crossed_by_none (pieces_by g points) a b && is_crossed_by_none (pieces_by g points) b d && is_crossed_by_none (pieces_by g points) d a) ≡ true)
    inner = and_parts ((is_before a b && is_before a d && is_left a b d) && is_empty points a b d) (is_crossed_by_none (pieces_by g points) a b && is_crossed_by_none (pieces_by g points) b d && is_crossed_by_none (pieces_by g points) d a) outer.0

    first : ((is_before a b && is_before a d && is_left a b d) ≡ true) × (is_empty points a b d ≡ true)
    first = and_parts (is_before a b && is_before a d && is_left a b d) (is_empty points a b d) inner.0

    free : ((is_crossed_by_none (pieces_by g points) a b && is_crossed_by_none (pieces_by g points) b d) ≡ true) × (is_crossed_by_none (pieces_by g points) d a ≡ true)
    free = and_parts (is_crossed_by_none (pieces_by g points) a b && is_crossed_by_none (pieces_by g points) b d) (is_crossed_by_none (pieces_by g points) d a) inner.1

    three : (p : Coords) → is_point points p ≡ true → pos 0 <ℤ deep (At a) (At b) (At d) (At p) → (wb a b p && wb b d p && wb d a p) ≡ true
    three p at h = must-of (is_inside a b d p) (wb a b p && wb b d p && wb d a p) (all_at (λ q. not (is_inside a b d q) || (wb a b q && wb b d q && wb d a q)) points p outer.1 (in_points points p at)) (deep-inside a b d p h)

pub good-facet : (g : Coords → Coords → ℕ) (points : List Coords) → CountsPieces points g → (a b d : Coords) → (is_before a b && is_before a d) ≡ true → IsGood (site_by g points) (At a) (At b) (At d) → is_facet points (pieces_by g points) a b d ≡ true
unfolding is_facet is_walled_off
good-facet g points c a b d least good =
    and_from ((is_before a b && is_before a d && is_left a b d) && is_empty points a b d && (is_crossed_by_none (pieces_by g points) a b && is_crossed_by_none (pieces_by g points) b d && is_crossed_by_none (pieces_by g points) d a)) (is_walled_off points (pieces_by g points) a b d)
    (and_from ((is_before a b && is_before a d && is_left a b d) && is_empty points a b d) (is_crossed_by_none (pieces_by g points) a b && is_crossed_by_none (pieces_by g points) b d && is_crossed_by_none (pieces_by g points) d a)
    (and_from (is_before a b && is_before a d && is_left a b d) (is_empty points a b d) (and_from (is_before a b && is_before a d) (is_left a b d) least (is_left-from a b d good.turned)) (clear-empty points a b d good.clear))
    (and_from (is_crossed_by_none (pieces_by g points) a b && is_crossed_by_none (pieces_by g points) b d) (is_crossed_by_none (pieces_by g points) d a)
    (and_from (is_crossed_by_none (pieces_by g points) a b) (is_crossed_by_none (pieces_by g points) b d) (free-uncrossed g points c a b good.free_ab) (free-uncrossed g points c b d good.free_bc)) (free-uncrossed g points c d a good.free_ca)))
    (all_from (λ q. not (is_inside a b d q) || (wb a b q && wb b d q && wb d a q)) points (λ p i. must (is_inside a b d p) (wb a b p && wb b d p && wb d a p) (λ h. three p (is_point_in points p i) h)))
  where
    wb : Coords → Coords → Coords → Bool
    wb x y p = is_walled_if_beyond (pieces_by g points) x y p

    below : (p : Coords) → is_inside a b d p ≡ true → pos 0 <ℤ deep (At a) (At b) (At d) (At p)
    below p h = inside-deep (At a) (At b) (At d) (At p) (is_corner_inside-places a b d p ∙ h)

    three : (p : Coords) → is_point points p ≡ true → is_inside a b d p ≡ true → (wb a b p && wb b d p && wb d a p) ≡ true
    three p at h =
        and_from (wb a b p && wb b d p) (wb d a p)
        (and_from (wb a b p) (wb b d p) (guard-walled g points c a b p (good.wall_ab p at (below p h))) (guard-walled g points c b d p (good.wall_bc p at (below p h))))
        (guard-walled g points c d a p (good.wall_ca p at (below p h)))

pub least-of : (g : Coords → Coords → ℕ) (points : List Coords) (a b d : Coords) → is_facet points (pieces_by g points) a b d ≡ true → (is_before a b && is_before a d) ≡ true
unfolding is_facet
least-of g points a b d e =
    (and_parts (is_before a b && is_before a d) (is_left a b d)
    (and_parts (is_before a b && is_before a d && is_left a b d) (is_empty points a b d)
    (and_parts ((is_before a b && is_before a d && is_left a b d) && is_empty points a b d) (is_crossed_by_none (pieces_by g points) a b && is_crossed_by_none (pieces_by g points) b d && is_crossed_by_none (pieces_by g points) d a)
    (and_parts ((is_before a b && is_before a d && is_left a b d) && is_empty points a b d && (is_crossed_by_none (pieces_by g points) a b && is_crossed_by_none (pieces_by g points) b d && is_crossed_by_none (pieces_by g points) d a)) (is_walled_off points (pieces_by g points) a b d) e).0).0).0).0
