-- The triangles of a locally Delaunay sheet are good, and each good triangle of three points is one of them.
use Rattle.std.proofs.Common.{◌≡◌, ℕ, ◌⊎◌, inl, inr, refl, sym, ap, ◌∙◌, arith, [], ◌∷◌, true, false}
use Rattle.std.specs.Prelude.{ℤ, pos, ◌<ℤ◌, ◌≤ℤ◌, int_lt, not, ◌&&◌, Some, slice_get}
use Rattle.std.proofs.lemmas.Int.{ints}
use Rattle.std.proofs.lemmas.Bool.{and_parts, and_from, or_left, or_right}
use Rattle.std.proofs.lemmas.List.Elements.{All-nil, All-cons}
use Rattle.ground_model.specs.declared.corner.Corner.{Corner}
use Rattle.ground_model.specs.declared.corner.Corner.TheVariants.{At, Far}
use Rattle.ground_model.specs.Place.{Coords, IsPlace, is_same}
use Rattle.ground_model.specs.Side.{side}
use Rattle.ground_model.specs.Line.{is_point}
use Rattle.ground_model.specs.Corner.{corner_at, corner_side, is_same_corner}
use Rattle.predicates.specs.Net.{Net, Triangle, has, is_triangle, covers, is_beyond}
use Rattle.predicates.specs.Sheet.{IsSheet, IsLocallyDelaunay, is_over, are_over}
use Rattle.predicates.specs.Weighted.{weighted_side, gathered}
use Rattle.predicates.specs.Tiling.{HasWithin}
use Rattle.predicates.proofs.Edges.{corner-self}
use Rattle.predicates.proofs.Tiling.{each-passes, left-of}
use Rattle.predicates.proofs.Heights.{lift, deep}
use Rattle.predicates.proofs.HigherPlanes.{depth-turned}
use Rattle.predicates.proofs.Cover.{covered, gathered-some}
use Rattle.predicates.proofs.Nudged.{Inside, Shared, nudged, center, center-pq, center-qr, center-rp}
use Rattle.predicates.proofs.Valid.{IsValid, Place, Far0, Far1, Far2}
use Rattle.predicates.proofs.FarTriangle.{AreValid, sheet-valid, listed-place}
use Rattle.predicates.proofs.Owners.{IsTurn, Still, Once, Twice, owner, turn-side, turn-next}
use Rattle.predicates.proofs.NeverCross.{uncrossed}
use Rattle.cdt_law.proofs.Walk.{turn-valid}
use Rattle.cdt_law.proofs.WalkSteps.{walled, at-corner}
use Rattle.cdt_law.proofs.LocalLaw.{around}
use Rattle.cdt_law.proofs.SheetTests.{sheet-clear}
use Rattle.ground_model.proofs.Ties.{same_of_is_same}
use Rattle.predicates.proofs.HasTriangles.{any-at, any-found}
use Rattle.predicates.proofs.FarAbove.{far_above, IsFar0, IsFar1, IsFar2}
use Rattle.cdt_law.proofs.GoodTriangle.{Site, IsSite, IsGood, IsFree, IsGuarded}
use Rattle.cdt_law.proofs.OneTriangle.{PointAt, one_triangle}
use Rattle.predicates.proofs.Signs.{never-both, positive-along}

-- the points and pieces of a net
abbrev pub site_of : Net → Site
site_of net = record { points = net.points; count = net.count }

-- ---- the ends of a sheet's pieces are points
pub over-first : (net : Net) → IsSheet net → (k : ℕ) (t : Triangle) (a b c : Corner) → slice_get net.triangles k ≡ Some t → IsTurn t a b c → is_over net.points a ≡ true
over-first net sheet k t a b c at turn = by t a b c turn (each-passes (are_over net.points) net.triangles sheet.over k t at)
  where
    by : (t : Triangle) (a b c : Corner) → IsTurn t a b c → are_over net.points t ≡ true → is_over net.points a ≡ true
    by t a b c Still e = (and_parts (is_over net.points t.a) (is_over net.points t.b) (and_parts (is_over net.points t.a && is_over net.points t.b) (is_over net.points t.c) e).0).0
    by t a b c Once e = (and_parts (is_over net.points t.a) (is_over net.points t.b) (and_parts (is_over net.points t.a && is_over net.points t.b) (is_over net.points t.c) e).0).1
    by t a b c Twice e = (and_parts (is_over net.points t.a && is_over net.points t.b) (is_over net.points t.c) e).1

pub sheet-site : (net : Net) → IsSheet net → IsSite (site_of net)
sheet-site net sheet = record {
  places = sheet.places;
  even = sheet.even;
  ends = λ p q piece. let o = owner net (At p) (At q) (sheet.pieces p q piece) in over-first net sheet o.index o.triangle (At p) (At q) o.third o.at o.turn;
}

-- ---- the triangles of a sheet are good
not_beyond : (s : ℤ) → pos 0 ≤ℤ s → not (int_lt s (pos 0)) ≡ true
not_beyond s h =
    let t : false ≡ int_lt s (pos 0) = omega (arith, ints, h) in
    sym (ap not t)

holds-three : (t : Triangle) (p : Coords) → pos 0 ≤ℤ corner_side t.a t.b (At p) → pos 0 ≤ℤ corner_side t.b t.c (At p) → pos 0 ≤ℤ corner_side t.c t.a (At p) → covers t p ≡ true
holds-three t p ab bc ca =
    and_from (not (is_beyond t.a t.b p) && not (is_beyond t.b t.c p)) (not (is_beyond t.c t.a p))
    (and_from (not (is_beyond t.a t.b p)) (not (is_beyond t.b t.c p)) (not_beyond (corner_side t.a t.b (At p)) ab) (not_beyond (corner_side t.b t.c (At p)) bc)) (not_beyond (corner_side t.c t.a (At p)) ca)

turn-holds : (t : Triangle) (a b c : Corner) (p : Coords) → IsTurn t a b c → pos 0 ≤ℤ corner_side a b (At p) → pos 0 ≤ℤ corner_side b c (At p) → pos 0 ≤ℤ corner_side c a (At p) → covers t p ≡ true
turn-holds t a b c p Still ab bc ca = holds-three t p ab bc ca
turn-holds t a b c p Once ab bc ca = holds-three t p ca ab bc
turn-holds t a b c p Twice ab bc ca = holds-three t p bc ca ab

-- a point in the closed triangle is a corner
pub sheet-only : (net : Net) → IsSheet net → (k : ℕ) (t : Triangle) (a b c : Corner) → slice_get net.triangles k ≡ Some t → IsTurn t a b c
    → (p : Coords) → is_point net.points p ≡ true → pos 0 ≤ℤ side (corner_at a) (corner_at b) p → pos 0 ≤ℤ side (corner_at b) (corner_at c) p → pos 0 ≤ℤ side (corner_at c) (corner_at a) p → (At p ≡ a) ⊎ ((At p ≡ b) ⊎ (At p ≡ c))
sheet-only net sheet k t a b c at turn p at_p ab bc ca =
    let found = any-found (is_same p) net.points at_p in
    let same : p ≡ found.item = same_of_is_same p found.item found.passes in
    flipped (at-corner t a b c (At p) turn (sheet-clear net sheet found.index p (found.at ∙ ap Some (sym same)) k t at (turn-holds t a b c p turn ab bc ca)))
  where
    flipped : (a ≡ At p) ⊎ ((b ≡ At p) ⊎ (c ≡ At p)) → (At p ≡ a) ⊎ ((At p ≡ b) ⊎ (At p ≡ c))
    flipped (inl e) = inl (sym e)
    flipped (inr (inl e)) = inr (inl (sym e))
    flipped (inr (inr e)) = inr (inr (sym e))

sheet-guarded : (net : Net) → IsSheet net → IsLocallyDelaunay net → (k : ℕ) (t : Triangle) (a b c : Corner) → slice_get net.triangles k ≡ Some t → IsTurn t a b c → IsGuarded (site_of net) a b c a b
sheet-guarded net sheet local k t a b c at turn p at_p deep_p beyond =
    let w = walled (around net sheet local p at_p) a b (record { index = k; triangle = t; third = c; at = at; turn = turn }) deep_p beyond in
    record { u = w.u; v = w.v; piece = w.piece; at_a = w.at_a; at_b = w.at_b }

pub sheet-free : (net : Net) → IsSheet net → (k : ℕ) (t : Triangle) (a b c : Corner) → slice_get net.triangles k ≡ Some t → IsTurn t a b c → IsFree (site_of net) a b
sheet-free net sheet k t a b c at turn u v piece x =
    uncrossed net sheet a b (At u) (At v) (record { index = k; triangle = t; third = c; at = at; turn = turn }) (owner net (At u) (At v) (sheet.pieces u v piece)) x

pub sheet-good : (net : Net) → IsSheet net → IsLocallyDelaunay net → (k : ℕ) (t : Triangle) (a b c : Corner) → slice_get net.triangles k ≡ Some t → IsTurn t a b c → IsGood (site_of net) a b c
sheet-good net sheet local k t a b c at turn = record {
  all_in = turn-valid t a b c turn (sheet-valid net sheet k t at);
  turned = turn-side t a b c turn (left-of net sheet k t at);
  clear = sheet-only net sheet k t a b c at turn;
  free_ab = sheet-free net sheet k t a b c at turn;
  free_bc = sheet-free net sheet k t b c a at turn_b;
  free_ca = sheet-free net sheet k t c a b at turn_c;
  wall_ab = sheet-guarded net sheet local k t a b c at turn;
  wall_bc = λ p at_p h. sheet-guarded net sheet local k t b c a at turn_b p at_p (positive-along (deep b c a (At p)) (deep a b c (At p)) (sym (depth-turned (lift a) (lift b) (lift c) (lift (At p)))) h);
  wall_ca = λ p at_p h. sheet-guarded net sheet local k t c a b at turn_c p at_p (positive-along (deep c a b (At p)) (deep a b c (At p)) (depth-turned (lift c) (lift a) (lift b) (lift (At p))) h);
}
  where
    turn_b : IsTurn t b c a
    turn_b = turn-next t a b c turn

    turn_c : IsTurn t c a b
    turn_c = turn-next t b c a turn_b

-- ---- a good triangle of three points is in the sheet
-- a corner of the sheet below the plane of three places is a point
pub below-point : (net : Net) → IsSheet net → (a b c : Coords) → IsPlace a → IsPlace b → IsPlace c → pos 0 <ℤ side a b c → (z : Corner) → IsValid z → is_over net.points z ≡ true → pos 0 <ℤ deep (At a) (At b) (At c) z → PointAt (site_of net) z
below-point net sheet a b c ha hb hc turned z (Place p h) over d = record { place = p; is = refl; at = over }
below-point net sheet a b c ha hb hc turned z Far0 over d = absurd (never-both (deep (At a) (At b) (At c) (Far 0)) d (far_above a b c (Far 0) ha hb hc IsFar0 turned))
below-point net sheet a b c ha hb hc turned z Far1 over d = absurd (never-both (deep (At a) (At b) (At c) (Far 1)) d (far_above a b c (Far 1) ha hb hc IsFar1 turned))
below-point net sheet a b c ha hb hc turned z Far2 over d = absurd (never-both (deep (At a) (At b) (At c) (Far 2)) d (far_above a b c (Far 2) ha hb hc IsFar2 turned))

three-has : (a b c x y z : Corner) → is_same_corner a x ≡ true → is_same_corner b y ≡ true → is_same_corner c z ≡ true → (is_same_corner a x && is_same_corner b y && is_same_corner c z) ≡ true
three-has a b c x y z e f g = and_from (is_same_corner a x && is_same_corner b y) (is_same_corner c z) (and_from (is_same_corner a x) (is_same_corner b y) e f) g

-- what turns as the triangle's corners do is the triangle
turned-has : (a b c : Corner) (t : Triangle) → IsTurn (record { a = a; b = b; c = c }) t.a t.b t.c → is_triangle a b c t ≡ true
turned-has a b c t turn = by t.a t.b t.c turn
  where
    by : (x y z : Corner) → IsTurn (record { a = a; b = b; c = c }) x y z → is_triangle a b c (record { a = x; b = y; c = z }) ≡ true
    by x y z Still = or_left _ _ (or_left _ _ (three-has a b c a b c (corner-self a) (corner-self b) (corner-self c)))
    by x y z Once = or_left _ _ (or_right _ _ (three-has b c a b c a (corner-self b) (corner-self c) (corner-self a)))
    by x y z Twice = or_right _ _ (three-has c a b c a b (corner-self c) (corner-self a) (corner-self b))

pub good-in-sheet : (net : Net) → IsSheet net → IsLocallyDelaunay net → (a b c : Coords) → is_point net.points a ≡ true → is_point net.points b ≡ true → is_point net.points c ≡ true
    → IsGood (site_of net) (At a) (At b) (At c) → has net (At a) (At b) (At c) ≡ true
good-in-sheet net sheet local a b c at_a at_b at_c good =
    any-at (is_triangle (At a) (At b) (At c)) net.triangles held.index t held.at
    (turned-has (At a) (At b) (At c) t
    (one_triangle (site_of net) (sheet-site net sheet) (At a) (At b) (At c) t.a t.b t.c good good_t shared.point shared.first shared.second
    (record { first = below-point net sheet a b c place_a place_b place_c good.turned t.a v.a over_a; second = below-point net sheet a b c place_a place_b place_c good.turned t.b v.b over_b; third = below-point net sheet a b c place_a place_b place_c good.turned t.c v.c over_c })
    (record { first = λ d. record { place = a; is = refl; at = at_a }; second = λ d. record { place = b; is = refl; at = at_b }; third = λ d. record { place = c; is = refl; at = at_c } })))
  where
    place_a : IsPlace a
    place_a = listed-place net.points sheet.places a at_a

    place_b : IsPlace b
    place_b = listed-place net.points sheet.places b at_b

    place_c : IsPlace c
    place_c = listed-place net.points sheet.places c at_c

    held : HasWithin net (gathered a (b ∷ c ∷ []))
    held = covered net sheet a (b ∷ c ∷ []) (All-cons IsPlace a (b ∷ c ∷ []) place_a (All-cons IsPlace b (c ∷ []) place_b (All-cons IsPlace c [] place_c (All-nil IsPlace))))

    t : Triangle
    t = held.triangle

    v : AreValid t
    v = sheet-valid net sheet held.index t held.at

    good_t : IsGood (site_of net) t.a t.b t.c
    good_t = sheet-good net sheet local held.index t t.a t.b t.c held.at Still

    over_a : is_over net.points t.a ≡ true
    over_a = over-first net sheet held.index t t.a t.b t.c held.at Still

    over_b : is_over net.points t.b ≡ true
    over_b = over-first net sheet held.index t t.b t.c t.a held.at Once

    over_c : is_over net.points t.c ≡ true
    over_c = over-first net sheet held.index t t.c t.a t.b held.at Twice

    middle : Inside a b c (center a b c)
    middle = record {
      ab = positive-along (weighted_side a b (center a b c)) (side a b c) (center-pq a b c) good.turned;
      bc = positive-along (weighted_side b c (center a b c)) (side a b c) (center-qr a b c) good.turned;
      ca = positive-along (weighted_side c a (center a b c)) (side a b c) (center-rp a b c) good.turned;
    }

    shared : Shared a b c (corner_at t.a) (corner_at t.b) (corner_at t.c)
    shared = nudged a b c (corner_at t.a) (corner_at t.b) (corner_at t.c) (center a b c) (gathered-some a (b ∷ c ∷ [])) middle
        (record { ab = held.within.ab; bc = held.within.bc; ca = held.within.ca }) good_t.turned
