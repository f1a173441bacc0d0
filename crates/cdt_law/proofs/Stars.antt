-- What a newer sheet has at a point within the base's hull is what is destroyed with that point.
use Rattle.std.proofs.Common.{◌≡◌, ℕ, ◌+◌, ◌<◌, ◌≤◌, inl, inr, ◌⊎◌, refl, sym, ap, subst, ◌∙◌, arith, Bool, true, Some}
use Rattle.std.specs.Prelude.{ℤ, pos, ◌+ℤ◌, ◌-ℤ◌, ◌*ℤ◌, ◌<ℤ◌, ◌≤ℤ◌, unsigned_abs, slice_get}
use Rattle.std.specs.List.{list_any}
use Rattle.std.proofs.lemmas.Int.{ints, by_lt_z}
use Rattle.ground_model.specs.declared.corner.Corner.{Corner}
use Rattle.ground_model.specs.declared.corner.Corner.TheVariants.{At, Far}
use Rattle.ground_model.specs.declared.facet.Facet.{Facet}
use Rattle.ground_model.specs.Place.{Coords}
use Rattle.ground_model.specs.Side.{side, is_left}
use Rattle.ground_model.specs.Line.{is_point}
use Rattle.ground_model.specs.Corner.{corner_at}
use Rattle.ground_model.proofs.Elements.{In, any_gives, any_from}
use Rattle.ground_model.proofs.LinePieces.{in_points}
use Rattle.ground_model.proofs.ZOrder.{mul-positive}
use Rattle.predicates.specs.Net.{Net, Triangle, has, facet_by}
use Rattle.predicates.specs.Sheet.{IsSheet, IsLocallyDelaunay}
use Rattle.predicates.specs.Weighted.{Weighted, weighted_side}
use Rattle.predicates.specs.Tiling.{HasWithin}
use Rattle.predicates.proofs.Tiling.{closed, left-of, covered_inside}
use Rattle.predicates.proofs.Nudged.{Inside, Shared, nudged, many-some}
use Rattle.predicates.proofs.NearCorners.{times-zero}
use Rattle.predicates.proofs.NoFourInPlane.{is_left-from}
use Rattle.predicates.proofs.FarTriangle.{closed-far, packed}
use Rattle.predicates.proofs.Owners.{IsTurn, Still, Once, Twice, turn-side, turn-inside, turn-next}
use Rattle.predicates.proofs.Holding.{turn-has_corner}
use Rattle.predicates.proofs.HasTriangles.{HasOwner, has-owner}
use Rattle.predicates.proofs.FlatSides.{flat_bc, flat_ca}
use Rattle.predicates.proofs.Signs.{mul-negative, mul-mixed, weaken}
use Rattle.cdt_law.specs.Patch.{is_in}
use Rattle.cdt_law.specs.Boundary.{gone, IsInner}
use Rattle.cdt_law.specs.Enclose.{HasPointMore, HasGone}
use Rattle.cdt_law.specs.Corners.{IsCornerOfGone}
use Rattle.cdt_law.specs.Stale.{IsUnchanged}
use Rattle.cdt_law.specs.Star.{StarLaw}
use Rattle.cdt_law.proofs.WalkSteps.{at-corner}
use Rattle.cdt_law.proofs.GoodInSheet.{over-first, sheet-only}
use Rattle.cdt_law.proofs.Hull.{hull_law}
use Rattle.cdt_law.proofs.HighestTurn.{HighTurn, places-or-high}
use Rattle.cdt_law.proofs.RingAround.{turns, no-half-plane}
use Rattle.cdt_law.proofs.GoneFacets.{turn-in, some-facet, Places, gone-in}
use Rattle.cdt_law.proofs.Overlaps.{not-left-is}
use Rattle.cdt_law.proofs.Enclosed.{lost, at-c, new-one}
use Rattle.cdt_law.proofs.Renewed.{in-turned}
use Rattle.cdt_law.proofs.SharedCorners.{both, near, near-inside, size, bound, bounded, near-side}

-- of three numbers that sum as two brackets tell, none of which is positive, the first is 0 where the last is
first-zero : (fy fz fw s t u : ℤ) → s *ℤ fz ≡ t *ℤ fy +ℤ u *ℤ fw → pos 0 <ℤ t → pos 0 <ℤ u → fz ≡ pos 0 → fy ≤ℤ pos 0 → fw ≤ℤ pos 0 → fy ≡ pos 0
first-zero fy fz fw s t u e ht hu hz hy hw = by_lt_z fy (pos 0)
    (λ lt. absurd (clash (s *ℤ fz) (t *ℤ fy) (u *ℤ fw) e (times-zero s fz hz) (mul-negative t fy ht lt) (mul-mixed u fw (weaken u hu) hw)))
    (λ ge. level fy ge hy)
  where
    clash : (x y z : ℤ) → x ≡ y +ℤ z → x ≡ pos 0 → y <ℤ pos 0 → z ≤ℤ pos 0 → ⊥
    clash x y z e f h k = omega (arith, ints, e, f, h, k)

    level : (z : ℤ) → pos 0 ≤ℤ z → z ≤ℤ pos 0 → z ≡ pos 0
    level z h k = omega (arith, ints, h, k)

module _ (base planned : Net) (c : Coords) (sheet : IsSheet base) (local : IsLocallyDelaunay base) (sheet' : IsSheet planned) (local' : IsLocallyDelaunay planned) (x : HasPointMore base planned c) (inner : IsInner base planned) where
  -- ---- triangles at c
  record Spokes (y z : Coords) : Type 0 where
    at_y : is_point base.points y ≡ true
    at_z : is_point base.points z ≡ true
    left : pos 0 <ℤ side c y z
    third : Coords
    beyond : has base (At c) (At z) (At third) ≡ true

  spokes : (y z : Coords) → has base (At c) (At y) (At z) ≡ true → Spokes y z
  spokes y z e =
      let o = has-owner base (At c) (At y) (At z) e in
      let turn = subst (λ w. IsTurn o.owner.triangle (At c) (At y) w) o.third o.owner.turn in
      let second = turn-next o.owner.triangle (At c) (At y) (At z) turn in
      let third = turn-next o.owner.triangle (At y) (At z) (At c) second in
      let f = some-facet base o.owner.triangle (At c) (At y) (At z) c y z turn refl refl refl in
      let m = inner (At z) (At c) (At y) (gone-in base planned o.owner.index o.owner.triangle (At z) (At c) (At y) f.0 o.owner.at third f.1 (lost base planned c sheet local sheet' local' x inner o.owner.index o.owner.triangle (At y) (At z) f.0 o.owner.at turn f.1)) in
      record {
        at_y = over-first base sheet o.owner.index o.owner.triangle (At y) (At z) (At c) o.owner.at second;
        at_z = over-first base sheet o.owner.index o.owner.triangle (At z) (At c) (At y) o.owner.at third;
        left = turn-side o.owner.triangle (At c) (At y) (At z) turn (left-of base sheet o.owner.index o.owner.triangle o.owner.at);
        third = m.third;
        beyond = m.there;
      }

  -- ---- c is not on an edge that has all points on its right
  module _ (a b d : Coords) (on : side a b c ≡ pos 0) (low : (v : Coords) → is_point base.points v ≡ true → side a b v ≤ℤ pos 0) (far : pos 0 <ℤ side a b d) where
    down : (v : Coords) → is_point base.points v ≡ true → (side a b v -ℤ side a b c) ≤ℤ pos 0
    down v at = less (side a b v) (side a b c) on (low v at)
      where
        less : (s t : ℤ) → t ≡ pos 0 → s ≤ℤ pos 0 → (s -ℤ t) ≤ℤ pos 0
        less s t e h = omega (arith, ints, e, h)

    falls : (y z : Coords) → has base (At c) (At y) (At z) ≡ true → side a b z <ℤ side a b c
    falls y z e = by_lt_z (side a b z) (side a b c) (λ lt. lt) (λ ge. absurd (never (level (side a b z) (side a b c) ge (down z s.at_z))))
      where
        s : Spokes y z
        s = spokes y z e

        t : Spokes z s.third
        t = spokes z s.third s.beyond

        level : (m n : ℤ) → n ≤ℤ m → (m -ℤ n) ≤ℤ pos 0 → m -ℤ n ≡ pos 0
        level m n h k = omega (arith, ints, h, k)

        above : (m n : ℤ) → n ≡ pos 0 → pos 0 <ℤ m → pos 0 <ℤ (m -ℤ n)
        above m n e h = omega (arith, ints, e, h)

        clash : (l m n : ℤ) → l ≡ m +ℤ n → pos 0 <ℤ l → m ≡ pos 0 → n ≡ pos 0 → ⊥
        clash l m n e h f g = omega (arith, ints, e, h, f, g)

        never : side a b z -ℤ side a b c ≡ pos 0 → ⊥
        never flat =
            let fy : side a b y -ℤ side a b c ≡ pos 0 = first-zero (side a b y -ℤ side a b c) (side a b z -ℤ side a b c) (side a b s.third -ℤ side a b c) (side c y s.third) (side c z s.third) (side c y z)
            (turns a b c y z s.third) t.left s.left flat (down y s.at_y) (down s.third t.at_z) in
            clash (side c y z *ℤ (side a b d -ℤ side a b c)) (side c d z *ℤ (side a b y -ℤ side a b c)) (side c y d *ℤ (side a b z -ℤ side a b c)) (turns a b c y d z)
            (mul-positive (side c y z) (side a b d -ℤ side a b c) s.left (above (side a b d) (side a b c) on far))
            (times-zero (side c d z) (side a b y -ℤ side a b c) fy) (times-zero (side c y d) (side a b z -ℤ side a b c) flat)

    off-hull : (y z : Coords) → has base (At c) (At y) (At z) ≡ true → ⊥
    off-hull y z e = no-half-plane a b c base.points test lower next (any_from test base.points z (in_points base.points z (spokes y z e).at_z) (passes y z e))
      where
        test : Coords → Bool
        test v = list_any (λ w. has base (At c) (At w) (At v)) base.points

        passes : (w v : Coords) → has base (At c) (At w) (At v) ≡ true → test v ≡ true
        passes w v f = any_from (λ w. has base (At c) (At w) (At v)) base.points w (in_points base.points w (spokes w v f).at_y) f

        lower : (v : Coords) → In v base.points → test v ≡ true → side a b v <ℤ side a b c
        lower v i f = let found = any_gives (λ w. has base (At c) (At w) (At v)) base.points f in falls found.0 v found.2

        next : (v : Coords) → In v base.points → test v ≡ true → (w : Coords) × (In w base.points × ((test w ≡ true) × (is_left c v w ≡ true)))
        next v i f =
            let found = any_gives (λ w. has base (At c) (At w) (At v)) base.points f in
            let s = spokes found.0 v found.2 in
            let t = spokes v s.third s.beyond in
            (s.third, (in_points base.points s.third t.at_z, (passes v s.third s.beyond, is_left-from c v s.third t.left)))

  -- ---- what a newer net has at c
  module _ (newest : Net) (n : IsSheet newest) (u : IsUnchanged base planned newest) (y0 z0 : Coords) (some0 : has base (At c) (At y0) (At z0) ≡ true) (y z : Corner) (e : has newest (At c) y z ≡ true) where
    o : HasOwner newest (At c) y z
    o = has-owner newest (At c) y z e

    abbrev s : Triangle
    s = o.owner.triangle

    turn : IsTurn o.owner.triangle (At c) y z
    turn = subst (λ w. IsTurn o.owner.triangle (At c) y w) o.third o.owner.turn

    abbrev cy : Coords
    cy = corner_at y

    abbrev cz : Coords
    cz = corner_at z

    turned : pos 0 <ℤ side c cy cz
    turned = turn-side o.owner.triangle (At c) y z turn (left-of newest n o.owner.index o.owner.triangle o.owner.at)

    abbrev enough : ℕ
    enough = 1 + unsigned_abs (weighted_side cy cz (both cy cz)) + bound (both cy cz) base.triangles

    abbrev point : Weighted
    point = near c cy cz enough

    inside : Inside c cy cz point
    inside = near-inside c cy cz enough turned (more (unsigned_abs (weighted_side cy cz (both cy cz))) (bound (both cy cz) base.triangles))
      where
        more : (n r : ℕ) → n < 1 + n + r
        more n r = omega arith

    some : pos 0 <ℤ point.weight
    some = many-some enough (pos 1) (pos 1 +ℤ pos 1) (more (unsigned_abs (weighted_side cy cz (both cy cz))) (bound (both cy cz) base.triangles)) (omega (arith, ints)) (omega (arith, ints))
      where
        more : (n r : ℕ) → 0 < 1 + n + r
        more n r = omega arith

    held : HasWithin base point
    held = covered_inside base sheet point some (closed-far newest (closed newest n) o.owner.index o.owner.triangle o.owner.at point (turn-inside o.owner.triangle (At c) y z point turn inside))

    abbrev t : Triangle
    t = held.triangle

    shared : Shared c cy cz (corner_at t.a) (corner_at t.b) (corner_at t.c)
    shared = nudged c cy cz (corner_at t.a) (corner_at t.b) (corner_at t.c) point some inside (record { ab = held.within.ab; bc = held.within.bc; ca = held.within.ca }) (left-of base sheet held.index t held.at)

    corner : (At c ≡ t.a) ⊎ ((At c ≡ t.b) ⊎ (At c ≡ t.c))
    corner = sheet-only base sheet held.index t t.a t.b t.c held.at Still c x.at_c
        (near-side (corner_at t.a) (corner_at t.b) c cy cz enough (less_a _ _ _ _ _ small) held.within.ab)
        (near-side (corner_at t.b) (corner_at t.c) c cy cz enough (less_b _ _ _ _ _ small) held.within.bc)
        (near-side (corner_at t.c) (corner_at t.a) c cy cz enough (less_c _ _ _ _ _ small) held.within.ca)
      where
        small : size (both cy cz) t ≤ bound (both cy cz) base.triangles
        small = bounded (both cy cz) base.triangles held.index t held.at

        less_a : (a b c n r : ℕ) → a + b + c ≤ r → a < 1 + n + r
        less_a a b c n r h = omega (arith, h)

        less_b : (a b c n r : ℕ) → a + b + c ≤ r → b < 1 + n + r
        less_b a b c n r h = omega (arith, h)

        less_c : (a b c n r : ℕ) → a + b + c ≤ r → c < 1 + n + r
        less_c a b c n r h = omega (arith, h)

    -- the base's triangle there is not far
    not-high : HighTurn t → ⊥
    not-high h = by (at-corner t h.a h.b (Far h.k) (At c) h.turn (turn-has_corner t t.a t.b t.c (At c) Still corner))
      where
        never : side (corner_at h.a) (corner_at h.b) c ≡ pos 0 → ⊥
        never on = off-hull (corner_at h.a) (corner_at h.b) (corner_at (Far h.k)) on
            (λ v at. not-left-is (corner_at h.a) (corner_at h.b) v (hull_law base sheet local h.a h.b h.k (turn-in base.triangles held.index t h.a h.b (Far h.k) held.at h.turn) h.low_a h.low_b v at))
            (turn-side t h.a h.b (Far h.k) h.turn (left-of base sheet held.index t held.at)) y0 z0 some0

        by : (h.a ≡ At c) ⊎ ((h.b ≡ At c) ⊎ (Far h.k ≡ At c)) → ⊥
        by (inl f) = never (flat_ca (corner_at h.a) (corner_at h.b) c (sym (ap corner_at f)))
        by (inr (inl f)) = never (flat_bc (corner_at h.a) (corner_at h.b) c (ap corner_at f))
        by (inr (inr f)) = cc

    -- so it is destroyed with c
    destroyed : (f : Facet) → facet_by base t.a t.b t.c ≡ Some f → is_in (gone base planned) t.a t.b t.c ≡ true
    destroyed f is = by corner
      where
        begins : (p q r : Corner) → IsTurn t p q r → At c ≡ p → is_in (gone base planned) t.a t.b t.c ≡ true
        begins p q r turn_t g =
            gone-in base planned held.index t t.a t.b t.c f held.at Still is
            (lost base planned c sheet local sheet' local' x inner held.index t q r f held.at (subst (λ w. IsTurn t w q r) (sym g) turn_t) is)

        by : (At c ≡ t.a) ⊎ ((At c ≡ t.b) ⊎ (At c ≡ t.c)) → is_in (gone base planned) t.a t.b t.c ≡ true
        by (inl g) = begins t.a t.b t.c Still g
        by (inr (inl g)) = begins t.b t.c t.a Once g
        by (inr (inr g)) = begins t.c t.a t.b Twice g

    is-gone : is_in (gone base planned) t.a t.b t.c ≡ true → HasOwner newest t.a t.b t.c → is_in (gone base planned) (At c) y z ≡ true
    is-gone lost_t q =
        let turn_q = subst (λ w. IsTurn q.owner.triangle t.a t.b w) q.third q.owner.turn in
        let index : o.owner.index ≡ q.owner.index = packed newest n shared.point shared.some o.owner.index q.owner.index o.owner.triangle q.owner.triangle o.owner.at q.owner.at
        (turn-inside o.owner.triangle (At c) y z shared.point turn shared.first) (turn-inside q.owner.triangle t.a t.b t.c shared.point turn_q shared.second) in
        let one : Some o.owner.triangle ≡ Some q.owner.triangle = sym o.owner.at ∙ ap (slice_get newest.triangles) index ∙ q.owner.at in
        let same : o.owner.triangle ≡ q.owner.triangle = cc in
        in-turned (gone base planned) q.owner.triangle t.a t.b t.c (At c) y z turn_q (subst (λ w. IsTurn w (At c) y z) same turn) lost_t

    at-point : is_in (gone base planned) (At c) y z ≡ true
    at-point = by (places-or-high t (left-of base sheet held.index t held.at))
      where
        by : Places t.a t.b t.c ⊎ HighTurn t → is_in (gone base planned) (At c) y z ≡ true
        by (inr h) = absurd (not-high h)
        by (inl ps) =
            let f = some-facet base t t.a t.b t.c ps.p ps.q ps.r Still ps.first ps.second ps.third in
            let lost_t = destroyed f.0 f.1 in
            is-gone lost_t (has-owner newest t.a t.b t.c (u.destroyed t.a t.b t.c lost_t))

taken-at : (base planned newest : Net) (c : Coords) → IsSheet base → IsLocallyDelaunay base → IsSheet planned → IsLocallyDelaunay planned → IsSheet newest → HasPointMore base planned c → IsInner base planned
    → HasGone base planned ⊎ HasGone planned base → IsUnchanged base planned newest → (y z : Corner) → has newest (At c) y z ≡ true → is_in (gone base planned) (At c) y z ≡ true
taken-at base planned newest c sheet local sheet' local' n x inner changed u y z e = by changed
  where
    from : HasGone base planned → is_in (gone base planned) (At c) y z ≡ true
    from h = let a = at-c base planned c sheet local sheet' local' x inner h in at-point base planned c sheet local sheet' local' x inner newest n u a.y a.first.next a.first.there y z e

    by : HasGone base planned ⊎ HasGone planned base → is_in (gone base planned) (At c) y z ≡ true
    by (inl h) = from h
    by (inr h) = from (new-one base planned c sheet local sheet' local' x inner h)

made-at : (more fewer : Net) (c : Coords) → IsSheet more → IsLocallyDelaunay more → IsSheet fewer → IsLocallyDelaunay fewer → HasPointMore more fewer c → IsInner more fewer → HasGone more fewer ⊎ HasGone fewer more → IsCornerOfGone more fewer c
made-at more fewer c sheet local sheet' local' x inner changed = by changed
  where
    at : (y z : Coords) → HasOwner more (At c) (At y) (At z) → IsCornerOfGone more fewer c
    at y z o =
        let turn = subst (λ w. IsTurn o.owner.triangle (At c) (At y) w) o.third o.owner.turn in
        let f = some-facet more o.owner.triangle (At c) (At y) (At z) c y z turn refl refl refl in
        record { y = At y; z = At z; there = gone-in more fewer o.owner.index o.owner.triangle (At c) (At y) (At z) f.0 o.owner.at turn f.1 (lost more fewer c sheet local sheet' local' x inner o.owner.index o.owner.triangle (At y) (At z) f.0 o.owner.at turn f.1) }

    from : HasGone more fewer → IsCornerOfGone more fewer c
    from h = let a = at-c more fewer c sheet local sheet' local' x inner h in at a.y a.first.next (has-owner more (At c) (At a.y) (At a.first.next) a.first.there)

    by : HasGone more fewer ⊎ HasGone fewer more → IsCornerOfGone more fewer c
    by (inl h) = from h
    by (inr h) = from (new-one more fewer c sheet local sheet' local' x inner h)

pub star_law : StarLaw
star_law = record { made = made-at; taken = taken-at }
