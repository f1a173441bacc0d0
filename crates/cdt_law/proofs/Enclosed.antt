-- A point more that is within the hull changes no edge of the hull.
use Rattle.std.proofs.Common.{◌≡◌, ℕ, inl, inr, ◌⊎◌, refl, sym, ap, subst, ◌∙◌, arith, [], ◌∷◌, Bool, true, false, Some}
use Rattle.std.specs.Prelude.{ℤ, pos, ◌<ℤ◌, ◌≤ℤ◌, not, slice_get}
use Rattle.std.specs.List.{list_any}
use Rattle.std.proofs.lemmas.Int.{ints, by_lt_z}
use Rattle.std.proofs.lemmas.Bool.{and_parts, and_from, both_ways as clash, not_from_false, not_from_true, false_from_ne_true}
use Rattle.std.proofs.lemmas.List.Elements.{All-nil, All-cons}
use Rattle.ground_model.specs.declared.corner.Corner.{Corner}
use Rattle.ground_model.specs.declared.corner.Corner.TheVariants.{At}
use Rattle.ground_model.specs.declared.facet.Facet.{Facet}
use Rattle.ground_model.specs.Place.{Coords, IsPlace, is_same}
use Rattle.ground_model.specs.Side.{side, is_left}
use Rattle.ground_model.specs.Line.{is_point}
use Rattle.ground_model.specs.Mark.{is_among}
use Rattle.ground_model.specs.Corner.{corner_at}
use Rattle.ground_model.proofs.Elements.{In, any_gives, any_from}
use Rattle.ground_model.proofs.LinePieces.{is_same_itself, in_points, is_point_in}
use Rattle.ground_model.proofs.Ties.{same_of_is_same}
use Rattle.predicates.specs.Net.{Net, Triangle, has, facet_by, facets_of}
use Rattle.predicates.specs.Sheet.{IsSheet, IsLocallyDelaunay}
use Rattle.predicates.specs.Weighted.{weighted_side, gathered}
use Rattle.predicates.specs.Tiling.{IsInside, HasWithin}
use Rattle.predicates.proofs.Tiling.{left-of}
use Rattle.predicates.proofs.Cover.{covered, gathered-some}
use Rattle.predicates.proofs.Nudged.{Inside, Shared, nudged, center, center-pq, center-qr, center-rp}
use Rattle.predicates.proofs.FarTriangle.{listed-place}
use Rattle.predicates.proofs.Owners.{IsTurn, turn-side, turn-next}
use Rattle.predicates.proofs.HasTriangles.{HasOwner, has-owner}
use Rattle.predicates.proofs.NoFourInPlane.{is_left-from}
use Rattle.predicates.proofs.FlatSides.{flat_ab}
use Rattle.predicates.proofs.Signs.{never-level, positive-along}
use Rattle.cdt_law.specs.Hull.{Encloses}
use Rattle.cdt_law.specs.Boundary.{IsInner}
use Rattle.cdt_law.specs.Enclose.{HasPointMore, HasGone, EncloseLaw}
use Rattle.cdt_law.proofs.GoodInSheet.{over-first}
use Rattle.cdt_law.proofs.Hull.{hull_law, not_left}
use Rattle.cdt_law.proofs.Overlaps.{not-left-is, ThreeOf, three-of, overlap-gone}
use Rattle.cdt_law.proofs.RingAround.{no-half-plane}
use Rattle.cdt_law.proofs.GoneFacets.{turn-in, some-facet, Places, places-of, facet-there, Gone, gone-of, gone-in}

module _ (more fewer : Net) (c : Coords) (sheet : IsSheet more) (local : IsLocallyDelaunay more) (sheet' : IsSheet fewer) (local' : IsLocallyDelaunay fewer) (x : HasPointMore more fewer c) (inner : IsInner more fewer) where
  still : (p : Coords) → is_point fewer.points p ≡ true → is_point more.points p ≡ true
  still p e = (and_parts (is_point more.points p) (not (is_same c p)) (sym (x.points p) ∙ e)).0

  others : (p : Coords) → is_point more.points p ≡ true → (c ≡ p → ⊥) → is_point fewer.points p ≡ true
  others p e differs = x.points p ∙ and_from (is_point more.points p) (not (is_same c p)) e (not_from_false (is_same c p) (false_from_ne_true (is_same c p) (λ f. differs (same_of_is_same c p f))))

  pub none : is_point fewer.points c ≡ true → ⊥
  none e = clash (not (is_same c c)) (not_from_true (is_same c c) (is_same_itself c)) (and_parts (is_point more.points c) (not (is_same c c)) (sym (x.points c) ∙ e)).1

  encloses-fewer : Encloses more fewer
  encloses-fewer a b k e la lb p at_p = hull_law more sheet local a b k e la lb p (still p at_p)

  -- ---- facets at c
  pub record Around (y : Coords) : Type 0 where
    pub next : Coords
    pub at : is_point more.points y ≡ true
    pub at_next : is_point more.points next ≡ true
    pub there : has more (At c) (At y) (At next) ≡ true
    pub left : pos 0 <ℤ side c y next

  pub around : (y z : Coords) → has more (At c) (At y) (At z) ≡ true → Around y
  around y z e =
      let o = has-owner more (At c) (At y) (At z) e in
      let turn = subst (λ w. IsTurn o.owner.triangle (At c) (At y) w) o.third o.owner.turn in
      let second = turn-next o.owner.triangle (At c) (At y) (At z) turn in
      record {
        next = z;
        at = over-first more sheet o.owner.index o.owner.triangle (At y) (At z) (At c) o.owner.at second;
        at_next = over-first more sheet o.owner.index o.owner.triangle (At z) (At c) (At y) o.owner.at (turn-next o.owner.triangle (At y) (At z) (At c) second);
        there = e;
        left = turn-side o.owner.triangle (At c) (At y) (At z) turn (left-of more sheet o.owner.index o.owner.triangle o.owner.at);
      }

  -- the other net has none of them
  pub lost : (k : ℕ) (t : Triangle) (y z : Corner) (f : Facet) → slice_get more.triangles k ≡ Some t → IsTurn t (At c) y z → facet_by more t.a t.b t.c ≡ Some f → is_among (facets_of fewer) f ≡ false
  lost k t y z f at turn is = by (is_among (facets_of fewer) f) refl
    where
      never : HasOwner fewer (At c) y z → ⊥
      never o = none (over-first fewer sheet' o.owner.index o.owner.triangle (At c) y o.owner.third o.owner.at o.owner.turn)

      by : (s : Bool) → is_among (facets_of fewer) f ≡ s → s ≡ false
      by false e = refl
      by true e = absurd (never (has-owner fewer (At c) y z (facet-there more fewer sheet sheet' k t (At c) y z f at turn is e).there))

  -- beyond the edge from c to its last corner lies another
  pub turned : (y : Coords) (h : Around y) → Around h.next
  turned y h =
      let o = has-owner more (At c) (At y) (At h.next) h.there in
      let turn = subst (λ w. IsTurn o.owner.triangle (At c) (At y) w) o.third o.owner.turn in
      let third = turn-next o.owner.triangle (At y) (At h.next) (At c) (turn-next o.owner.triangle (At c) (At y) (At h.next) turn) in
      let f = some-facet more o.owner.triangle (At c) (At y) (At h.next) c y h.next turn refl refl refl in
      let m = inner (At h.next) (At c) (At y) (gone-in more fewer o.owner.index o.owner.triangle (At h.next) (At c) (At y) f.0 o.owner.at third f.1 (lost o.owner.index o.owner.triangle (At y) (At h.next) f.0 o.owner.at turn f.1)) in
      around h.next m.third m.there

  -- ---- c is farthest to the left of no edge
  never-farthest : (a b : Coords) → ((p : Coords) → is_point fewer.points p ≡ true → side a b p ≤ℤ pos 0) → pos 0 <ℤ side a b c → (y : Coords) → Around y → ⊥
  never-farthest a b low left y h = no-half-plane a b c more.points test lower next (any_from test more.points y (in_points more.points y h.at) (passes y h))
    where
      test : Coords → Bool
      test v = list_any (λ w. has more (At c) (At v) (At w)) more.points

      passes : (v : Coords) → Around v → test v ≡ true
      passes v g = any_from (λ w. has more (At c) (At v) (At w)) more.points g.next (in_points more.points g.next g.at_next) g.there

      around-of : (v : Coords) → test v ≡ true → Around v
      around-of v e = let found = any_gives (λ w. has more (At c) (At v) (At w)) more.points e in around v found.0 found.2

      lower : (v : Coords) → In v more.points → test v ≡ true → side a b v <ℤ side a b c
      lower v i e = under (side a b v) (side a b c) (low v (others v (is_point_in more.points v i) (λ f. never-level (side c v g.next) g.left (flat_ab c v g.next f)))) left
        where
          g : Around v
          g = around-of v e

          under : (s t : ℤ) → s ≤ℤ pos 0 → pos 0 <ℤ t → s <ℤ t
          under s t h k = omega (arith, ints, h, k)

      next : (v : Coords) → In v more.points → test v ≡ true → (w : Coords) × (In w more.points × ((test w ≡ true) × (is_left c v w ≡ true)))
      next v i e = let g = around-of v e in (g.next, (in_points more.points g.next g.at_next, (passes g.next (turned v g), is_left-from c v g.next g.left)))

  -- ---- some facet is at c
  pub record AtC : Type 0 where
    pub y : Coords
    pub first : Around y

  pub at-c : HasGone more fewer → AtC
  at-c h = by (x.corner h.a h.b h.c h.there)
    where
      g : Gone more fewer h.a h.b h.c
      g = gone-of more fewer h.a h.b h.c h.there

      ps : Places h.a h.b h.c
      ps = places-of more g.triangle h.a h.b h.c g.facet g.turn g.is

      begins : (u v w : Corner) (q r : Coords) → IsTurn g.triangle u v w → At c ≡ u → v ≡ At q → w ≡ At r → AtC
      begins u v w q r turn e f k = record {
        y = q;
        first = around q r (subst (λ z. has more z (At q) (At r) ≡ true) (sym e) (subst (λ z. has more u z (At r) ≡ true) f (subst (λ z. has more u v z ≡ true) k (turn-in more.triangles g.index g.triangle u v w g.at turn))));
      }

      second : IsTurn g.triangle h.b h.c h.a
      second = turn-next g.triangle h.a h.b h.c g.turn

      by : (At c ≡ h.a) ⊎ ((At c ≡ h.b) ⊎ (At c ≡ h.c)) → AtC
      by (inl e) = begins h.a h.b h.c ps.q ps.r g.turn e ps.second ps.third
      by (inr (inl e)) = begins h.b h.c h.a ps.r ps.p second e ps.third ps.first
      by (inr (inr e)) = begins h.c h.a h.b ps.p ps.q (turn-next g.triangle h.b h.c h.a second) e ps.first ps.second

  -- where one of the other net is gone, one of this net is new
  module _ (h : HasGone fewer more) where
    g : Gone fewer more h.a h.b h.c
    g = gone-of fewer more h.a h.b h.c h.there

    ps : ThreeOf fewer g.triangle
    ps = three-of fewer sheet' g.index g.triangle g.facet g.at g.is

    place : (p : Coords) → is_point fewer.points p ≡ true → IsPlace p
    place p at = listed-place fewer.points sheet'.places p at

    held : HasWithin more (gathered ps.p (ps.q ∷ ps.r ∷ []))
    held = covered more sheet ps.p (ps.q ∷ ps.r ∷ []) (All-cons IsPlace ps.p (ps.q ∷ ps.r ∷ []) (place ps.p ps.at_p) (All-cons IsPlace ps.q (ps.r ∷ []) (place ps.q ps.at_q) (All-cons IsPlace ps.r [] (place ps.r ps.at_r) (All-nil IsPlace))))

    middle : Inside ps.p ps.q ps.r (center ps.p ps.q ps.r)
    middle = record {
      ab = positive-along (weighted_side ps.p ps.q (center ps.p ps.q ps.r)) (side ps.p ps.q ps.r) (center-pq ps.p ps.q ps.r) ps.area;
      bc = positive-along (weighted_side ps.q ps.r (center ps.p ps.q ps.r)) (side ps.p ps.q ps.r) (center-qr ps.p ps.q ps.r) ps.area;
      ca = positive-along (weighted_side ps.r ps.p (center ps.p ps.q ps.r)) (side ps.p ps.q ps.r) (center-rp ps.p ps.q ps.r) ps.area;
    }

    abbrev s : Triangle
    s = held.triangle

    shared : Shared ps.p ps.q ps.r (corner_at s.a) (corner_at s.b) (corner_at s.c)
    shared = nudged ps.p ps.q ps.r (corner_at s.a) (corner_at s.b) (corner_at s.c) (center ps.p ps.q ps.r) (gathered-some ps.p (ps.q ∷ ps.r ∷ [])) middle
        (record { ab = held.within.ab; bc = held.within.bc; ca = held.within.ca }) (left-of more sheet held.index s held.at)

    pub new-one : HasGone more fewer
    new-one = record {
      a = s.a;
      b = s.b;
      c = s.c;
      there = overlap-gone more fewer sheet sheet' encloses-fewer h.a h.b h.c g held.index s held.at shared.point shared.some
          (record { ab = shared.second.ab; bc = shared.second.bc; ca = shared.second.ca })
          (subst (λ (u : Triangle). IsInside u shared.point) (sym ps.is) (record { ab = shared.first.ab; bc = shared.first.bc; ca = shared.first.ca }));
    }

  -- ---- both enclose the points of both
  encloses-more : AtC → Encloses fewer more
  encloses-more at a b k e la lb p at_p = by (is_same c p) refl
    where
      own : (q : Coords) → is_point fewer.points q ≡ true → is_left (corner_at a) (corner_at b) q ≡ false
      own q at_q = hull_law fewer sheet' local' a b k e la lb q at_q

      it : is_left (corner_at a) (corner_at b) c ≡ false
      it = by_lt_z (pos 0) (side (corner_at a) (corner_at b) c)
          (λ gt. absurd (never-farthest (corner_at a) (corner_at b) (λ q at_q. not-left-is (corner_at a) (corner_at b) q (own q at_q)) gt at.y at.first))
          (λ le. not_left (corner_at a) (corner_at b) c le)

      by : (t : Bool) → is_same c p ≡ t → is_left (corner_at a) (corner_at b) p ≡ false
      by true f = ap (is_left (corner_at a) (corner_at b)) (sym (same_of_is_same c p f)) ∙ it
      by false f = own p (x.points p ∙ and_from (is_point more.points p) (not (is_same c p)) at_p (not_from_false (is_same c p) f))

  both-enclose : HasGone more fewer ⊎ HasGone fewer more → Encloses more fewer × Encloses fewer more
  both-enclose (inl h) = (encloses-fewer, encloses-more (at-c h))
  both-enclose (inr h) = (encloses-fewer, encloses-more (at-c (new-one h)))

pub enclose_law : EncloseLaw
enclose_law more fewer c sheet local sheet' local' x inner changed = both-enclose more fewer c sheet local sheet' local' x inner changed
