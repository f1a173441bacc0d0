-- A triangle of one sheet over a triangle that the other sheet has alone is one that it has alone itself.
use Rattle.std.proofs.Common.{◌≡◌, inl, inr, ◌⊎◌, refl, sym, ap, subst, ◌∙◌, arith, Bool, true, false, Some}
use Rattle.std.specs.Prelude.{ℤ, ℕ, pos, ◌+ℤ◌, ◌*ℤ◌, ◌<ℤ◌, ◌≤ℤ◌, slice_get}
use Rattle.std.proofs.lemmas.Int.{ints, by_lt_z}
use Rattle.std.proofs.lemmas.Bool.{both_ways as clash}
use Rattle.ground_model.specs.declared.corner.Corner.{Corner}
use Rattle.ground_model.specs.declared.corner.Corner.TheVariants.{At, Far}
use Rattle.ground_model.specs.declared.facet.Facet.{Facet}
use Rattle.ground_model.specs.Place.{Coords}
use Rattle.ground_model.specs.Side.{side, is_left}
use Rattle.ground_model.specs.Line.{is_point}
use Rattle.ground_model.specs.Mark.{is_among}
use Rattle.ground_model.specs.Corner.{corner_at, corner_side}
use Rattle.ground_model.proofs.ZOrder.{mul-positive}
use Rattle.predicates.specs.Net.{Net, Triangle, facet_by, facets_of}
use Rattle.predicates.specs.Sheet.{IsSheet, is_over}
use Rattle.predicates.specs.Weighted.{Weighted, weighted_side}
use Rattle.predicates.specs.Tiling.{IsInside}
use Rattle.predicates.proofs.Tiling.{left-of}
use Rattle.predicates.proofs.WeightedSides.{weighted_side-mixed}
use Rattle.predicates.proofs.FarTriangle.{packed}
use Rattle.predicates.proofs.Owners.{IsTurn, Still, Once, Twice, turn-inside}
use Rattle.predicates.proofs.HasTriangles.{HasOwner, has-owner}
use Rattle.predicates.proofs.NoFourInPlane.{is_left-from}
use Rattle.predicates.proofs.Signs.{mul-mixed, weaken}
use Rattle.cdt_law.specs.Patch.{is_in}
use Rattle.cdt_law.specs.Hull.{Encloses}
use Rattle.cdt_law.specs.Boundary.{gone}
use Rattle.cdt_law.proofs.GoodInSheet.{over-first}
use Rattle.cdt_law.proofs.HighestTurn.{HighTurn, places-or-high}
use Rattle.cdt_law.proofs.GoneFacets.{turn-in, some-facet, Places, places-of, facet-among, HasFacet, facet-there, Gone, gone-in}

pub not-left-is : (a b p : Coords) → is_left a b p ≡ false → side a b p ≤ℤ pos 0
not-left-is a b p e = by_lt_z (pos 0) (side a b p) (λ lt. absurd (clash (is_left a b p) e (is_left-from a b p lt))) (λ le. le)

-- what lies strictly inside a triangle lies strictly inside each of its turns
turn-left : (t : Triangle) (a b c : Corner) (x : Weighted) → IsTurn t a b c → IsInside t x → pos 0 <ℤ weighted_side (corner_at a) (corner_at b) x
turn-left t a b c x Still h = h.ab
turn-left t a b c x Once h = h.bc
turn-left t a b c x Twice h = h.ca

-- the three points of a triangle with a facet, in its own turn
pub record ThreeOf (net : Net) (t : Triangle) : Type 0 where
  pub p : Coords
  pub q : Coords
  pub r : Coords
  pub is : t ≡ record { a = At p; b = At q; c = At r }
  pub at_p : is_point net.points p ≡ true
  pub at_q : is_point net.points q ≡ true
  pub at_r : is_point net.points r ≡ true
  pub area : pos 0 <ℤ side p q r

pub three-of : (net : Net) → IsSheet net → (k : ℕ) (t : Triangle) (f : Facet) → slice_get net.triangles k ≡ Some t → facet_by net t.a t.b t.c ≡ Some f → ThreeOf net t
three-of net sheet k t f at e = record {
  p = ps.p;
  q = ps.q;
  r = ps.r;
  is = same;
  at_p = point t.a t.b t.c ps.p Still ps.first;
  at_q = point t.b t.c t.a ps.q Once ps.second;
  at_r = point t.c t.a t.b ps.r Twice ps.third;
  area = subst (λ (s : Triangle). pos 0 <ℤ corner_side s.a s.b s.c) same (left-of net sheet k t at);
}
  where
    ps : Places t.a t.b t.c
    ps = places-of net t t.a t.b t.c f Still e

    same : t ≡ record { a = At ps.p; b = At ps.q; c = At ps.r }
    same = λ i. record { a = ps.first i; b = ps.second i; c = ps.third i }

    point : (z u v : Corner) (p : Coords) → IsTurn t z u v → z ≡ At p → is_point net.points p ≡ true
    point z u v p turn e = ap (is_over net.points) (sym e) ∙ over-first net sheet k t z u v at turn

-- s of the net has a point strictly inside that is strictly inside g of the other, whose facet the net has not
module _ (net other : Net) (sheet : IsSheet net) (sheet' : IsSheet other) (out : Encloses net other) (a b c : Corner) (g : Gone other net a b c)
    (k : ℕ) (s : Triangle) (at : slice_get net.triangles k ≡ Some s) (x : Weighted) (some : pos 0 <ℤ x.weight) (in_s : IsInside s x) (in_g : IsInside g.triangle x) where
  ps : ThreeOf other g.triangle
  ps = three-of other sheet' g.index g.triangle g.facet g.at g.is

  within : IsInside (record { a = At ps.p; b = At ps.q; c = At ps.r }) x
  within = subst (λ (u : Triangle). IsInside u x) ps.is in_g

  -- it is not far
  not-high : HighTurn s → ⊥
  not-high t =
      outside (side ps.p ps.q ps.r *ℤ weighted_side (corner_at t.a) (corner_at t.b) x)
      (weighted_side ps.q ps.r x *ℤ side (corner_at t.a) (corner_at t.b) ps.p) (weighted_side ps.r ps.p x *ℤ side (corner_at t.a) (corner_at t.b) ps.q) (weighted_side ps.p ps.q x *ℤ side (corner_at t.a) (corner_at t.b) ps.r)
      (weighted_side-mixed (corner_at t.a) (corner_at t.b) ps.p ps.q ps.r x)
      (mul-positive (side ps.p ps.q ps.r) (weighted_side (corner_at t.a) (corner_at t.b) x) ps.area (turn-left s t.a t.b (Far t.k) x t.turn in_s))
      (mul-mixed (weighted_side ps.q ps.r x) (side (corner_at t.a) (corner_at t.b) ps.p) (weaken (weighted_side ps.q ps.r x) within.bc) (low ps.p ps.at_p))
      (mul-mixed (weighted_side ps.r ps.p x) (side (corner_at t.a) (corner_at t.b) ps.q) (weaken (weighted_side ps.r ps.p x) within.ca) (low ps.q ps.at_q))
      (mul-mixed (weighted_side ps.p ps.q x) (side (corner_at t.a) (corner_at t.b) ps.r) (weaken (weighted_side ps.p ps.q x) within.ab) (low ps.r ps.at_r))
    where
      low : (p : Coords) → is_point other.points p ≡ true → side (corner_at t.a) (corner_at t.b) p ≤ℤ pos 0
      low p at_p = not-left-is (corner_at t.a) (corner_at t.b) p (out t.a t.b t.k (turn-in net.triangles k s t.a t.b (Far t.k) at t.turn) t.low_a t.low_b p at_p)

      outside : (l x y z : ℤ) → l ≡ x +ℤ y +ℤ z → pos 0 <ℤ l → x ≤ℤ pos 0 → y ≤ℤ pos 0 → z ≤ℤ pos 0 → ⊥
      outside l x y z e h i j k = omega (arith, ints, e, h, i, j, k)

  -- nor is its facet one of both
  not-both : (f : Facet) → facet_by net s.a s.b s.c ≡ Some f → is_among (facets_of other) f ≡ false
  not-both f is = by (is_among (facets_of other) f) refl
    where
      never : HasFacet other f s.a s.b s.c → HasOwner other s.a s.b s.c → ⊥
      never h o =
          let turn = subst (λ w. IsTurn o.owner.triangle s.a s.b w) o.third o.owner.turn in
          let index : g.index ≡ o.owner.index = packed other sheet' x some g.index o.owner.index g.triangle o.owner.triangle g.at o.owner.at in_g (turn-inside o.owner.triangle s.a s.b s.c x turn (record { ab = in_s.ab; bc = in_s.bc; ca = in_s.ca })) in
          let one : Some g.triangle ≡ Some o.owner.triangle = sym g.at ∙ ap (slice_get other.triangles) index ∙ o.owner.at in
          let triangle : g.triangle ≡ o.owner.triangle = cc in
          let facets : Some g.facet ≡ Some f = sym g.is ∙ ap (λ u. facet_by other u.a u.b u.c) triangle ∙ h.each o.owner.index o.owner.triangle o.owner.at turn in
          let equal : g.facet ≡ f = cc in
          clash (is_among (facets_of net) g.facet) g.none (ap (is_among (facets_of net)) equal ∙ facet-among net k s f at is)

      by : (t : Bool) → is_among (facets_of other) f ≡ t → t ≡ false
      by false e = refl
      by true e = let h = facet-there net other sheet sheet' k s s.a s.b s.c f at Still is e in absurd (never h (has-owner other s.a s.b s.c h.there))

  pub overlap-gone : is_in (gone net other) s.a s.b s.c ≡ true
  overlap-gone = by (places-or-high s (left-of net sheet k s at))
    where
      by : Places s.a s.b s.c ⊎ HighTurn s → is_in (gone net other) s.a s.b s.c ≡ true
      by (inr t) = absurd (not-high t)
      by (inl t) = let f = some-facet net s s.a s.b s.c t.p t.q t.r Still t.first t.second t.third in gone-in net other k s s.a s.b s.c f.0 at Still f.1 (not-both f.0 f.1)
