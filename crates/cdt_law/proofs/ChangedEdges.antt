-- A piece that one of two sheets counts otherwise than the other is an edge of facets that it has alone, on both sides.
use Rattle.std.proofs.Common.{◌≡◌, ℕ, ◌<◌, refl, sym, ap, subst, ◌∙◌, arith, Bool, true, false, Some}
use Rattle.std.specs.Prelude.{ℤ, pos, neg_ℤ, ◌+ℤ◌, ◌*ℤ◌, ◌<ℤ◌, ◌≤ℤ◌}
use Rattle.std.proofs.lemmas.Int.{ints}
use Rattle.ground_model.specs.declared.corner.Corner.{Corner}
use Rattle.ground_model.specs.declared.corner.Corner.TheVariants.{At, Far}
use Rattle.ground_model.specs.declared.facet.Facet.{Facet}
use Rattle.ground_model.specs.Place.{Coords}
use Rattle.ground_model.specs.Side.{side}
use Rattle.ground_model.specs.Line.{is_point}
use Rattle.ground_model.specs.Mark.{is_among}
use Rattle.ground_model.specs.Corner.{corner_at, corner_side}
use Rattle.ground_model.proofs.ZOrder.{mul-positive}
use Rattle.predicates.specs.Net.{Net, has, facet_by, facets_of}
use Rattle.predicates.specs.Sheet.{IsSheet}
use Rattle.predicates.specs.Weighted.{once, weighted_side}
use Rattle.predicates.proofs.Tiling.{left-of}
use Rattle.predicates.proofs.WeightedSides.{weighted_side-once, weighted_side-mixed}
use Rattle.predicates.proofs.NearCorners.{times-zero}
use Rattle.predicates.proofs.Owners.{Owner, owner, turn-side}
use Rattle.predicates.proofs.HasTriangles.{owner-has}
use Rattle.predicates.proofs.OneOwner.{one_on_edge}
use Rattle.predicates.proofs.FlatSides.{side-back}
use Rattle.cdt_law.specs.Patch.{is_in}
use Rattle.cdt_law.specs.Hull.{Encloses}
use Rattle.cdt_law.specs.Boundary.{gone, IsInner}
use Rattle.cdt_law.proofs.Numbers.{along}
use Rattle.cdt_law.proofs.Overlaps.{not-left-is}
use Rattle.cdt_law.proofs.GoneFacets.{some-facet, facet-among, gone-in, GoneOn}
use Rattle.cdt_law.proofs.FacetEdges.{edge-in, facet-counts}

-- three points of the net that are not collinear
pub record HasArea (net : Net) : Type 0 where
  pub x : Coords
  pub y : Coords
  pub z : Coords
  pub at_x : is_point net.points x ≡ true
  pub at_y : is_point net.points y ≡ true
  pub at_z : is_point net.points z ≡ true
  pub left : pos 0 <ℤ side x y z

module _ (net other whole : Net) (sheet : IsSheet net) (sheet' : IsSheet other) (inner : IsInner net other) (out : Encloses net whole) (area : HasArea whole) where
  -- a facet at an edge that the other net counts otherwise
  near : (p q w : Coords) (o : Owner net.triangles (At p) (At q)) → o.third ≡ At w → (net.count p q ≡ other.count p q → ⊥) → is_in (gone net other) (At p) (At q) o.third ≡ true
  near p q w o e differ = test (is_among (facets_of other) f.0) refl
    where
      f : (f : Facet) × (facet_by net o.triangle.a o.triangle.b o.triangle.c ≡ Some f)
      f = some-facet net o.triangle (At p) (At q) o.third p q w o.turn refl refl e

      test : (t : Bool) → is_among (facets_of other) f.0 ≡ t → is_in (gone net other) (At p) (At q) o.third ≡ true
      test false h = gone-in net other o.index o.triangle (At p) (At q) o.third f.0 o.at o.turn f.1 h
      test true h = absurd (differ (facet-counts net other sheet sheet' f.0 (facet-among net o.index o.triangle f.0 o.at f.1) h p q (edge-in net sheet o.index o.triangle f.0 o.at f.1 p q o.third o.turn)))

  module _ (p q : Coords) (j k : ℕ) (ahead : has net (At p) (At q) (Far j) ≡ true) (behind : has net (At q) (At p) (Far k) ≡ true) (left : pos 0 <ℤ corner_side (At p) (At q) (Far j)) where
    -- all points are on the line of an edge with a far corner on both sides
    flat : (v : Coords) → is_point whole.points v ≡ true → side p q v ≡ pos 0
    flat v at_v = level (side p q v) (side q p v) (not-left-is p q v (out (At p) (At q) j ahead refl refl v at_v)) (not-left-is q p v (out (At q) (At p) k behind refl refl v at_v)) (side-back p q v)
      where
        level : (x y : ℤ) → x ≤ℤ pos 0 → y ≤ℤ pos 0 → y ≡ neg_ℤ x → x ≡ pos 0
        level x y h g e = omega (arith, ints, h, g, e)

    never-flat : ⊥
    never-flat =
        clash (side area.x area.y area.z *ℤ side p q far) (weighted_side area.y area.z (once far) *ℤ side p q area.x) (weighted_side area.z area.x (once far) *ℤ side p q area.y) (weighted_side area.x area.y (once far) *ℤ side p q area.z)
        (ap (λ s. side area.x area.y area.z *ℤ s) (sym (weighted_side-once p q far)) ∙ weighted_side-mixed p q area.x area.y area.z (once far))
        (mul-positive (side area.x area.y area.z) (side p q far) area.left left)
        (times-zero (weighted_side area.y area.z (once far)) (side p q area.x) (flat area.x area.at_x))
        (times-zero (weighted_side area.z area.x (once far)) (side p q area.y) (flat area.y area.at_y))
        (times-zero (weighted_side area.x area.y (once far)) (side p q area.z) (flat area.z area.at_z))
      where
        far : Coords
        far = corner_at (Far j)

        clash : (a b c d : ℤ) → a ≡ b +ℤ c +ℤ d → pos 0 <ℤ a → b ≡ pos 0 → c ≡ pos 0 → d ≡ pos 0 → ⊥
        clash a b c d e h f g k = omega (arith, ints, e, h, f, g, k)

  -- ---- the piece
  module _ (p q : Coords) (piece : 0 < net.count p q) (differ : net.count p q ≡ other.count p q → ⊥) where
    there : Owner net.triangles (At p) (At q)
    there = owner net (At p) (At q) (sheet.pieces p q piece)

    back : Owner net.triangles (At q) (At p)
    back = owner net (At q) (At p) (sheet.pieces q p (along (net.count p q) (net.count q p) (sheet.even p q) piece))

    behind : net.count q p ≡ other.count q p → ⊥
    behind e = differ (sheet.even p q ∙ e ∙ sheet'.even q p)

    not-far : (j : ℕ) → there.third ≡ Far j → ⊥
    not-far j e = by back.third refl
      where
        ahead : has net (At p) (At q) (Far j) ≡ true
        ahead = subst (λ w. has net (At p) (At q) w ≡ true) e (owner-has net (At p) (At q) there)

        never : (w : Coords) → Far j ≡ At w → ⊥
        never w e = cc

        by : (w : Corner) → back.third ≡ w → ⊥
        by (At w) f = let m = inner (At q) (At p) back.third (near q p w back f behind) in never m.third (one_on_edge net sheet (At p) (At q) (Far j) (At m.third) ahead m.there)
        by (Far k) f =
            never-flat p q j k ahead (subst (λ w. has net (At q) (At p) w ≡ true) f (owner-has net (At q) (At p) back))
            (subst (λ w. pos 0 <ℤ corner_side (At p) (At q) w) e (turn-side there.triangle (At p) (At q) there.third there.turn (left-of net sheet there.index there.triangle there.at)))

    pub changed : GoneOn net other (At p) (At q)
    changed = by there.third refl
      where
        by : (w : Corner) → there.third ≡ w → GoneOn net other (At p) (At q)
        by (At w) e = record { third = there.third; there = near p q w there e differ }
        by (Far j) e = absurd (not-far j e)
