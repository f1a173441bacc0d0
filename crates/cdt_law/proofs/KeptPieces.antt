-- A piece of the newest net and of the planned one is an edge after the edit.
use Rattle.std.proofs.Common.{◌≡◌, ℕ, ◌<◌, inl, inr, refl, sym, ap, subst, ◌∙◌, ◌++◌, Bool, true, false, Some}
use Rattle.std.specs.Prelude.{pos, ◌<ℤ◌}
use Rattle.std.proofs.lemmas.Bool.{both_ways as clash}
use Rattle.ground_model.specs.declared.corner.Corner.{Corner}
use Rattle.ground_model.specs.declared.corner.Corner.TheVariants.{At, Far}
use Rattle.ground_model.specs.declared.facet.Facet.{Facet}
use Rattle.ground_model.specs.Place.{Coords}
use Rattle.ground_model.specs.Side.{is_left}
use Rattle.ground_model.specs.Mark.{is_among}
use Rattle.ground_model.specs.Corner.{corner_side}
use Rattle.predicates.specs.Net.{Net, times_in, edges_in, has, facet_by, facets_of}
use Rattle.predicates.specs.Sheet.{IsSheet, is_over}
use Rattle.predicates.proofs.Tiling.{left-of}
use Rattle.predicates.proofs.Owners.{IsTurn, Owner, owner, turn-side, turn-next}
use Rattle.predicates.proofs.HasTriangles.{owner-has}
use Rattle.predicates.proofs.OneOwner.{one_on_edge}
use Rattle.predicates.proofs.NoFourInPlane.{is_left-from}
use Rattle.cdt_law.specs.Patch.{is_in}
use Rattle.cdt_law.specs.Hull.{Encloses}
use Rattle.cdt_law.specs.Boundary.{gone}
use Rattle.cdt_law.specs.Stale.{without}
use Rattle.cdt_law.specs.Pieces.{PieceLaw}
use Rattle.cdt_law.proofs.GoodInSheet.{over-first}
use Rattle.cdt_law.proofs.GoneFacets.{among-some, turn-in, some-facet, Places, places-of, facet-among, facet-there, Gone, gone-of, gone-in}
use Rattle.cdt_law.proofs.Renewed.{in-renewed, without-in}

module _ (base planned newest after : Net) (b : IsSheet base) (s : IsSheet planned) (n : IsSheet newest) (out : Encloses planned base)
    (triangles : after.triangles ≡ gone planned base ++ without newest (gone base planned)) (p q : Coords) where
  -- where the newest triangle is destroyed, one is made in its place
  module _ (z : Corner) (lost : is_in (gone base planned) (At p) (At q) z ≡ true) (o : Owner planned.triangles (At p) (At q)) where
    g : Gone base planned (At p) (At q) z
    g = gone-of base planned (At p) (At q) z lost

    ps : Places (At p) (At q) z
    ps = places-of base g.triangle (At p) (At q) z g.facet g.turn g.is

    not-far : (k : ℕ) → o.third ≡ Far k → ⊥
    not-far k e = clash (is_left p q ps.r)
        (out (At p) (At q) k (subst (λ w. has planned (At p) (At q) w ≡ true) e (owner-has planned (At p) (At q) o)) refl refl ps.r
        (ap (is_over base.points) (sym ps.third) ∙ over-first base b g.index g.triangle z (At p) (At q) g.at (turn-next g.triangle (At q) z (At p) (turn-next g.triangle (At p) (At q) z g.turn))))
        (is_left-from p q ps.r (subst (λ w. pos 0 <ℤ corner_side (At p) (At q) w) ps.third (turn-side g.triangle (At p) (At q) z g.turn (left-of base b g.index g.triangle g.at))))

    is-new : (w : Coords) → o.third ≡ At w → is_in (gone planned base) (At p) (At q) o.third ≡ true
    is-new w e = test (is_among (facets_of base) f.0) refl
      where
        f : (f : Facet) × (facet_by planned o.triangle.a o.triangle.b o.triangle.c ≡ Some f)
        f = some-facet planned o.triangle (At p) (At q) o.third p q w o.turn refl refl e

        test : (t : Bool) → is_among (facets_of base) f.0 ≡ t → is_in (gone planned base) (At p) (At q) o.third ≡ true
        test false h = gone-in planned base o.index o.triangle (At p) (At q) o.third f.0 o.at o.turn f.1 h
        test true h =
            let there = facet-there planned base s b o.index o.triangle (At p) (At q) o.third f.0 o.at o.turn f.1 h in
            let one : o.third ≡ z = one_on_edge base b (At p) (At q) o.third z there.there (turn-in base.triangles g.index g.triangle (At p) (At q) z g.at g.turn) in
            let equal : Some g.facet ≡ Some f.0 = sym g.is ∙ there.each g.index g.triangle g.at (subst (λ v. IsTurn g.triangle (At p) (At q) v) (sym one) g.turn) in
            let facets : g.facet ≡ f.0 = cc in
            absurd (clash (is_among (facets_of planned) g.facet) g.none (ap (is_among (facets_of planned)) facets ∙ facet-among planned o.index o.triangle f.0 o.at f.1))

    made : is_in (gone planned base) (At p) (At q) o.third ≡ true
    made = by o.third refl
      where
        by : (w : Corner) → o.third ≡ w → is_in (gone planned base) (At p) (At q) o.third ≡ true
        by (Far k) e = absurd (not-far k e)
        by (At w) e = is-new w e

  piece-edge : 0 < newest.count p q → 0 < planned.count p q → 0 < times_in (edges_in after) (At p, At q)
  piece-edge some some' = by (is_in (gone base planned) (At p) (At q) o.third) refl
    where
      o : Owner newest.triangles (At p) (At q)
      o = owner newest (At p) (At q) (n.pieces p q some)

      by : (t : Bool) → is_in (gone base planned) (At p) (At q) o.third ≡ t → 0 < times_in (edges_in after) (At p, At q)
      by false e = in-renewed base planned newest after triangles (At p) (At q) (inr (among-some (without newest (gone base planned)) (At p) (At q) o.third (without-in newest (gone base planned) o.index o.triangle (At p) (At q) o.third o.at o.turn e)))
      by true e =
          let planned_one = owner planned (At p) (At q) (s.pieces p q some') in
          in-renewed base planned newest after triangles (At p) (At q) (inl (among-some (gone planned base) (At p) (At q) planned_one.third (made o.third e planned_one)))

pub piece_law : PieceLaw
piece_law base planned newest after b s n out triangles p q some some' = piece-edge base planned newest after b s n out triangles p q some some'
