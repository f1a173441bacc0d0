-- The base and a newer net count alike over the edges of what an edit makes.
use Rattle.std.proofs.Common.{◌≡◌, ℕ, zero, suc, ◌+◌, ◌<◌, ◌≤◌, refl, sym, ap, subst, ◌∙◌, arith, ◌++◌, Bool, true, false, Some}
use Rattle.std.specs.Prelude.{pos, ◌<ℤ◌}
use Rattle.std.specs.List.{All}
use Rattle.std.proofs.lemmas.Bool.{both_ways as clash}
use Rattle.ground_model.specs.declared.corner.Corner.{Corner}
use Rattle.ground_model.specs.declared.corner.Corner.TheVariants.{At, Far}
use Rattle.ground_model.specs.declared.facet.Facet.{Facet}
use Rattle.ground_model.specs.Place.{Coords, IsPlace}
use Rattle.ground_model.specs.Side.{is_left}
use Rattle.ground_model.specs.Mark.{is_among}
use Rattle.ground_model.specs.Corner.{corner_at, corner_side}
use Rattle.predicates.specs.Net.{Net, times_in, rim, has, facet_by, facets_of, count_of}
use Rattle.predicates.specs.Sheet.{IsSheet, IsClosed, rimmed, is_over}
use Rattle.predicates.proofs.OneEach.{closed-once}
use Rattle.predicates.proofs.Tiling.{left-of}
use Rattle.predicates.proofs.Owners.{IsTurn, Owner, owner, turn-side, turn-next}
use Rattle.predicates.proofs.HasTriangles.{owner-has}
use Rattle.predicates.proofs.OneOwner.{one_on_edge}
use Rattle.predicates.proofs.NoFourInPlane.{is_left-from}
use Rattle.cdt_law.specs.Patch.{is_in, times_among}
use Rattle.cdt_law.specs.Hull.{Encloses, is_lower}
use Rattle.cdt_law.specs.Boundary.{gone, IsInner}
use Rattle.cdt_law.specs.Stale.{without, IsUnchanged}
use Rattle.cdt_law.specs.Vertices.{AreCorners}
use Rattle.cdt_law.specs.EdgeCounts.{CountAlike, CountLaw}
use Rattle.cdt_law.proofs.GoodInSheet.{over-first}
use Rattle.cdt_law.proofs.Patched.{rimmed-among}
use Rattle.cdt_law.proofs.GoneFacets.{among-some, some-facet, Places, places-of, facet-among, facet-there, Gone, gone-of, gone-in, GoneOn, gone-on}
use Rattle.cdt_law.proofs.Renewed.{gone-has, renewed-closed, without-in}

module _ (base planned newest after : Net) (b : IsSheet base) (p : IsSheet planned) (n : IsSheet newest) (out : Encloses base planned) (out' : Encloses planned base)
    (inner : IsInner base planned) (inner' : IsInner planned base) (u : IsUnchanged base planned newest)
    (triangles : after.triangles ≡ gone planned base ++ without newest (gone base planned)) (placed : All IsPlace after.points) (corners : AreCorners after) (same : CountAlike base newest base planned) where
  closed : IsClosed after
  closed = renewed-closed base planned newest after b p n out out' inner inner' u triangles placed corners.over

  -- over the edge of a made triangle that is none of a destroyed one
  module _ (x y z : Corner) (made : is_in (gone planned base) x y z ≡ true) (none : times_among (gone base planned) (x, y) ≡ 0) where
    g : Gone planned base x y z
    g = gone-of planned base x y z made

    ps : Places x y z
    ps = places-of planned g.triangle x y z g.facet g.turn g.is

    never-some : (k : ℕ) → k ≡ 0 → 0 < k → ⊥
    never-some k e h = omega (arith, e, h)

    -- the base has no triangle there
    no-base : Owner base.triangles x y → ⊥
    no-base o = by o.third refl
      where
        far : (k : ℕ) → o.third ≡ Far k → ⊥
        far k e = clash (is_left (corner_at x) (corner_at y) ps.r)
            (out x y k (subst (λ w. has base x y w ≡ true) e (owner-has base x y o)) (ap (λ w. is_lower w k) ps.first) (ap (λ w. is_lower w k) ps.second) ps.r
            (ap (is_over planned.points) (sym ps.third) ∙ over-first planned p g.index g.triangle z x y g.at (turn-next g.triangle y z x (turn-next g.triangle x y z g.turn))))
            (is_left-from (corner_at x) (corner_at y) ps.r (subst (λ w. pos 0 <ℤ corner_side x y w) ps.third (turn-side g.triangle x y z g.turn (left-of planned p g.index g.triangle g.at))))

        near : (w : Coords) → o.third ≡ At w → ⊥
        near w e = test (is_among (facets_of planned) f.0) refl
          where
            f : (f : Facet) × (facet_by base o.triangle.a o.triangle.b o.triangle.c ≡ Some f)
            f = some-facet base o.triangle x y o.third ps.p ps.q w o.turn ps.first ps.second e

            test : (s : Bool) → is_among (facets_of planned) f.0 ≡ s → ⊥
            test false h = never-some (times_among (gone base planned) (x, y)) none (among-some (gone base planned) x y o.third (gone-in base planned o.index o.triangle x y o.third f.0 o.at o.turn f.1 h))
            test true h =
                let there = facet-there base planned b p o.index o.triangle x y o.third f.0 o.at o.turn f.1 h in
                let one : o.third ≡ z = one_on_edge planned p x y o.third z there.there (gone-has planned base x y z made) in
                let equal : Some g.facet ≡ Some f.0 = sym g.is ∙ there.each g.index g.triangle g.at (subst (λ v. IsTurn g.triangle x y v) (sym one) g.turn) in
                let facets : g.facet ≡ f.0 = cc in
                clash (is_among (facets_of base) g.facet) g.none (ap (is_among (facets_of base)) facets ∙ facet-among base o.index o.triangle f.0 o.at f.1)

        by : (w : Corner) → o.third ≡ w → ⊥
        by (Far k) e = far k e
        by (At w) e = near w e

    -- nor has the newest net
    no-newest : Owner newest.triangles x y → ⊥
    no-newest o = test (is_in (gone base planned) x y o.third) refl
      where
        twice : (s m q r : ℕ) → s ≡ m + q + r → s ≤ 1 → 0 < m → 0 < q → ⊥
        twice s m q r e h k l = omega (arith, e, h, k, l)

        test : (s : Bool) → is_in (gone base planned) x y o.third ≡ s → ⊥
        test true h = never-some (times_among (gone base planned) (x, y)) none (among-some (gone base planned) x y o.third h)
        test false h =
            twice (times_in (rimmed after) (x, y)) (times_among (gone planned base) (x, y)) (times_among (without newest (gone base planned)) (x, y)) (times_in rim (x, y))
            (rimmed-among after (gone planned base) (without newest (gone base planned)) triangles (x, y)) (closed-once after closed (x, y))
            (among-some (gone planned base) x y z made)
            (among-some (without newest (gone base planned)) x y o.third (without-in newest (gone base planned) o.index o.triangle x y o.third o.at o.turn h))

    no-count : (net : Net) → IsSheet net → (Owner net.triangles x y → ⊥) → count_of net x y ≡ 0
    no-count net sheet never = subst (λ v. count_of net v y ≡ 0) (sym ps.first) (subst (λ v. count_of net (At ps.p) v ≡ 0) (sym ps.second) (by (net.count ps.p ps.q) refl))
      where
        by : (k : ℕ) → net.count ps.p ps.q ≡ k → k ≡ 0
        by zero e = refl
        by (suc k) e = absurd (never (subst (λ v. Owner net.triangles v y) (sym ps.first) (subst (λ v. Owner net.triangles (At ps.p) v) (sym ps.second) (owner net (At ps.p) (At ps.q) (sheet.pieces ps.p ps.q (some (net.count ps.p ps.q) k e))))))
          where
            some : (m k : ℕ) → m ≡ suc k → 0 < m
            some m k e = omega (arith, e)

    both-none : count_of base x y ≡ count_of newest x y
    both-none = no-count base b no-base ∙ sym (no-count newest n no-newest)

  alike : CountAlike base newest planned base
  alike x y z made = by (times_among (gone base planned) (x, y)) refl
    where
      of-gone : GoneOn base planned x y → count_of base x y ≡ count_of newest x y
      of-gone o = same x y o.third o.there

      by : (k : ℕ) → times_among (gone base planned) (x, y) ≡ k → count_of base x y ≡ count_of newest x y
      by zero e = both-none x y z made e
      by (suc k) e = of-gone (gone-on base planned x y (some (times_among (gone base planned) (x, y)) k e))
        where
          some : (m k : ℕ) → m ≡ suc k → 0 < m
          some m k e = omega (arith, e)

pub count_law : CountLaw
count_law base planned newest after b p n out out' inner inner' u triangles placed corners same = alike base planned newest after b p n out out' inner inner' u triangles placed corners same
