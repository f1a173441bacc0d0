-- The points that an edit of a base adds or takes, it adds or takes at a newer net.
use Rattle.std.proofs.Common.{◌≡◌, ◌⊎◌, inl, inr, refl, sym, ap, subst, ◌∙◌, Bool, true, false}
use Rattle.std.specs.Prelude.{not, ◌&&◌, ◌||◌}
use Rattle.std.proofs.lemmas.Bool.{and_from, both_ways as clash, or_cases, not_from_false}
use Rattle.ground_model.specs.declared.corner.Corner.{Corner}
use Rattle.ground_model.specs.declared.corner.Corner.TheVariants.{At}
use Rattle.ground_model.specs.declared.facet.Facet.{Facet}
use Rattle.ground_model.specs.Place.{Coords, is_same}
use Rattle.ground_model.specs.Line.{is_point}
use Rattle.ground_model.proofs.Ties.{same_of_is_same}
use Rattle.predicates.specs.Net.{Net, has}
use Rattle.predicates.specs.Sheet.{IsSheet}
use Rattle.predicates.proofs.Holding.{turn-has_corner}
use Rattle.cdt_law.specs.Patch.{is_in}
use Rattle.cdt_law.specs.Boundary.{gone}
use Rattle.cdt_law.specs.Stale.{without}
use Rattle.cdt_law.specs.Point.{is_corner_of}
use Rattle.cdt_law.specs.Corners.{IsCornerOfGone}
use Rattle.cdt_law.specs.Vertices.{AreCarried}
use Rattle.cdt_law.proofs.WalkSteps.{at-corner}
use Rattle.cdt_law.proofs.GoneFacets.{FirstTurn, first-turn, Gone}
use Rattle.cdt_law.proofs.Renewed.{without-of}
use Rattle.cdt_law.proofs.PiecesWithout.{still, not-it, other}
use Rattle.cdt_law.proofs.PointEdits.{IsLess}

-- ---- the same points
pub carried-same : (base planned newest after : Net) → planned.points ≡ base.points → after.points ≡ newest.points → AreCarried base planned newest after
carried-same base planned newest after e f = record { added = added; kept = λ p at h. ap (λ ps. is_point ps p) f ∙ at; only = λ p at. inl (sym (ap (λ ps. is_point ps p) f) ∙ at, either p); made_at = made_at; none_at = none_at }
  where
    same : (p : Coords) → is_point planned.points p ≡ is_point base.points p
    same p = ap (λ ps. is_point ps p) e

    either : (p : Coords) → (is_point base.points p ≡ false) ⊎ (is_point planned.points p ≡ true)
    either p = by (is_point base.points p) refl
      where
        by : (t : Bool) → is_point base.points p ≡ t → (is_point base.points p ≡ false) ⊎ (is_point planned.points p ≡ true)
        by true g = inr (same p ∙ g)
        by false g = inl g

    added : (p : Coords) → is_point planned.points p ≡ true → is_point base.points p ≡ false → is_point after.points p ≡ true
    added p g h = absurd (clash (is_point base.points p) h (sym (same p) ∙ g))

    made_at : (p : Coords) → is_point planned.points p ≡ true → is_point base.points p ≡ false → IsCornerOfGone planned base p
    made_at p g h = absurd (clash (is_point base.points p) h (sym (same p) ∙ g))

    none_at : (p : Coords) (y z : Corner) → is_point base.points p ≡ true → is_point planned.points p ≡ false → is_in (without newest (gone base planned)) (At p) y z ≡ false
    none_at p y z g h = absurd (clash (is_point planned.points p) h (same p ∙ g))

-- what is among the points and not among the rest is c
is-c : (points rest : Coords → Bool) (c p : Coords) → rest p ≡ (points p && not (is_same c p)) → points p ≡ true → rest p ≡ false → p ≡ c
is-c points rest c p e at off = by (is_same c p) refl
  where
    by : (t : Bool) → is_same c p ≡ t → p ≡ c
    by true f = sym (same_of_is_same c p f)
    by false f = absurd (clash (rest p) off (e ∙ and_from (points p) (not (is_same c p)) at (not_from_false (is_same c p) f)))

-- ---- a point more
pub carried-more : (base planned newest after : Net) (c : Coords) → IsLess planned.points base.points c → IsLess after.points newest.points c → IsCornerOfGone planned base c → AreCarried base planned newest after
carried-more base planned newest after c l k made = record { added = added; kept = λ p at h. still after.points newest.points c k.without k.at_c p at; only = only; made_at = made_at; none_at = none_at }
  where
    at : (p : Coords) → is_point planned.points p ≡ true → is_point base.points p ≡ false → p ≡ c
    at p g h = is-c (is_point planned.points) (is_point base.points) c p (l.without p) g h

    added : (p : Coords) → is_point planned.points p ≡ true → is_point base.points p ≡ false → is_point after.points p ≡ true
    added p g h = subst (λ q. is_point after.points q ≡ true) (sym (at p g h)) k.at_c

    only : (p : Coords) → is_point after.points p ≡ true
        → ((is_point newest.points p ≡ true) × ((is_point base.points p ≡ false) ⊎ (is_point planned.points p ≡ true))) ⊎ ((is_point planned.points p ≡ true) × (is_point base.points p ≡ false))
    only p g = by (is_point newest.points p) (is_point base.points p) refl refl
      where
        base-none : p ≡ c → is_point base.points p ≡ false
        base-none e = test (is_point base.points p) refl
          where
            test : (t : Bool) → is_point base.points p ≡ t → t ≡ false
            test true f = absurd (not-it planned.points base.points c l.without l.at_c p f e)
            test false f = refl

        by : (s t : Bool) → is_point newest.points p ≡ s → is_point base.points p ≡ t
            → ((is_point newest.points p ≡ true) × ((is_point base.points p ≡ false) ⊎ (is_point planned.points p ≡ true))) ⊎ ((is_point planned.points p ≡ true) × (is_point base.points p ≡ false))
        by true true e f = inl (e, inr (still planned.points base.points c l.without l.at_c p f))
        by true false e f = inl (e, inl f)
        by false t e f =
            let one : p ≡ c = is-c (is_point after.points) (is_point newest.points) c p (k.without p) g e in
            inr (subst (λ q. is_point planned.points q ≡ true) (sym one) l.at_c, base-none one)

    made_at : (p : Coords) → is_point planned.points p ≡ true → is_point base.points p ≡ false → IsCornerOfGone planned base p
    made_at p g h = subst (λ q. IsCornerOfGone planned base q) (sym (at p g h)) made

    none_at : (p : Coords) (y z : Corner) → is_point base.points p ≡ true → is_point planned.points p ≡ false → is_in (without newest (gone base planned)) (At p) y z ≡ false
    none_at p y z g h = absurd (clash (is_point planned.points p) h (still planned.points base.points c l.without l.at_c p g))

-- ---- a point less
pub carried-less : (base planned newest after : Net) (c : Coords) → IsLess base.points planned.points c → IsLess newest.points after.points c
    → ((y z : Corner) → has newest (At c) y z ≡ true → is_in (gone base planned) (At c) y z ≡ true) → AreCarried base planned newest after
carried-less base planned newest after c l k taken = record { added = added; kept = kept; only = only; made_at = made_at; none_at = none_at }
  where
    more : (p : Coords) → is_point planned.points p ≡ true → is_point base.points p ≡ true
    more p g = still base.points planned.points c l.without l.at_c p g

    added : (p : Coords) → is_point planned.points p ≡ true → is_point base.points p ≡ false → is_point after.points p ≡ true
    added p g h = absurd (clash (is_point base.points p) h (more p g))

    kept : (p : Coords) → is_point newest.points p ≡ true → (is_point base.points p ≡ false) ⊎ (is_point planned.points p ≡ true) → is_point after.points p ≡ true
    kept p g h = other newest.points after.points c k.without k.at_c p g (λ e. by e h)
      where
        by : p ≡ c → (is_point base.points p ≡ false) ⊎ (is_point planned.points p ≡ true) → ⊥
        by e (inl f) = clash (is_point base.points c) (subst (λ q. is_point base.points q ≡ false) e f) l.at_c
        by e (inr f) = not-it base.points planned.points c l.without l.at_c p f e

    only : (p : Coords) → is_point after.points p ≡ true
        → ((is_point newest.points p ≡ true) × ((is_point base.points p ≡ false) ⊎ (is_point planned.points p ≡ true))) ⊎ ((is_point planned.points p ≡ true) × (is_point base.points p ≡ false))
    only p g = inl (still newest.points after.points c k.without k.at_c p g, by (is_point base.points p) refl)
      where
        by : (t : Bool) → is_point base.points p ≡ t → (is_point base.points p ≡ false) ⊎ (is_point planned.points p ≡ true)
        by false e = inl e
        by true e = inr (other base.points planned.points c l.without l.at_c p e (not-it newest.points after.points c k.without k.at_c p g))

    made_at : (p : Coords) → is_point planned.points p ≡ true → is_point base.points p ≡ false → IsCornerOfGone planned base p
    made_at p g h = absurd (clash (is_point base.points p) h (more p g))

    none_at : (p : Coords) (y z : Corner) → is_point base.points p ≡ true → is_point planned.points p ≡ false → is_in (without newest (gone base planned)) (At p) y z ≡ false
    none_at p y z g h = by (is_in (without newest (gone base planned)) (At p) y z) refl
      where
        one : p ≡ c
        one = is-c (is_point base.points) (is_point planned.points) c p (l.without p) g h

        by : (t : Bool) → is_in (without newest (gone base planned)) (At p) y z ≡ t → t ≡ false
        by false e = refl
        by true e =
            let w = without-of newest (gone base planned) (At p) y z e in
            absurd (clash (is_in (gone base planned) (At p) y z) w.none
            (ap (λ q. is_in (gone base planned) (At q) y z) one ∙ taken y z (sym (ap (λ q. has newest (At q) y z) one) ∙ w.there)))

-- ---- a facet's corner is one of its triangle
pub at-its-corner : (net other : Net) → IsSheet net → (c : Coords) (x y z : Corner) (g : Gone net other x y z) → is_corner_of c g.facet ≡ true → (At c ≡ x) ⊎ ((At c ≡ y) ⊎ (At c ≡ z))
at-its-corner net other sheet c x y z g e = turned (at-corner g.triangle x y z (At c) g.turn (turn-has_corner g.triangle (At first.a) (At first.b) (At first.c) (At c) first.turn (by (or_cases (is_same c g.facet.a || is_same c g.facet.b) (is_same c g.facet.c) e))))
  where
    first : FirstTurn net g.triangle g.facet
    first = first-turn net sheet g.index g.triangle g.facet g.at g.is

    a-is : g.facet.a ≡ first.a
    a-is = ap (λ (f : Facet). f.a) first.is

    b-is : g.facet.b ≡ first.b
    b-is = ap (λ (f : Facet). f.b) first.is

    c-is : g.facet.c ≡ first.c
    c-is = ap (λ (f : Facet). f.c) first.is

    by : ((is_same c g.facet.a || is_same c g.facet.b) ≡ true) ⊎ (is_same c g.facet.c ≡ true) → (At c ≡ At first.a) ⊎ ((At c ≡ At first.b) ⊎ (At c ≡ At first.c))
    by (inr f) = inr (inr (ap At (same_of_is_same c g.facet.c f ∙ c-is)))
    by (inl f) = two (or_cases (is_same c g.facet.a) (is_same c g.facet.b) f)
      where
        two : (is_same c g.facet.a ≡ true) ⊎ (is_same c g.facet.b ≡ true) → (At c ≡ At first.a) ⊎ ((At c ≡ At first.b) ⊎ (At c ≡ At first.c))
        two (inl f) = inl (ap At (same_of_is_same c g.facet.a f ∙ a-is))
        two (inr f) = inr (inl (ap At (same_of_is_same c g.facet.b f ∙ b-is)))

    turned : (x ≡ At c) ⊎ ((y ≡ At c) ⊎ (z ≡ At c)) → (At c ≡ x) ⊎ ((At c ≡ y) ⊎ (At c ≡ z))
    turned (inl f) = inl (sym f)
    turned (inr (inl f)) = inr (inl (sym f))
    turned (inr (inr f)) = inr (inr (sym f))
