-- A facet by itself: three points, the least first, that are the corners of a good triangle, with the counts of its edges.
-- The facets of a locally Delaunay sheet are these, and so are the facets by their test.
use Rattle.std.proofs.Common.{◌≡◌, ℕ, refl, sym, ap, subst, ◌∙◌, List, Bool, true, false, Some}
use Rattle.std.specs.Prelude.{◌&&◌, nat_eq, if◌then◌else◌}
use Rattle.std.specs.List.{All, list_any}
use Rattle.std.proofs.lemmas.Bool.{and_parts, and_from, and_left, and_right, eqb-true, eq-eqb}
use Rattle.ground_model.specs.declared.corner.Corner.{Corner}
use Rattle.ground_model.specs.declared.corner.Corner.TheVariants.{At, Far}
use Rattle.ground_model.specs.declared.facet.Facet.{Facet}
use Rattle.ground_model.specs.Place.{Coords, IsPlace, is_before}
use Rattle.ground_model.specs.Side.{side}
use Rattle.ground_model.specs.Line.{is_point}
use Rattle.ground_model.specs.Table.{pieces_by}
use Rattle.ground_model.specs.Mark.{is_same_facet, is_among}
use Rattle.ground_model.specs.Tri.{is_facet, is_facet_over, has_counts, count_at}
use Rattle.ground_model.proofs.Members.{same-facet, facet-itself}
use Rattle.ground_model.proofs.Segments.{not_after, before_trans}
use Rattle.ground_model.proofs.Along.{same_place}
use Rattle.predicates.specs.Net.{Net, Triangle, is_triangle, facet_on, facet_turned, facet_by, facets_of}
use Rattle.predicates.specs.Sheet.{IsSheet, IsLocallyDelaunay, is_over}
use Rattle.predicates.proofs.Owners.{IsTurn, Still, Once, Twice}
use Rattle.predicates.proofs.HasTriangles.{Found, any-found, turn-of}
use Rattle.cdt_law.proofs.GoodTriangle.{Site, IsGood, good-turned}
use Rattle.cdt_law.proofs.GoodInSheet.{site_of, sheet-good, good-in-sheet, over-first}
use Rattle.cdt_law.proofs.Counts.{CountsPieces, count_at-pieces}
use Rattle.cdt_law.proofs.GoodFacet.{site_by, facet-good, good-facet, least-of}
use Rattle.cdt_law.proofs.Kept.{Kept, kept-of, kept-in}
use Rattle.predicates.proofs.Signs.{never-level}
use Rattle.predicates.proofs.FlatSides.{flat_ab, flat_bc, flat_ca}

pub record IsFacetOf (s : Site) (f : Facet) : Type 0 where
  pub at_a : is_point s.points f.a ≡ true
  pub at_b : is_point s.points f.b ≡ true
  pub at_c : is_point s.points f.c ≡ true
  pub least : (is_before f.a f.b && is_before f.a f.c) ≡ true
  pub good : IsGood s (At f.a) (At f.b) (At f.c)
  pub ab : f.ab ≡ s.count f.a f.b
  pub bc : f.bc ≡ s.count f.b f.c
  pub ca : f.ca ≡ s.count f.c f.a

-- ---- facets that pass the test of equality
pub facets-equal : (f g : Facet) → f.a ≡ g.a → f.b ≡ g.b → f.c ≡ g.c → f.ab ≡ g.ab → f.bc ≡ g.bc → f.ca ≡ g.ca → f ≡ g
facets-equal f g ea eb ec eab ebc eca = λ i. record { a = ea i; b = eb i; c = ec i; ab = eab i; bc = ebc i; ca = eca i }

pub equal-passes : (f g : Facet) → f ≡ g → is_same_facet f g ≡ true
equal-passes f g e = ap (is_same_facet f) (sym e) ∙ facet-itself f

-- ---- a facet turned, so that its least corner is first
pub record TurnedFirst (net : Net) (p q r : Coords) : Type 0 where
  pub a : Coords
  pub b : Coords
  pub c : Coords
  pub turn : IsTurn (record { a = At p; b = At q; c = At r }) (At a) (At b) (At c)
  pub least : (is_before a b && is_before a c) ≡ true
  pub is : facet_turned net p q r ≡ facet_on net a b c

pick-first : {X : Type 0} (i j : Bool) (x y z : X) → i ≡ true → (if i then x else if j then y else z) ≡ x
pick-first true j x y z e = refl
pick-first false j x y z e = cc

pick-second : {X : Type 0} (i j : Bool) (x y z : X) → i ≡ false → j ≡ true → (if i then x else if j then y else z) ≡ y
pick-second false true x y z e f = refl
pick-second true j x y z e f = cc
pick-second i false x y z e f = cc

pick-third : {X : Type 0} (i j : Bool) (x y z : X) → i ≡ false → j ≡ false → (if i then x else if j then y else z) ≡ z
pick-third false false x y z e f = refl
pick-third true j x y z e f = cc
pick-third i true x y z e f = cc

other-way : (p q : Coords) → (p ≡ q → ⊥) → is_before p q ≡ false → is_before q p ≡ true
other-way p q differ e = by (is_before q p) refl
  where
    by : (t : Bool) → is_before q p ≡ t → t ≡ true
    by true f = refl
    by false f = absurd (differ (same_place p q e f))

pub turned-first : (net : Net) (p q r : Coords) → (p ≡ q → ⊥) → (q ≡ r → ⊥) → (r ≡ p → ⊥) → TurnedFirst net p q r
turned-first net p q r pq qr rp = by (is_before p q) (is_before p r) (is_before q r) refl refl refl
  where
    is_first : is_before p q ≡ true → is_before p r ≡ true → TurnedFirst net p q r
    is_first e f =
        let t = and_from (is_before p q) (is_before p r) e f in
        record { a = p; b = q; c = r; turn = Still; least = t; is = pick-first (is_before p q && is_before p r) (is_before q p && is_before q r) (facet_on net p q r) (facet_on net q r p) (facet_on net r p q) t }

    is_second : is_before p q ≡ false → is_before q r ≡ true → TurnedFirst net p q r
    is_second e f =
        let qp = other-way p q pq e in
        record { a = q; b = r; c = p; turn = Once; least = and_from (is_before q r) (is_before q p) f qp; is = pick-second (is_before p q && is_before p r) (is_before q p && is_before q r) (facet_on net p q r) (facet_on net q r p) (facet_on net r p q) (and_left (is_before p q) (is_before p r) e) (and_from (is_before q p) (is_before q r) qp f) }

    is_third : (is_before p q && is_before p r) ≡ false → (is_before q p && is_before q r) ≡ false → is_before r p ≡ true → is_before r q ≡ true → TurnedFirst net p q r
    is_third i j e f =
        record { a = r; b = p; c = q; turn = Twice; least = and_from (is_before r p) (is_before r q) e f; is = pick-third (is_before p q && is_before p r) (is_before q p && is_before q r) (facet_on net p q r) (facet_on net q r p) (facet_on net r p q) i j }

    by : (t u v : Bool) → is_before p q ≡ t → is_before p r ≡ u → is_before q r ≡ v → TurnedFirst net p q r
    by true true v e f g = is_first e f
    by true false v e f g =
        let rp' = other-way p r (λ k. rp (sym k)) f in
        is_third (and_right (is_before p q) (is_before p r) f) (and_left (is_before q p) (is_before q r) (not_after p q e)) rp' (before_trans r p q rp' e)
    by false u true e f g = is_second e g
    by false u false e f g =
        let rq = other-way q r qr g in
        is_third (and_left (is_before p q) (is_before p r) e) (and_right (is_before q p) (is_before q r) g) (before_trans r q p rq (other-way p q pq e)) rq

-- ---- the facets of a sheet
-- the three places of a triangle
pub record OfPlaces (net : Net) (x y z : Corner) (g : Facet) : Type 0 where
  pub p : Coords
  pub q : Coords
  pub r : Coords
  pub first : x ≡ At p
  pub second : y ≡ At q
  pub third : z ≡ At r
  pub is : g ≡ facet_turned net p q r

pub of-places : (net : Net) (x y z : Corner) (g : Facet) → facet_by net x y z ≡ Some g → OfPlaces net x y z g
of-places net (At p) (At q) (At r) g e =
    let same : g ≡ facet_turned net p q r = cc in
    record { p = p; q = q; r = r; first = refl; second = refl; third = refl; is = same }
of-places net (At p) (At q) (Far k) g e = cc
of-places net (At p) (Far j) z g e = cc
of-places net (Far i) y z g e = cc

pub turn-good : (s : Site) (p q r x y z : Corner) → IsTurn (record { a = p; b = q; c = r }) x y z → IsGood s p q r → IsGood s x y z
turn-good s p q r x y z Still g = g
turn-good s p q r x y z Once g = good-turned s p q r g
turn-good s p q r x y z Twice g = good-turned s q r p (good-turned s p q r g)

record ThreePoints (net : Net) (x y z : Corner) : Type 0 where
  a : is_over net.points x ≡ true
  b : is_over net.points y ≡ true
  c : is_over net.points z ≡ true

turn-points : (net : Net) (p q r x y z : Corner) → IsTurn (record { a = p; b = q; c = r }) x y z → ThreePoints net p q r → ThreePoints net x y z
turn-points net p q r x y z Still t = t
turn-points net p q r x y z Once t = record { a = t.b; b = t.c; c = t.a }
turn-points net p q r x y z Twice t = record { a = t.c; b = t.a; c = t.b }

pub facet-of : (net : Net) → IsSheet net → IsLocallyDelaunay net → (f : Facet) → is_among (facets_of net) f ≡ true → IsFacetOf (site_of net) f
unfolding is_among
facet-of net sheet local f e = by (kept-of (λ t. facet_by net t.a t.b t.c) (is_same_facet f) net.triangles e)
  where
    first-of : (p q r : Coords) → IsGood (site_of net) (At p) (At q) (At r) → ThreePoints net (At p) (At q) (At r) → f ≡ facet_turned net p q r → IsFacetOf (site_of net) f
    first-of p q r good points same =
        let t = turned-first net p q r
        (λ k. never-level (side p q r) good.turned (flat_ab p q r k))
        (λ k. never-level (side p q r) good.turned (flat_bc p q r k))
        (λ k. never-level (side p q r) good.turned (flat_ca p q r k)) in
        let good_t = turn-good (site_of net) (At p) (At q) (At r) (At t.a) (At t.b) (At t.c) t.turn good in
        let points_t = turn-points net (At p) (At q) (At r) (At t.a) (At t.b) (At t.c) t.turn points in
        subst (IsFacetOf (site_of net)) (sym (same ∙ t.is)) (record { at_a = points_t.a; at_b = points_t.b; at_c = points_t.c; least = t.least; good = good_t; ab = refl; bc = refl; ca = refl })

    by : Kept (λ t. facet_by net t.a t.b t.c) (is_same_facet f) net.triangles → IsFacetOf (site_of net) f
    by k =
        let o = of-places net k.item.a k.item.b k.item.c k.made k.is in
        let good = sheet-good net sheet local k.index k.item k.item.a k.item.b k.item.c k.at Still in
        let points : ThreePoints net k.item.a k.item.b k.item.c = record {
          a = over-first net sheet k.index k.item k.item.a k.item.b k.item.c k.at Still;
          b = over-first net sheet k.index k.item k.item.b k.item.c k.item.a k.at Once;
          c = over-first net sheet k.index k.item k.item.c k.item.a k.item.b k.at Twice;
        } in
        first-of o.p o.q o.r
        (subst (λ (x : Corner). IsGood (site_of net) (At o.p) (At o.q) x) o.third (subst (λ (x : Corner). IsGood (site_of net) (At o.p) x k.item.c) o.second (subst (λ (x : Corner). IsGood (site_of net) x k.item.b k.item.c) o.first good)))
        (record { a = sym (ap (is_over net.points) o.first) ∙ points.a; b = sym (ap (is_over net.points) o.second) ∙ points.b; c = sym (ap (is_over net.points) o.third) ∙ points.c })
        (same-facet f k.made k.passes ∙ o.is)

-- a triangle's facet, where a, b, c is a turn of its corners with the least first
pub turn-facet : (net : Net) (t : Triangle) (x y z : Corner) (a b c : Coords) → IsTurn t x y z → x ≡ At a → y ≡ At b → z ≡ At c → (is_before a b && is_before a c) ≡ true → facet_by net t.a t.b t.c ≡ Some (facet_on net a b c)
turn-facet net t x y z a b c turn ea eb ec least = by t x y z turn ea eb ec
  where
    before : (is_before a b ≡ true) × (is_before a c ≡ true)
    before = and_parts (is_before a b) (is_before a c) least

    still : facet_turned net a b c ≡ facet_on net a b c
    still = pick-first (is_before a b && is_before a c) (is_before b a && is_before b c) (facet_on net a b c) (facet_on net b c a) (facet_on net c a b) least

    once : facet_turned net c a b ≡ facet_on net a b c
    once = pick-second (is_before c a && is_before c b) (is_before a c && is_before a b) (facet_on net c a b) (facet_on net a b c) (facet_on net b c a) (and_left (is_before c a) (is_before c b) (not_after a c before.1)) (and_from (is_before a c) (is_before a b) before.1 before.0)

    twice : facet_turned net b c a ≡ facet_on net a b c
    twice = pick-third (is_before b c && is_before b a) (is_before c b && is_before c a) (facet_on net b c a) (facet_on net c a b) (facet_on net a b c) (and_right (is_before b c) (is_before b a) (not_after a b before.0)) (and_right (is_before c b) (is_before c a) (not_after a c before.1))

    by : (t : Triangle) (x y z : Corner) → IsTurn t x y z → x ≡ At a → y ≡ At b → z ≡ At c → facet_by net t.a t.b t.c ≡ Some (facet_on net a b c)
    by t x y z Still ea eb ec = (λ i. facet_by net (ea i) (eb i) (ec i)) ∙ ap Some still
    by t x y z Once ea eb ec = (λ i. facet_by net (ec i) (ea i) (eb i)) ∙ ap Some once
    by t x y z Twice ea eb ec = (λ i. facet_by net (eb i) (ec i) (ea i)) ∙ ap Some twice

pub facet-in : (net : Net) → IsSheet net → IsLocallyDelaunay net → (f : Facet) → IsFacetOf (site_of net) f → is_among (facets_of net) f ≡ true
unfolding is_among
facet-in net sheet local f h = by (any-found (is_triangle (At f.a) (At f.b) (At f.c)) net.triangles (good-in-sheet net sheet local f.a f.b f.c h.at_a h.at_b h.at_c h.good))
  where
    by : Found (is_triangle (At f.a) (At f.b) (At f.c)) net.triangles → list_any (is_same_facet f) (facets_of net) ≡ true
    by k =
        kept-in (λ t. facet_by net t.a t.b t.c) (is_same_facet f) net.triangles k.index k.item (facet_on net f.a f.b f.c) k.at
        (turn-facet net k.item (At f.a) (At f.b) (At f.c) f.a f.b f.c (turn-of (At f.a) (At f.b) (At f.c) k.item k.passes) refl refl refl h.least)
        (equal-passes f (facet_on net f.a f.b f.c) (facets-equal f (facet_on net f.a f.b f.c) refl refl refl h.ab h.bc h.ca))

-- ---- the facets by their test
pub tested-of : (g : Coords → Coords → ℕ) (points : List Coords) → CountsPieces points g → All IsPlace points → (f : Facet) → is_facet_over points (pieces_by g points) f ≡ true → IsFacetOf (site_by g points) f
tested-of g points c places f e =
    let e4 = and_parts (is_point points f.a && is_point points f.b && is_point points f.c && is_facet points (pieces_by g points) f.a f.b f.c) (has_counts (pieces_by g points) f) e in
    let e3 = and_parts (is_point points f.a && is_point points f.b && is_point points f.c) (is_facet points (pieces_by g points) f.a f.b f.c) e4.0 in
    let e2 = and_parts (is_point points f.a && is_point points f.b) (is_point points f.c) e3.0 in
    let e1 = and_parts (is_point points f.a) (is_point points f.b) e2.0 in
    let c2 = and_parts (nat_eq f.ab (count_at (pieces_by g points) f.a f.b) && nat_eq f.bc (count_at (pieces_by g points) f.b f.c)) (nat_eq f.ca (count_at (pieces_by g points) f.c f.a)) e4.1 in
    let c1 = and_parts (nat_eq f.ab (count_at (pieces_by g points) f.a f.b)) (nat_eq f.bc (count_at (pieces_by g points) f.b f.c)) c2.0 in
    record {
      at_a = e1.0;
      at_b = e1.1;
      at_c = e2.1;
      least = least-of g points f.a f.b f.c e3.1;
      good = facet-good g points c places f.a f.b f.c e1.0 e1.1 e2.1 e3.1;
      ab = eqb-true f.ab (count_at (pieces_by g points) f.a f.b) c1.0 ∙ count_at-pieces g points c f.a f.b;
      bc = eqb-true f.bc (count_at (pieces_by g points) f.b f.c) c1.1 ∙ count_at-pieces g points c f.b f.c;
      ca = eqb-true f.ca (count_at (pieces_by g points) f.c f.a) c2.1 ∙ count_at-pieces g points c f.c f.a;
    }

pub tested-in : (g : Coords → Coords → ℕ) (points : List Coords) → CountsPieces points g → (f : Facet) → IsFacetOf (site_by g points) f → is_facet_over points (pieces_by g points) f ≡ true
tested-in g points c f h =
    and_from (is_point points f.a && is_point points f.b && is_point points f.c && is_facet points (pieces_by g points) f.a f.b f.c) (has_counts (pieces_by g points) f)
    (and_from (is_point points f.a && is_point points f.b && is_point points f.c) (is_facet points (pieces_by g points) f.a f.b f.c)
    (and_from (is_point points f.a && is_point points f.b) (is_point points f.c) (and_from (is_point points f.a) (is_point points f.b) h.at_a h.at_b) h.at_c)
    (good-facet g points c f.a f.b f.c h.least h.good))
    (and_from (nat_eq f.ab (count_at (pieces_by g points) f.a f.b) && nat_eq f.bc (count_at (pieces_by g points) f.b f.c)) (nat_eq f.ca (count_at (pieces_by g points) f.c f.a))
    (and_from (nat_eq f.ab (count_at (pieces_by g points) f.a f.b)) (nat_eq f.bc (count_at (pieces_by g points) f.b f.c))
    (eq-eqb f.ab (count_at (pieces_by g points) f.a f.b) (h.ab ∙ sym (count_at-pieces g points c f.a f.b)))
    (eq-eqb f.bc (count_at (pieces_by g points) f.b f.c) (h.bc ∙ sym (count_at-pieces g points c f.b f.c))))
    (eq-eqb f.ca (count_at (pieces_by g points) f.c f.a) (h.ca ∙ sym (count_at-pieces g points c f.c f.a))))
