-- The edges of a facet, and the counts that two sheets with this facet have over them.
use Rattle.std.proofs.Common.{◌≡◌, ℕ, ◌⊎◌, inl, inr, refl, sym, ap, subst, ◌∙◌, true, false, Some}
use Rattle.std.specs.Prelude.{◌&&◌, slice_get}
use Rattle.std.proofs.lemmas.Bool.{and_parts}
use Rattle.ground_model.specs.declared.corner.Corner.{Corner}
use Rattle.ground_model.specs.declared.corner.Corner.TheVariants.{At}
use Rattle.ground_model.specs.declared.facet.Facet.{Facet}
use Rattle.ground_model.specs.Place.{Coords, is_before, is_same}
use Rattle.ground_model.specs.Mark.{is_among, is_same_facet, edges}
use Rattle.ground_model.specs.Corner.{corner_at}
use Rattle.ground_model.proofs.Elements.{In, any_gives}
use Rattle.ground_model.proofs.Ties.{same_of_is_same}
use Rattle.predicates.specs.Net.{Net, Triangle, has, facet_by, facet_on, facets_of}
use Rattle.predicates.specs.Sheet.{IsSheet}
use Rattle.predicates.proofs.Owners.{IsTurn, Still, Once, Twice, turn-next}
use Rattle.cdt_law.specs.Laws.{has_edge}
use Rattle.cdt_law.specs.Enclose.{HasGone}
use Rattle.cdt_law.proofs.Kept.{Kept, kept-of}
use Rattle.ground_model.proofs.Members.{same-facet}
use Rattle.cdt_law.proofs.GoneFacets.{FirstTurn, first-turn, turn-in, gone-in}

-- the first two corners of one turn are two that follow each other in another
ends : (t : Triangle) (x y z u v w : Corner) → IsTurn t x y z → IsTurn t u v w → ((u ≡ x) × (v ≡ y)) ⊎ (((u ≡ y) × (v ≡ z)) ⊎ ((u ≡ z) × (v ≡ x)))
ends t x y z u v w Still Still = inl (refl, refl)
ends t x y z u v w Still Once = inr (inl (refl, refl))
ends t x y z u v w Still Twice = inr (inr (refl, refl))
ends t x y z u v w Once Once = inl (refl, refl)
ends t x y z u v w Once Twice = inr (inl (refl, refl))
ends t x y z u v w Once Still = inr (inr (refl, refl))
ends t x y z u v w Twice Twice = inl (refl, refl)
ends t x y z u v w Twice Still = inr (inl (refl, refl))
ends t x y z u v w Twice Once = inr (inr (refl, refl))

-- two pairs of places are one
abbrev AreOne : Coords × Coords → Coords × Coords → Type 0
AreOne x y = x ≡ y

-- the edge of a triangle is one of its facet
pub edge-in : (net : Net) → IsSheet net → (k : ℕ) (t : Triangle) (f : Facet) → slice_get net.triangles k ≡ Some t → facet_by net t.a t.b t.c ≡ Some f → (p q : Coords) (z : Corner) → IsTurn t (At p) (At q) z → In (p, q) (edges f)
edge-in net sheet k t f at is p q z turn = subst (λ (g : Facet). In (p, q) (edges g)) (sym first.is) (by (ends t (At first.a) (At first.b) (At first.c) (At p) (At q) z first.turn turn))
  where
    first : FirstTurn net t f
    first = first-turn net sheet k t f at is

    pair : (u v : Coords) → At p ≡ At u → At q ≡ At v → AreOne (p, q) (u, v)
    pair u v e g = λ i. (corner_at (e i), corner_at (g i))

    by : ((At p ≡ At first.a) × (At q ≡ At first.b)) ⊎ (((At p ≡ At first.b) × (At q ≡ At first.c)) ⊎ ((At p ≡ At first.c) × (At q ≡ At first.a))) → In (p, q) (edges (facet_on net first.a first.b first.c))
    by (inl e) = inl (pair first.a first.b e.0 e.1)
    by (inr (inl e)) = inr (inl (pair first.b first.c e.0 e.1))
    by (inr (inr e)) = inr (inr (inl (pair first.c first.a e.0 e.1)))

-- ---- a facet that the sheet has
pub record FacetIn (net : Net) (f : Facet) : Type 0 where
  pub index : ℕ
  pub triangle : Triangle
  pub at : slice_get net.triangles index ≡ Some triangle
  pub is : facet_by net triangle.a triangle.b triangle.c ≡ Some f
  pub turn : IsTurn triangle (At f.a) (At f.b) (At f.c)
  pub least : (is_before f.a f.b && is_before f.a f.c) ≡ true
  pub ab : f.ab ≡ net.count f.a f.b
  pub bc : f.bc ≡ net.count f.b f.c
  pub ca : f.ca ≡ net.count f.c f.a

pub facet-in-net : (net : Net) → IsSheet net → (f : Facet) → is_among (facets_of net) f ≡ true → FacetIn net f
unfolding is_among
facet-in-net net sheet f e = by (kept-of (λ t. facet_by net t.a t.b t.c) (is_same_facet f) net.triangles e)
  where
    by : Kept (λ t. facet_by net t.a t.b t.c) (is_same_facet f) net.triangles → FacetIn net f
    by h = subst (FacetIn net) (sym (same-facet f h.made h.passes ∙ first.is)) on
      where
        first : FirstTurn net h.item h.made
        first = first-turn net sheet h.index h.item h.made h.at h.is

        on : FacetIn net (facet_on net first.a first.b first.c)
        on = record { index = h.index; triangle = h.item; at = h.at; is = h.is ∙ ap Some first.is; turn = first.turn; least = first.least; ab = refl; bc = refl; ca = refl }

-- the sheet has a triangle at each edge of it
pub triangle-at : (net : Net) → IsSheet net → (f : Facet) → is_among (facets_of net) f ≡ true → (p q : Coords) → In (p, q) (edges f) → (r : Coords) × (has net (At p) (At q) (At r) ≡ true)
triangle-at net sheet f e p q i = by i
  where
    h : FacetIn net f
    h = facet-in-net net sheet f e

    there : (x y z u v : Coords) → IsTurn h.triangle (At x) (At y) (At z) → AreOne (u, v) (x, y) → (r : Coords) × (has net (At u) (At v) (At r) ≡ true)
    there x y z u v turn g = (z, subst (λ (k : Coords × Coords). has net (At k.0) (At k.1) (At z) ≡ true) (sym g) (turn-in net.triangles h.index h.triangle (At x) (At y) (At z) h.at turn))

    by : In (p, q) (edges f) → (r : Coords) × (has net (At p) (At q) (At r) ≡ true)
    by (inl g) = there f.a f.b f.c p q h.turn g
    by (inr (inl g)) = there f.b f.c f.a p q (turn-next h.triangle (At f.a) (At f.b) (At f.c) h.turn) g
    by (inr (inr (inl g))) = there f.c f.a f.b p q (turn-next h.triangle (At f.b) (At f.c) (At f.a) (turn-next h.triangle (At f.a) (At f.b) (At f.c) h.turn)) g
    by (inr (inr (inr g))) = absurd g

-- two sheets with the facet count alike over its edges
pub facet-counts : (net other : Net) → IsSheet net → IsSheet other → (f : Facet) → is_among (facets_of net) f ≡ true → is_among (facets_of other) f ≡ true → (p q : Coords) → In (p, q) (edges f) → net.count p q ≡ other.count p q
facet-counts net other sheet sheet' f e e' p q i = by i
  where
    h : FacetIn net f
    h = facet-in-net net sheet f e

    g : FacetIn other f
    g = facet-in-net other sheet' f e'

    there : (x y u v : Coords) → net.count x y ≡ other.count x y → AreOne (u, v) (x, y) → net.count u v ≡ other.count u v
    there x y u v same j = subst (λ (k : Coords × Coords). net.count k.0 k.1 ≡ other.count k.0 k.1) (sym j) same

    by : In (p, q) (edges f) → net.count p q ≡ other.count p q
    by (inl j) = there f.a f.b p q (sym h.ab ∙ g.ab) j
    by (inr (inl j)) = there f.b f.c p q (sym h.bc ∙ g.bc) j
    by (inr (inr (inl j))) = there f.c f.a p q (sym h.ca ∙ g.ca) j
    by (inr (inr (inr j))) = absurd j

-- the edge by its test
pub edge-of : (f : Facet) (p q : Coords) → has_edge f p q ≡ true → In (p, q) (edges f)
edge-of f p q e =
    let found = any_gives (λ x. is_same x.0 p && is_same x.1 q) (edges f) e in
    let both = and_parts (is_same found.0.0 p) (is_same found.0.1 q) found.2 in
    subst (λ k. In k (edges f)) (λ i. (same_of_is_same found.0.0 p both.0 i, same_of_is_same found.0.1 q both.1 i)) found.1

-- a facet that the other net has not
pub gone-facet : (net other : Net) → IsSheet net → (f : Facet) → is_among (facets_of net) f ≡ true → is_among (facets_of other) f ≡ false → HasGone net other
gone-facet net other sheet f e none =
    let h = facet-in-net net sheet f e in
    record { a = h.triangle.a; b = h.triangle.b; c = h.triangle.c; there = gone-in net other h.index h.triangle h.triangle.a h.triangle.b h.triangle.c f h.at Still h.is none }
