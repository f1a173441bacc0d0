-- What an edit makes of a newer sheet has its points as corners.
use Rattle.std.proofs.Common.{◌≡◌, ℕ, inl, inr, ◌⊎◌, refl, sym, ap, subst, ◌∙◌, ◌++◌, Bool, true, false, Some}
use Rattle.std.specs.Prelude.{slice_get, ◌&&◌}
use Rattle.std.specs.List.{list_any}
use Rattle.std.proofs.lemmas.Bool.{both_ways as clash, and_from, or_left}
use Rattle.std.proofs.lemmas.List.Folds.{list_any-append}
use Rattle.ground_model.specs.declared.corner.Corner.{Corner}
use Rattle.ground_model.specs.declared.corner.Corner.TheVariants.{At, Far}
use Rattle.ground_model.specs.Place.{Coords, is_same}
use Rattle.ground_model.specs.Line.{is_point}
use Rattle.ground_model.proofs.LinePieces.{is_same_itself}
use Rattle.ground_model.proofs.Ties.{same_of_is_same}
use Rattle.predicates.specs.Net.{Net, Triangle, is_triangle, has, has_corner}
use Rattle.predicates.specs.Sheet.{IsSheet, is_over, are_over}
use Rattle.predicates.proofs.Tiling.{each-passes}
use Rattle.predicates.proofs.Owners.{IsTurn, Still, Once, Twice}
use Rattle.predicates.proofs.HasTriangles.{Found, any-found, any-at, turn-of, has-owner}
use Rattle.predicates.proofs.Holding.{passes-each, turn-has_corner}
use Rattle.cdt_law.specs.Patch.{is_in}
use Rattle.cdt_law.specs.Hull.{Encloses}
use Rattle.cdt_law.specs.Boundary.{gone}
use Rattle.cdt_law.specs.Corners.{IsCornerOfGone}
use Rattle.cdt_law.specs.Stale.{without, IsUnchanged}
use Rattle.cdt_law.specs.Vertices.{AreCarried, AreCorners, VertexLaw}
use Rattle.cdt_law.proofs.WalkSteps.{at-corner}
use Rattle.cdt_law.proofs.GoodInSheet.{over-first}
use Rattle.cdt_law.proofs.Patched.{any-either, any-second}
use Rattle.cdt_law.proofs.GoneFacets.{turn-in, places-of, gone-of}
use Rattle.cdt_law.proofs.Renewed.{gone-has, without-of, without-in}
use Rattle.cdt_law.proofs.SharedCorners.{corner_law}

-- a corner of a sheet's triangle is one of its points, or far
over-of : (net : Net) → IsSheet net → (x y z : Corner) → has net x y z ≡ true → is_over net.points x ≡ true
over-of net sheet x y z e = let o = has-owner net x y z e in over-first net sheet o.owner.index o.owner.triangle x y o.owner.third o.owner.at o.owner.turn

module _ (base planned newest after : Net) (b : IsSheet base) (p : IsSheet planned) (n : IsSheet newest) (out : Encloses base planned) (out' : Encloses planned base) (u : IsUnchanged base planned newest)
    (triangles : after.triangles ≡ gone planned base ++ without newest (gone base planned)) (c : AreCarried base planned newest after) where
  -- ---- each corner is over the points
  made-over : (q : Coords) (y z : Corner) → is_in (gone planned base) (At q) y z ≡ true → is_point after.points q ≡ true
  made-over q y z e = by (is_point base.points q) refl
    where
      at_planned : is_point planned.points q ≡ true
      at_planned = over-of planned p (At q) y z (gone-has planned base (At q) y z e)

      at_newest : IsCornerOfGone base planned q → is_point newest.points q ≡ true
      at_newest g = over-of newest n (At q) g.y g.z (u.destroyed (At q) g.y g.z g.there)

      by : (t : Bool) → is_point base.points q ≡ t → is_point after.points q ≡ true
      by true f = c.kept q (at_newest (corner_law base planned b p out q f (record { y = y; z = z; there = e }))) (inr at_planned)
      by false f = c.added q at_planned f

  other-over : (x y z : Corner) → is_in (without newest (gone base planned)) x y z ≡ true → is_over newest.points x ≡ true → is_over after.points x ≡ true
  other-over (Far k) y z e over = over
  other-over (At q) y z e over = by (is_point base.points q) (is_point planned.points q) refl refl
    where
      by : (s t : Bool) → is_point base.points q ≡ s → is_point planned.points q ≡ t → is_point after.points q ≡ true
      by false t f g = c.kept q over (inl f)
      by true true f g = c.kept q over (inr g)
      by true false f g = absurd (clash (is_in (without newest (gone base planned)) (At q) y z) (c.none_at q y z f g) e)

  corner-over : (x y z : Corner) → (is_in (gone planned base) x y z ≡ true) ⊎ (is_in (without newest (gone base planned)) x y z ≡ true) → is_over after.points x ≡ true
  corner-over x y z (inr e) = other-over x y z e (over-of newest n x y z (without-of newest (gone base planned) x y z e).there)
  corner-over x y z (inl e) =
      let g = gone-of planned base x y z e in
      let ps = places-of planned g.triangle x y z g.facet g.turn g.is in
      ap (is_over after.points) ps.first ∙ made-over ps.p y z (subst (λ w. is_in (gone planned base) w y z ≡ true) ps.first e)

  in-after : (k : ℕ) (t : Triangle) (x y z : Corner) → slice_get after.triangles k ≡ Some t → IsTurn t x y z → is_over after.points x ≡ true
  in-after k t x y z at turn =
      corner-over x y z (any-either (is_triangle x y z) (gone planned base) (without newest (gone base planned)) (sym (ap (λ ts. is_in ts x y z) triangles) ∙ turn-in after.triangles k t x y z at turn))

  each-over : (k : ℕ) (t : Triangle) → slice_get after.triangles k ≡ Some t → are_over after.points t ≡ true
  each-over k t at =
      and_from (is_over after.points t.a && is_over after.points t.b) (is_over after.points t.c)
      (and_from (is_over after.points t.a) (is_over after.points t.b) (in-after k t t.a t.b t.c at Still) (in-after k t t.b t.c t.a at Once)) (in-after k t t.c t.a t.b at Twice)

  -- ---- each point is a corner
  reaches : (q : Coords) (y z : Corner) → (is_in (gone planned base) (At q) y z ≡ true) ⊎ (is_in (without newest (gone base planned)) (At q) y z ≡ true) → list_any (λ t. has_corner t (At q)) after.triangles ≡ true
  reaches q y z h = found (any-found (is_triangle (At q) y z) after.triangles (ap (λ ts. is_in ts (At q) y z) triangles ∙ joined h))
    where
      joined : (is_in (gone planned base) (At q) y z ≡ true) ⊎ (is_in (without newest (gone base planned)) (At q) y z ≡ true) → is_in (gone planned base ++ without newest (gone base planned)) (At q) y z ≡ true
      joined (inl e) = list_any-append (is_triangle (At q) y z) (gone planned base) (without newest (gone base planned)) ∙ or_left (is_in (gone planned base) (At q) y z) (is_in (without newest (gone base planned)) (At q) y z) e
      joined (inr e) = any-second (is_triangle (At q) y z) (gone planned base) (without newest (gone base planned)) e

      found : Found (is_triangle (At q) y z) after.triangles → list_any (λ t. has_corner t (At q)) after.triangles ≡ true
      found f = any-at (λ t. has_corner t (At q)) after.triangles f.index f.item f.at (turn-has_corner f.item (At q) y z (At q) (turn-of (At q) y z f.item f.passes) (inl refl))

  -- a triangle of the newest net at a point that the edit doesn't take
  newest-at : (q : Coords) → (is_point base.points q ≡ false) ⊎ (is_point planned.points q ≡ true) → (k : ℕ) (t : Triangle) (y z : Corner) → slice_get newest.triangles k ≡ Some t → IsTurn t (At q) y z → list_any (λ t. has_corner t (At q)) after.triangles ≡ true
  newest-at q stays k t y z at turn = by (is_in (gone base planned) (At q) y z) refl
    where
      made : is_in (gone base planned) (At q) y z ≡ true → (is_point base.points q ≡ false) ⊎ (is_point planned.points q ≡ true) → IsCornerOfGone planned base q
      made e (inl f) = absurd (clash (is_point base.points q) f (over-of base b (At q) y z (gone-has base planned (At q) y z e)))
      made e (inr f) = corner_law planned base p b out' q f (record { y = y; z = z; there = e })

      by : (s : Bool) → is_in (gone base planned) (At q) y z ≡ s → list_any (λ t. has_corner t (At q)) after.triangles ≡ true
      by false e = reaches q y z (inr (without-in newest (gone base planned) k t (At q) y z at turn e))
      by true e = let g = made e stays in reaches q g.y g.z (inl g.there)

  of-newest : (q : Coords) → (is_point base.points q ≡ false) ⊎ (is_point planned.points q ≡ true) → Found (λ t. has_corner t (At q)) newest.triangles → list_any (λ t. has_corner t (At q)) after.triangles ≡ true
  of-newest q stays f = by (at-corner f.item f.item.a f.item.b f.item.c (At q) Still f.passes)
    where
      begins : (x y z : Corner) → IsTurn f.item x y z → x ≡ At q → list_any (λ t. has_corner t (At q)) after.triangles ≡ true
      begins x y z turn e = newest-at q stays f.index f.item y z f.at (subst (λ w. IsTurn f.item w y z) e turn)

      by : (f.item.a ≡ At q) ⊎ ((f.item.b ≡ At q) ⊎ (f.item.c ≡ At q)) → list_any (λ t. has_corner t (At q)) after.triangles ≡ true
      by (inl e) = begins f.item.a f.item.b f.item.c Still e
      by (inr (inl e)) = begins f.item.b f.item.c f.item.a Once e
      by (inr (inr e)) = begins f.item.c f.item.a f.item.b Twice e

  reached-at : (q : Coords) → is_point newest.points q ≡ true → Found (λ t. has_corner t (At q)) newest.triangles
  reached-at q at =
      let found = any-found (is_same q) newest.points at in
      any-found (λ t. has_corner t (At q)) newest.triangles
      (ap (λ w. list_any (λ t. has_corner t (At w)) newest.triangles) (same_of_is_same q found.item found.passes)
      ∙ each-passes (λ w. list_any (λ t. has_corner t (At w)) newest.triangles) newest.points n.reached found.index found.item found.at)

  each-reached : (j : ℕ) (q : Coords) → slice_get after.points j ≡ Some q → list_any (λ t. has_corner t (At q)) after.triangles ≡ true
  each-reached j q at = by (c.only q (any-at (is_same q) after.points j q at (is_same_itself q)))
    where
      by : ((is_point newest.points q ≡ true) × ((is_point base.points q ≡ false) ⊎ (is_point planned.points q ≡ true))) ⊎ ((is_point planned.points q ≡ true) × (is_point base.points q ≡ false)) → list_any (λ t. has_corner t (At q)) after.triangles ≡ true
      by (inl h) = of-newest q h.1 (reached-at q h.0)
      by (inr h) = let g = c.made_at q h.0 h.1 in reaches q g.y g.z (inl g.there)

  corners : AreCorners after
  corners = record {
    over = passes-each (are_over after.points) after.triangles each-over;
    reached = passes-each (λ q. list_any (λ t. has_corner t (At q)) after.triangles) after.points each-reached;
  }

pub vertex_law : VertexLaw
vertex_law base planned newest after b p n out out' u triangles c = corners base planned newest after b p n out out' u triangles c
