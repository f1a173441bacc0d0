-- A plan that stands at a newer net: what an edit of the base destroys and what is beside that are there.
use Rattle.std.proofs.Common.{◌≡◌, ℕ, ◌+◌, ◌<◌, ◌≤◌, ◌⊎◌, inl, inr, refl, sym, ap, subst, ◌∙◌, arith, ◌++◌, Bool, true, false}
use Rattle.std.specs.Prelude.{pos, ◌<ℤ◌}
use Rattle.std.specs.List.{All}
use Rattle.std.proofs.lemmas.Bool.{both_ways as clash}
use Rattle.ground_model.specs.declared.corner.Corner.{Corner}
use Rattle.ground_model.specs.declared.corner.Corner.TheVariants.{At, Far}
use Rattle.ground_model.specs.declared.facet.Facet.{Facet}
use Rattle.ground_model.specs.Place.{Coords, IsPlace}
use Rattle.ground_model.specs.Line.{is_point}
use Rattle.ground_model.specs.Mark.{is_among}
use Rattle.ground_model.specs.Corner.{corner_side}
use Rattle.predicates.specs.Net.{Net, times_in, edges_in, has, count_of, facets_of, tri_of}
use Rattle.predicates.specs.Sheet.{IsSheet, IsClosed, IsLocallyDelaunay}
use Rattle.predicates.proofs.Tiling.{left-of}
use Rattle.predicates.proofs.Owners.{Owner, owner, turn-next}
use Rattle.predicates.proofs.HasTriangles.{has-owner}
use Rattle.predicates.proofs.OneOwner.{one_on_edge}
use Rattle.predicates.proofs.ClosedLaw.{closed_law}
use Rattle.cdt_law.specs.Patch.{is_in, times_among}
use Rattle.cdt_law.specs.Hull.{Encloses}
use Rattle.cdt_law.specs.Boundary.{gone, IsInner}
use Rattle.cdt_law.specs.Enclose.{HasGone}
use Rattle.cdt_law.specs.Stale.{without, IsUnchanged}
use Rattle.cdt_law.specs.Vertices.{AreCarried, AreCorners}
use Rattle.cdt_law.specs.EdgeCounts.{CountAlike}
use Rattle.cdt_law.proofs.GoodInSheet.{over-first}
use Rattle.cdt_law.proofs.Hull.{hull_law}
use Rattle.cdt_law.proofs.Overlaps.{three-of}
use Rattle.cdt_law.proofs.Patched.{among-append}
use Rattle.cdt_law.proofs.GoneFacets.{among-some, places-of, gone-of, GoneOn}
use Rattle.cdt_law.proofs.Renewed.{gone-has, renewed-closed, in-renewed, edge-once, without-of, without-in, zone_law}
use Rattle.cdt_law.proofs.Vertices.{vertex_law}
use Rattle.cdt_law.proofs.EdgeCounts.{count_law}
use Rattle.cdt_law.proofs.ClearEdges.{none-inside, none-inside-back}
use Rattle.cdt_law.proofs.LineTimes.{AreNext}
use Rattle.cdt_law.proofs.ChangedEdges.{HasArea, changed}

pub record Standing (base planned newest after : Net) : Type 0 where
  pub base_sheet : IsSheet base
  pub base_local : IsLocallyDelaunay base
  pub planned_sheet : IsSheet planned
  pub planned_local : IsLocallyDelaunay planned
  pub newest_sheet : IsSheet newest
  pub newest_local : IsLocallyDelaunay newest
  pub encloses : Encloses base planned
  pub enclosed : Encloses planned base
  pub inner : IsInner base planned
  pub inner_planned : IsInner planned base
  pub some : HasGone base planned
  pub unchanged : IsUnchanged base planned newest
  pub alike : CountAlike base newest base planned
  pub triangles : after.triangles ≡ gone planned base ++ without newest (gone base planned)
  pub carried : AreCarried base planned newest after
  pub places : All IsPlace after.points

-- a triangle of the newest net that stays
pub record OtherOn (base planned newest : Net) (a b : Corner) : Type 0 where
  pub third : Corner
  pub there : is_in (without newest (gone base planned)) a b third ≡ true

-- a facet has three points that are not collinear
pub area-of : (net other : Net) → IsSheet net → HasGone net other → HasArea net
area-of net other sheet h =
    let g = gone-of net other h.a h.b h.c h.there in
    let t = three-of net sheet g.index g.triangle g.facet g.at g.is in
    record { x = t.p; y = t.q; z = t.r; at_x = t.at_p; at_y = t.at_q; at_z = t.at_r; left = subst (λ k. pos 0 <ℤ corner_side k.a k.b k.c) t.is (left-of net sheet g.index g.triangle g.at) }

pub point-of : (net : Net) → IsSheet net → (p : Coords) (y z : Corner) → has net (At p) y z ≡ true → is_point net.points p ≡ true
point-of net sheet p y z e = let o = has-owner net (At p) y z e in over-first net sheet o.owner.index o.owner.triangle (At p) y o.owner.third o.owner.at o.owner.turn

pub edge-first : (net : Net) → IsSheet net → (p : Coords) (y : Corner) → 0 < times_in (edges_in net) (At p, y) → is_point net.points p ≡ true
edge-first net sheet p y some = let o = owner net (At p) y some in over-first net sheet o.index o.triangle (At p) y o.third o.at o.turn

pub edge-last : (net : Net) → IsSheet net → (x : Corner) (q : Coords) → 0 < times_in (edges_in net) (x, At q) → is_point net.points q ≡ true
edge-last net sheet x q some = let o = owner net x (At q) some in over-first net sheet o.index o.triangle (At q) o.third x o.at (turn-next o.triangle x (At q) o.third o.turn)

-- the ends of an edge of a sheet
pub next-on : (net : Net) → IsSheet net → (p q : Coords) → 0 < times_in (edges_in net) (At p, At q) → AreNext net.points p q
next-on net sheet p q edge = record { first = edge-first net sheet p (At q) edge; last = edge-last net sheet (At p) q edge; clear = none-inside net sheet p q edge; clear_back = none-inside-back net sheet p q edge }

module _ (base planned newest after : Net) (s : Standing base planned newest after) where
  pub corners : AreCorners after
  corners = vertex_law base planned newest after s.base_sheet s.planned_sheet s.newest_sheet s.encloses s.enclosed s.unchanged s.triangles s.carried

  -- the net after the edit, with no pieces
  abbrev pub bare : Net
  bare = record { points = after.points; count = λ p q. 0; triangles = after.triangles }

  closed : IsClosed after
  closed = renewed-closed base planned newest after s.base_sheet s.planned_sheet s.newest_sheet s.encloses s.enclosed s.inner s.inner_planned s.unchanged s.triangles s.places corners.over

  pub bare_sheet : IsSheet bare
  bare_sheet = closed_law bare (record { places = closed.places; over = closed.over; turned = closed.turned; matched = closed.matched }) (record { reached = corners.reached; pieces = λ p q some. absurd (never some); even = λ p q. refl })
    where
      never : 0 < 0 → ⊥
      never h = omega (arith, h)

  -- the base and the newest net count alike over the edges of what is made
  pub made_alike : CountAlike base newest planned base
  made_alike = count_law base planned newest after s.base_sheet s.planned_sheet s.newest_sheet s.encloses s.enclosed s.inner s.inner_planned s.unchanged s.triangles s.places corners s.alike

  pub made-edge : (a b c : Corner) → is_in (gone planned base) a b c ≡ true → 0 < times_in (edges_in after) (a, b)
  made-edge a b c e = in-renewed base planned newest after s.triangles a b (inl (among-some (gone planned base) a b c e))

  pub other-edge : (a b c : Corner) → is_in (without newest (gone base planned)) a b c ≡ true → 0 < times_in (edges_in after) (a, b)
  other-edge a b c e = in-renewed base planned newest after s.triangles a b (inr (among-some (without newest (gone base planned)) a b c e))

  pub planned-edge : (a b c : Corner) → is_in (gone planned base) a b c ≡ true → 0 < times_in (edges_in planned) (a, b)
  planned-edge a b c e = among-some planned.triangles a b c (gone-has planned base a b c e)

  pub base-edge : (a b c : Corner) → is_in (gone base planned) a b c ≡ true → 0 < times_in (edges_in base) (a, b)
  base-edge a b c e = among-some base.triangles a b c (gone-has base planned a b c e)

  pub newest-edge : (a b c : Corner) → is_in (gone base planned) a b c ≡ true → 0 < times_in (edges_in newest) (a, b)
  newest-edge a b c e = among-some newest.triangles a b c (s.unchanged.destroyed a b c e)

  pub stays-edge : (a b c : Corner) → is_in (without newest (gone base planned)) a b c ≡ true → 0 < times_in (edges_in newest) (a, b)
  stays-edge a b c e = among-some newest.triangles a b c (without-of newest (gone base planned) a b c e).there

  -- an edge of the newest net is one of what is destroyed or of what stays
  pub parted : (a b : Corner) → 0 < times_in (edges_in newest) (a, b) → GoneOn base planned a b ⊎ OtherOn base planned newest a b
  parted a b some = by (is_in (gone base planned) a b o.third) refl
    where
      o : Owner newest.triangles a b
      o = owner newest a b some

      by : (t : Bool) → is_in (gone base planned) a b o.third ≡ t → GoneOn base planned a b ⊎ OtherOn base planned newest a b
      by true e = inl (record { third = o.third; there = e })
      by false e = inr (record { third = o.third; there = without-in newest (gone base planned) o.index o.triangle a b o.third o.at o.turn e })

  -- it is not both, and not one of what is made and of what stays
  pub not-gone : (a b : Corner) → GoneOn base planned a b → OtherOn base planned newest a b → ⊥
  not-gone a b g o =
      let w = without-of newest (gone base planned) a b o.third o.there in
      let one : o.third ≡ g.third = one_on_edge newest s.newest_sheet a b o.third g.third w.there (s.unchanged.destroyed a b g.third g.there) in
      clash (is_in (gone base planned) a b o.third) w.none (ap (is_in (gone base planned) a b) one ∙ g.there)

  pub not-made : (a b : Corner) → GoneOn planned base a b → OtherOn base planned newest a b → ⊥
  not-made a b g o =
      twice (times_in (edges_in after) (a, b)) (times_among (gone planned base) (a, b)) (times_among (without newest (gone base planned)) (a, b))
      (ap (λ ts. times_among ts (a, b)) s.triangles ∙ among-append (gone planned base) (without newest (gone base planned)) (a, b)) (edge-once bare bare_sheet (a, b))
      (among-some (gone planned base) a b g.third g.there) (among-some (without newest (gone base planned)) a b o.third o.there)
    where
      twice : (n m k : ℕ) → n ≡ m + k → n ≤ 1 → 0 < m → 0 < k → ⊥
      twice n m k e h f g = omega (arith, e, h, f, g)

  -- a piece that the planned net counts otherwise than the base is an edge of what is made or destroyed
  pub made-on : (p q : Coords) → 0 < planned.count p q → (planned.count p q ≡ base.count p q → ⊥) → GoneOn planned base (At p) (At q)
  made-on p q piece differ = changed planned base base s.planned_sheet s.base_sheet s.inner_planned s.enclosed (area-of base planned s.base_sheet s.some) p q piece differ

  pub destroyed-on : (p q : Coords) → 0 < base.count p q → (base.count p q ≡ planned.count p q → ⊥) → GoneOn base planned (At p) (At q)
  destroyed-on p q piece differ = changed base planned base s.base_sheet s.planned_sheet s.inner (hull_law base s.base_sheet s.base_local) (area-of base planned s.base_sheet s.some) p q piece differ

  -- with its counts it is a locally Delaunay sheet, which has its facets
  pub record Counted : Type 0 where
    pub made : (p q : Coords) → GoneOn planned base (At p) (At q) → planned.count p q ≡ after.count p q
    pub others : (p q : Coords) → OtherOn base planned newest (At p) (At q) → newest.count p q ≡ after.count p q
    pub pieces : (p q : Coords) → 0 < after.count p q → 0 < times_in (edges_in after) (At p, At q)
    pub even : (p q : Coords) → after.count p q ≡ after.count q p

  pub renewed : Counted → IsSheet after × (IsLocallyDelaunay after × ((f : Facet) → is_among (facets_of after) f ≡ is_among (tri_of after) f))
  renewed c =
      zone_law base planned newest after s.base_sheet s.planned_sheet s.planned_local s.newest_sheet s.newest_local s.encloses s.enclosed s.inner s.inner_planned s.unchanged
      (record { triangles = s.triangles; made_counts = made_counts; other_counts = other_counts; places = s.places; over = corners.over; spanned = record { reached = corners.reached; pieces = c.pieces; even = c.even } })
    where
      made_counts : (x y z : Corner) → is_in (gone planned base) x y z ≡ true → count_of planned x y ≡ count_of after x y
      made_counts x y z e =
          let g = gone-of planned base x y z e in
          let ps = places-of planned g.triangle x y z g.facet g.turn g.is in
          subst (λ v. count_of planned v y ≡ count_of after v y) (sym ps.first) (subst (λ v. count_of planned (At ps.p) v ≡ count_of after (At ps.p) v) (sym ps.second)
          (c.made ps.p ps.q (record { third = z; there = subst (λ v. is_in (gone planned base) (At ps.p) v z ≡ true) ps.second (subst (λ v. is_in (gone planned base) v y z ≡ true) ps.first e) })))

      other_counts : (x y z : Corner) → is_in (without newest (gone base planned)) x y z ≡ true → count_of newest x y ≡ count_of after x y
      other_counts (At p) (At q) z e = c.others p q (record { third = z; there = e })
      other_counts (At p) (Far k) z e = refl
      other_counts (Far j) y z e = refl
