-- The facets that a plan makes of a newer net: those that it makes of the base, and the newest ones without those that it destroys.
use Rattle.std.proofs.Common.{◌≡◌, ◌⊎◌, inl, inr, refl, sym, ap, subst, ◌∙◌, ◌++◌, Bool, true, false, Some}
use Rattle.std.proofs.lemmas.Bool.{both_ways as clash, or_left}
use Rattle.std.proofs.lemmas.List.Folds.{list_any-append}
use Rattle.ground_model.specs.declared.corner.Corner.TheVariants.{At}
use Rattle.ground_model.specs.declared.facet.Facet.{Facet}
use Rattle.ground_model.specs.Mark.{is_among}
use Rattle.predicates.specs.Net.{Net, is_triangle, has, facet_on, facets_of}
use Rattle.predicates.proofs.Owners.{turn-next}
use Rattle.predicates.proofs.HasTriangles.{any-found, turn-of}
use Rattle.cdt_law.specs.Patch.{is_in}
use Rattle.cdt_law.specs.Boundary.{gone}
use Rattle.cdt_law.specs.Stale.{without}
use Rattle.cdt_law.proofs.SheetFacets.{facets-equal, turn-facet}
use Rattle.cdt_law.proofs.Patched.{any-either, any-second}
use Rattle.cdt_law.proofs.GoneFacets.{turn-in, facet-among, gone-of, gone-in}
use Rattle.cdt_law.proofs.Renewed.{Without, without-of, without-in}
use Rattle.cdt_law.proofs.FacetEdges.{FacetIn, facet-in-net}
use Rattle.cdt_law.proofs.Standing.{Standing, Counted, renewed}

-- a facet of one net is one of another that has its triangle and counts alike over its edges
facet-moved : (net other : Net) (f : Facet) → FacetIn net f → has other (At f.a) (At f.b) (At f.c) ≡ true → net.count f.a f.b ≡ other.count f.a f.b → net.count f.b f.c ≡ other.count f.b f.c → net.count f.c f.a ≡ other.count f.c f.a
    → is_among (facets_of other) f ≡ true
facet-moved net other f h there ab bc ca =
    let found = any-found (is_triangle (At f.a) (At f.b) (At f.c)) other.triangles there in
    facet-among other found.index found.item f found.at
    (turn-facet other found.item (At f.a) (At f.b) (At f.c) f.a f.b f.c (turn-of (At f.a) (At f.b) (At f.c) found.item found.passes) refl refl refl h.least
    ∙ ap Some (sym (facets-equal f (facet_on other f.a f.b f.c) refl refl refl (h.ab ∙ ab) (h.bc ∙ bc) (h.ca ∙ ca))))

module _ (base planned newest after : Net) (s : Standing base planned newest after) (c : Counted base planned newest after s) where
  -- over the edges of what is made and of what stays counts are those after
  made-on-each : (f : Facet) → is_in (gone planned base) (At f.a) (At f.b) (At f.c) ≡ true → (planned.count f.a f.b ≡ after.count f.a f.b) × ((planned.count f.b f.c ≡ after.count f.b f.c) × (planned.count f.c f.a ≡ after.count f.c f.a))
  made-on-each f e =
      let found = any-found (is_triangle (At f.a) (At f.b) (At f.c)) (gone planned base) e in
      let turn = turn-of (At f.a) (At f.b) (At f.c) found.item found.passes in
      let second = turn-next found.item (At f.a) (At f.b) (At f.c) turn in (
        c.made f.a f.b (record { third = At f.c; there = e }),
        (
          c.made f.b f.c (record { third = At f.a; there = turn-in (gone planned base) found.index found.item (At f.b) (At f.c) (At f.a) found.at second }),
          c.made f.c f.a (record { third = At f.b; there = turn-in (gone planned base) found.index found.item (At f.c) (At f.a) (At f.b) found.at (turn-next found.item (At f.b) (At f.c) (At f.a) second) }),
        ),
      )

  stays-on-each : (f : Facet) → is_in (without newest (gone base planned)) (At f.a) (At f.b) (At f.c) ≡ true
      → (newest.count f.a f.b ≡ after.count f.a f.b) × ((newest.count f.b f.c ≡ after.count f.b f.c) × (newest.count f.c f.a ≡ after.count f.c f.a))
  stays-on-each f e =
      let found = any-found (is_triangle (At f.a) (At f.b) (At f.c)) (without newest (gone base planned)) e in
      let turn = turn-of (At f.a) (At f.b) (At f.c) found.item found.passes in
      let second = turn-next found.item (At f.a) (At f.b) (At f.c) turn in (
        c.others f.a f.b (record { third = At f.c; there = e }),
        (
          c.others f.b f.c (record { third = At f.a; there = turn-in (without newest (gone base planned)) found.index found.item (At f.b) (At f.c) (At f.a) found.at second }),
          c.others f.c f.a (record { third = At f.b; there = turn-in (without newest (gone base planned)) found.index found.item (At f.c) (At f.a) (At f.b) found.at (turn-next found.item (At f.b) (At f.c) (At f.a) second) }),
        ),
      )

  in-after : (f : Facet) → (is_in (gone planned base) (At f.a) (At f.b) (At f.c) ≡ true) ⊎ (is_in (without newest (gone base planned)) (At f.a) (At f.b) (At f.c) ≡ true) → has after (At f.a) (At f.b) (At f.c) ≡ true
  in-after f h = ap (λ ts. is_in ts (At f.a) (At f.b) (At f.c)) s.triangles ∙ by h
    where
      by : (is_in (gone planned base) (At f.a) (At f.b) (At f.c) ≡ true) ⊎ (is_in (without newest (gone base planned)) (At f.a) (At f.b) (At f.c) ≡ true)
          → is_in (gone planned base ++ without newest (gone base planned)) (At f.a) (At f.b) (At f.c) ≡ true
      by (inl e) = list_any-append (is_triangle (At f.a) (At f.b) (At f.c)) (gone planned base) (without newest (gone base planned)) ∙ or_left (is_in (gone planned base) (At f.a) (At f.b) (At f.c)) (is_in (without newest (gone base planned)) (At f.a) (At f.b) (At f.c)) e
      by (inr e) = any-second (is_triangle (At f.a) (At f.b) (At f.c)) (gone planned base) (without newest (gone base planned)) e

  -- what is made
  pub made-facet : (f : Facet) → is_among (facets_of planned) f ≡ true → is_among (facets_of base) f ≡ false → is_among (facets_of after) f ≡ true
  made-facet f e none =
      let h = facet-in-net planned s.planned_sheet f e in
      let there = gone-in planned base h.index h.triangle (At f.a) (At f.b) (At f.c) f h.at h.turn h.is none in
      let each = made-on-each f there in
      facet-moved planned after f h (in-after f (inl there)) each.0 each.1.0 each.1.1

  -- what stays
  pub kept-facet : (f : Facet) → is_among (facets_of newest) f ≡ true → (is_among (facets_of base) f ≡ true → is_among (facets_of planned) f ≡ false → ⊥) → is_among (facets_of after) f ≡ true
  kept-facet f e stays = facet-moved newest after f h (in-after f (inr there)) (stays-on-each f there).0 (stays-on-each f there).1.0 (stays-on-each f there).1.1
    where
      h : FacetIn newest f
      h = facet-in-net newest s.newest_sheet f e

      not-gone-at : is_in (gone base planned) (At f.a) (At f.b) (At f.c) ≡ true → ⊥
      not-gone-at i =
          let g = gone-of base planned (At f.a) (At f.b) (At f.c) i in
          let its = turn-facet base g.triangle (At f.a) (At f.b) (At f.c) f.a f.b f.c g.turn refl refl refl h.least in
          let found = any-found (is_triangle (At f.a) (At f.b) (At f.c)) (gone base planned) i in
          let turn = turn-of (At f.a) (At f.b) (At f.c) found.item found.passes in
          let second = turn-next found.item (At f.a) (At f.b) (At f.c) turn in
          let ab : base.count f.a f.b ≡ newest.count f.a f.b = s.alike (At f.a) (At f.b) (At f.c) i in
          let bc : base.count f.b f.c ≡ newest.count f.b f.c = s.alike (At f.b) (At f.c) (At f.a) (turn-in (gone base planned) found.index found.item (At f.b) (At f.c) (At f.a) found.at second) in
          let ca : base.count f.c f.a ≡ newest.count f.c f.a = s.alike (At f.c) (At f.a) (At f.b) (turn-in (gone base planned) found.index found.item (At f.c) (At f.a) (At f.b) found.at (turn-next found.item (At f.b) (At f.c) (At f.a) second)) in
          let is : facet_on base f.a f.b f.c ≡ f = facets-equal (facet_on base f.a f.b f.c) f refl refl refl (ab ∙ sym h.ab) (bc ∙ sym h.bc) (ca ∙ sym h.ca) in
          let one : Some g.facet ≡ Some f = sym g.is ∙ its ∙ ap Some is in
          let same : g.facet ≡ f = cc in
          stays (subst (λ k. is_among (facets_of base) k ≡ true) same (facet-among base g.index g.triangle g.facet g.at g.is)) (subst (λ k. is_among (facets_of planned) k ≡ false) same g.none)

      there : is_in (without newest (gone base planned)) (At f.a) (At f.b) (At f.c) ≡ true
      there = by (is_in (gone base planned) (At f.a) (At f.b) (At f.c)) refl
        where
          by : (t : Bool) → is_in (gone base planned) (At f.a) (At f.b) (At f.c) ≡ t → is_in (without newest (gone base planned)) (At f.a) (At f.b) (At f.c) ≡ true
          by true i = absurd (not-gone-at i)
          by false i = without-in newest (gone base planned) h.index h.triangle (At f.a) (At f.b) (At f.c) h.at h.turn i

  -- and there is no other
  pub after-facet : (f : Facet) → is_among (facets_of after) f ≡ true
      → ((is_among (facets_of planned) f ≡ true) × (is_among (facets_of base) f ≡ false)) ⊎ ((is_among (facets_of newest) f ≡ true) × (is_among (facets_of base) f ≡ true → is_among (facets_of planned) f ≡ false → ⊥))
  after-facet f e =
      by (any-either (is_triangle (At f.a) (At f.b) (At f.c)) (gone planned base) (without newest (gone base planned)) (sym (ap (λ ts. is_in ts (At f.a) (At f.b) (At f.c)) s.triangles) ∙ turn-in after.triangles h.index h.triangle (At f.a) (At f.b) (At f.c) h.at h.turn))
    where
      h : FacetIn after f
      h = facet-in-net after (renewed base planned newest after s c).0 f e

      of-made : is_in (gone planned base) (At f.a) (At f.b) (At f.c) ≡ true → (is_among (facets_of planned) f ≡ true) × (is_among (facets_of base) f ≡ false)
      of-made i =
          let g = gone-of planned base (At f.a) (At f.b) (At f.c) i in
          let each = made-on-each f i in
          let its = turn-facet planned g.triangle (At f.a) (At f.b) (At f.c) f.a f.b f.c g.turn refl refl refl h.least in
          let is : facet_on planned f.a f.b f.c ≡ f = facets-equal (facet_on planned f.a f.b f.c) f refl refl refl (each.0 ∙ sym h.ab) (each.1.0 ∙ sym h.bc) (each.1.1 ∙ sym h.ca) in
          let one : Some g.facet ≡ Some f = sym g.is ∙ its ∙ ap Some is in
          let same : g.facet ≡ f = cc in
          (subst (λ k. is_among (facets_of planned) k ≡ true) same (facet-among planned g.index g.triangle g.facet g.at g.is), subst (λ k. is_among (facets_of base) k ≡ false) same g.none)

      of-newest : is_in (without newest (gone base planned)) (At f.a) (At f.b) (At f.c) ≡ true → (is_among (facets_of newest) f ≡ true) × (is_among (facets_of base) f ≡ true → is_among (facets_of planned) f ≡ false → ⊥)
      of-newest i = let each = stays-on-each f i in (facet-moved after newest f h w.there (sym each.0) (sym each.1.0) (sym each.1.1), not-destroyed)
        where
          w : Without newest (gone base planned) (At f.a) (At f.b) (At f.c)
          w = without-of newest (gone base planned) (At f.a) (At f.b) (At f.c) i

          not-destroyed : is_among (facets_of base) f ≡ true → is_among (facets_of planned) f ≡ false → ⊥
          not-destroyed there none =
              let g = facet-in-net base s.base_sheet f there in
              clash (is_in (gone base planned) (At f.a) (At f.b) (At f.c)) w.none (gone-in base planned g.index g.triangle (At f.a) (At f.b) (At f.c) f g.at g.turn g.is none)

      by : (is_in (gone planned base) (At f.a) (At f.b) (At f.c) ≡ true) ⊎ (is_in (without newest (gone base planned)) (At f.a) (At f.b) (At f.c) ≡ true)
          → ((is_among (facets_of planned) f ≡ true) × (is_among (facets_of base) f ≡ false)) ⊎ ((is_among (facets_of newest) f ≡ true) × (is_among (facets_of base) f ≡ true → is_among (facets_of planned) f ≡ false → ⊥))
      by (inl i) = inl (of-made i)
      by (inr i) = inr (of-newest i)
