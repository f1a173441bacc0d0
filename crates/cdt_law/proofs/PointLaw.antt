-- The facets that a point makes, where no line has it: just those that have it as a corner.
use Rattle.std.proofs.Common.{◌≡◌, ◌⊎◌, inl, inr, refl, sym, ap, subst, ◌∙◌, List, Bool, true, false, cond, Some, None}
use Rattle.std.specs.Prelude.{ℤ, not, ◌&&◌, ◌||◌, Option, is_some}
use Rattle.std.specs.List.{All, list_any, filter}
use Rattle.std.specs.Ordering.{eq_by_cmp}
use Rattle.std.specs.Cmp.{eq_by_cmp_equiv}
use Rattle.std.specs.FinMap as finmap
use Rattle.std.proofs.lemmas.Bool.{and_parts, and_from, both_ways as clash, or_cases, not_from_false}
use Rattle.ground_model.specs.declared.corner.Corner.TheVariants.{At}
use Rattle.ground_model.specs.declared.facet.Facet.{Facet}
use Rattle.ground_model.specs.declared.edit.Edit.TheVariants.{AddPoint, RemovePoint}
use Rattle.ground_model.specs.Place.{Coords, IsPlace, place_cmp, is_same}
use Rattle.ground_model.specs.Line.{Line, is_point, has_place}
use Rattle.ground_model.specs.Crossings.{is_on_points}
use Rattle.ground_model.specs.Content.{Content, after, points_of, lines_of}
use Rattle.ground_model.specs.Table.{count_on, pieces_by}
use Rattle.ground_model.specs.Tri.{tri, is_facet_of, is_facet_over}
use Rattle.ground_model.specs.Mark.{is_among, is_same_facet}
use Rattle.ground_model.specs.Zone.{destroyed, made}
use Rattle.ground_model.proofs.Elements.{In, both_true, any_gives, any_from, of_filter, in_filter, each_at, each_from}
use Rattle.ground_model.proofs.LinePieces.{is_same_itself, in_points, is_point_in}
use Rattle.ground_model.proofs.Ties.{same_of_is_same}
use Rattle.ground_model.proofs.Contents.{places_total}
use Rattle.ground_model.proofs.Members.{is_among-tri, same-facet}
use Rattle.ground_model.proofs.Planar.{is_point-keys, same_test, still_on}
use Rattle.cdt_law.specs.Point.{IsJoined, is_corner_of, PointLaw}
use Rattle.cdt_law.proofs.Counts.{CountsPieces}
use Rattle.cdt_law.proofs.GoodFacet.{site_by}
use Rattle.cdt_law.proofs.SheetFacets.{IsFacetOf, tested-of, tested-in}
use Rattle.cdt_law.proofs.FacetLaws.{content-counts, tri-test}
use Rattle.cdt_law.proofs.PiecesWithout.{other}
use Rattle.cdt_law.proofs.CountsWithout.{same-both, thinner}
use Rattle.cdt_law.proofs.ThinnerSites.{Amid, IsThinner, good-thinner, not-amid}
use Rattle.cdt_law.proofs.GoodTriangle.{Site, IsGood, good-turned}

-- ---- a facet that has not the corner
-- a facet of the site is one of the thinner site, which counts its edges as often
module _ (more fewer : Site) (c : Coords) (thin : IsThinner more fewer c) (at_c : is_point more.points c ≡ true) where
  thinner-facet : ((x : Coords) → is_point more.points x ≡ true → (c ≡ x → ⊥) → is_point fewer.points x ≡ true)
      → ((u v : Coords) → (u ≡ c → ⊥) → (v ≡ c → ⊥) → (Amid u v c → ⊥) → more.count u v ≡ fewer.count u v)
      → (f : Facet) → IsFacetOf more f → (c ≡ f.a → ⊥) → (c ≡ f.b → ⊥) → (c ≡ f.c → ⊥) → IsFacetOf fewer f
  thinner-facet others same f h not_a not_b not_c = record {
    at_a = others f.a h.at_a not_a;
    at_b = others f.b h.at_b not_b;
    at_c = others f.c h.at_c not_c;
    least = h.least;
    good = good-thinner more fewer c thin at_c f.a f.b f.c h.good not_a not_b not_c;
    ab = h.ab ∙ same f.a f.b (λ e. not_a (sym e)) (λ e. not_b (sym e)) (not-amid more fewer c thin at_c f.a f.b f.c h.good not_a not_b not_c);
    bc = h.bc ∙ same f.b f.c (λ e. not_b (sym e)) (λ e. not_c (sym e)) (not-amid more fewer c thin at_c f.b f.c f.a once not_b not_c not_a);
    ca = h.ca ∙ same f.c f.a (λ e. not_c (sym e)) (λ e. not_a (sym e)) (not-amid more fewer c thin at_c f.c f.a f.b (good-turned more (At f.b) (At f.c) (At f.a) once) not_c not_a not_b);
  }
    where
      once : IsGood more (At f.b) (At f.c) (At f.a)
      once = good-turned more (At f.a) (At f.b) (At f.c) h.good

not-same : (p x : Coords) → is_same p x ≡ false → p ≡ x → ⊥
not-same p x e f = clash (is_same p x) e (sym (ap (is_same p) f) ∙ is_same_itself p)

pub or_none : (x y : Bool) → (x || y) ≡ false → (x ≡ false) × (y ≡ false)
or_none false false e = (refl, refl)
or_none true y e = cc
or_none false true e = cc

-- over points of which the rest lacks p
module _ (points rest : List Coords) (p : Coords) (without : (x : Coords) → is_point rest x ≡ (is_point points x && not (is_same p x))) (at_p : is_point points p ≡ true) (lines : List Line)
    (on : (line : Line) → In line lines → is_on_points rest line ≡ true) (places : All IsPlace points) (c : CountsPieces points (count_on points lines)) (d : CountsPieces rest (count_on rest lines)) where
  kept-over : (f : Facet) → is_facet_over points (pieces_by (count_on points lines) points) f ≡ true → is_corner_of p f ≡ false → is_facet_over rest (pieces_by (count_on rest lines) rest) f ≡ true
  kept-over f e free = tested-in (count_on rest lines) rest d f
      (thinner-facet (site_by (count_on points lines) points) (site_by (count_on rest lines) rest) p (thinner points rest p without at_p lines on c d) at_p
      (λ x at differs. other points rest p without at_p x at (λ e. differs (sym e)))
      (λ u v not_u not_v not_amid. same-both points rest p without at_p lines u v not_u not_v not_amid)
      f (tested-of (count_on points lines) points c places f e) (not-same p f.a first.0) (not-same p f.b first.1) (not-same p f.c outer.1))
    where
      outer : ((is_same p f.a || is_same p f.b) ≡ false) × (is_same p f.c ≡ false)
      outer = or_none (is_same p f.a || is_same p f.b) (is_same p f.c) free

      first : (is_same p f.a ≡ false) × (is_same p f.b ≡ false)
      first = or_none (is_same p f.a) (is_same p f.b) outer.0

-- ---- the facets of one content that are none of the other
filter-among : (test : Facet → Bool) (fs : List Facet) (f : Facet) → is_among (filter test fs) f ≡ (is_among fs f && test f)
unfolding is_among
filter-among test fs f = both_true (list_any (is_same_facet f) (filter test fs)) (list_any (is_same_facet f) fs && test f) to from
  where
    to : list_any (is_same_facet f) (filter test fs) ≡ true → (list_any (is_same_facet f) fs && test f) ≡ true
    to e =
        let found = any_gives (is_same_facet f) (filter test fs) e in
        let of = of_filter test fs found.0 found.1 in
        and_from (list_any (is_same_facet f) fs) (test f) (any_from (is_same_facet f) fs found.0 of.0 found.2) (ap test (same-facet f found.0 found.2) ∙ of.1)

    from : (list_any (is_same_facet f) fs && test f) ≡ true → list_any (is_same_facet f) (filter test fs) ≡ true
    from e =
        let both = and_parts (list_any (is_same_facet f) fs) (test f) e in
        let found = any_gives (is_same_facet f) fs both.0 in
        any_from (is_same_facet f) (filter test fs) found.0 (in_filter test fs found.0 found.1 (sym (ap test (same-facet f found.0 found.2)) ∙ both.1)) found.2

-- where p is no point, no facet has it as a corner
no-corner : (c : Content) (p : Coords) → is_point (points_of c) p ≡ false → (f : Facet) → is_facet_of c f ≡ true → is_corner_of p f ≡ true → ⊥
unfolding is_facet_of
no-corner c p none f e corner =
    let e4 = and_parts (is_point (points_of c) f.a && is_point (points_of c) f.b && is_point (points_of c) f.c && _) _ e in
    let e3 = and_parts (is_point (points_of c) f.a && is_point (points_of c) f.b && is_point (points_of c) f.c) _ e4.0 in
    let e2 = and_parts (is_point (points_of c) f.a && is_point (points_of c) f.b) (is_point (points_of c) f.c) e3.0 in
    let e1 = and_parts (is_point (points_of c) f.a) (is_point (points_of c) f.b) e2.0 in
    by e1.0 e1.1 e2.1 (or_cases (is_same p f.a || is_same p f.b) (is_same p f.c) corner)
  where
    never : (x : Coords) → is_point (points_of c) x ≡ true → is_same p x ≡ true → ⊥
    never x at same = clash (is_point (points_of c) p) none (ap (is_point (points_of c)) (same_of_is_same p x same) ∙ at)

    by : is_point (points_of c) f.a ≡ true → is_point (points_of c) f.b ≡ true → is_point (points_of c) f.c ≡ true → ((is_same p f.a || is_same p f.b) ≡ true) ⊎ (is_same p f.c ≡ true) → ⊥
    by a b d (inr e) = never f.c d e
    by a b d (inl e) = two (or_cases (is_same p f.a) (is_same p f.b) e)
      where
        two : (is_same p f.a ≡ true) ⊎ (is_same p f.b ≡ true) → ⊥
        two (inl e) = never f.a a e
        two (inr e) = never f.b b e

only-corner : (more fewer : Content) (p : Coords) → ((f : Facet) → is_among (tri more) f ≡ true → is_corner_of p f ≡ false → is_facet_of fewer f ≡ true) → is_point (points_of fewer) p ≡ false
    → (f : Facet) → is_among (filter (λ f. not (is_facet_of fewer f)) (tri more)) f ≡ (is_among (tri more) f && is_corner_of p f)
only-corner more fewer p kept none f = filter-among (λ f. not (is_facet_of fewer f)) (tri more) f ∙ by (is_among (tri more) f) refl
  where
    test : is_among (tri more) f ≡ true → (s t : Bool) → is_facet_of fewer f ≡ s → is_corner_of p f ≡ t → not s ≡ t
    test e true true g h = absurd (no-corner fewer p none f g h)
    test e true false g h = refl
    test e false true g h = refl
    test e false false g h = absurd (clash (is_facet_of fewer f) g (kept f e h))

    by : (s : Bool) → is_among (tri more) f ≡ s → (s && not (is_facet_of fewer f)) ≡ (s && is_corner_of p f)
    by true e = test e (is_facet_of fewer f) (is_corner_of p f) refl refl
    by false e = refl

-- ---- a point added
pub added-points : (m : finmap.FinMap place_cmp ℤ) (p : Coords) (z : ℤ) → is_point (finmap.keys m) p ≡ false → (x : Coords) → is_point (finmap.keys m) x ≡ (is_point (finmap.keys (finmap.insert m p z)) x && not (is_same p x))
added-points m p z none x =
    is_point-keys m x ∙ one_more (eq_by_cmp place_cmp x p) (finmap.get m x) absent
    ∙ ap (λ k. k && not (eq_by_cmp place_cmp x p)) (sym (is_point-keys (finmap.insert m p z) x ∙ ap is_some (finmap.get-insert places_total m p z x)))
    ∙ ap (λ t. is_point (finmap.keys (finmap.insert m p z)) x && not t) ((eq_by_cmp_equiv places_total).symm x p ∙ same_test p x)
  where
    one_more : (t : Bool) (o : Option ℤ) → (t ≡ true → is_some o ≡ false) → is_some o ≡ (is_some (cond t (Some z) o) && not t)
    one_more true o h = h refl
    one_more false None h = refl
    one_more false (Some y) h = refl

    absent : eq_by_cmp place_cmp x p ≡ true → is_some (finmap.get m x) ≡ false
    absent e = sym (is_point-keys m x) ∙ ap (is_point (finmap.keys m)) (same_of_is_same x p (sym (same_test x p) ∙ e)) ∙ none

pub added-it : (m : finmap.FinMap place_cmp ℤ) (p : Coords) (z : ℤ) → is_point (finmap.keys (finmap.insert m p z)) p ≡ true
added-it m p z =
    is_point-keys (finmap.insert m p z) p ∙ ap is_some (finmap.get-insert places_total m p z p)
    ∙ ap (λ t. is_some (cond t (Some z) (finmap.get m p))) (same_test p p ∙ is_same_itself p)

pub added-places : (m : finmap.FinMap place_cmp ℤ) (p : Coords) (z : ℤ) → is_point (finmap.keys m) p ≡ false → All IsPlace (finmap.keys m) → IsPlace p → All IsPlace (finmap.keys (finmap.insert m p z))
added-places m p z none places place = each_from IsPlace (finmap.keys (finmap.insert m p z)) (λ x i. by x (is_same p x) refl (is_point_in (finmap.keys (finmap.insert m p z)) x i))
  where
    by : (x : Coords) (t : Bool) → is_same p x ≡ t → is_point (finmap.keys (finmap.insert m p z)) x ≡ true → IsPlace x
    by x true e at = subst IsPlace (same_of_is_same p x e) place
    by x false e at = each_at IsPlace (finmap.keys m) x places (in_points (finmap.keys m) x (added-points m p z none x ∙ and_from (is_point (finmap.keys (finmap.insert m p z)) x) (not (is_same p x)) at (not_from_false (is_same p x) e)))

added-kept : (c : Content) (p : Coords) (z : ℤ) → IsJoined c → IsPlace p → is_point (points_of c) p ≡ false → (f : Facet) → is_among (tri (after c (AddPoint p z))) f ≡ true → is_corner_of p f ≡ false → is_facet_of c f ≡ true
unfolding after
added-kept c p z joined place none f e free =
    sym (is_among-tri c f) ∙ tri-test c f
    ∙ kept-over (finmap.keys (finmap.insert c.points p z)) (points_of c) p (added-points c.points p z none) (added-it c.points p z) (lines_of c)
    (λ line i. each_at (λ line. is_on_points (points_of c) line ≡ true) (lines_of c) line joined.on_points i) (added-places c.points p z none joined.places place)
    (content-counts (after c (AddPoint p z))) (content-counts c) f (sym (tri-test (after c (AddPoint p z)) f) ∙ e) free

-- ---- a point removed
pub removed-points : (m : finmap.FinMap place_cmp ℤ) (p : Coords) (x : Coords) → is_point (finmap.keys (finmap.remove m p)) x ≡ (is_point (finmap.keys m) x && not (is_same p x))
removed-points m p x =
    is_point-keys (finmap.remove m p) x ∙ ap is_some (finmap.get-remove places_total m p x) ∙ one_less (eq_by_cmp place_cmp x p) (finmap.get m x)
    ∙ ap (λ t. is_some (finmap.get m x) && not t) ((eq_by_cmp_equiv places_total).symm x p ∙ same_test p x)
    ∙ ap (λ t. t && not (is_same p x)) (sym (is_point-keys m x))
  where
    one_less : (t : Bool) (o : Option ℤ) → is_some (cond t None o) ≡ (is_some o && not t)
    one_less true (Some z) = refl
    one_less true None = refl
    one_less false (Some z) = refl
    one_less false None = refl

removed-it : (m : finmap.FinMap place_cmp ℤ) (p : Coords) → is_point (finmap.keys (finmap.remove m p)) p ≡ false
removed-it m p = removed-points m p p ∙ ap (λ t. is_point (finmap.keys m) p && not t) (is_same_itself p) ∙ none (is_point (finmap.keys m) p)
  where
    none : (t : Bool) → (t && false) ≡ false
    none true = refl
    none false = refl

removed-kept : (c : Content) (p : Coords) → IsJoined c → is_point (points_of c) p ≡ true → All (λ line. has_place p line ≡ false) (lines_of c)
    → (f : Facet) → is_among (tri c) f ≡ true → is_corner_of p f ≡ false → is_facet_of (after c (RemovePoint p)) f ≡ true
unfolding after
removed-kept c p joined at_p unused f e free =
    sym (is_among-tri (after c (RemovePoint p)) f) ∙ tri-test (after c (RemovePoint p)) f
    ∙ kept-over (points_of c) (finmap.keys (finmap.remove c.points p)) p (removed-points c.points p) at_p (lines_of c) on joined.places
    (content-counts c) (content-counts (after c (RemovePoint p))) f (sym (tri-test c f) ∙ e) free
  where
    on : (line : Line) → In line (lines_of c) → is_on_points (finmap.keys (finmap.remove c.points p)) line ≡ true
    on line i = still_on c.points p line (each_at (λ line. is_on_points (points_of c) line ≡ true) (lines_of c) line joined.on_points i) (each_at (λ line. has_place p line ≡ false) (lines_of c) line unused i)

removed-none : (c : Content) (p : Coords) → is_point (points_of (after c (RemovePoint p))) p ≡ false
unfolding after
removed-none c p = removed-it c.points p

made-corner : (c : Content) (p : Coords) (z : ℤ) → IsJoined c → IsPlace p → is_point (points_of c) p ≡ false → (f : Facet) → is_among (made c (AddPoint p z)) f ≡ (is_among (tri (after c (AddPoint p z))) f && is_corner_of p f)
unfolding made
made-corner c p z joined place none f = only-corner (after c (AddPoint p z)) c p (added-kept c p z joined place none) none f

destroyed-corner : (c : Content) (p : Coords) → IsJoined c → is_point (points_of c) p ≡ true → All (λ line. has_place p line ≡ false) (lines_of c) → (f : Facet) → is_among (destroyed c (RemovePoint p)) f ≡ (is_among (tri c) f && is_corner_of p f)
unfolding destroyed
destroyed-corner c p joined at_p unused f = only-corner c (after c (RemovePoint p)) p (removed-kept c p joined at_p unused) (removed-none c p) f

pub point_law : PointLaw
point_law = record { added = made-corner; removed = destroyed-corner }
