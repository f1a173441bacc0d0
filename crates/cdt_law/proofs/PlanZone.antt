-- What a plan's zone tells: a newer net still has what the edit destroys at the base and what is beside that.
use Rattle.std.proofs.Common.{◌≡◌, inl, refl, sym, ap, subst, ◌∙◌, List, [], ◌∷◌, Bool, true, false}
use Rattle.std.specs.Prelude.{length, not, ◌&&◌, ◌||◌, map, nat_eq}
use Rattle.std.specs.List.{list_any}
use Rattle.std.proofs.lemmas.Bool.{and_from, or_left, or_right, not_from_false}
use Rattle.ground_model.specs.declared.corner.Corner.{Corner}
use Rattle.ground_model.specs.declared.corner.Corner.TheVariants.{At}
use Rattle.ground_model.specs.declared.facet.Facet.{Facet}
use Rattle.ground_model.specs.declared.mark.Mark.TheVariants.{Tri}
use Rattle.ground_model.specs.Place.{Coords, is_same}
use Rattle.ground_model.specs.Content.{Content, after}
use Rattle.ground_model.specs.Tri.{tri, is_facet_of}
use Rattle.ground_model.specs.Mark.{is_among, is_same_facet, is_same_edge, share_edge, edges}
use Rattle.ground_model.specs.Zone.{zone, destroyed, made, shaken, planned_facets, planned_point}
use Rattle.ground_model.specs.Answer.{is_there}
use Rattle.ground_model.proofs.Elements.{In, any_gives, any_from, none_at, of_filter, in_filter, in_map, in_second, each_at}
use Rattle.ground_model.proofs.LinePieces.{is_same_itself}
use Rattle.ground_model.proofs.Members.{is_among-tri, same-facet, facet-itself}
use Rattle.predicates.specs.Net.{Net, has, facets_of, count_of}
use Rattle.predicates.specs.Sheet.{IsSheet}
use Rattle.predicates.proofs.HasTriangles.{has-owner}
use Rattle.predicates.proofs.Owners.{IsTurn}
use Rattle.predicates.proofs.OneOwner.{one_on_edge}
use Rattle.cdt_law.specs.Laws.{has_edge}
use Rattle.cdt_law.specs.Patch.{is_in}
use Rattle.cdt_law.specs.Boundary.{gone, IsInner}
use Rattle.cdt_law.specs.Enclose.{HasGone}
use Rattle.cdt_law.specs.Stale.{IsUnchanged}
use Rattle.cdt_law.specs.EdgeCounts.{CountAlike}
use Rattle.cdt_law.specs.Plans.{Plan, HasMeshes, Stands, base_net, planned_net, newest_net, is_met, is_on_hull, is_hull_plan}
use Rattle.cdt_law.proofs.PointLaw.{or_none}
use Rattle.cdt_law.proofs.FacetLaws.{facet_law}
use Rattle.cdt_law.proofs.GoneFacets.{places-of, some-facet, facet-among, facet-there, Gone, gone-of}
use Rattle.cdt_law.proofs.FacetEdges.{edge-in, edge-of, triangle-at, facet-counts, gone-facet}

-- ---- facets of a list
pub among-in : (fs : List Facet) (f : Facet) → is_among fs f ≡ true → In f fs
unfolding is_among
among-in fs f e = let found = any_gives (is_same_facet f) fs e in subst (λ k. In k fs) (sym (same-facet f found.0 found.2)) found.1

pub in-among : (fs : List Facet) (f : Facet) → In f fs → is_among fs f ≡ true
unfolding is_among
in-among fs f i = any_from (is_same_facet f) fs f i (facet-itself f)

not-off : (x : Bool) → not x ≡ false → x ≡ true
not-off true e = refl
not-off false e = cc

-- the plan is no hull plan
record Inner (plan : Plan) : Type 0 where
  some : nat_eq (length (planned_facets plan.base plan.edit)) 0 ≡ false
  before : list_any (is_on_hull (tri plan.base)) (destroyed plan.base plan.edit) ≡ false
  planned : list_any (is_on_hull (tri (after plan.base plan.edit))) (made plan.base plan.edit) ≡ false

inner-of : (plan : Plan) → Stands plan → Inner plan
unfolding is_hull_plan
inner-of plan s =
    let outer = or_none (nat_eq (length (planned_facets plan.base plan.edit)) 0 || list_any (is_on_hull (tri plan.base)) (destroyed plan.base plan.edit)) (list_any (is_on_hull (tri (after plan.base plan.edit))) (made plan.base plan.edit)) s.inner in
    let first = or_none (nat_eq (length (planned_facets plan.base plan.edit)) 0) (list_any (is_on_hull (tri plan.base)) (destroyed plan.base plan.edit)) outer.0 in
    record { some = first.0; before = first.1; planned = outer.1 }

-- an edge of a facet that is not on the hull has a triangle beyond it
met : (c : Content) (net : Net) → IsSheet net → ((f : Facet) → is_among (facets_of net) f ≡ is_among (tri c) f) → (f : Facet) → is_on_hull (tri c) f ≡ false → (p q : Coords) → In (p, q) (edges f) → (r : Coords) × (has net (At q) (At p) (At r) ≡ true)
met c net sheet facets f off p q i =
    let beyond = not-off (is_met (tri c) (p, q)) (none_at (λ x. not (is_met (tri c) x)) (edges f) (p, q) off i) in
    let g = any_gives (λ g. has_edge g q p) (tri c) beyond in
    triangle-at net sheet g.0 (facets g.0 ∙ in-among (tri c) g.0 g.1) q p (edge-of g.0 q p g.2)

module _ (plan : Plan) (m : HasMeshes plan) (s : Stands plan) where
  pub facets-base : (f : Facet) → is_among (facets_of (base_net plan)) f ≡ is_among (tri plan.base) f
  facets-base f = facet_law plan.base plan.before m.before.sheet m.before.local f

  pub facets-planned : (f : Facet) → is_among (facets_of (planned_net plan)) f ≡ is_among (tri (after plan.base plan.edit)) f
  facets-planned f = facet_law (after plan.base plan.edit) plan.planned m.planned.sheet m.planned.local f

  pub facets-newest : (f : Facet) → is_among (facets_of (newest_net plan)) f ≡ is_among (tri plan.newest) f
  facets-newest f = facet_law plan.newest plan.now m.now.sheet m.now.local f

  -- ---- what is destroyed, and what is made
  pub destroyed-in : (f : Facet) → is_among (facets_of (base_net plan)) f ≡ true → is_among (facets_of (planned_net plan)) f ≡ false → In f (destroyed plan.base plan.edit)
  unfolding destroyed
  destroyed-in f e none =
      in_filter (λ f. not (is_facet_of (after plan.base plan.edit) f)) (tri plan.base) f (among-in (tri plan.base) f (sym (facets-base f) ∙ e))
      (not_from_false (is_facet_of (after plan.base plan.edit) f) (sym (is_among-tri (after plan.base plan.edit) f) ∙ sym (facets-planned f) ∙ none))

  pub made-in : (f : Facet) → is_among (facets_of (planned_net plan)) f ≡ true → is_among (facets_of (base_net plan)) f ≡ false → In f (made plan.base plan.edit)
  unfolding made
  made-in f e none =
      in_filter (λ f. not (is_facet_of plan.base f)) (tri (after plan.base plan.edit)) f (among-in (tri (after plan.base plan.edit)) f (sym (facets-planned f) ∙ e))
      (not_from_false (is_facet_of plan.base f) (sym (is_among-tri plan.base f) ∙ sym (facets-base f) ∙ none))

  pub of-destroyed : (f : Facet) → In f (destroyed plan.base plan.edit) → (is_among (facets_of (base_net plan)) f ≡ true) × (is_among (facets_of (planned_net plan)) f ≡ false)
  unfolding destroyed
  of-destroyed f i =
      let kept = of_filter (λ f. not (is_facet_of (after plan.base plan.edit) f)) (tri plan.base) f i in
      (facets-base f ∙ in-among (tri plan.base) f kept.0, facets-planned f ∙ is_among-tri (after plan.base plan.edit) f ∙ off (is_facet_of (after plan.base plan.edit) f) kept.1)
    where
      off : (x : Bool) → not x ≡ true → x ≡ false
      off true e = cc
      off false e = refl

  pub of-made : (f : Facet) → In f (made plan.base plan.edit) → (is_among (facets_of (planned_net plan)) f ≡ true) × (is_among (facets_of (base_net plan)) f ≡ false)
  unfolding made
  of-made f i =
      let kept = of_filter (λ f. not (is_facet_of plan.base f)) (tri (after plan.base plan.edit)) f i in
      (facets-planned f ∙ in-among (tri (after plan.base plan.edit)) f kept.0, facets-base f ∙ is_among-tri plan.base f ∙ off (is_facet_of plan.base f) kept.1)
    where
      off : (x : Bool) → not x ≡ true → x ≡ false
      off true e = cc
      off false e = refl

  -- ---- the hull
  pub inner-base : IsInner (base_net plan) (planned_net plan)
  inner-base a b c e =
      let g = gone-of (base_net plan) (planned_net plan) a b c e in
      let ps = places-of (base_net plan) g.triangle a b c g.facet g.turn g.is in
      let turn : IsTurn g.triangle (At ps.p) (At ps.q) c = subst (λ v. IsTurn g.triangle (At ps.p) v c) ps.second (subst (λ v. IsTurn g.triangle v b c) ps.first g.turn) in
      let there = destroyed-in g.facet (facet-among (base_net plan) g.index g.triangle g.facet g.at g.is) g.none in
      let off = none_at (is_on_hull (tri plan.base)) (destroyed plan.base plan.edit) g.facet (inner-of plan s).before there in
      let r = met plan.base (base_net plan) m.before.sheet facets-base g.facet off ps.p ps.q (edge-in (base_net plan) m.before.sheet g.index g.triangle g.facet g.at g.is ps.p ps.q c turn) in
      record { third = r.0; there = (λ i. has (base_net plan) (ps.second i) (ps.first i) (At r.0)) ∙ r.1 }

  pub inner-planned : IsInner (planned_net plan) (base_net plan)
  inner-planned a b c e =
      let g = gone-of (planned_net plan) (base_net plan) a b c e in
      let ps = places-of (planned_net plan) g.triangle a b c g.facet g.turn g.is in
      let turn : IsTurn g.triangle (At ps.p) (At ps.q) c = subst (λ v. IsTurn g.triangle (At ps.p) v c) ps.second (subst (λ v. IsTurn g.triangle v b c) ps.first g.turn) in
      let there = made-in g.facet (facet-among (planned_net plan) g.index g.triangle g.facet g.at g.is) g.none in
      let off = none_at (is_on_hull (tri (after plan.base plan.edit))) (made plan.base plan.edit) g.facet (inner-of plan s).planned there in
      let r = met (after plan.base plan.edit) (planned_net plan) m.planned.sheet facets-planned g.facet off ps.p ps.q (edge-in (planned_net plan) m.planned.sheet g.index g.triangle g.facet g.at g.is ps.p ps.q c turn) in
      record { third = r.0; there = (λ i. has (planned_net plan) (ps.second i) (ps.first i) (At r.0)) ∙ r.1 }

  -- ---- the zone
  module _ (facets_planned : planned_facets plan.base plan.edit ≡ shaken plan.base plan.edit) where
    -- it destroys something
    pub some-gone : HasGone (base_net plan) (planned_net plan)
    unfolding shaken
    some-gone = by (planned_facets plan.base plan.edit) (inner-of plan s).some refl
      where
        of-shaken : (f : Facet) → In f (shaken plan.base plan.edit) → HasGone (base_net plan) (planned_net plan)
        of-shaken f i =
            let near = (of_filter (λ f. list_any (λ g. is_same_facet f g || share_edge f g) (destroyed plan.base plan.edit)) (tri plan.base) f i).1 in
            let g = any_gives (λ g. is_same_facet f g || share_edge f g) (destroyed plan.base plan.edit) near in
            let each = of-destroyed g.0 g.1 in
            gone-facet (base_net plan) (planned_net plan) m.before.sheet g.0 each.0 each.1

        by : (fs : List Facet) → nat_eq (length fs) 0 ≡ false → planned_facets plan.base plan.edit ≡ fs → HasGone (base_net plan) (planned_net plan)
        by [] e h = cc
        by (f ∷ fs) e h = of-shaken f (subst (λ gs. In f gs) (sym h ∙ facets_planned) (inl refl))

    in-zone : (f : Facet) → In f (shaken plan.base plan.edit) → is_among (facets_of (newest_net plan)) f ≡ true
    unfolding zone
    in-zone f i =
        facets-newest f ∙ is_among-tri plan.newest f
        ∙ each_at (λ x. is_there plan.newest x ≡ true) (zone plan.base plan.edit) (Tri f) s.there
        (in_second (planned_point plan.edit) (map Tri (planned_facets plan.base plan.edit)) (Tri f) (in_map Tri (planned_facets plan.base plan.edit) f (subst (λ fs. In f fs) (sym facets_planned) i)))

    shaken-by : (f g : Facet) → is_among (facets_of (base_net plan)) f ≡ true → In g (destroyed plan.base plan.edit) → (is_same_facet f g || share_edge f g) ≡ true → In f (shaken plan.base plan.edit)
    unfolding shaken
    shaken-by f g e i near =
        in_filter (λ f. list_any (λ g. is_same_facet f g || share_edge f g) (destroyed plan.base plan.edit)) (tri plan.base) f (among-in (tri plan.base) f (sym (facets-base f) ∙ e))
        (any_from (λ g. is_same_facet f g || share_edge f g) (destroyed plan.base plan.edit) g i near)

    share : (f g : Facet) (p q : Coords) → In (q, p) (edges f) → In (p, q) (edges g) → share_edge f g ≡ true
    unfolding share_edge
    share f g p q i j =
        any_from (λ x. list_any (is_same_edge x) (edges g)) (edges f) (q, p) i
        (any_from (is_same_edge (q, p)) (edges g) (p, q) j
        (or_right (is_same q p && is_same p q) (is_same q q && is_same p p) (and_from (is_same q q) (is_same p p) (is_same_itself q) (is_same_itself p))))

    -- a destroyed facet is among the newest
    gone-newest : (a b c : Corner) (g : Gone (base_net plan) (planned_net plan) a b c) → is_among (facets_of (newest_net plan)) g.facet ≡ true
    gone-newest a b c g =
        let e = facet-among (base_net plan) g.index g.triangle g.facet g.at g.is in
        in-zone g.facet (shaken-by g.facet g.facet e (destroyed-in g.facet e g.none) (or_left (is_same_facet g.facet g.facet) (share_edge g.facet g.facet) (facet-itself g.facet)))

    still : (a b c : Corner) → is_in (gone (base_net plan) (planned_net plan)) a b c ≡ true → has (newest_net plan) a b c ≡ true
    still a b c e =
        let g = gone-of (base_net plan) (planned_net plan) a b c e in
        (facet-there (base_net plan) (newest_net plan) m.before.sheet m.now.sheet g.index g.triangle a b c g.facet g.at g.turn g.is (gone-newest a b c g)).there

    -- and so is one beside it
    still-beside : (a b c d : Corner) → is_in (gone (base_net plan) (planned_net plan)) a b c ≡ true → has (base_net plan) b a d ≡ true → has (newest_net plan) b a d ≡ true
    still-beside a b c d e there =
        let g = gone-of (base_net plan) (planned_net plan) a b c e in
        let ps = places-of (base_net plan) g.triangle a b c g.facet g.turn g.is in
        let turn : IsTurn g.triangle (At ps.p) (At ps.q) c = subst (λ v. IsTurn g.triangle (At ps.p) v c) ps.second (subst (λ v. IsTurn g.triangle v b c) ps.first g.turn) in
        let r = inner-base a b c e in
        let o = has-owner (base_net plan) b a (At r.third) r.there in
        let turn_o : IsTurn o.owner.triangle b a (At r.third) = subst (λ w. IsTurn o.owner.triangle b a w) o.third o.owner.turn in
        let turn_p : IsTurn o.owner.triangle (At ps.q) (At ps.p) (At r.third) = subst (λ v. IsTurn o.owner.triangle (At ps.q) v (At r.third)) ps.first (subst (λ v. IsTurn o.owner.triangle v a (At r.third)) ps.second turn_o) in
        let f = some-facet (base_net plan) o.owner.triangle b a (At r.third) ps.q ps.p r.third turn_o ps.second ps.first refl in
        let f_in = facet-among (base_net plan) o.owner.index o.owner.triangle f.0 o.owner.at f.1 in
        let shared = share f.0 g.facet ps.p ps.q (edge-in (base_net plan) m.before.sheet o.owner.index o.owner.triangle f.0 o.owner.at f.1 ps.q ps.p (At r.third) turn_p)
        (edge-in (base_net plan) m.before.sheet g.index g.triangle g.facet g.at g.is ps.p ps.q c turn) in
        let among = in-zone f.0 (shaken-by f.0 g.facet f_in (destroyed-in g.facet (facet-among (base_net plan) g.index g.triangle g.facet g.at g.is) g.none) (or_right (is_same_facet f.0 g.facet) (share_edge f.0 g.facet) shared)) in
        ap (has (newest_net plan) b a) (one_on_edge (base_net plan) m.before.sheet b a d (At r.third) there r.there)
        ∙ (facet-there (base_net plan) (newest_net plan) m.before.sheet m.now.sheet o.owner.index o.owner.triangle b a (At r.third) f.0 o.owner.at turn_o f.1 among).there

    pub unchanged : IsUnchanged (base_net plan) (planned_net plan) (newest_net plan)
    unchanged = record { destroyed = still; beside = still-beside }

    pub alike : CountAlike (base_net plan) (newest_net plan) (base_net plan) (planned_net plan)
    alike a b c e =
        let g = gone-of (base_net plan) (planned_net plan) a b c e in
        let ps = places-of (base_net plan) g.triangle a b c g.facet g.turn g.is in
        let turn : IsTurn g.triangle (At ps.p) (At ps.q) c = subst (λ v. IsTurn g.triangle (At ps.p) v c) ps.second (subst (λ v. IsTurn g.triangle v b c) ps.first g.turn) in
        (λ i. count_of (base_net plan) (ps.first i) (ps.second i))
        ∙ facet-counts (base_net plan) (newest_net plan) m.before.sheet m.now.sheet g.facet (facet-among (base_net plan) g.index g.triangle g.facet g.at g.is) (gone-newest a b c g) ps.p ps.q
        (edge-in (base_net plan) m.before.sheet g.index g.triangle g.facet g.at g.is ps.p ps.q c turn)
        ∙ (λ i. count_of (newest_net plan) (sym ps.first i) (sym ps.second i))
