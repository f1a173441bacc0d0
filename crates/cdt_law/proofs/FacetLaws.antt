-- The facets of a locally Delaunay sheet are those of its content, and two such sheets have the same.
use Rattle.std.proofs.Common.{◌≡◌, ℕ, zero, suc, ◌<◌, refl, sym, ap, subst, ◌∙◌, arith, Bool, true, false}
use Rattle.std.specs.Prelude.{if◌then◌else◌}
use Rattle.ground_model.specs.declared.corner.Corner.TheVariants.{At}
use Rattle.ground_model.specs.declared.facet.Facet.{Facet}
use Rattle.ground_model.specs.Place.{Coords, is_before}
use Rattle.ground_model.specs.Line.{Line, has_piece}
use Rattle.ground_model.specs.Table.{count_on, pieces_on, pieces_by}
use Rattle.ground_model.specs.Mark.{is_among}
use Rattle.ground_model.specs.Content.{Content, points_of, lines_of, count, pieces}
use Rattle.ground_model.specs.Tri.{tri, is_facet_of, is_facet_over}
use Rattle.ground_model.specs.Corner.{corner_at, corner_side}
use Rattle.ground_model.proofs.Elements.{both_true, any_gives, some_counted}
use Rattle.ground_model.proofs.LinePieces.{IsPiece, piece_of, is_point_in}
use Rattle.ground_model.proofs.Members.{is_among-facets, is_among-tri}
use Rattle.ground_model.proofs.Along.{same_place}
use Rattle.predicates.specs.Net.{Net, facets_of, tri_of, net_over}
use Rattle.predicates.specs.Sheet.{IsSheet}
use Rattle.cdt_law.specs.Laws.{FacetLaw, UniqueLaw, AreOverOne, NetLaw}
use Rattle.cdt_law.proofs.GoodTriangle.{Site}
use Rattle.cdt_law.proofs.GoodInSheet.{site_of, sheet-site}
use Rattle.cdt_law.proofs.Counts.{CountsPieces, both_ways, both-then, both-else}
use Rattle.predicates.proofs.Tiling.{left-of}
use Rattle.predicates.proofs.Owners.{owner, turn-side}
use Rattle.cdt_law.proofs.GoodFacet.{site_by}
use Rattle.cdt_law.proofs.SheetFacets.{IsFacetOf, facet-of, facet-in, tested-of, tested-in}
use Rattle.predicates.proofs.Signs.{never-level}
use Rattle.predicates.proofs.FlatSides.{flat_ab}

-- ---- the counts of a content
piece-counted : (c : Content) (p q : Coords) → 0 < count c p q → (line : Line) × IsPiece (points_of c) line p q
unfolding count_on
piece-counted c p q some =
    let found = any_gives (λ line. has_piece (points_of c) line p q) (lines_of c) (some_counted (λ line. has_piece (points_of c) line p q) (lines_of c) some) in
    (found.0, piece_of (points_of c) found.0 p q found.2)

pub content-counts : (c : Content) → CountsPieces (points_of c) (count c)
content-counts c = record {
  ordered = λ p q some. (piece-counted c p q some).1.before;
  first = λ p q some. is_point_in (points_of c) p (piece-counted c p q some).1.first;
  last = λ p q some. is_point_in (points_of c) q (piece-counted c p q some).1.last;
}

pieces-are : (c : Content) → pieces c ≡ pieces_by (count c) (points_of c)
unfolding pieces_on
pieces-are c = refl

pub tri-test : (c : Content) (f : Facet) → is_among (tri c) f ≡ is_facet_over (points_of c) (pieces_by (count c) (points_of c)) f
unfolding is_facet_of
tri-test c f = is_among-tri c f ∙ ap (λ ps. is_facet_over (points_of c) ps f) (pieces-are c)

pub facet_law : FacetLaw
facet_law c triangles sheet local f =
    both_true (is_among (facets_of (net_over c triangles)) f) (is_among (tri c) f)
    (λ e. tri-test c f ∙ tested-in (count c) (points_of c) (content-counts c) f (facet-of (net_over c triangles) sheet local f e))
    (λ e. facet-in (net_over c triangles) sheet local f (tested-of (count c) (points_of c) (content-counts c) sheet.places f (sym (tri-test c f) ∙ e)))

-- ---- two sheets
same-site : (net other : Net) → AreOverOne net other → site_of net ≡ site_of other
same-site net other o = λ i. record { points = o.points i; count = λ p q. o.count p q i }

pub unique_law : UniqueLaw
unique_law net other sheet local sheet' local' o f =
    both_true (is_among (facets_of net) f) (is_among (facets_of other) f)
    (λ e. facet-in other sheet' local' f (subst (λ (s : Site). IsFacetOf s f) (same-site net other o) (facet-of net sheet local f e)))
    (λ e. facet-in net sheet local f (subst (λ (s : Site). IsFacetOf s f) (sym (same-site net other o)) (facet-of other sheet' local' f e)))

-- ---- a net by itself
-- the count of a net, from each point to the later ones
abbrev pub later_count : Net → Coords → Coords → ℕ
later_count net p q = if is_before p q then net.count p q else 0

-- no piece begins and ends at one place
no_loop : (net : Net) → IsSheet net → (p : Coords) (n : ℕ) → net.count p p ≡ n → n ≡ 0
no_loop net sheet p zero e = refl
no_loop net sheet p (suc n) e =
    let o = owner net (At p) (At p) (sheet.pieces p p (omega (arith, e))) in
    absurd (never-level (corner_side (At p) (At p) o.third) (turn-side o.triangle (At p) (At p) o.third o.turn (left-of net sheet o.index o.triangle o.at)) (flat_ab p p (corner_at o.third) refl))

later-counts : (net : Net) → IsSheet net → CountsPieces net.points (later_count net)
later-counts net sheet = record {
  ordered = λ p q some. (parts p q (is_before p q) refl some).0;
  first = λ p q some. (sheet-site net sheet).ends p q (parts p q (is_before p q) refl some).1;
  last = λ p q some. (sheet-site net sheet).ends q p (swapped (net.count q p) (net.count p q) (sheet.even q p) (parts p q (is_before p q) refl some).1);
}
  where
    swapped : (m n : ℕ) → m ≡ n → 0 < n → 0 < m
    swapped m n e h = omega (arith, e, h)

    parts : (p q : Coords) (t : Bool) → is_before p q ≡ t → 0 < (if is_before p q then net.count p q else 0) → (is_before p q ≡ true) × (0 < net.count p q)
    parts p q true e some = (e, swapped (net.count p q) (if is_before p q then net.count p q else 0) (sym (ap (λ (k : Bool). if k then net.count p q else 0) e)) some)
    parts p q false e some = absurd (none (if is_before p q then net.count p q else 0) (ap (λ (k : Bool). if k then net.count p q else 0) e) some)
      where
        none : (m : ℕ) → m ≡ 0 → 0 < m → ⊥
        none m e h = omega (arith, e, h)

later-both : (net : Net) → IsSheet net → (p q : Coords) → both_ways (later_count net) p q ≡ net.count p q
later-both net sheet p q = by (is_before p q) (is_before q p) refl refl
  where
    later : (x y : Coords) → is_before x y ≡ true → later_count net x y ≡ net.count x y
    later x y e = ap (λ (k : Bool). if k then net.count x y else 0) e

    by : (t u : Bool) → is_before p q ≡ t → is_before q p ≡ u → both_ways (later_count net) p q ≡ net.count p q
    by true u e f = both-then (later_count net) p q e ∙ later p q e
    by false true e f = both-else (later_count net) p q e ∙ later q p f ∙ sheet.even q p
    by false false e f =
        let same = same_place p q e f in
        both-else (later_count net) p q e ∙ ap (λ (k : Bool). if k then net.count q p else 0) f ∙ sym (no_loop net sheet p (net.count p p) refl) ∙ ap (net.count p) same

net-site : (net : Net) → IsSheet net → site_by (later_count net) net.points ≡ site_of net
net-site net sheet = λ i. record { points = net.points; count = λ p q. later-both net sheet p q i }

pub net_law : NetLaw
net_law net sheet local f =
    both_true (is_among (facets_of net) f) (is_among (tri_of net) f)
    (λ e. is_among-facets net.points (pieces_by (later_count net) net.points) f
    ∙ tested-in (later_count net) net.points (later-counts net sheet) f (subst (λ (s : Site). IsFacetOf s f) (sym (net-site net sheet)) (facet-of net sheet local f e)))
    (λ e. facet-in net sheet local f (subst (λ (s : Site). IsFacetOf s f) (net-site net sheet)
    (tested-of (later_count net) net.points (later-counts net sheet) sheet.places f (sym (is_among-facets net.points (pieces_by (later_count net) net.points) f) ∙ e))))
