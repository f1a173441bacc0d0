-- The points of a draft are those of the surface, and no triple clashes.
use Rattle.std.proofs.Common.{◌≡◌, Bool, true, false, ◌&&◌, ◌||◌, not, cond, List, [], ◌∷◌, ◌++◌, length, map, Option, None, Some, refl, sym, ◌∙◌, ap, subst, arith, ℤ, ◌+ℤ◌, ◌-ℤ◌}
use Rattle.std.proofs.lemmas.Int.{ints}
use Rattle.std.proofs.lemmas.List.{map-append}
use Rattle.std.proofs.lemmas.List.Sums.{length-filter}
use Rattle.std.specs.Prelude.{option_map, is_none, count_by}
use Rattle.std.specs.List.{find, filter, list_any}
use Rattle.ground_num.specs.declared.decimal.Thousandths.{Thousandths}
use Rattle.ground_num.specs.declared.head.Origin.{Origin}
use Rattle.ground_model.specs.Place.{Coords, is_same}
use Rattle.landxml_read.specs.declared.raw.Triple.{Triple}
use Rattle.landxml_surface.specs.Drafts.{point_of}
use Rattle.landxml_surface.specs.Heights.{is_same_spot, spot_of, level_at, Marked, marked_after, marked, has_level, is_clash, heights}
use Rattle.landxml_surface.specs.Origins.{from_origin}
use Rattle.landxml_write.specs.Exports.{Vertex}
use Rattle.document_law.specs.Drafts.{level_in, AreOnce, AreSamePoints}
use Rattle.document_law.proofs.Holds.{Site, site_of}
use Rattle.document_law.proofs.Sites.{site_in}
use Rattle.document_law.proofs.Seen.{int_test, triple_in, same_moved, spot_back, AreKnown, level_front, known_level, fresh, find_level, fresh_levels, SpotsOnce, fresh_once}

-- the points, as they are seen from the origin

abbrev number : Option Thousandths → Option ℤ
number o = option_map (λ (z : Thousandths). z.0) o

-- a first triple as a point
abbrev seen_from : Origin → Marked → Vertex
seen_from origin m = (from_origin origin (spot_of m.0), m.0.z.0)

moved_levels : (origin : Origin) (ms : List Marked) (p : Coords) → level_in (map (seen_from origin) ms) p ≡ number (find_level ms (triple_in origin p))
moved_levels origin [] p = refl
moved_levels origin (m ∷ ms) p =
    ap (λ t. option_map (λ (v : Vertex). v.1) (cond t (Some (seen_from origin m)) (find (λ (v : Vertex). is_same p v.0) (map (seen_from origin) ms)))) (same_moved origin p m.0)
    ∙ by (is_same_spot (spot_of (triple_in origin p)) (spot_of m.0)) (moved_levels origin ms p)
  where
    by : (b : Bool) → level_in (map (seen_from origin) ms) p ≡ number (find_level ms (triple_in origin p))
        → option_map (λ (v : Vertex). v.1) (cond b (Some (seen_from origin m)) (find (λ (v : Vertex). is_same p v.0) (map (seen_from origin) ms))) ≡ number (option_map (λ (m : Marked). m.0.z) (cond b (Some m) (find (λ m. is_same_spot (spot_of (triple_in origin p)) (spot_of m.0)) ms)))
    by true e = refl
    by false e = e

spot_forth : (origin : Origin) (q : Triple) → spot_of (triple_in origin (from_origin origin (spot_of q))) ≡ spot_of q
spot_forth origin q =
    let n : (q.n.0 -ℤ origin.n.0) +ℤ origin.n.0 ≡ q.n.0 = omega (arith, ints) in
    let e : (q.e.0 -ℤ origin.e.0) +ℤ origin.e.0 ≡ q.e.0 = omega (arith, ints) in
    λ i. record { n = n i; e = e i }

moved_once : (origin : Origin) (ms : List Marked) → SpotsOnce ms → AreOnce (map (seen_from origin) ms)
moved_once origin [] once = tt
moved_once origin (m ∷ ms) once = (
  moved_levels origin ms (from_origin origin (spot_of m.0)) ∙ ap (λ s. number (option_map (λ (m : Marked). m.0.z) (find (λ (m : Marked). is_same_spot s (spot_of m.0)) ms))) (spot_forth origin m.0) ∙ ap number once.0,
  moved_once origin ms once.1,
)

-- a point of each place is written
abbrev pub is_written : List Site → Triple → Bool
is_written ss q = list_any (λ s. is_same_spot (spot_of q) (record { n = s.0; e = s.1 })) ss

none_written : (ts : List Triple) (q : Triple) → level_at ts (spot_of q) ≡ None → is_written (map site_of ts) q ≡ false
none_written [] q e = refl
none_written (t ∷ ts) q e = by (is_same_spot (spot_of q) (spot_of t)) (sym (level_front t ts q) ∙ e) (none_written ts q)
  where
    by : (b : Bool) → cond b (Some t.z) (level_at ts (spot_of q)) ≡ None → (level_at ts (spot_of q) ≡ None → is_written (map site_of ts) q ≡ false) → (b || is_written (map site_of ts) q) ≡ false
    by true e again = cc
    by false e again = again e

absent : (origin : Origin) (vs : List Vertex) (p : Coords) → is_written (map (site_in origin) vs) (triple_in origin p) ≡ false → level_in vs p ≡ None
absent origin [] p e = refl
absent origin (v ∷ vs) p e =
    let test : is_same p v.0 ≡ is_same_spot (spot_of (triple_in origin p)) (spot_of (triple_in origin v.0)) = ap (is_same p) (sym (spot_back origin v.0)) ∙ same_moved origin p (triple_in origin v.0) in
    ap (λ t. option_map (λ (v : Vertex). v.1) (cond t (Some v) (find (λ (v : Vertex). is_same p v.0) vs))) test ∙ by (is_same_spot (spot_of (triple_in origin p)) (spot_of (triple_in origin v.0))) e (absent origin vs p)
  where
    by : (b : Bool) → (b || is_written (map (site_in origin) vs) (triple_in origin p)) ≡ false → (is_written (map (site_in origin) vs) (triple_in origin p) ≡ false → level_in vs p ≡ None)
        → option_map (λ (v : Vertex). v.1) (cond b (Some v) (find (λ (v : Vertex). is_same p v.0) vs)) ≡ None
    by true e again = cc
    by false e again = again e

-- all that is written stands at points with their levels, and each point is written
pub record AreAll (origin : Origin) (points : List Vertex) (ts : List Triple) : Type 0 where
  pub known : AreKnown origin points (map site_of ts)
  pub written : (q : Triple) → is_written (map site_of ts) q ≡ false → is_written (map (site_in origin) points) q ≡ false

levels_are : (origin : Origin) (points : List Vertex) (ts : List Triple) → AreAll origin points ts → (p : Coords) → number (level_at ts (spot_of (triple_in origin p))) ≡ level_in points p
levels_are origin points ts all p = by (level_at ts (spot_of (triple_in origin p))) refl
  where
    by : (o : Option Thousandths) → level_at ts (spot_of (triple_in origin p)) ≡ o → number (level_at ts (spot_of (triple_in origin p))) ≡ level_in points p
    by None e = ap number e ∙ sym (absent origin points p (all.written (triple_in origin p) (none_written ts (triple_in origin p) e)))
    by (Some z) e = ap number e ∙ sym (sym (ap (level_in points) (spot_back origin p)) ∙ known_level origin points ts (triple_in origin p) z all.known e)

points_are : (origin : Origin) (ms : List Marked) → map (point_of origin) (map (λ (m : Marked). (spot_of m.0, m.0.z)) ms) ≡ map (seen_from origin) ms
points_are origin [] = refl
points_are origin (m ∷ ms) = ap (λ vs. seen_from origin m ∷ vs) (points_are origin ms)

pub same_points : (origin : Origin) (points : List Vertex) (ts : List Triple) → AreAll origin points ts → AreOnce points → AreSamePoints (map (point_of origin) (heights ts)) points
unfolding marked
same_points origin points ts all once =
    let P : List Vertex → Type 0 = λ vs. AreSamePoints vs points in
    subst P (sym (points_are origin (fresh [] ts))) (record {
      levels = λ p. moved_levels origin (fresh [] ts) p ∙ ap number (fresh_levels [] ts (triple_in origin p)) ∙ levels_are origin points ts all p;
      once = moved_once origin (fresh [] ts) (fresh_once [] ts);
      others_once = once;
    })

-- no triple has another level than the first at its place

pub known_more : (origin : Origin) (points : List Vertex) (xs ys : List Site) → AreKnown origin points xs → AreKnown origin points ys → AreKnown origin points (xs ++ ys)
known_more origin points [] ys a b = b
known_more origin points (x ∷ xs) ys a b = (a.0, known_more origin points xs ys a.1 b)

no_clashes : (origin : Origin) (points : List Vertex) (earlier ts : List Triple) → AreKnown origin points (map site_of earlier) → AreKnown origin points (map site_of ts) → filter is_clash (marked_after earlier ts) ≡ []
no_clashes origin points earlier [] before known = refl
no_clashes origin points earlier (t ∷ ts) before known =
    let P : List Site → Type 0 = AreKnown origin points in
    let rest = no_clashes origin points (earlier ++ t ∷ []) ts (subst P (sym (map-append site_of earlier (t ∷ []))) (known_more origin points (map site_of earlier) (site_of t ∷ []) before (known.0, tt))) known.1 in
    ap (λ c. cond c ((t, level_at earlier (spot_of t)) ∷ filter is_clash (marked_after (earlier ++ t ∷ []) ts)) (filter is_clash (marked_after (earlier ++ t ∷ []) ts))) (by (level_at earlier (spot_of t)) refl) ∙ rest
  where
    some : (y z : ℤ) → Some y ≡ Some z → y ≡ z
    some y z e = cc

    clash : Option Thousandths → Bool
    clash o = not (is_none o) && not (has_level o t.z)

    by : (o : Option Thousandths) → level_at earlier (spot_of t) ≡ o → clash (level_at earlier (spot_of t)) ≡ false
    by None e = ap clash e
    by (Some y) e =
        let level = known_level origin points earlier t y before e in
        ap clash e ∙ ap not (int_test y.0 t.z.0 (some y.0 t.z.0 (sym level ∙ known.0)))

pub no_clash : (origin : Origin) (points : List Vertex) (ts : List Triple) → AreKnown origin points (map site_of ts) → count_by is_clash (marked ts) ≡ 0
unfolding marked
no_clash origin points ts known = sym (length-filter is_clash (marked_after [] ts)) ∙ ap length (no_clashes origin points [] ts tt known)
