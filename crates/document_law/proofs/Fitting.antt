-- The numbers of a surveyed surface are within the limits of a document's.
use Rattle.std.proofs.Common.{◌≡◌, ℕ, suc, ◌+◌, ◌<◌, ◌≤◌, ◌^◌, Bool, true, false, ◌&&◌, ◌||◌, not, cond, List, [], ◌∷◌, length, map, Some, refl, sym, ◌∙◌, ap, subst, arith, ℤ, pos, negsuc}
use Rattle.std.proofs.lemmas.Int.{ints}
use Rattle.std.proofs.lemmas.List.Folds.{list_all-append}
use Rattle.std.specs.Prelude.{All, slice_get, option_map, unwrap_or}
use Rattle.std.specs.List.{list_all, find, prefix_len}
use Rattle.ground_num.specs.declared.head.Origin.{Origin}
use Rattle.ground_num.specs.Decimal.{IsWithin}
use Rattle.ground_num.specs.Spelling.{number_limit}
use Rattle.ground_model.specs.declared.line.LineKind.{LineKind}
use Rattle.ground_model.specs.declared.line.LineKind.TheVariants as lines
use Rattle.ground_model.specs.Kind.{least_places}
use Rattle.ground_model.specs.Place.{Coords, IsLevel, is_same}
use Rattle.ground_model.specs.Line.{Line}
use Rattle.ground_model.proofs.Ties.{same_of_is_same}
use Rattle.landxml_read.proofs.Bytes.{both, and_is}
use Rattle.landxml_write.specs.Exports.{Vertex, Face, Exported, is_vertex}
use Rattle.landxml_write.specs.Text.{level_at, id_of, closed}
use Rattle.document_law.specs.Surveyed.{IsWritable, IsWholeLine, IsSurveyed}
use Rattle.document_law.specs.Drafts.{level_in}
use Rattle.document_law.proofs.Sites.{site_in, site_at, IsFit, AreFit}
use Rattle.document_law.proofs.Lines.{AreFitLines}
use Rattle.document_law.proofs.Triangles.{AreFitFaces}
use Rattle.document_law.proofs.Whole.{IsFitExport}

pub all_first : {X : Type 0} (P : X → Type 0) (x : X) (xs : List X) → All P (x ∷ xs) → P x
all_first P x xs all = all 0 x (omega arith)

pub all_rest : {X : Type 0} (P : X → Type 0) (x : X) (xs : List X) → All P (x ∷ xs) → All P xs
all_rest P x xs all = λ k d less. all (suc k) d (omega (arith, less))

level_fits : (z : ℤ) → IsLevel z → IsWithin number_limit z
level_fits (pos n) is = let high = is.high in omega (arith, ints, high)
level_fits (negsuc n) is = let low = is.low in omega (arith, ints, low)

pub point_fits : (origin : Origin) (v : Vertex) → IsWritable origin v → IsFit (site_in origin v)
point_fits origin v is = record { n = is.n; e = is.e; z = level_fits v.1 is.level }

pub points_fit : (origin : Origin) (vs : List Vertex) → All (IsWritable origin) vs → AreFit (map (site_in origin) vs)
points_fit origin [] all = tt
points_fit origin (v ∷ vs) all = (point_fits origin v (all_first (IsWritable origin) v vs all), points_fit origin vs (all_rest (IsWritable origin) v vs all))

-- the point at a place
pub record PointAt (origin : Origin) (points : List Vertex) (p : Coords) : Type 0 where
  pub level : ℤ
  pub found : level_in points p ≡ Some level
  pub writable : IsWritable origin (p, level)

pub point_at : (origin : Origin) (points : List Vertex) (p : Coords) → All (IsWritable origin) points → is_vertex points p ≡ true → PointAt origin points p
point_at origin [] p all is = cc
point_at origin (v ∷ vs) p all is = by (is_same p v.0) refl is (λ there. point_at origin vs p (all_rest (IsWritable origin) v vs all) there)
  where
    by : (t : Bool) → is_same p v.0 ≡ t → (t || is_vertex vs p) ≡ true → (is_vertex vs p ≡ true → PointAt origin vs p) → PointAt origin (v ∷ vs) p
    by true e is again =
        let same : p ≡ v.0 = same_of_is_same p v.0 e in
        let P : Coords → Type 0 = λ q. IsWritable origin (q, v.1) in
        record { level = v.1; found = ap (λ t. option_map (λ (v : Vertex). v.1) (cond t (Some v) (find (λ (v : Vertex). is_same p v.0) vs))) e; writable = subst P (sym same) (all_first (IsWritable origin) v vs all) }
    by false e is again =
        let rest = again is in
        record { level = rest.level; found = ap (λ t. option_map (λ (v : Vertex). v.1) (cond t (Some v) (find (λ (v : Vertex). is_same p v.0) vs))) e ∙ rest.found; writable = rest.writable }

-- its level is what is written
pub level_written : (origin : Origin) (points : List Vertex) (p : Coords) (a : PointAt origin points p) → level_at points p ≡ a.level
level_written origin points p a = ap (λ o. unwrap_or o (pos 0)) a.found

place_fits : (e : Exported) → All (IsWritable e.head.origin) e.points → (p : Coords) → is_vertex e.points p ≡ true → IsFit (site_at e p)
place_fits e all p is =
    let a = point_at e.head.origin e.points p all is in
    let P : ℤ → Type 0 = λ z. IsFit (site_in e.head.origin (p, z)) in
    subst P (sym (level_written e.head.origin e.points p a)) (point_fits e.head.origin (p, a.level) a.writable)

places_fit : (e : Exported) → All (IsWritable e.head.origin) e.points → (ps : List Coords) → list_all (is_vertex e.points) ps ≡ true → AreFit (map (site_at e) ps)
places_fit e all [] is = tt
places_fit e all (p ∷ ps) is = let h = both (is_vertex e.points p) (list_all (is_vertex e.points) ps) is in (place_fits e all p h.0, places_fit e all ps h.1)

-- the places of a closed ring are points
pub closed_there : (test : Coords → Bool) (places : List Coords) → list_all test places ≡ true → list_all test (closed places) ≡ true
closed_there test [] is = refl
closed_there test (p ∷ ps) is =
    let h = both (test p) (list_all test ps) is in
    list_all-append test (p ∷ ps) (p ∷ []) ∙ and_is (list_all test (p ∷ ps)) (test p && true) is (and_is (test p) true h.0 refl)

-- lines over points alone
abbrev pub AreOverPoints : List Vertex → List Line → Type 0
AreOverPoints points [] = Unit {0}
AreOverPoints points (l ∷ ls) = (list_all (is_vertex points) l.places ≡ true) × AreOverPoints points ls

pub over_points : (points : List Vertex) (ls : List Line) → ((k : ℕ) (l : Line) → slice_get ls k ≡ Some l → list_all (is_vertex points) l.places ≡ true) → AreOverPoints points ls
over_points points [] all = tt
over_points points (l ∷ ls) all = (all 0 l refl, over_points points ls (λ k m e. all (suc k) m e))

some_places : (kind : LineKind) (n : ℕ) → least_places kind ≤ n → 0 < n
some_places lines.Breakline n h = omega (arith, h)
some_places lines.Outer n h = omega (arith, h)
some_places lines.Void n h = omega (arith, h)
some_places lines.Island n h = omega (arith, h)

lines_fit : (e : Exported) → All (IsWritable e.head.origin) e.points → (ls : List Line) → All IsWholeLine ls → AreOverPoints e.points ls → AreFitLines e ls
lines_fit e all [] whole over = tt
lines_fit e all (l ∷ ls) whole over = (
  record {
    some = some_places l.kind (length l.places) (all_first IsWholeLine l ls whole).enough;
    ring = places_fit e all (closed l.places) (closed_there (is_vertex e.points) l.places over.0);
    breakline = places_fit e all l.places over.0;
  },
  lines_fit e all ls (all_rest IsWholeLine l ls whole) over.1,
)

-- ids are counted no farther than the points

pub prefix_within : {X : Type 0} (test : X → Bool) (xs : List X) → prefix_len test xs ≤ length xs
prefix_within test [] = omega arith
prefix_within test (x ∷ xs) = by (test x) (prefix_within test xs)
  where
    by : (t : Bool) → prefix_len test xs ≤ length xs → cond t (1 + prefix_len test xs) 0 ≤ length (x ∷ xs)
    by true h = omega (arith, h)
    by false h = omega arith

id_small : (points : List Vertex) (p : Coords) → length points < 2 ^ 32 → id_of points p < 2 ^ 64
id_small points p few = let h = prefix_within (λ (v : Vertex). not (is_same p v.0)) points in omega (arith, h, few)

faces_fit : (points : List Vertex) (fs : List Face) → length points < 2 ^ 32 → AreFitFaces points fs
faces_fit points [] few = tt
faces_fit points (f ∷ fs) few = (record { a = id_small points f.0.a few; b = id_small points f.0.b few; c = id_small points f.0.c few }, faces_fit points fs few)

pub fits : (e : Exported) → IsSurveyed e → IsFitExport e
fits e is =
    let few = is.few in
    record {
      name = is.name;
      few = omega (arith, few);
      points = points_fit e.head.origin e.points is.points;
      lines = lines_fit e is.points e.lines is.lines (over_points e.points e.lines is.lawful.places);
      faces = faces_fit e.points e.faces few;
    }
