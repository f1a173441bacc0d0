-- The faces of a draft are the facets that were written.
use Rattle.std.proofs.Common.{◌≡◌, ℕ, suc, ◌+◌, ◌<◌, ◌≤◌, ◌^◌, Bool, true, false, ◌&&◌, ◌||◌, not, cond, List, [], ◌∷◌, ◌++◌, length, map, flat_map, Some, refl, sym, ◌∙◌, ap, subst, arith, ℤ}
use Rattle.std.proofs.lemmas.Fmt.{decimal_is_IsNumeral}
use Rattle.std.proofs.lemmas.List.Folds.{list_any-append}
use Rattle.std.proofs.lemmas.Slice.Eq.{bytes_eq-Decides}
use Rattle.std.specs.Prelude.{slice_get, option_map, option_and_then, bytes_eq}
use Rattle.std.specs.List.{find, filter_map, cons_option, position_or_len, prefix_len}
use Rattle.std.specs.Fmt.{decimal}
use Rattle.std.specs.Str.Parse.{digits_value}
use Rattle.ground_num.specs.declared.head.Origin.{Origin}
use Rattle.ground_model.specs.Place.{Coords, is_same}
use Rattle.ground_model.proofs.Ties.{same_of_is_same}
use Rattle.landxml_read.specs.declared.fault.DocCause.TheVariants.{Id, Face as FaceCause}
use Rattle.landxml_read.specs.declared.raw.RawFace.{RawFace}
use Rattle.landxml_read.specs.declared.raw.RawId.{RawId}
use Rattle.landxml_read.specs.declared.raw.RawSurface.{RawSurface}
use Rattle.landxml_read.specs.declared.raw.Triple.{Triple}
use Rattle.landxml_surface.specs.Drafts.{corner_place, three, face_of}
use Rattle.landxml_surface.specs.Faults.{when, id_faults, face_faults}
use Rattle.landxml_surface.specs.Heights.{spot_of}
use Rattle.landxml_surface.specs.Ids.{triple_of, is_id}
use Rattle.landxml_surface.specs.Origins.{from_origin}
use Rattle.landxml_write.specs.Exports.{Vertex, Face, is_vertex}
use Rattle.landxml_write.specs.Text.{id_of}
use Rattle.document_law.specs.Drafts.{corners}
use Rattle.document_law.proofs.Holds.{Corners, corners_of, site_of, AreIds}
use Rattle.document_law.proofs.Fitting.{prefix_within}
use Rattle.document_law.proofs.Sites.{site_in}
use Rattle.document_law.proofs.Sketches.{tagged}
use Rattle.document_law.proofs.Triangles.{ids_of}
use Rattle.document_law.proofs.Seen.{spot_back}
use Rattle.document_law.proofs.Drawn.{triple_seen}

-- texts of numbers

itself : (text : List ℕ) → bytes_eq text text ≡ true
itself text = (bytes_eq-Decides text text).1 refl

apart : (m n : ℕ) → m < 2 ^ 64 → n < m → bytes_eq (decimal m) (decimal n) ≡ false
apart m n small less = by (bytes_eq (decimal m) (decimal n)) refl
  where
    by : (t : Bool) → bytes_eq (decimal m) (decimal n) ≡ t → bytes_eq (decimal m) (decimal n) ≡ false
    by false e = e
    by true e =
        let same = ap (digits_value 10) ((bytes_eq-Decides (decimal m) (decimal n)).0 e) in
        let a = (decimal_is_IsNumeral m small).1 in
        let b = (decimal_is_IsNumeral n (omega (arith, small, less))).1 in
        absurd (omega (arith, same, a, b, less))

-- ids

-- none of the earlier ids is one from this number on
abbrev AreBelow : ℕ → List RawId → Type 0
AreBelow n earlier = (m : ℕ) → n ≤ m → m < 2 ^ 64 → is_id earlier (decimal m) ≡ false

below_more : (n : ℕ) (earlier : List RawId) (r : RawId) → r.id ≡ decimal n → AreBelow n earlier → AreBelow (n + 1) (earlier ++ r ∷ [])
below_more n earlier r e below m more small =
    list_any-append (λ (i : RawId). bytes_eq (decimal m) i.id) earlier (r ∷ [])
    ∙ (λ i. below m (omega (arith, more)) small i || (bytes_eq (decimal m) (e i) || false))
    ∙ ap (λ t. t || false) (apart m n small (omega (arith, more)))

pub ids_apart : (origin : Origin) (ts : List Triple) (n : ℕ) (earlier rs : List RawId) (vs : List Vertex) → AreIds ts rs (tagged origin n vs) → n + length vs < 2 ^ 64 → AreBelow n earlier → id_faults earlier rs ≡ []
ids_apart origin ts n earlier [] [] are small below = refl
ids_apart origin ts n earlier [] (v ∷ vs) are small below = absurd are
ids_apart origin ts n earlier (r ∷ rs) [] are small below = absurd are
ids_apart origin ts n earlier (r ∷ rs) (v ∷ vs) are small below =
    let rest = ids_apart origin ts (n + 1) (earlier ++ r ∷ []) rs vs are.1 (omega (arith, small)) (below_more n earlier r are.0.id below) in
    (λ i. when ((ap (is_id earlier) are.0.id ∙ below n (omega arith) (omega (arith, small))) i) r.at Id ++ id_faults (earlier ++ r ∷ []) rs) ∙ rest

-- the triple of the id of a point

record IsFound (origin : Origin) (ts : List Triple) (rs : List RawId) (p : Coords) (name : List ℕ) : Type 0 where
  triple : ℕ
  level : ℤ
  found : triple_of rs name ≡ Some triple
  site : option_map site_of (slice_get ts triple) ≡ Some (site_in origin (p, level))

found_id : (origin : Origin) (ts : List Triple) (n k : ℕ) (rs : List RawId) (vs : List Vertex) (p : Coords) → AreIds ts rs (tagged origin n vs) → is_vertex vs p ≡ true → n + length vs < 2 ^ 64 → k ≡ position_or_len (λ (v : Vertex). is_same p v.0) vs + n
    → IsFound origin ts rs p (decimal k)
found_id origin ts n k [] [] p are there small e = cc
found_id origin ts n k [] (v ∷ vs) p are there small e = absurd are
found_id origin ts n k (r ∷ rs) [] p are there small e = cc
found_id origin ts n k (r ∷ rs) (v ∷ vs) p are there small e =
    by (is_same p v.0) refl there e (λ rest q. found_id origin ts (n + 1) k rs vs p are.1 rest (omega (arith, small)) q)
  where
    before : ℕ
    before = prefix_len (λ (v : Vertex). not (is_same p v.0)) vs

    by : (t : Bool) → is_same p v.0 ≡ t → (t || is_vertex vs p) ≡ true → k ≡ cond (not (is_same p v.0)) (1 + before) 0 + n → (is_vertex vs p ≡ true → k ≡ before + (n + 1) → IsFound origin ts rs p (decimal k))
        → IsFound origin ts (r ∷ rs) p (decimal k)
    by true same there e again =
        let here : k ≡ n = e ∙ ap (λ t. cond (not t) (1 + before) 0 + n) same ∙ omega arith in
        let test : bytes_eq (decimal k) r.id ≡ true = ap (λ j. bytes_eq (decimal j) r.id) here ∙ ap (bytes_eq (decimal n)) are.0.id ∙ itself (decimal n) in
        record {
          triple = r.triple;
          level = v.1;
          found = ap (λ t. option_map (λ (i : RawId). i.triple) (cond t (Some r) (find (λ (i : RawId). bytes_eq (decimal k) i.id) rs))) test;
          site = are.0.site ∙ ap (λ q. Some (site_in origin (q, v.1))) (sym (same_of_is_same p v.0 same));
        }
    by false same there e again =
        let later : k ≡ before + (n + 1) = e ∙ ap (λ t. cond (not t) (1 + before) 0 + n) same ∙ omega arith in
        let rest = again there later in
        let most : before ≤ length vs = prefix_within (λ (v : Vertex). not (is_same p v.0)) vs in
        let test : bytes_eq (decimal k) r.id ≡ false = ap (bytes_eq (decimal k)) are.0.id ∙ apart k n (omega (arith, later, most, small)) (omega (arith, later)) in
        record { triple = rest.triple; level = rest.level; found = ap (λ t. option_map (λ (i : RawId). i.triple) (cond t (Some r) (find (λ (i : RawId). bytes_eq (decimal k) i.id) rs))) test ∙ rest.found; site = rest.site }

found_corner : (origin : Origin) (ts : List Triple) (rs : List RawId) (vs : List Vertex) (p : Coords) → AreIds ts rs (tagged origin 1 vs) → is_vertex vs p ≡ true → length vs < 2 ^ 32 → IsFound origin ts rs p (decimal (id_of vs p))
found_corner origin ts rs vs p are there few = found_id origin ts 1 (id_of vs p) rs vs p are there (omega (arith, few)) refl

found_place : (origin : Origin) (s : RawSurface) (p : Coords) (name : List ℕ) → IsFound origin s.triples s.ids p name → corner_place origin s name ≡ Some p
found_place origin s p name f =
    ap (λ o. option_map (from_origin origin) (option_map spot_of (option_and_then (slice_get s.triples) o))) f.found
    ∙ triple_seen origin (slice_get s.triples f.triple) (site_in origin (p, f.level)) f.site ∙ ap Some (spot_back origin p)

any_found : (rs : List RawId) (name : List ℕ) (k : ℕ) → triple_of rs name ≡ Some k → is_id rs name ≡ true
any_found [] name k e = cc
any_found (r ∷ rs) name k e = by (bytes_eq name r.id) e (any_found rs name k)
  where
    by : (t : Bool) → option_map (λ (i : RawId). i.triple) (cond t (Some r) (find (λ (i : RawId). bytes_eq name i.id) rs)) ≡ Some k → (triple_of rs name ≡ Some k → is_id rs name ≡ true) → (t || is_id rs name) ≡ true
    by true e again = refl
    by false e again = again e

-- faces

-- facets over points alone
abbrev pub AreFaced : List Vertex → List Face → Type 0
AreFaced points [] = Unit {0}
AreFaced points (f ∷ fs) = ((is_vertex points f.0.a ≡ true) × (is_vertex points f.0.b ≡ true) × (is_vertex points f.0.c ≡ true)) × AreFaced points fs

pub faced : (points : List Vertex) (fs : List Face) → ((k : ℕ) (f : Face) → slice_get fs k ≡ Some f → is_vertex points f.0.a ≡ true) → ((k : ℕ) (f : Face) → slice_get fs k ≡ Some f → is_vertex points f.0.b ≡ true)
    → ((k : ℕ) (f : Face) → slice_get fs k ≡ Some f → is_vertex points f.0.c ≡ true) → AreFaced points fs
faced points [] a b c = tt
faced points (f ∷ fs) a b c = ((a 0 f refl, b 0 f refl, c 0 f refl), faced points fs (λ k g e. a (suc k) g e) (λ k g e. b (suc k) g e) (λ k g e. c (suc k) g e))

record IsFaced (origin : Origin) (s : RawSurface) (r : RawFace) (f : Face) : Type 0 where
  place : face_of origin s r ≡ Some (corners f)
  faultless : face_faults s.ids r ≡ []

one_faced : (origin : Origin) (s : RawSurface) (points : List Vertex) (r : RawFace) (f : Face) → AreIds s.triples s.ids (tagged origin 1 points) → length points < 2 ^ 32
    → (is_vertex points f.0.a ≡ true) × (is_vertex points f.0.b ≡ true) × (is_vertex points f.0.c ≡ true) → corners_of r ≡ ids_of points f → IsFaced origin s r f
unfolding face_of
one_faced origin s points r f are few there e =
    let a = found_corner origin s.triples s.ids points f.0.a are there.0 few in
    let b = found_corner origin s.triples s.ids points f.0.b are there.1 few in
    let c = found_corner origin s.triples s.ids points f.0.c are there.2 few in
    let P : Corners → Type 0 = λ x. three (corner_place origin s x.0) (corner_place origin s x.1) (corner_place origin s x.2) ≡ Some (corners f) in
    let Q : Corners → Type 0 = λ x. when (not (is_id s.ids x.0 && is_id s.ids x.1 && is_id s.ids x.2)) r.at FaceCause ≡ [] in
    record {
      place = subst P (sym e) (λ i. three (found_place origin s f.0.a _ a i) (found_place origin s f.0.b _ b i) (found_place origin s f.0.c _ c i));
      faultless = subst Q (sym e) (λ i. when (not (any_found s.ids _ a.triple a.found i && any_found s.ids _ b.triple b.found i && any_found s.ids _ c.triple c.found i)) r.at FaceCause);
    }

pub all_faced : (origin : Origin) (s : RawSurface) (points : List Vertex) (rs : List RawFace) (fs : List Face) → AreIds s.triples s.ids (tagged origin 1 points) → length points < 2 ^ 32 → AreFaced points fs → map corners_of rs ≡ map (ids_of points) fs
    → (filter_map (face_of origin s) rs ≡ map corners fs) × (flat_map (face_faults s.ids) rs ≡ [])
all_faced origin s points [] [] are few there e = (refl, refl)
all_faced origin s points [] (f ∷ fs) are few there e = cc
all_faced origin s points (r ∷ rs) [] are few there e = cc
all_faced origin s points (r ∷ rs) (f ∷ fs) are few there e =
    let first : corners_of r ≡ ids_of points f = cc in
    let others : map corners_of rs ≡ map (ids_of points) fs = cc in
    let one = one_faced origin s points r f are few there.0 first in
    let rest = all_faced origin s points rs fs are few there.1 others in
    (λ i. cons_option (one.place i) (rest.0 i), λ i. one.faultless i ++ rest.1 i)
