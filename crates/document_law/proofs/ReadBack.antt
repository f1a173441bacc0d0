-- What is written of a surveyed surface is read back as the same surface.
use Rattle.std.proofs.Common.{◌≡◌, ℕ, suc, ◌≤◌, ◌^◌, Bool, true, false, not, nat_lt, cond, List, [], ◌∷◌, ◌++◌, map, flat_map, Option, Some, refl, sym, ◌∙◌, ap, subst, arith, ℤ, pos, negsuc, neg_ℤ, ◌-ℤ◌, unsigned_abs}
use Rattle.std.proofs.lemmas.Int.{ints}
use Rattle.std.proofs.lemmas.Bool.Decides.{nat_tests}
use Rattle.std.proofs.lemmas.List.{append-nil}
use Rattle.std.specs.Prelude.{All, option_map, count_by, ◌≤ℤ◌}
use Rattle.std.specs.List.{find, filter}
use Rattle.ground_num.specs.declared.head.Origin.{Origin}
use Rattle.ground_model.specs.Place.{Coords, is_same}
use Rattle.ground_model.proofs.Ties.{same_of_is_same}
use Rattle.landxml_read.specs.declared.fault.DocCause.TheVariants.{Range}
use Rattle.landxml_read.specs.declared.raw.RawLine.{RawLine}
use Rattle.landxml_read.specs.declared.raw.RawSurface.{RawSurface}
use Rattle.landxml_read.specs.declared.raw.Triple.{Triple}
use Rattle.landxml_surface.specs.declared.origin.OriginRule.TheVariants.{Given}
use Rattle.landxml_surface.specs.Drafts.{draft_of, document_faults, is_short}
use Rattle.landxml_surface.specs.Faults.{when, range_faults, pair_faults, surface_faults, least_of}
use Rattle.landxml_write.specs.Exports.{Vertex, Exported}
use Rattle.document_law.specs.Drafts.{level_in, IsSameSurface}
use Rattle.document_law.specs.Surveyed.{IsWritable, IsSurveyed}
use Rattle.document_law.specs.Law.{DocumentLaw}
use Rattle.document_law.proofs.Holds.{site_of, IsSketched}
use Rattle.document_law.proofs.Sketches.{final_sketch}
use Rattle.document_law.proofs.Whole.{whole_read, document_lists, document_is_read}
use Rattle.document_law.proofs.Fitting.{all_first, all_rest, fits}
use Rattle.document_law.proofs.Seen.{AreKnown}
use Rattle.document_law.proofs.SamePoints.{same_points, no_clash}
use Rattle.document_law.proofs.Known.{once, all_written}
use Rattle.document_law.proofs.Drawn.{all_drawn, all_kept, none_left_out, seen}
use Rattle.document_law.proofs.Faced.{ids_apart, faced, all_faced}

-- no number is outside its limit

writable_at : (origin : Origin) (points : List Vertex) (p : Coords) (z : ℤ) → All (IsWritable origin) points → level_in points p ≡ Some z → IsWritable origin (p, z)
writable_at origin [] p z all e = cc
writable_at origin (v ∷ vs) p z all e = by (is_same p v.0) refl e (writable_at origin vs p z (all_rest (IsWritable origin) v vs all))
  where
    by : (t : Bool) → is_same p v.0 ≡ t → option_map (λ (v : Vertex). v.1) (cond t (Some v) (find (λ (v : Vertex). is_same p v.0) vs)) ≡ Some z → (level_in vs p ≡ Some z → IsWritable origin (p, z)) → IsWritable origin (p, z)
    by true same e again =
        let P : Coords → Type 0 = λ q. IsWritable origin (q, z) in
        let Q : ℤ → Type 0 = λ y. IsWritable origin (v.0, y) in
        let level : v.1 ≡ z = cc in
        subst P (sym (same_of_is_same p v.0 same)) (subst Q level (all_first (IsWritable origin) v vs all))
    by false same e again = again e

not_over : (limit : ℕ) (x : ℤ) → neg_ℤ (pos limit) ≤ℤ x → x ≤ℤ pos limit → nat_lt limit (unsigned_abs x) ≡ false
not_over limit (pos n) low high = let h : n ≤ limit = omega (arith, ints, high) in grind (arith, nat_tests, h)
not_over limit (negsuc n) low high = let h : suc n ≤ limit = omega (arith, ints, low) in grind (arith, nat_tests, h)

in_range : (origin : Origin) (points : List Vertex) (ts : List Triple) → All (IsWritable origin) points → AreKnown origin points (map site_of ts) → flat_map (range_faults origin) ts ≡ []
in_range origin points [] all known = refl
in_range origin points (t ∷ ts) all known =
    let w = writable_at origin points (seen origin (site_of t)) t.z.0 all known.0 in
    let rest = in_range origin points ts all known.1 in
    let n = not_over (2 ^ 29) (t.n.0 -ℤ origin.n.0) w.place.south w.place.north in
    let e = not_over (2 ^ 29) (t.e.0 -ℤ origin.e.0) w.place.west w.place.east in
    let z = not_over (2 ^ 26) t.z.0 w.level.low w.level.high in
    λ i. (when (n i) t.n_at Range ++ (when (e i) t.e_at Range ++ when (z i) t.z_at Range)) ++ rest i

-- the one draft

-- what is known of the surface that the document holds
record IsOf (e : Exported) (s : RawSurface) : Type 0 where
  name : s.name ≡ e.head.name
  pairs : s.pairs ≡ []
  line : Option RawLine
  sketched : IsSketched (final_sketch e) s.triples s.lines line s.ids s.faces

faultless : (e : Exported) → IsSurveyed e → (s : RawSurface) → IsOf e s → surface_faults (Given e.head.origin) s ≡ []
unfolding surface_faults
faultless e is s of =
    let origin = e.head.origin in
    let few = is.few in
    let all = all_written e is s.triples of.sketched.sites in
    let range = in_range origin e.points s.triples is.points all.known in
    let ids = ids_apart origin s.triples 1 [] s.ids e.points of.sketched.ids (omega (arith, few)) (λ m more small. refl) in
    let faces = all_faced origin s e.points s.faces e.faces of.sketched.ids few (faced e.points e.faces is.lawful.a is.lawful.b is.lawful.c) of.sketched.faces in
    λ i. range i ++ (flat_map (pair_faults s.triples) (of.pairs i) ++ (ids i ++ faces.1 i))

same : (e : Exported) → IsSurveyed e → (s : RawSurface) → IsOf e s → IsSameSurface (draft_of e.head.unit (Given e.head.origin) s) e
unfolding draft_of
same e is s of =
    let origin = e.head.origin in
    let few = is.few in
    let all = all_written e is s.triples of.sketched.sites in
    let drawn = all_drawn e s is.lines of.sketched.lines in
    let faces = all_faced origin s e.points s.faces e.faces of.sketched.ids few (faced e.points e.faces is.lawful.a is.lawful.b is.lawful.c) of.sketched.faces in
    record {
      head = λ i. record { name = of.name i; unit = e.head.unit; origin = origin };
      points = same_points origin e.points s.triples all (once e.points is.lawful.points);
      lines = ap (filter (λ l. not (is_short l))) drawn ∙ all_kept e.lines is.lines;
      faces = faces.0;
      clashes = no_clash origin e.points s.triples all.known;
      short = ap (count_by is_short) drawn ∙ none_left_out e.lines is.lines;
    }

pub document_law : DocumentLaw
document_law e is =
    let r = whole_read e (fits e is) in
    let s = r.surface in
    let of : IsOf e s = record { name = r.name; pairs = r.pairs; line = r.line; sketched = r.sketched } in
    let none : document_faults (Given e.head.origin) (s ∷ []) ≡ [] = append-nil (surface_faults (Given e.head.origin) s) ∙ faultless e is s of in
    record {
      draft = draft_of e.head.unit (Given e.head.origin) s;
      read = record { doc = record { unit = e.head.unit; surfaces = s ∷ [] }; read = document_is_read e r; faultless = ap least_of none; drafts = refl };
      only = λ drafts are.
          let lists = document_lists e r are.doc are.read in
          are.drafts ∙ (λ i. map (draft_of (lists.0 i) (Given e.head.origin)) (lists.1 i));
      same = same e is s of;
    }
