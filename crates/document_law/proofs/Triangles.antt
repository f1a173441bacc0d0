-- The faces of a written document, read.
use Rattle.std.proofs.Common.{◌≡◌, ℕ, ◌+◌, ◌<◌, ◌^◌, Bool, true, false, List, [], ◌∷◌, ◌++◌, length, flat_map, codes, refl, sym, subst, append_assoc}
use Rattle.std.specs.Fmt.{decimal}
use Rattle.ground_num.specs.declared.head.LinearUnit.{LinearUnit}
use Rattle.landxml_read.specs.declared.kind.Kind.TheVariants.{Face}
use Rattle.landxml_read.specs.declared.tokens.Tokens.{Tokens}
use Rattle.landxml_read.specs.declared.gather.Gathered.{Gathered}
use Rattle.landxml_read.specs.Events.{Event, event_faults}
use Rattle.landxml_read.specs.Gather.{gathered_of, with_text, opened, closed}
use Rattle.landxml_write.specs.Exports.{Exported, Vertex, Face as Facing}
use Rattle.landxml_write.specs.Text.{id_of, face_tag, face_text}
use Rattle.document_law.proofs.Numbers.{decimal_plain, decimal_some, id_good}
use Rattle.document_law.proofs.Runs.{Run, led_to, run_none, run_both, stand, opens}
use Rattle.document_law.proofs.Holds.{Sketch, Holds, Corners}
use Rattle.document_law.proofs.Gathers.{with_face, holds_face}
use Rattle.document_law.proofs.Threes.{IsWord, three_text, three_less, more_words, told_three, b_at, word}
use Rattle.document_law.proofs.States.{St, at, To, to_both, element, in_faces, in_face}

-- the tag of an F
record FaceTag (unit : LinearUnit) (sk : Sketch) (s : St 4 in_faces unit sk) (kept : Bool) : Type 0 where
  offset : ℕ
  tokens : Tokens
  told : List Event
  run : Run (at s) (face_tag kept) (stand 5 (in_face 0) offset tokens told)
  quiet : flat_map event_faults told ≡ []
  gathered : gathered_of told ≡ opened Face s.offset [] (gathered_of s.told)

face_tagged : (unit : LinearUnit) (sk : Sketch) (s : St 4 in_faces unit sk) (kept : Bool) → FaceTag unit sk s kept
face_tagged unit sk s true =
    let r = led_to (at s) (codes "<F>") in
    record { offset = r.offset; tokens = r.tokens; told = r.told; run = record { reads = refl; utf8 = refl }; quiet = s.quiet; gathered = refl }
face_tagged unit sk s false =
    let r = led_to (at s) (codes "<F i=\"1\">") in
    record { offset = r.offset; tokens = r.tokens; told = r.told; run = record { reads = refl; utf8 = refl }; quiet = s.quiet; gathered = refl }

id_word : (n : ℕ) → n < 2 ^ 64 → IsWord (decimal n)
id_word n small = record { some = decimal_some n small; plain = decimal_plain n small }

-- the ids of a facet's corners
abbrev pub ids_of : List Vertex → Facing → Corners
ids_of points f = (decimal (id_of points f.0.a), decimal (id_of points f.0.b), decimal (id_of points f.0.c))

-- they are numbers of 64 bits
pub record IsFitFace (points : List Vertex) (f : Facing) : Type 0 where
  pub a : id_of points f.0.a < 2 ^ 64
  pub b : id_of points f.0.b < 2 ^ 64
  pub c : id_of points f.0.c < 2 ^ 64

abbrev pub AreFitFaces : List Vertex → List Facing → Type 0
AreFitFaces points [] = Unit {0}
AreFitFaces points (f ∷ fs) = IsFitFace points f × AreFitFaces points fs

face_read : (e : Exported) (unit : LinearUnit) (sk : Sketch) (f : Facing) → IsFitFace e.points f → (s : St 4 in_faces unit sk) → To (at s) (face_text e f) 4 in_faces unit (with_face (ids_of e.points f) sk)
unfolding face_text
face_read e unit sk f fit s =
    let tag = face_tagged unit sk s f.1 in
    let el = element Face (codes "F") 0 in
    let x = id_of e.points f.0.a in
    let y = id_of e.points f.0.b in
    let z = id_of e.points f.0.c in
    let second_at = b_at tag.offset (decimal x) in
    let third_at = b_at second_at (decimal y) in
    let told = told_three tag.offset el tag.told (decimal x) (decimal y) (decimal z) in
    let q = opens 5 (more_words (more_words (more_words el)) ∷ in_faces) (b_at third_at (decimal z)) (record tag.tokens { at = third_at + length (decimal z) }) told in
    let r = led_to q (codes "/F>\n") in
    let P : List ℕ → Type 0 = λ bytes. To (at s) bytes 4 in_faces unit (with_face (ids_of e.points f) sk) in
    let Q : Gathered → Type 0 = λ h. Holds unit (with_face (ids_of e.points f) sk) (closed Face (with_text Face (word third_at (decimal z)) (with_text Face (word second_at (decimal y)) (with_text Face (word tag.offset (decimal x)) h)))) in
    let good_x = id_good Face x refl fit.a tag.offset (tag.offset + length (decimal x)) in
    let good_y = id_good Face y refl fit.b second_at (second_at + length (decimal y)) in
    let good_z = id_good Face z refl fit.c third_at (third_at + length (decimal z)) in
    let quiet = tag.quiet in
    subst P (regroup (face_tag f.1) (decimal x) (decimal y) (decimal z) (codes "/F>\n")) (record {
      state = record {
        offset = r.offset;
        tokens = r.tokens;
        told = r.told;
        quiet = λ i. good_z i ++ (good_y i ++ (good_x i ++ quiet i));
        holds = subst Q (sym tag.gathered) (holds_face unit sk (gathered_of s.told) s.offset [] (word tag.offset (decimal x)) (word second_at (decimal y)) (word third_at (decimal z)) s.holds);
      };
      run = run_both (at s) (stand 5 (in_face 0) tag.offset tag.tokens tag.told) (stand 4 in_faces r.offset r.tokens r.told) (face_tag f.1) ((three_text (decimal x) (decimal y) (decimal z) ++ 60 ∷ []) ++ codes "/F>\n") tag.run
          (run_both (stand 5 (in_face 0) tag.offset tag.tokens tag.told) q (stand 4 in_faces r.offset r.tokens r.told) (three_text (decimal x) (decimal y) (decimal z) ++ 60 ∷ []) (codes "/F>\n")
          (three_less 5 tag.offset el in_faces tag.tokens tag.told (decimal x) (decimal y) (decimal z) refl (id_word x fit.a) (id_word y fit.b) (id_word z fit.c)) (record { reads = refl; utf8 = refl }));
    })
  where
    regroup : (t a b c d : List ℕ) → t ++ ((three_text a b c ++ 60 ∷ []) ++ d) ≡ t ++ (a ++ (32 ∷ (b ++ (32 ∷ (c ++ 60 ∷ d)))))
    regroup t a b c d = simp append_assoc

-- the sketch with the faces
abbrev pub with_faces : List Vertex → List Facing → Sketch → Sketch
with_faces points [] sk = sk
with_faces points (f ∷ fs) sk = with_faces points fs (with_face (ids_of points f) sk)

pub faces_read : (e : Exported) (unit : LinearUnit) (sk : Sketch) (fs : List Facing) → AreFitFaces e.points fs → (s : St 4 in_faces unit sk) → To (at s) (flat_map (face_text e) fs) 4 in_faces unit (with_faces e.points fs sk)
faces_read e unit sk [] fit s = record { state = s; run = run_none (at s) }
faces_read e unit sk (f ∷ fs) fit s =
    let one = face_read e unit sk f fit.0 s in
    let tk = with_face (ids_of e.points f) sk in
    to_both (at s) (face_text e f) (flat_map (face_text e) fs) 4 4 in_faces in_faces unit tk (with_faces e.points fs tk) one (faces_read e unit tk fs fit.1 one.state)
