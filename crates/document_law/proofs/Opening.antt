-- The head of a written document, read.
use Rattle.std.proofs.Common.{◌≡◌, ℕ, ◌+◌, List, [], ◌∷◌, ◌++◌, length, flat_map, codes, None, Some, refl, ◌∙◌, ap, subst, append_assoc}
use Rattle.ground_num.specs.declared.head.LinearUnit.{LinearUnit}
use Rattle.ground_num.specs.declared.head.LinearUnit.TheVariants.{Meter, Foot, USSurveyFoot}
use Rattle.ground_num.specs.declared.head.Head.{Head}
use Rattle.ground_num.specs.Names.{IsName, escape}
use Rattle.landxml_read.specs.declared.level.Level.TheVariants.{Inside}
use Rattle.landxml_read.specs.declared.utf8.Utf8.TheVariants.{Ready}
use Rattle.landxml_read.specs.declared.tokens.Tokens.{Tokens}
use Rattle.landxml_read.specs.declared.gather.Gathered.{Gathered}
use Rattle.landxml_read.specs.Events.{Event, event_faults, no_values}
use Rattle.landxml_read.specs.Gather.{gathered_of, nothing, bare}
use Rattle.landxml_read.specs.Values.{decoded}
use Rattle.landxml_read.specs.Tokens.{at_start}
use Rattle.landxml_read.proofs.Encoded.{taken}
use Rattle.landxml_write.specs.Text.{opening_text, unit_text, head_text}
use Rattle.document_law.proofs.Names.{name_decoded, name_value, name_utf8}
use Rattle.document_law.proofs.Runs.{Run, led_to, run_both}
use Rattle.document_law.proofs.Holds.{Sketch}
use Rattle.document_law.proofs.States.{To, in_surfaces, in_surface}
use Rattle.document_law.proofs.Points.{long_quiet}
use Rattle.document_law.proofs.Tags.{valuing, tagged, tag_valued}

-- a surface without anything in it
abbrev pub bare_sketch : List ℕ → Sketch
bare_sketch name = record { name = name; sites = []; lines = []; line = None; ids = []; faces = [] }

-- in the tag of a surface, before its name
abbrev in_tag : Tokens → Tokens
in_tag t = record t { name = codes "Surface"; values = no_values; stack = in_surfaces; word_at = 0; word = [] }

surface_read : (unit : LinearUnit) (begin : List ℕ) (n : ℕ) (t : Tokens) (told : List Event) (name : List ℕ) → Run at_start begin (valuing (Inside 1) (in_tag t) told [] n) → flat_map event_faults told ≡ [] → gathered_of told ≡ record nothing { unit = Some unit } → IsName name
    → To at_start (begin ++ (flat_map escape name ++ codes "\">\n")) 2 in_surface unit (bare_sketch name)
surface_read unit begin n t told name run quiet gathered is =
    let r = tagged (Inside 1) (in_tag t) told (flat_map escape name) (Some name) (n + length (flat_map escape name)) in
    let q = led_to r (10 ∷ []) in
    let P : List ℕ → Type 0 = λ bytes. To at_start bytes 2 in_surface unit (bare_sketch name) in
    subst P (ap (λ w. begin ++ w) (append_assoc (flat_map escape name) (codes "\">") (10 ∷ []))) (record {
      state = record {
        offset = q.offset;
        tokens = q.tokens;
        told = q.told;
        quiet = λ i. long_quiet name (n + length (flat_map escape name) + 1) t.at is.short i ++ quiet i;
        holds = record {
          at = t.at;
          triples = [];
          lines = [];
          line = None;
          ids = [];
          faces = [];
          face_at = 0;
          is = ap (λ (g : Gathered). record g { surface = Some (bare t.at name) }) gathered;
          sketched = record { sites = refl; lines = tt; line = tt; ids = tt; faces = refl };
        };
      };
      run = run_both at_start (valuing (Inside 1) (in_tag t) told [] n) q begin ((flat_map escape name ++ codes "\">") ++ 10 ∷ []) run
          (run_both (valuing (Inside 1) (in_tag t) told [] n) r q (flat_map escape name ++ codes "\">") (10 ∷ [])
          (tag_valued (Inside 1) (in_tag t) told (flat_map escape name) name n (name_value name is.plain) (name_utf8 name (Some Ready) ∙ taken name is.utf8) (name_decoded name)) (record { reads = refl; utf8 = refl }));
    })

-- the bytes before the name
abbrev before_name : LinearUnit → List ℕ
before_name unit = opening_text ++ (unit_text unit ++ codes "<Surfaces>\n<Surface name=\"")

pub head_read : (head : Head) → IsName head.name → To at_start (head_text head) 2 in_surface head.unit (bare_sketch head.name)
unfolding head_text decoded
head_read head is = by head.unit
  where
    by : (unit : LinearUnit) → To at_start (opening_text ++ (unit_text unit ++ (codes "<Surfaces>\n<Surface name=\"" ++ (flat_map escape head.name ++ codes "\">\n")))) 2 in_surface unit (bare_sketch head.name)
    by Meter = let r = led_to at_start (before_name Meter) in surface_read Meter (before_name Meter) r.offset r.tokens r.told head.name (record { reads = refl; utf8 = refl }) refl refl is
    by Foot = let r = led_to at_start (before_name Foot) in surface_read Foot (before_name Foot) r.offset r.tokens r.told head.name (record { reads = refl; utf8 = refl }) refl refl is
    by USSurveyFoot = let r = led_to at_start (before_name USSurveyFoot) in surface_read USSurveyFoot (before_name USSurveyFoot) r.offset r.tokens r.told head.name (record { reads = refl; utf8 = refl }) refl refl is
