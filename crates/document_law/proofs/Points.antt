-- The points of a written document, read.
use Rattle.std.proofs.Common.{◌≡◌, ℕ, ◌+◌, ◌%◌, ◌<◌, ◌≤◌, ◌^◌, true, false, ◌==◌, ◌&&◌, ◌||◌, not, nat_lt, cond, List, [], ◌∷◌, ◌++◌, length, map, flat_map, codes, Some, refl, sym, ◌∙◌, subst, arith, append_assoc}
use Rattle.std.proofs.lemmas.Bool.Decides.{nat_tests}
use Rattle.std.proofs.lemmas.Fmt.{decimal_by_steps, length-decimal-le}
use Rattle.std.proofs.lemmas.Grind.{flat_map-append}
use Rattle.std.proofs.lemmas.List.Folds.{list_all-append}
use Rattle.std.specs.List.{list_all}
use Rattle.std.specs.Fmt.{decimal}
use Rattle.ground_num.specs.declared.head.LinearUnit.{LinearUnit}
use Rattle.ground_num.specs.declared.head.Origin.{Origin}
use Rattle.ground_num.specs.Decimal.{thousandths_text}
use Rattle.ground_num.specs.Names.{escape}
use Rattle.landxml_read.specs.declared.fault.DocCause.TheVariants as cause
use Rattle.landxml_read.specs.declared.level.Level.TheVariants.{Inside}
use Rattle.landxml_read.specs.declared.kind.Kind.TheVariants.{Point}
use Rattle.landxml_read.specs.declared.tokens.Tokens.{Tokens}
use Rattle.landxml_read.specs.declared.gather.Gathered.{Gathered}
use Rattle.landxml_read.specs.Markup.{is_white, is_in_value}
use Rattle.landxml_read.specs.Faults.{fault}
use Rattle.landxml_read.specs.Events.{Event, event_faults}
use Rattle.landxml_read.specs.Gather.{gathered_of, with_text, opened, closed}
use Rattle.landxml_read.proofs.Bytes.{and_is}
use Rattle.landxml_write.specs.Exports.{Vertex, Exported}
use Rattle.landxml_write.specs.Text.{vertex_text, point_text, points_text}
use Rattle.document_law.proofs.Numbers.{decimal_plain}
use Rattle.document_law.proofs.Names.{plain_decoded}
use Rattle.document_law.proofs.Words.{plain_text}
use Rattle.document_law.proofs.Runs.{Run, led_to, run_none, run_both, stand, opens}
use Rattle.document_law.proofs.Holds.{Sketch, Holds}
use Rattle.document_law.proofs.Gathers.{with_point, holds_point}
use Rattle.document_law.proofs.Threes.{more_words, told_three, b_at, word}
use Rattle.document_law.proofs.States.{St, at, To, to_both, element, in_points, in_point}
use Rattle.document_law.proofs.Sites.{site_in, IsFit, AreFit, site_quiet, site_read, site_less_run}
use Rattle.document_law.proofs.Tags.{valuing, tagged, tag_valued}

-- ids are digits, which are written as they are

digits_themselves : (n : ℕ) → n < 2 ^ 64 → flat_map escape (decimal n) ≡ decimal n
digits_themselves =
    decimal_by_steps (λ n ds. flat_map escape ds ≡ ds) (λ n small. digit (48 + n) (omega arith) (omega arith))
    (λ n ds more h. flat_map-append escape ds ((48 + n % 10) ∷ []) ∙ (λ i. h i ++ digit (48 + n % 10) (omega arith) (omega arith) i))
  where
    digit : (b : ℕ) → 48 ≤ b → b ≤ 57 → flat_map escape (b ∷ []) ≡ b ∷ []
    digit b low high =
        let amp : (b == 38) ≡ false = grind (arith, nat_tests) in
        let less : (b == 60) ≡ false = grind (arith, nat_tests) in
        let greater : (b == 62) ≡ false = grind (arith, nat_tests) in
        let quote : (b == 34) ≡ false = grind (arith, nat_tests) in
        let tab : (b == 9) ≡ false = grind (arith, nat_tests) in
        let feed : (b == 10) ≡ false = grind (arith, nat_tests) in
        let cr : (b == 13) ≡ false = grind (arith, nat_tests) in
        λ i. cond (amp i) (codes "&amp;") (cond (less i) (codes "&lt;") (cond (greater i) (codes "&gt;") (cond (quote i) (codes "&quot;") (cond (tab i) (codes "&#9;") (cond (feed i) (codes "&#10;") (cond (cr i) (codes "&#13;") (b ∷ []))))))) ++ []

digits_value : (n : ℕ) → n < 2 ^ 64 → list_all (is_in_value 34) (decimal n) ≡ true
digits_value =
    decimal_by_steps (λ n ds. list_all (is_in_value 34) ds ≡ true) (λ n small. digit (48 + n) (omega arith) (omega arith))
    (λ n ds more h. list_all-append (is_in_value 34) ds ((48 + n % 10) ∷ []) ∙ and_is (list_all (is_in_value 34) ds) _ h (digit (48 + n % 10) (omega arith) (omega arith)))
  where
    digit : (b : ℕ) → 48 ≤ b → b ≤ 57 → list_all (is_in_value 34) (b ∷ []) ≡ true
    digit b low high =
        let free : nat_lt 31 b ≡ true = grind (arith, nat_tests) in
        let quote : (b == 34) ≡ false = grind (arith, nat_tests) in
        let less : (b == 60) ≡ false = grind (arith, nat_tests) in
        λ i. ((free i || is_white b) && not (quote i) && not (less i)) && true

-- a tag whose value is short has no fault
pub long_quiet : (text : List ℕ) (shown at : ℕ) → length text ≤ 255 → cond (nat_lt 255 (length text)) (fault shown cause.Long at ∷ []) [] ++ [] ≡ []
long_quiet text shown at short = let test : nat_lt 255 (length text) ≡ false = grind (arith, nat_tests, short) in λ i. cond (test i) (fault shown cause.Long at ∷ []) [] ++ []

-- the tag of a P
pub record PointTag (unit : LinearUnit) (sk : Sketch) (s : St 4 in_points unit sk) (id : ℕ) : Type 0 where
  pub offset : ℕ
  pub tokens : Tokens
  pub told : List Event
  pub run : Run (at s) (codes "<P id=\"" ++ (decimal id ++ codes "\">")) (stand 5 (in_point 0) offset tokens told)
  pub quiet : flat_map event_faults told ≡ []
  pub gathered : gathered_of told ≡ opened Point s.offset (decimal id) (gathered_of s.told)

point_tag : (unit : LinearUnit) (sk : Sketch) (s : St 4 in_points unit sk) (id : ℕ) → id < 2 ^ 64 → PointTag unit sk s id
point_tag unit sk s id small =
    let begin = codes "<P id=\"" in
    let a = led_to (at s) begin in
    let r = tagged (Inside 4) a.tokens a.told (decimal id) (Some (decimal id)) (a.offset + length (decimal id)) in
    let short = length-decimal-le 20 id (omega arith) (omega arith) small in
    record {
      offset = r.offset;
      tokens = r.tokens;
      told = r.told;
      run = run_both (at s) (valuing (Inside 4) a.tokens a.told [] a.offset) r begin (decimal id ++ codes "\">") (record { reads = refl; utf8 = refl })
          (tag_valued (Inside 4) a.tokens a.told (decimal id) (decimal id) a.offset (digits_value id small) (plain_text (decimal id) (decimal_plain id small)) (plain_decoded (decimal id) (digits_themselves id small)));
      quiet = λ i. long_quiet (decimal id) (a.offset + length (decimal id) + 1) s.offset (omega (arith, short)) i ++ s.quiet i;
      gathered = refl;
    }

-- a P
point_read : (e : Exported) (unit : LinearUnit) (sk : Sketch) (id : ℕ) (v : Vertex) → id < 2 ^ 64 → IsFit (site_in e.head.origin v) → (s : St 4 in_points unit sk) → To (at s) (point_text e id v) 4 in_points unit (with_point (decimal id) (site_in e.head.origin v) sk)
unfolding point_text
point_read e unit sk id v small fit s =
    let site = site_in e.head.origin v in
    let tag = point_tag unit sk s id small in
    let el = element Point (codes "P") 0 in
    let a = thousandths_text site.0 in
    let b = thousandths_text site.1 in
    let c = thousandths_text site.2 in
    let second_at = b_at tag.offset a in
    let third_at = b_at second_at b in
    let told = told_three tag.offset el tag.told a b c in
    let q = opens 5 (more_words (more_words (more_words el)) ∷ in_points) (b_at third_at c) (record tag.tokens { at = third_at + length c }) told in
    let r = led_to q (codes "/P>\n") in
    let g = gathered_of tag.told in
    let P : List ℕ → Type 0 = λ bytes. To (at s) bytes 4 in_points unit (with_point (decimal id) site sk) in
    let Q : Gathered → Type 0 = λ h. Holds unit (with_point (decimal id) site sk) (closed Point (with_text Point (word third_at c) (with_text Point (word second_at b) (with_text Point (word tag.offset a) h)))) in
    subst P (regroup (codes "<P id=\"") (decimal id) (codes "\">") (vertex_text e.head.origin v) (codes "/P>\n")) (record {
      state = record {
        offset = r.offset;
        tokens = r.tokens;
        told = r.told;
        quiet = site_quiet tag.offset el tag.told site fit tag.quiet;
        holds = subst Q (sym tag.gathered) (holds_point unit sk (gathered_of s.told) s.offset (decimal id) (word tag.offset a) (word second_at b) (word third_at c) site (site_read tag.offset second_at third_at site fit) s.holds);
      };
      run = run_both (at s) (stand 5 (in_point 0) tag.offset tag.tokens tag.told) (stand 4 in_points r.offset r.tokens r.told) (codes "<P id=\"" ++ (decimal id ++ codes "\">")) ((vertex_text e.head.origin v ++ 60 ∷ []) ++ codes "/P>\n") tag.run
          (run_both (stand 5 (in_point 0) tag.offset tag.tokens tag.told) q (stand 4 in_points r.offset r.tokens r.told) (vertex_text e.head.origin v ++ 60 ∷ []) (codes "/P>\n") (site_less_run 5 tag.offset el in_points tag.tokens tag.told site refl fit) (record { reads = refl; utf8 = refl }));
    })
  where
    regroup : (a b c v d : List ℕ) → (a ++ (b ++ c)) ++ ((v ++ 60 ∷ []) ++ d) ≡ a ++ (b ++ (c ++ (v ++ 60 ∷ d)))
    regroup a b c v d = simp append_assoc

-- the sketch with the points, their ids counted from one
abbrev pub with_points : Origin → ℕ → List Vertex → Sketch → Sketch
with_points origin id [] sk = sk
with_points origin id (v ∷ vs) sk = with_points origin (id + 1) vs (with_point (decimal id) (site_in origin v) sk)

pub points_read : (e : Exported) (unit : LinearUnit) (sk : Sketch) (id : ℕ) (vs : List Vertex) → id + length vs < 2 ^ 64 → AreFit (map (site_in e.head.origin) vs) → (s : St 4 in_points unit sk) → To (at s) (points_text e id vs) 4 in_points unit (with_points e.head.origin id vs sk)
unfolding points_text
points_read e unit sk id [] small fit s = record { state = s; run = run_none (at s) }
points_read e unit sk id (v ∷ vs) small fit s =
    let one = point_read e unit sk id v (omega (arith, small)) fit.0 s in
    let tk = with_point (decimal id) (site_in e.head.origin v) sk in
    to_both (at s) (point_text e id v) (points_text e (id + 1) vs) 4 4 in_points in_points unit tk (with_points e.head.origin (id + 1) vs tk) one (points_read e unit tk (id + 1) vs (omega (arith, small)) fit.1 one.state)
