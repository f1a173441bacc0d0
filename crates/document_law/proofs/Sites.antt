-- The places of a list, read.
use Rattle.std.proofs.Common.{◌≡◌, ℕ, ◌+◌, ◌%◌, true, List, [], ◌∷◌, ◌++◌, length, map, flat_map, codes, refl, sym, subst, arith, append_assoc, ℤ, ◌+ℤ◌}
use Rattle.ground_num.specs.declared.head.LinearUnit.{LinearUnit}
use Rattle.ground_num.specs.declared.head.Origin.{Origin}
use Rattle.ground_num.specs.Decimal.{thousandths_text, IsWithin}
use Rattle.ground_num.specs.Spelling.{number_limit}
use Rattle.ground_model.specs.Place.{Coords}
use Rattle.landxml_read.specs.declared.kind.Kind.TheVariants.{Triples}
use Rattle.landxml_read.specs.declared.element.Element.{Element}
use Rattle.landxml_read.specs.declared.tokens.Tokens.{Tokens}
use Rattle.landxml_read.specs.Faults.{has_text}
use Rattle.landxml_read.specs.Events.{Event, event_faults}
use Rattle.landxml_read.specs.Gather.{gathered_of}
use Rattle.landxml_write.specs.Exports.{Vertex, Exported}
use Rattle.landxml_write.specs.Text.{vertex_text, level_at, place_text, next_text, list_text, data_text}
use Rattle.document_law.proofs.Numbers.{thousandths_plain, thousandths_some, thousandths_value, thousandths_good}
use Rattle.document_law.proofs.Runs.{Run, run_none, run_both, stand, opens}
use Rattle.document_law.proofs.Holds.{Site, Sketch, site_of}
use Rattle.document_law.proofs.Gathers.{with_site, triple_by, holds_site}
use Rattle.document_law.proofs.Threes.{IsWord, more_words, IsParting, space_parts, line_parts, three_text, three_white, three_less, told_three, b_at, word}
use Rattle.document_law.proofs.States.{St, at, opened_at, To, ToLess, in_list}

-- the numbers of a vertex, as they are written
abbrev pub site_in : Origin → Vertex → Site
site_in origin v = (v.0.n +ℤ origin.n.0, v.0.e +ℤ origin.e.0, v.1)

-- they are within the limit of a number
pub record IsFit (s : Site) : Type 0 where
  pub n : IsWithin number_limit s.0
  pub e : IsWithin number_limit s.1
  pub z : IsWithin number_limit s.2

-- the numbers of the point at a place
abbrev pub site_at : Exported → Coords → Site
site_at e p = site_in e.head.origin (p, level_at e.points p)

-- the text of a site
abbrev pub site_text : Site → List ℕ
site_text s = three_text (thousandths_text s.0) (thousandths_text s.1) (thousandths_text s.2)

number_word : (z : ℤ) → IsWithin number_limit z → IsWord (thousandths_text z)
number_word z w = record { some = thousandths_some z w; plain = thousandths_plain z w }

-- the words of a site have no fault
pub site_quiet : (n : ℕ) (e : Element) (told : List Event) (s : Site) → IsFit s → flat_map event_faults told ≡ [] → flat_map event_faults (told_three n e told (thousandths_text s.0) (thousandths_text s.1) (thousandths_text s.2)) ≡ []
site_quiet n e told s fit quiet =
    let m = b_at n (thousandths_text s.0) in
    let l = b_at m (thousandths_text s.1) in
    let a = thousandths_good e.kind s.0 fit.n n (n + length (thousandths_text s.0)) in
    let b = thousandths_good e.kind s.1 fit.e m (m + length (thousandths_text s.1)) in
    let c = thousandths_good e.kind s.2 fit.z l (l + length (thousandths_text s.2)) in
    λ i. c i ++ (b i ++ (a i ++ quiet i))

-- and they are read as its numbers
pub site_read : (n m l : ℕ) (s : Site) → IsFit s → site_of (triple_by (word n (thousandths_text s.0)) (word m (thousandths_text s.1)) (word l (thousandths_text s.2))) ≡ s
site_read n m l s fit = λ i. (thousandths_value s.0 fit.n i, thousandths_value s.1 fit.e i, thousandths_value s.2 fit.z i)

pub site_white_run : (k n z : ℕ) (e : Element) (es : List Element) (t : Tokens) (told : List Event) (s : Site) → has_text e.kind ≡ true → IsParting z → IsFit s
    → Run (stand k (e ∷ es) n t told) (site_text s ++ z ∷ [])
    (stand k (more_words (more_words (more_words e)) ∷ es) (b_at (b_at (b_at n (thousandths_text s.0)) (thousandths_text s.1)) (thousandths_text s.2)) t
    (told_three n e told (thousandths_text s.0) (thousandths_text s.1) (thousandths_text s.2)))
site_white_run k n z e es t told s has part fit =
    three_white k n z e es t told (thousandths_text s.0) (thousandths_text s.1) (thousandths_text s.2) has part (number_word s.0 fit.n) (number_word s.1 fit.e) (number_word s.2 fit.z)

pub site_less_run : (k n : ℕ) (e : Element) (es : List Element) (t : Tokens) (told : List Event) (s : Site) → has_text e.kind ≡ true → IsFit s
    → Run (stand k (e ∷ es) n t told) (site_text s ++ 60 ∷ [])
    (opens k (more_words (more_words (more_words e)) ∷ es) (b_at (b_at (b_at n (thousandths_text s.0)) (thousandths_text s.1)) (thousandths_text s.2))
    (record t { at = b_at (b_at n (thousandths_text s.0)) (thousandths_text s.1) + length (thousandths_text s.2) })
    (told_three n e told (thousandths_text s.0) (thousandths_text s.1) (thousandths_text s.2)))
site_less_run k n e es t told s has fit =
    three_less k n e es t told (thousandths_text s.0) (thousandths_text s.1) (thousandths_text s.2) has (number_word s.0 fit.n) (number_word s.1 fit.e) (number_word s.2 fit.z)

-- a site of a list
site_state : (k m : ℕ) (es : List Element) (unit : LinearUnit) (sk : Sketch) (s : Site) → IsFit s → (x : St k (in_list m es) unit sk) → Tokens → St k (in_list (m + 1 + 1 + 1) es) unit (with_site s sk)
site_state k m es unit sk s fit x t =
    let e : Element = record { kind = Triples; name = codes "PntList3D"; words = m } in
    let a = thousandths_text s.0 in
    let b = thousandths_text s.1 in
    let c = thousandths_text s.2 in
    record {
      offset = b_at (b_at (b_at x.offset a) b) c;
      tokens = t;
      told = told_three x.offset e x.told a b c;
      quiet = site_quiet x.offset e x.told s fit x.quiet;
      holds = holds_site unit sk (gathered_of x.told) Triples (word x.offset a) (word (b_at x.offset a) b) (word (b_at (b_at x.offset a) b) c) s (λ w g. refl) (site_read x.offset (b_at x.offset a) (b_at (b_at x.offset a) b) s fit) x.holds;
    }

site_white : (k m z : ℕ) (es : List Element) (unit : LinearUnit) (sk : Sketch) (s : Site) → IsParting z → IsFit s → (x : St k (in_list m es) unit sk) → To (at x) (site_text s ++ z ∷ []) k (in_list (m + 1 + 1 + 1) es) unit (with_site s sk)
unfolding site_state
site_white k m z es unit sk s part fit x = record { state = site_state k m es unit sk s fit x x.tokens; run = site_white_run k x.offset z (record { kind = Triples; name = codes "PntList3D"; words = m }) es x.tokens x.told s refl part fit }

site_less : (k m : ℕ) (es : List Element) (unit : LinearUnit) (sk : Sketch) (s : Site) → IsFit s → (x : St k (in_list m es) unit sk) → ToLess (at x) (site_text s ++ 60 ∷ []) k (in_list (m + 1 + 1 + 1) es) unit (with_site s sk)
unfolding site_state
site_less k m es unit sk s fit x =
    let a = thousandths_text s.0 in
    let b = thousandths_text s.1 in
    let c = thousandths_text s.2 in
    record {
      state = site_state k m es unit sk s fit x (record x.tokens { at = b_at (b_at x.offset a) b + length c });
      run = site_less_run k x.offset (record { kind = Triples; name = codes "PntList3D"; words = m }) es x.tokens x.told s refl fit;
    }

-- the sketch with further sites
abbrev pub with_sites : List Site → Sketch → Sketch
with_sites [] sk = sk
with_sites (s ∷ ss) sk = with_sites ss (with_site s sk)

-- all are within the limit of a number
abbrev pub AreFit : List Site → Type 0
AreFit [] = Unit {0}
AreFit (s ∷ ss) = IsFit s × AreFit ss

-- so many words, three for each site, and the < after them
pub record ListRead (k m : ℕ) (es : List Element) (unit : LinearUnit) (sk : Sketch) (x : St k (in_list m es) unit sk) (bytes : List ℕ) (ss : List Site) : Type 0 where
  pub words : ℕ
  pub by_three : words % 3 ≡ 0
  pub to : ToLess (at x) bytes k (in_list words es) unit (with_sites ss sk)

pub list_read : (e : Exported) (k m : ℕ) (es : List Element) (unit : LinearUnit) (sk : Sketch) (p : Coords) (ps : List Coords) → m % 3 ≡ 0 → AreFit (map (site_at e) (p ∷ ps)) → (x : St k (in_list m es) unit sk)
    → ListRead k m es unit sk x (list_text e (p ∷ ps) ++ 60 ∷ []) (map (site_at e) (p ∷ ps))
list_read e k m es unit sk p [] three fit x =
    let P : List ℕ → Type 0 = λ bytes. ListRead k m es unit sk x bytes (map (site_at e) (p ∷ [])) in
    subst P (sym (append_assoc (place_text e p) [] (60 ∷ []))) (record { words = m + 1 + 1 + 1; by_three = omega (arith, three); to = site_less k m es unit sk (site_at e p) fit.0 x })
list_read e k m es unit sk p (q ∷ qs) three fit x =
    let P : List ℕ → Type 0 = λ bytes. ListRead k m es unit sk x bytes (map (site_at e) (p ∷ q ∷ qs)) in
    let one = site_white k m 32 es unit sk (site_at e p) space_parts fit.0 x in
    let rest = list_read e k (m + 1 + 1 + 1) es unit (with_site (site_at e p) sk) q qs (omega (arith, three)) fit.1 one.state in
    subst P (regroup (place_text e p) (place_text e q) (flat_map (next_text e) qs)) (record {
      words = rest.words;
      by_three = rest.by_three;
      to = record { state = rest.to.state; run = run_both (at x) (at one.state) (opened_at rest.to.state) (place_text e p ++ 32 ∷ []) (list_text e (q ∷ qs) ++ 60 ∷ []) one.run rest.to.run };
    })
  where
    regroup : (a b c : List ℕ) → (a ++ 32 ∷ []) ++ ((b ++ c) ++ 60 ∷ []) ≡ (a ++ ((32 ∷ b) ++ c)) ++ 60 ∷ []
    regroup a b c = simp append_assoc

-- so many words, three for each site, a line each
pub record DataRead (k m : ℕ) (es : List Element) (unit : LinearUnit) (sk : Sketch) (x : St k (in_list m es) unit sk) (bytes : List ℕ) (ss : List Site) : Type 0 where
  pub words : ℕ
  pub by_three : words % 3 ≡ 0
  pub to : To (at x) bytes k (in_list words es) unit (with_sites ss sk)

pub data_read : (e : Exported) (k m : ℕ) (es : List Element) (unit : LinearUnit) (sk : Sketch) (vs : List Vertex) → m % 3 ≡ 0 → AreFit (map (site_in e.head.origin) vs) → (x : St k (in_list m es) unit sk)
    → DataRead k m es unit sk x (flat_map (data_text e) vs) (map (site_in e.head.origin) vs)
unfolding data_text
data_read e k m es unit sk [] three fit x = record { words = m; by_three = three; to = record { state = x; run = run_none (at x) } }
data_read e k m es unit sk (v ∷ vs) three fit x =
    let one = site_white k m 10 es unit sk (site_in e.head.origin v) line_parts fit.0 x in
    let rest = data_read e k (m + 1 + 1 + 1) es unit (with_site (site_in e.head.origin v) sk) vs (omega (arith, three)) fit.1 one.state in
    record { words = rest.words; by_three = rest.by_three; to = record { state = rest.to.state; run = run_both (at x) (at one.state) (at rest.to.state) (vertex_text e.head.origin v ++ 10 ∷ []) (flat_map (data_text e) vs) one.run rest.to.run } }
