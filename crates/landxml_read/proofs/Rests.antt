-- What each act does to the open word, the open value and the first value, and that what ends is a name.
use Rattle.std.proofs.Common.{◌≡◌, ℕ, ◌≤◌, Bool, true, false, ◌==◌, ◌&&◌, ◌||◌, not, nat_lt, cond, List, [], ◌∷◌, ◌++◌, length, unwrap_or, Option, None, Some, refl, sym, ◌∙◌, ap, arith, eqb-true}
use Rattle.std.proofs.lemmas.Bool.Decides.{nat_tests}
use Rattle.std.specs.List.{list_any}
use Rattle.ground_num.specs.Names.{is_control, IsName}
use Rattle.landxml_read.specs.Markup.{is_white, is_free, is_in_value}
use Rattle.landxml_read.specs.declared.utf8.Utf8.{Utf8}
use Rattle.landxml_read.specs.declared.utf8.Utf8.TheVariants.{Ready}
use Rattle.landxml_read.specs.declared.scan.Part.{Part}
use Rattle.landxml_read.specs.declared.scan.Part.TheVariants.{Text, Tag}
use Rattle.landxml_read.specs.declared.tag.TagPart.{TagPart}
use Rattle.landxml_read.specs.declared.element.Element.{Element}
use Rattle.landxml_read.specs.declared.values.Values.{Values}
use Rattle.landxml_read.specs.declared.tokens.Tokens.{Tokens}
use Rattle.landxml_read.specs.declared.act.Act.TheVariants.{Letter, Less, BeginName, Name, BeginAttribute, Attribute, BeginValue, Value, EndValue, Opens, Closes}
use Rattle.landxml_read.specs.declared.fault.DocCause.{DocCause}
use Rattle.landxml_read.specs.declared.kind.Kind.{Kind}
use Rattle.landxml_read.specs.Values.{decoded}
use Rattle.landxml_read.specs.Words.{Word}
use Rattle.landxml_read.specs.Faults.{has_text, is_long}
use Rattle.landxml_read.specs.Events.{no_values, with_value, no_word, longer, word_after, ended_by, opening_rows}
use Rattle.landxml_read.specs.Utf8.{utf8_next, utf8_run}
use Rattle.landxml_read.specs.Scan.{at}
use Rattle.landxml_read.specs.Tokens.{after, kind_in, word_of, counted, opening_at}
use Rattle.landxml_read.specs.Verdict.{first_cause, caused, word_verdict, empty_cause}
use Rattle.landxml_read.specs.Gather.{first_value, HoldsWord}
use Rattle.landxml_read.specs.Known.{due, is_text, is_quoted, in_words, IsPlain, IsKept, IsSpelled}
use Rattle.landxml_read.proofs.Bytes.{both, white_cases}
use Rattle.landxml_read.proofs.Running.{if_true, if_false}
use Rattle.landxml_read.proofs.Sequences.{sound}
use Rattle.landxml_read.proofs.Quiet.{quiet_number, quiet_short, quiet_values}
use Rattle.landxml_read.proofs.Plain.{IsFine, ascii, run_push, push_plain, decoded_fine}

-- bytes

free_plain : (b : ℕ) → is_free b ≡ true → is_control b ≡ false
free_plain b e = pick (is_control b) (λ h. absurd (grind (arith, nat_tests, e, h))) (λ h. h)
  where
    pick : (x : Bool) → (x ≡ true → x ≡ false) → (x ≡ false → x ≡ false) → x ≡ false
    pick true first second = first refl
    pick false first second = second refl

pub value_free : (quote b : ℕ) → is_in_value quote b ≡ true → is_free b ≡ true
value_free quote b e = (both (is_free b) (not (b == quote)) (both (is_free b && not (b == quote)) (not (b == 60)) e).0).0

pub white_low : (b : ℕ) → is_white b ≡ true → nat_lt b 128 ≡ true
white_low b e = white_cases (λ x. nat_lt x 128) true b e refl refl refl refl

pub low : (b k : ℕ) → (b == k) ≡ true → nat_lt k 128 ≡ true → nat_lt b 128 ≡ true
low b k e f = ap (λ x. nat_lt x 128) (eqb-true b k e) ∙ f

-- values

-- the first value and what was noted of all
abbrev pub Keeps : Values → Type 0
Keeps v = (text : List ℕ) → v.first ≡ Some text → IsKept text v.is_long

pub none_kept : Keeps no_values
none_kept text e = cc

value_kept : (v : Values) (value : List ℕ) → Keeps v → IsFine value → Keeps (with_value v (decoded value))
value_kept v value keeps fine text e = by v.is_there (decoded value) refl e
  where
    by : (t : Bool) (o : Option (List ℕ)) → decoded value ≡ o → cond t v.first o ≡ Some text → IsKept text (v.is_long || is_long o)
    by true o f e = let k = keeps text e in record { utf8 = k.utf8; plain = k.plain; long = λ h. ap (λ x. x || is_long o) (k.long h) }
    by false None f e = cc
    by false (Some w) f e =
        let same : w ≡ text = cc in
        let d = decoded_fine value text fine (f ∙ ap Some same) in
        record { utf8 = d.utf8; plain = d.plain; long = λ h. or_true v.is_long (is_long (Some w)) (ap (λ x. nat_lt 255 (length x)) same ∙ h) }
      where
        or_true : (x y : Bool) → y ≡ true → (x || y) ≡ true
        or_true true y k = refl
        or_true false y k = k

-- tokens

-- no word is open
pub record Rests (t : Tokens) : Type 0 where
  pub word : t.word ≡ []
  pub value : IsPlain t.value
  pub first : Keeps t.values

-- outside text and values
pub apart : (u : Utf8) (part : Part) (t : Tokens) → due part ≡ None → is_text part ≡ false → is_quoted part ≡ false → Rests t → IsSpelled u part t
apart u part t no_due no_text no_quote r = record {
  mark = λ m e. let f = sym no_due ∙ e in cc;
  word = λ e. let f = sym e ∙ ap (λ x. x && has_text (kind_in t.stack)) no_text in cc;
  no_word = λ e. r.word;
  plain_word = ap (list_any is_control) r.word;
  value = λ e. let f = sym e ∙ no_quote in cc;
  plain_value = r.value;
  first = r.first;
}

-- where text begins
pub at_text : (u : Utf8) (t : Tokens) → u ≡ Ready → Rests t → IsSpelled u Text t
at_text u t ready r = record {
  mark = λ m e. cc;
  word = λ e. ap (utf8_run (Some Ready)) r.word ∙ ap Some (sym ready);
  no_word = λ e. r.word;
  plain_word = ap (list_any is_control) r.word;
  value = λ e. cc;
  plain_value = r.value;
  first = r.first;
}

pub rests_of : (s : Utf8) (part : Part) (t : Tokens) → is_text part ≡ false → IsSpelled s part t → Rests t
rests_of s part t no_text h = record { word = h.no_word (ap (λ x. x && has_text (kind_in t.stack)) no_text); value = h.plain_value; first = h.first }

-- the innermost element stays
same_kind : (n : ℕ) (es : List Element) → kind_in (counted n es) ≡ kind_in es
same_kind n [] = refl
same_kind n (e ∷ es) = refl

longer_text : (at b : ℕ) (w : Word) → (longer at b w).text ≡ w.text ++ b ∷ []
longer_text at b w = by w.text
  where
    by : (text : List ℕ) → (longer at b (record { at = w.at; text = text })).text ≡ text ++ b ∷ []
    by [] = refl
    by (c ∷ cs) = refl

-- a byte of text
pub letter : (s u : Utf8) (n b : ℕ) (t : Tokens) → utf8_next s b ≡ Some u → is_free b ≡ true → IsSpelled s Text t → IsSpelled u Text (after Letter n b t)
letter s u n b t e free h = by (has_text (kind_in t.stack)) refl (is_white b) refl
  where
    has : Bool
    has = has_text (kind_in t.stack)

    whole : (w : Word) → word_after has n b (word_of t) ≡ w → (has ≡ true → utf8_run (Some Ready) w.text ≡ Some u) → (has ≡ false → w.text ≡ []) → IsPlain w.text → IsSpelled u Text (after Letter n b t)
    whole w is run none plain =
        let k = ap has_text (same_kind (length (ended_by has b (word_of t))) t.stack) in
        record {
          mark = λ m e. cc;
          word = λ f. ap (λ x. utf8_run (Some Ready) x.text) is ∙ run (sym k ∙ f);
          no_word = λ f. ap (λ x. x.text) is ∙ none (sym k ∙ f);
          plain_word = ap (λ x. list_any is_control x.text) is ∙ plain;
          value = λ e. cc;
          plain_value = h.plain_value;
          first = h.first;
        }

    by : (x : Bool) → has ≡ x → (y : Bool) → is_white b ≡ y → IsSpelled u Text (after Letter n b t)
    by true f true g =
        whole no_word (if_true has _ no_word f ∙ if_true (is_white b) no_word _ g) (λ _. ap Some (sym (ascii s u b (white_low b g) e).1)) (λ _. refl) refl
    by true f false g =
        let w = longer n b (word_of t) in
        let text = longer_text n b (word_of t) in
        whole w (if_true has _ no_word f ∙ if_false (is_white b) no_word w g) (λ _. ap (utf8_run (Some Ready)) text ∙ run_push t.word s u b (h.word f) e) (λ k. let m = sym f ∙ k in cc)
        (ap (list_any is_control) text ∙ push_plain t.word b h.plain_word (free_plain b free))
    by false f y g = whole no_word (if_false has _ no_word f) (λ k. let m = sym f ∙ k in cc) (λ _. refl) refl

-- in a value
quoted : (u : Utf8) (part : TagPart) (t : Tokens) → (t.is_read ≡ true → utf8_run (Some Ready) t.value ≡ Some u) → Rests t → IsSpelled u (Tag part) t
quoted u part t run r = record {
  mark = λ m e. cc;
  word = λ e. cc;
  no_word = λ e. r.word;
  plain_word = ap (list_any is_control) r.word;
  value = λ e. run;
  plain_value = r.value;
  first = r.first;
}

pub value_begins : (u : Utf8) (part : TagPart) (n b : ℕ) (t : Tokens) → u ≡ Ready → Rests t → IsSpelled u (Tag part) (after BeginValue n b t)
value_begins u part n b t ready r = quoted u part (after BeginValue n b t) (λ e. ap Some (sym ready)) (record { word = r.word; value = refl; first = r.first })

pub value_goes : (s u : Utf8) (part : TagPart) (n b : ℕ) (t : Tokens) → utf8_next s b ≡ Some u → is_free b ≡ true → is_quoted (Tag part) ≡ true → IsSpelled s (Tag part) t → IsSpelled u (Tag part) (after Value n b t)
value_goes s u part n b t e free is h = by t.is_read refl
  where
    r : Rests t
    r = rests_of s (Tag part) t refl h

    by : (x : Bool) → t.is_read ≡ x → IsSpelled u (Tag part) (cond x (record t { value = t.value ++ b ∷ [] }) t)
    by true f =
        quoted u part (record t { value = t.value ++ b ∷ [] }) (λ g. run_push t.value s u b (h.value is g) e)
        (record { word = r.word; value = push_plain t.value b r.value (free_plain b free); first = r.first })
    by false f = quoted u part t (λ g. let k = sym f ∙ g in cc) r

pub value_ends : (s : Utf8) (part : TagPart) (n b : ℕ) (t : Tokens) → s ≡ Ready → is_quoted (Tag part) ≡ true → IsSpelled s (Tag part) t → Rests (after EndValue n b t)
value_ends s part n b t ready is h = by t.is_read refl
  where
    r : Rests t
    r = rests_of s (Tag part) t refl h

    by : (x : Bool) → t.is_read ≡ x → Rests (cond x (record t { values = with_value t.values (decoded t.value) }) t)
    by true f = record { word = r.word; value = r.value; first = value_kept t.values t.value r.first (record { utf8 = h.value is f ∙ ap Some ready; plain = h.plain_value }) }
    by false f = r

-- the quiet acts
module _ (t : Tokens) (n b : ℕ) (r : Rests t) where
  pub begins : Rests (after BeginName n b t)
  begins = record { word = r.word; value = r.value; first = none_kept }

  pub names_on : Rests (after Name n b t)
  names_on = record { word = r.word; value = r.value; first = r.first }

  pub begins_attribute : Rests (after BeginAttribute n b t)
  begins_attribute = record { word = r.word; value = r.value; first = r.first }

  pub attribute_on : Rests (after Attribute n b t)
  attribute_on = record { word = r.word; value = r.value; first = r.first }

  pub opens : Rests (after Opens n b t)
  opens = record { word = r.word; value = r.value; first = r.first }

  pub closes : Rests (after Closes n b t)
  closes = record { word = r.word; value = r.value; first = r.first }

-- the < of markup
pub less : (s : Utf8) (part : Part) (n b : ℕ) (t : Tokens) → IsSpelled s part t → Rests (after Less n b t)
less s part n b t h = record { word = refl; value = h.plain_value; first = h.first }

-- what a byte ends

-- a word that a byte below 128 ends and that shows no fault
pub holds_word : (s u : Utf8) (b : ℕ) (part : Part) (t : Tokens) → IsSpelled s part t → nat_lt b 128 ≡ true → utf8_next s b ≡ Some u → word_verdict t ≡ None → HoldsWord t
holds_word s u b part t h is_low e quiet = record { name = λ some. named some (in_words part t) refl; number = quiet_number t quiet }
  where
    named : (length t.word == 0) ≡ false → (x : Bool) → in_words part t ≡ x → IsName t.word
    named some true f = record { short = quiet_short t quiet some; utf8 = sound t.word (h.word f ∙ ap Some (ascii s u b is_low e).0); plain = h.plain_word }
    named some false f = let none = ap (λ w. length w == 0) (h.no_word f) in let k = sym some ∙ none in cc

-- the first value, where the tag shows no fault
pub first_named : (t : Tokens) → Keeps t.values → first_cause (opening_rows (opening_at 0 t)) ≡ None → IsName (first_value t)
first_named t keeps quiet = by t.values.first refl
  where
    no_long : t.values.is_long ≡ false
    no_long = quiet_values t quiet

    by : (o : Option (List ℕ)) → t.values.first ≡ o → IsName (unwrap_or o [])
    by None f = record { short = omega arith; utf8 = sound [] refl; plain = refl }
    by (Some text) f =
        let k = keeps text f in
        record { short = short_of (length text) (nat_lt 255 (length text)) refl (λ h. k.long h); utf8 = sound text k.utf8; plain = k.plain }
      where
        short_of : (m : ℕ) (x : Bool) → nat_lt 255 m ≡ x → (x ≡ true → t.values.is_long ≡ true) → m ≤ 255
        short_of m true g long = let y = sym (long refl) ∙ no_long in cc
        short_of m false g long = grind (arith, nat_tests)

pub quiet_caused : (at : ℕ) (o : Option DocCause) → caused at o ≡ None → o ≡ None
quiet_caused at None e = refl
quiet_caused at (Some c) e = cc

pub quiet_empty : (k : Kind) (o : Option DocCause) → empty_cause k o ≡ None → o ≡ None
quiet_empty k None e = refl
quiet_empty k (Some c) e = cc
