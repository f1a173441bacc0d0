-- A reading of attributes, up to the end of a tag.
use Rattle.std.proofs.Common.{◌≡◌, ℕ, ◌+◌, Bool, true, false, ◌==◌, cond, List, [], ◌∷◌, ◌++◌, length, flat_map, Option, Some, refl, sym, ◌∙◌, ap, subst, arith, append_assoc, length-append, inl, inr}
use Rattle.std.specs.List.{list_all}
use Rattle.landxml_read.specs.Markup.{is_white, begins_name, is_in_name, is_in_value, is_name, is_gap, is_quote, Attribute as Attr, is_attribute, attribute_text}
use Rattle.landxml_read.specs.declared.level.Level.{Level}
use Rattle.landxml_read.specs.declared.scan.Part.TheVariants.{Text, Tag}
use Rattle.landxml_read.specs.declared.tag.TagPart.{TagPart}
use Rattle.landxml_read.specs.declared.tag.TagPart.TheVariants.{Name, White, Attribute, BeforeEquals, AfterEquals, DoubleQuoted, SingleQuoted, AfterValue}
use Rattle.landxml_read.specs.declared.tokens.Tokens.{Tokens}
use Rattle.landxml_read.specs.declared.act.Act.TheVariants as act
use Rattle.landxml_read.specs.Faults.{read_name}
use Rattle.landxml_read.specs.Values.{decoded}
use Rattle.landxml_read.specs.Events.{Event, is_read_name, with_value, with_attributes}
use Rattle.landxml_read.specs.Scan.{opened, passed, value_next, tag_next, next}
use Rattle.landxml_read.specs.Tokens.{Reading, reads, step, after, shown, pushed, tag_act, kind_of}
use Rattle.landxml_read.proofs.Bytes.{both, flip_true, white_in_no_name, white_begins_no_name, quote_cases}
use Rattle.landxml_read.proofs.Running.{scan, reading, if_true, if_false, goes, goes_by, then_reads, grows, stays}

-- after a name, white or a value the rest of a tag brings the reading there
pub record FromTag (L : Level) (n : ℕ) (t : Tokens) (told : List Event) (there : Option Reading) (rest : List ℕ) : Type 0 where
  pub name : reads (Some (reading (Tag Name) L n t told)) rest ≡ there
  pub white : reads (Some (reading (Tag White) L n t told)) rest ≡ there
  pub value : reads (Some (reading (Tag AfterValue) L n t told)) rest ≡ there

pub open_end : (L : Level) (n : ℕ) (t : Tokens) (told : List Event) → FromTag L n t told (Some (reading Text (opened L) (n + 1) (after act.Opens n 62 t) (pushed (shown act.Opens n 62 t) told))) (62 ∷ [])
open_end L n t told = record { name = refl; white = refl; value = refl }

pub empty_end : (L : Level) (n : ℕ) (t : Tokens) (told : List Event) → FromTag L n t told (Some (reading Text (passed L) (n + 1 + 1) t (pushed (shown act.Passes (n + 1) 62 t) told))) (47 ∷ 62 ∷ [])
empty_end L n t told = record { name = refl; white = refl; value = refl }

at_white : (L : Level) (n : ℕ) (t : Tokens) (told : List Event) (there : Option Reading) (w : ℕ) (ys : List ℕ) → is_white w ≡ true → reads (Some (reading (Tag White) L (n + 1) t told)) ys ≡ there → FromTag L n t told there (w ∷ ys)
at_white L n t told there w ys white e = record {
  name = goes (reading (Tag Name) L n t told) w (scan (Tag White) L) ys there (if_false (is_in_name w) _ _ (white_in_no_name w white) ∙ if_true (is_white w) _ _ white) e;
  white = goes (reading (Tag White) L n t told) w (scan (Tag White) L) ys there (if_false (begins_name w) _ _ (white_begins_no_name w white) ∙ if_true (is_white w) _ _ white) e;
  value = goes (reading (Tag AfterValue) L n t told) w (scan (Tag White) L) ys there (if_true (is_white w) _ _ white) e;
}

-- white in a tag
pub white_run : (L : Level) (n m : ℕ) (t : Tokens) (told : List Event) (there : Option Reading) (bs rest : List ℕ) → m ≡ n + length bs → list_all is_white bs ≡ true → FromTag L m t told there rest → FromTag L n t told there (bs ++ rest)
white_run L n m t told there [] rest e all f = let same : m ≡ n = omega arith in let P : ℕ → Type 0 = λ k. FromTag L k t told there rest in subst P same f
white_run L n m t told there (b ∷ bs) rest e all f =
    let h = both (is_white b) (list_all is_white bs) all in at_white L n t told there b (bs ++ rest) h.0 (white_run L (n + 1) m t told there bs rest (omega arith) h.1 f).white

gap_run : (L : Level) (n : ℕ) (t : Tokens) (told : List Event) (there : Option Reading) (bs rest : List ℕ) → is_gap bs ≡ true → ((m : ℕ) → m ≡ n + length bs → reads (Some (reading (Tag White) L m t told)) rest ≡ there) → FromTag L n t told there (bs ++ rest)
gap_run L n t told there [] rest gap e = cc
gap_run L n t told there (b ∷ bs) rest gap e =
    let h = both (is_white b) (list_all is_white bs) gap in
    at_white L n t told there b (bs ++ rest) h.0
    (then_reads (reading (Tag White) L (n + 1) t told) _ bs rest there
    (stays (λ k. reading (Tag White) L k t told) is_white (λ k w white. goes (reading (Tag White) L k t told) w (scan (Tag White) L) [] _ (if_false (begins_name w) _ _ (white_begins_no_name w white) ∙ if_true (is_white w) _ _ white) refl) bs (n + 1) h.1)
    (e (n + 1 + length bs) (omega arith)))

-- values

-- the tokens in a value of which so much was read
abbrev in_value : Tokens → Bool → List ℕ → Tokens
in_value t is_read text = record t { is_read = is_read; value = cond is_read text [] }

-- the tokens after a value
abbrev pub valued : Tokens → Bool → List ℕ → Tokens
valued t is_read text = record t { is_read = is_read; value = cond is_read text []; values = cond is_read (with_value t.values (decoded text)) t.values }

-- a part of a tag in which a value between such quotes is read
record IsQuoted (L : Level) (part : TagPart) (quote : ℕ) : Type 0 where
  goes_on : (b : ℕ) → tag_next L part b ≡ value_next L part quote b
  same : (quote == quote) ≡ true
  byte : tag_act part part ≡ act.Value
  end : tag_act part AfterValue ≡ act.EndValue

value_run : (L : Level) (t : Tokens) (told : List Event) (part : TagPart) (quote : ℕ) → IsQuoted L part quote → (r : Bool) (v : List ℕ) (n : ℕ) → list_all (is_in_value quote) v ≡ true
    → reads (Some (reading (Tag part) L n (in_value t r []) told)) (v ++ quote ∷ []) ≡ Some (reading (Tag AfterValue) L (n + length v + 1) (valued t r v) told)
value_run L t told part quote q r v n all =
    then_reads _ _ v (quote ∷ []) _
    (grows (λ text k. reading (Tag part) L k (in_value t r text) told) (is_in_value quote) (λ text k b ok. each r text k b (q.goes_on b ∙ if_false (b == quote) _ _ (flip_true _ (both _ _ (both _ _ ok).0).1) ∙ if_true (is_in_value quote b) _ _ ok)) v [] n all)
    (ends r (n + length v) (q.goes_on quote ∙ if_true (quote == quote) _ _ q.same))
  where
    each : (r : Bool) (text : List ℕ) (k b : ℕ) → next (scan (Tag part) L) b ≡ Some (scan (Tag part) L) → step (reading (Tag part) L k (in_value t r text) told) b ≡ Some (reading (Tag part) L (k + 1) (in_value t r (text ++ b ∷ [])) told)
    each true text k b e = goes_by (reading (Tag part) L k (in_value t true text) told) b (scan (Tag part) L) act.Value e q.byte
    each false text k b e = goes_by (reading (Tag part) L k (in_value t false text) told) b (scan (Tag part) L) act.Value e q.byte

    ends : (r : Bool) (k : ℕ) → next (scan (Tag part) L) quote ≡ Some (scan (Tag AfterValue) L) → step (reading (Tag part) L k (in_value t r v) told) quote ≡ Some (reading (Tag AfterValue) L (k + 1) (valued t r v) told)
    ends true k e = goes_by (reading (Tag part) L k (in_value t true v) told) quote (scan (Tag AfterValue) L) act.EndValue e q.end
    ends false k e = goes_by (reading (Tag part) L k (in_value t false v) told) quote (scan (Tag AfterValue) L) act.EndValue e q.end

-- whether the value is read of the attribute that is open
abbrev is_wanted : Tokens → Bool
is_wanted t = is_read_name (read_name (kind_of t)) t.attribute

quoted_run : (L : Level) (t : Tokens) (told : List Event) (quote : ℕ) (v : List ℕ) (n : ℕ) → is_quote quote ≡ true → list_all (is_in_value quote) v ≡ true
    → reads (Some (reading (Tag AfterEquals) L n t told)) (quote ∷ (v ++ quote ∷ [])) ≡ Some (reading (Tag AfterValue) L (n + 1 + length v + 1) (valued t (is_wanted t) v) told)
quoted_run L t told quote v n q all = elim (quote_cases quote q) [ inl e ↦ double e | inr e ↦ single e ]
  where
    nil : (r : Bool) → ◌≡◌ {A = List ℕ} [] (cond r [] [])
    nil true = refl
    nil false = refl

    double : quote ≡ 34 → reads (Some (reading (Tag AfterEquals) L n t told)) (quote ∷ (v ++ quote ∷ [])) ≡ Some (reading (Tag AfterValue) L (n + 1 + length v + 1) (valued t (is_wanted t) v) told)
    double e =
        ap (λ x. reads (Some (reading (Tag AfterEquals) L n t told)) (x ∷ (v ++ x ∷ []))) e
        ∙ ap (λ w. reads (Some (reading (Tag DoubleQuoted) L (n + 1) (record t { is_read = is_wanted t; value = w }) told)) (v ++ 34 ∷ [])) (nil (is_wanted t))
        ∙ value_run L t told DoubleQuoted 34 (record { goes_on = λ b. refl; same = refl; byte = refl; end = refl }) (is_wanted t) v (n + 1) (ap (λ x. list_all (is_in_value x) v) (sym e) ∙ all)

    single : quote ≡ 39 → reads (Some (reading (Tag AfterEquals) L n t told)) (quote ∷ (v ++ quote ∷ [])) ≡ Some (reading (Tag AfterValue) L (n + 1 + length v + 1) (valued t (is_wanted t) v) told)
    single e =
        ap (λ x. reads (Some (reading (Tag AfterEquals) L n t told)) (x ∷ (v ++ x ∷ []))) e
        ∙ ap (λ w. reads (Some (reading (Tag SingleQuoted) L (n + 1) (record t { is_read = is_wanted t; value = w }) told)) (v ++ 39 ∷ [])) (nil (is_wanted t))
        ∙ value_run L t told SingleQuoted 39 (record { goes_on = λ b. refl; same = refl; byte = refl; end = refl }) (is_wanted t) v (n + 1) (ap (λ x. list_all (is_in_value x) v) (sym e) ∙ all)

-- attributes

equals_run : (L : Level) (t : Tokens) (told : List Event) (white : List ℕ) (n : ℕ) → list_all is_white white ≡ true
    → reads (Some (reading (Tag Attribute) L n t told)) (white ++ 61 ∷ []) ≡ Some (reading (Tag AfterEquals) L (n + length white + 1) t told)
equals_run L t told [] n all = let e : n + 1 ≡ n + 0 + 1 = omega arith in λ i. Some (reading (Tag AfterEquals) L (e i) t told)
equals_run L t told (w ∷ ws) n all =
    let h = both (is_white w) (list_all is_white ws) all in
    let e : n + 1 + length ws + 1 ≡ n + length (w ∷ ws) + 1 = omega arith in
    goes (reading (Tag Attribute) L n t told) w (scan (Tag BeforeEquals) L) (ws ++ 61 ∷ []) _ (if_false (is_in_name w) _ _ (white_in_no_name w h.0) ∙ if_true (is_white w) _ _ h.0)
    (then_reads _ _ ws (61 ∷ []) _
    (stays (λ k. reading (Tag BeforeEquals) L k t told) is_white (λ k b white. goes (reading (Tag BeforeEquals) L k t told) b (scan (Tag BeforeEquals) L) [] _ (if_true (is_white b) _ _ white) refl) ws (n + 1) h.1)
    (λ i. Some (reading (Tag AfterEquals) L (e i) t told)))

attribute_name_run : (L : Level) (t : Tokens) (told : List Event) (name : List ℕ) (n : ℕ) → is_name name ≡ true
    → reads (Some (reading (Tag White) L n t told)) name ≡ Some (reading (Tag Attribute) L (n + length name) (record t { attribute = name }) told)
attribute_name_run L t told [] n is = cc
attribute_name_run L t told (b ∷ bs) n is =
    let h = both (begins_name b) (list_all is_in_name bs) is in
    let e : n + 1 + length bs ≡ n + length (b ∷ bs) = omega arith in
    goes (reading (Tag White) L n t told) b (scan (Tag Attribute) L) bs _ (if_true (begins_name b) _ _ h.0)
    (grows (λ text k. reading (Tag Attribute) L k (record t { attribute = text }) told) is_in_name
    (λ text k c ok. goes (reading (Tag Attribute) L k (record t { attribute = text }) told) c (scan (Tag Attribute) L) [] _ (if_true (is_in_name c) _ _ ok) refl) bs (b ∷ []) (n + 1) h.1
    ∙ (λ i. Some (reading (Tag Attribute) L (e i) (record t { attribute = b ∷ bs }) told)))

-- the tokens after an attribute
abbrev pub attributed : Tokens → Attr → Tokens
attributed t a = valued (record t { attribute = a.name }) (is_read_name (read_name (kind_of t)) a.name) a.value

attribute_length : (a : Attr) → length (attribute_text a) ≡ length a.before + (length a.name + (length a.before_equals + (1 + (length a.after_equals + (1 + (length a.value + 1))))))
attribute_length a =
    let e = length-append a.value (a.quote ∷ []) in
    let f = length-append a.after_equals (a.quote ∷ (a.value ++ a.quote ∷ [])) in
    let g = length-append a.before_equals (61 ∷ (a.after_equals ++ a.quote ∷ (a.value ++ a.quote ∷ []))) in
    let h = length-append a.name (a.before_equals ++ 61 ∷ (a.after_equals ++ a.quote ∷ (a.value ++ a.quote ∷ []))) in
    let k = length-append a.before (a.name ++ (a.before_equals ++ 61 ∷ (a.after_equals ++ a.quote ∷ (a.value ++ a.quote ∷ [])))) in
    omega (arith, e, f, g, h, k)

attribute_run : (L : Level) (n m : ℕ) (t : Tokens) (told : List Event) (there : Option Reading) (a : Attr) (rest : List ℕ) → m ≡ n + length (attribute_text a) → is_attribute a ≡ true → FromTag L m (attributed t a) told there rest
    → FromTag L n t told there (attribute_text a ++ rest)
attribute_run L n m t told there a rest e is f =
    let value = both _ _ is in
    let quote = both _ _ value.0 in
    let after_equals = both _ _ quote.0 in
    let before_equals = both _ _ after_equals.0 in
    let name = both _ _ before_equals.0 in
    let u : Tokens = record t { attribute = a.name } in
    let P : List ℕ → Type 0 = FromTag L n t told there in
    subst P (sym (regroup a.before a.name a.before_equals a.after_equals a.value rest a.quote))
    (gap_run L n t told there a.before (a.name ++ ((a.before_equals ++ 61 ∷ []) ++ (a.after_equals ++ ((a.quote ∷ (a.value ++ a.quote ∷ [])) ++ rest)))) name.0
    (λ k g.
    then_reads _ _ a.name _ there (attribute_name_run L t told a.name k name.1)
    (then_reads _ _ (a.before_equals ++ 61 ∷ []) _ there (equals_run L u told a.before_equals (k + length a.name) before_equals.1)
    (then_reads _ _ a.after_equals _ there
    (stays (λ j. reading (Tag AfterEquals) L j u told) is_white (λ j b white. goes (reading (Tag AfterEquals) L j u told) b (scan (Tag AfterEquals) L) [] _ (if_true (is_white b) _ _ white) refl) a.after_equals (k + length a.name + length a.before_equals + 1) after_equals.1)
    (then_reads (reading (Tag AfterEquals) L (k + length a.name + length a.before_equals + 1 + length a.after_equals) u told) _ (a.quote ∷ (a.value ++ a.quote ∷ [])) rest there (quoted_run L u told a.quote a.value (k + length a.name + length a.before_equals + 1 + length a.after_equals) quote.1 value.1)
    (let same : m ≡ k + length a.name + length a.before_equals + 1 + length a.after_equals + 1 + length a.value + 1 = omega (arith, attribute_length a) in
    let Q : ℕ → Type 0 = λ j. reads (Some (reading (Tag AfterValue) L j (attributed t a) told)) rest ≡ there in
    subst Q same f.value))))))
  where
    regroup : (a b c d e f : List ℕ) (q : ℕ) → (a ++ (b ++ (c ++ 61 ∷ (d ++ q ∷ (e ++ q ∷ []))))) ++ f ≡ a ++ (b ++ ((c ++ 61 ∷ []) ++ (d ++ ((q ∷ (e ++ q ∷ [])) ++ f))))
    regroup a b c d e f q = simp append_assoc

-- the tokens after some attributes
abbrev pub all_attributed : Tokens → List Attr → Tokens
all_attributed t [] = t
all_attributed t (a ∷ attributes) = all_attributed (attributed t a) attributes

pub attributes_run : (L : Level) (n m : ℕ) (t : Tokens) (told : List Event) (there : Option Reading) (attributes : List Attr) (rest : List ℕ) → m ≡ n + length (flat_map attribute_text attributes) → list_all is_attribute attributes ≡ true
    → FromTag L m (all_attributed t attributes) told there rest → FromTag L n t told there (flat_map attribute_text attributes ++ rest)
attributes_run L n m t told there [] rest e all f = let same : m ≡ n = omega arith in let P : ℕ → Type 0 = λ k. FromTag L k t told there rest in subst P same f
attributes_run L n m t told there (a ∷ more) rest e all f =
    let h = both (is_attribute a) (list_all is_attribute more) all in
    let len = length-append (attribute_text a) (flat_map attribute_text more) in
    let P : List ℕ → Type 0 = FromTag L n t told there in
    subst P (sym (append_assoc (attribute_text a) (flat_map attribute_text more) rest))
    (attribute_run L n (n + length (attribute_text a)) t told there a _ refl h.0 (attributes_run L (n + length (attribute_text a)) m (attributed t a) told there more rest (omega (arith, len)) h.1 f))

-- what attributes leave as it is, and what they come to
pub record Attributed (t : Tokens) (attributes : List Attr) (u : Tokens) : Type 0 where
  pub at : u.at ≡ t.at
  pub name : u.name ≡ t.name
  pub word_at : u.word_at ≡ t.word_at
  pub word : u.word ≡ t.word
  pub stack : u.stack ≡ t.stack
  pub values : u.values ≡ with_attributes (read_name (kind_of t)) t.values attributes

pub attributed_all : (t : Tokens) (attributes : List Attr) → Attributed t attributes (all_attributed t attributes)
attributed_all t [] = record { at = refl; name = refl; word_at = refl; word = refl; stack = refl; values = refl }
attributed_all t (a ∷ more) =
    let h = attributed_all (attributed t a) more in record { at = h.at; name = h.name; word_at = h.word_at; word = h.word; stack = h.stack; values = h.values }
