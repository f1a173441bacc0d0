-- A reading of tags.
use Rattle.std.proofs.Common.{◌≡◌, ℕ, ◌+◌, true, false, ◌==◌, ◌&&◌, List, [], ◌∷◌, ◌++◌, length, flat_map, Option, Some, refl, ◌∙◌, ap, arith, append_assoc, length-append}
use Rattle.std.specs.List.{list_all}
use Rattle.landxml_read.specs.Markup.{is_white, begins_name, is_in_name, is_name, StartTag, EndTag, is_start, is_end, attribute_text}
use Rattle.landxml_read.specs.declared.level.Level.{Level}
use Rattle.landxml_read.specs.declared.level.Level.TheVariants.{Inside}
use Rattle.landxml_read.specs.declared.scan.Part.TheVariants.{Text, Open, Tag, EndOpen, EndName, EndWhite}
use Rattle.landxml_read.specs.declared.tag.TagPart.TheVariants.{Name}
use Rattle.landxml_read.specs.declared.tokens.Tokens.{Tokens}
use Rattle.landxml_read.specs.declared.act.Act.TheVariants as act
use Rattle.landxml_read.specs.declared.element.Element.{Element as Elem}
use Rattle.landxml_read.specs.Elements.{below}
use Rattle.landxml_read.specs.Events.{Event, Opened, Closed, opening, no_values}
use Rattle.landxml_read.specs.Scan.{opened, passed, closed, is_inside, is_unclosed}
use Rattle.landxml_read.specs.Tokens.{Reading, reads, after, shown, pushed, kind_in, opening_at}
use Rattle.landxml_read.proofs.Attributes.{FromTag, open_end, empty_end, white_run, all_attributed, attributes_run, attributed_all}
use Rattle.landxml_read.proofs.Bytes.{both, differs, white_in_no_name}
use Rattle.landxml_read.proofs.Running.{scan, reading, if_true, if_false, goes, then_reads, grows, stays}

-- whole tags, from after their <

-- the tokens after the name of a tag
abbrev named : Tokens → List ℕ → Tokens
named t name = record t { name = name; values = no_values }

name_run : (L : Level) (t : Tokens) (told : List Event) (name : List ℕ) (n : ℕ) → is_unclosed L ≡ true → is_name name ≡ true
    → reads (Some (reading Open L n t told)) name ≡ Some (reading (Tag Name) L (n + length name) (named t name) told)
name_run L t told [] n un is = cc
name_run L t told (b ∷ bs) n un is =
    let h = both (begins_name b) (list_all is_in_name bs) is in
    let e : n + 1 + length bs ≡ n + length (b ∷ bs) = omega arith in
    goes (reading Open L n t told) b (scan (Tag Name) L) bs _
    (if_false (b == 33) _ _ (differs begins_name b 33 h.0 refl) ∙ if_false (b == 63) _ _ (differs begins_name b 63 h.0 refl)
    ∙ if_false (b == 47 && is_inside L) _ _ (ap (λ x. x && is_inside L) (differs begins_name b 47 h.0 refl)) ∙ if_true (begins_name b && is_unclosed L) _ _ (ap (λ x. x && is_unclosed L) h.0 ∙ un))
    (grows (λ text k. reading (Tag Name) L k (named t text) told) is_in_name (λ text k c ok. goes (reading (Tag Name) L k (named t text) told) c (scan (Tag Name) L) [] _ (if_true (is_in_name c) _ _ ok) refl) bs (b ∷ []) (n + 1) h.1
    ∙ (λ i. Some (reading (Tag Name) L (e i) (named t (b ∷ bs)) told)))

-- the text of a tag after its <
abbrev pub tail_text : StartTag → List ℕ
tail_text tag = tag.name ++ (flat_map attribute_text tag.attributes ++ tag.white)

-- the tokens after a tag
abbrev after_tag : Tokens → StartTag → Tokens
after_tag t tag = all_attributed (named t tag.name) tag.attributes

tag_run : (L : Level) (n m : ℕ) (t : Tokens) (told : List Event) (there : Option Reading) (tag : StartTag) (rest : List ℕ) → m ≡ n + length (tail_text tag) → is_unclosed L ≡ true → is_start tag ≡ true → FromTag L m (after_tag t tag) told there rest
    → reads (Some (reading Open L n t told)) (tail_text tag ++ rest) ≡ there
tag_run L n m t told there tag rest e un is f =
    let white = both _ _ is in
    let attributes = both _ _ white.0 in
    let k = length-append tag.name (flat_map attribute_text tag.attributes ++ tag.white) in
    let g = length-append (flat_map attribute_text tag.attributes) tag.white in
    let on = attributes_run L (n + length tag.name) (n + length tag.name + length (flat_map attribute_text tag.attributes)) (named t tag.name) told there tag.attributes (tag.white ++ rest) refl attributes.1
    (white_run L (n + length tag.name + length (flat_map attribute_text tag.attributes)) m (after_tag t tag) told there tag.white rest (omega (arith, k, g)) white.1 f) in
    ap (reads (Some (reading Open L n t told))) (regroup tag.name (flat_map attribute_text tag.attributes) tag.white rest) ∙ then_reads _ _ tag.name _ there (name_run L t told tag.name n un attributes.0) on.name
  where
    regroup : (a b c d : List ℕ) → (a ++ (b ++ c)) ++ d ≡ a ++ (b ++ (c ++ d))
    regroup a b c d = append_assoc a (b ++ c) d ∙ ap (λ w. a ++ w) (append_assoc b c d)

-- the tag that is read
opening_is : (t : Tokens) (tag : StartTag) (k : ℕ) → opening_at k (after_tag t tag) ≡ opening (kind_in t.stack) (length t.stack) t.at tag k
opening_is t tag k =
    let h = attributed_all (named t tag.name) tag.attributes in
    λ i. record { kind = below (kind_in (h.stack i)) (h.name i); depth = length (h.stack i) + 1; at = h.at i; name = h.name i; values = h.values i; shown = k }

-- the tokens after a tag, but for what only tags look at
pub record HasRead (n m : ℕ) (L M : Level) (t : Tokens) (told now : List Event) (stack : List Elem) (bytes : List ℕ) : Type 0 where
  pub rest : Tokens
  pub runs : reads (Some (reading Open L n t told)) bytes ≡ Some (reading Text M m (record rest { stack = stack; word_at = t.word_at; word = t.word }) now)

pub start_read : (L : Level) (n m : ℕ) (t : Tokens) (told : List Event) (tag : StartTag) → m ≡ n + length (tail_text tag) → is_unclosed L ≡ true → is_start tag ≡ true
    → HasRead n (m + 1) L (opened L) t told (Opened (opening (kind_in t.stack) (length t.stack) t.at tag m) ∷ told) (record { kind = below (kind_in t.stack) tag.name; name = tag.name; words = 0 } ∷ t.stack) (tail_text tag ++ 62 ∷ [])
start_read L n m t told tag e un is =
    let u = after_tag t tag in
    let h = attributed_all (named t tag.name) tag.attributes in
    let o = opening_is t tag m in
    record {
      rest = u;
      runs = tag_run L n m t told _ tag (62 ∷ []) e un is (open_end L m u told)
          ∙ (λ i. Some (reading Text (opened L) (m + 1) (record u { stack = record { kind = below (kind_in (h.stack i)) (h.name i); name = h.name i; words = 0 } ∷ h.stack i; word_at = h.word_at i; word = h.word i }) (Opened (o i) ∷ told)));
    }

pub empty_read : (L : Level) (n m : ℕ) (t : Tokens) (told : List Event) (tag : StartTag) → m ≡ n + length (tail_text tag) → is_unclosed L ≡ true → is_start tag ≡ true
    → HasRead n (m + 1 + 1) L (passed L) t told
    (Closed (record { kind = below (kind_in t.stack) tag.name; words = 0; is_misnamed = false; at = t.at; shown = m + 1 }) ∷ Opened (opening (kind_in t.stack) (length t.stack) t.at tag (m + 1)) ∷ told) t.stack (tail_text tag ++ 47 ∷ 62 ∷ [])
empty_read L n m t told tag e un is =
    let u = after_tag t tag in
    let h = attributed_all (named t tag.name) tag.attributes in
    let o = opening_is t tag (m + 1) in
    record {
      rest = u;
      runs = tag_run L n m t told _ tag (47 ∷ 62 ∷ []) e un is (empty_end L m u told)
          ∙ (λ i. Some (reading Text (passed L) (m + 1 + 1) (record u { stack = h.stack i; word_at = h.word_at i; word = h.word i })
          (Closed (record { kind = below (kind_in (h.stack i)) (h.name i); words = 0; is_misnamed = false; at = h.at i; shown = m + 1 }) ∷ Opened (o i) ∷ told)));
    }

end_white_run : (L : Level) (t : Tokens) (told : List Event) (white : List ℕ) (n m : ℕ) → m ≡ n + length white → list_all is_white white ≡ true
    → reads (Some (reading EndName L n t told)) (white ++ 62 ∷ []) ≡ Some (reading Text (closed L) (m + 1) (after act.Closes m 62 t) (pushed (shown act.Closes m 62 t) told))
end_white_run L t told [] n m e all = let g : n ≡ m = omega arith in λ i. Some (reading Text (closed L) (g i + 1) (after act.Closes (g i) 62 t) (pushed (shown act.Closes (g i) 62 t) told))
end_white_run L t told (w ∷ ws) n m e all =
    let h = both (is_white w) (list_all is_white ws) all in
    let g : n + 1 + length ws ≡ m = omega arith in
    goes (reading EndName L n t told) w (scan EndWhite L) (ws ++ 62 ∷ []) _ (if_false (is_in_name w) _ _ (white_in_no_name w h.0) ∙ if_true (is_white w) _ _ h.0)
    (then_reads _ _ ws (62 ∷ []) _
    (stays (λ k. reading EndWhite L k t told) is_white (λ k b white. goes (reading EndWhite L k t told) b (scan EndWhite L) [] _ (if_true (is_white b) _ _ white) refl) ws (n + 1) h.1)
    (λ i. Some (reading Text (closed L) (g i + 1) (after act.Closes (g i) 62 t) (pushed (shown act.Closes (g i) 62 t) told))))

-- the text of an end tag after its <
abbrev pub end_tail : EndTag → List ℕ
end_tail e = 47 ∷ (e.name ++ (e.white ++ 62 ∷ []))

pub end_read : (k : ℕ) (n m : ℕ) (t : Tokens) (told : List Event) (e : EndTag) → m ≡ n + length e.name + length e.white → is_end e ≡ true
    → reads (Some (reading Open (Inside k) n t told)) (end_tail e) ≡ Some (reading Text (closed (Inside k)) (m + 1 + 1) (after act.Closes (m + 1) 62 (named t e.name)) (pushed (shown act.Closes (m + 1) 62 (named t e.name)) told))
end_read k n m t told e g is = by e.name g (both _ _ is).0
  where
    by : (name : List ℕ) → m ≡ n + length name + length e.white → is_name name ≡ true
        → reads (Some (reading Open (Inside k) n t told)) (47 ∷ (name ++ (e.white ++ 62 ∷ []))) ≡ Some (reading Text (closed (Inside k)) (m + 1 + 1) (after act.Closes (m + 1) 62 (named t name)) (pushed (shown act.Closes (m + 1) 62 (named t name)) told))
    by [] g ok = cc
    by (b ∷ bs) g ok =
        let h = both (begins_name b) (list_all is_in_name bs) ok in
        goes (reading EndOpen (Inside k) (n + 1) t told) b (scan EndName (Inside k)) _ _ (if_true (begins_name b) _ _ h.0)
        (then_reads _ _ bs (e.white ++ 62 ∷ []) _
        (grows (λ text j. reading EndName (Inside k) j (named t text) told) is_in_name (λ text j c ok. goes (reading EndName (Inside k) j (named t text) told) c (scan EndName (Inside k)) [] _ (if_true (is_in_name c) _ _ ok) refl) bs (b ∷ []) (n + 1 + 1) h.1)
        (end_white_run (Inside k) (named t (b ∷ bs)) told e.white (n + 1 + 1 + length bs) (m + 1) (omega arith) (both _ _ is).1))
