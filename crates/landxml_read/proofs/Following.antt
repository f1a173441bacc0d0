-- What may follow in a document, at each level and in each part of its markup.
use Rattle.std.proofs.Common.{◌≡◌, ℕ, zero, suc, true, false, ◌==◌, not, List, [], ◌∷◌, ◌++◌, codes, flat_map, refl, sym, ◌∙◌, ap, subst, append_assoc}
use Rattle.std.specs.List.{list_all}
use Rattle.landxml_read.specs.Markup.{is_white, is_free, begins_name, is_in_name, is_gap, is_quote, is_in_value, Attribute, StartTag, EndTag, is_attribute, is_start, is_end, attribute_text, tag_text, start_text, empty_text, end_text, Content, Nothing, Byte, Comment, Instruction, CData, Empty, Element, is_content, is_outside, content_text}
use Rattle.landxml_read.specs.declared.level.Level.{Level}
use Rattle.landxml_read.specs.declared.level.Level.TheVariants.{Before, Inside, After}
use Rattle.landxml_read.specs.Scan.{opened, passed, closed, is_unclosed}
use Rattle.landxml_read.proofs.Bytes.{both, and_is, white_free, differs}
use Rattle.landxml_read.proofs.Closing.{Until}

-- content, an end tag, and then an R
pub record Closes (R : List ℕ → Type 0) (ys : List ℕ) : Type 0 where
  pub inside : Content
  pub is : is_content inside ≡ true
  pub end : EndTag
  pub ends : is_end end ≡ true
  pub rest : List ℕ
  pub after : R rest
  pub text : ys ≡ content_text inside ++ (end_text end ++ rest)

-- content outside the root, with so many elements
pub record IsOutside (n : ℕ) (ys : List ℕ) : Type 0 where
  pub content : Content
  pub is : is_content content ≡ true
  pub outside : is_outside n content ≡ true
  pub text : ys ≡ content_text content

-- so many elements are open in the root
abbrev pub Deep : ℕ → List ℕ → Type 0
Deep zero ys = Closes (IsOutside 0) ys
Deep (suc k) ys = Closes (Deep k) ys

-- what may follow between markup
abbrev pub Rest : Level → List ℕ → Type 0
Rest Before ys = IsOutside 1 ys
Rest (Inside k) ys = Deep k ys
Rest After ys = IsOutside 0 ys

-- a thing that stands first in content, with its text
pub record IsThing (thing : Content → Content) (t : List ℕ) : Type 0 where
  pub is : (c : Content) → is_content c ≡ true → is_content (thing c) ≡ true
  pub text : (c : Content) → content_text (thing c) ≡ t ++ content_text c

closes_on : (R : List ℕ → Type 0) (t ys : List ℕ) (thing : Content → Content) → IsThing thing t → Closes R ys → Closes R (t ++ ys)
closes_on R t ys thing th r = record {
  inside = thing r.inside;
  is = th.is r.inside r.is;
  end = r.end;
  ends = r.ends;
  rest = r.rest;
  after = r.after;
  text = ap (λ w. t ++ w) r.text ∙ sym (append_assoc t (content_text r.inside) (end_text r.end ++ r.rest)) ∙ ap (λ w. w ++ (end_text r.end ++ r.rest)) (sym (th.text r.inside));
}

pub deep_on : (k : ℕ) (t ys : List ℕ) (thing : Content → Content) → IsThing thing t → Deep k ys → Deep k (t ++ ys)
deep_on zero t ys thing th r = closes_on (IsOutside 0) t ys thing th r
deep_on (suc k) t ys thing th r = closes_on (Deep k) t ys thing th r

outside_on : (n m : ℕ) (t ys : List ℕ) (thing : Content → Content) → IsThing thing t → ((c : Content) → is_outside n c ≡ true → is_outside m (thing c) ≡ true) → IsOutside n ys → IsOutside m (t ++ ys)
outside_on n m t ys thing th out r = record {
  content = thing r.content;
  is = th.is r.content r.is;
  outside = out r.content r.outside;
  text = ap (λ w. t ++ w) r.text ∙ sym (th.text r.content);
}

-- a thing that may stand at each level
rest_on : (L : Level) (t ys : List ℕ) (thing : Content → Content) → IsThing thing t → ((n : ℕ) (c : Content) → is_outside n c ≡ true → is_outside n (thing c) ≡ true) → Rest L ys → Rest L (t ++ ys)
rest_on Before t ys thing th out r = outside_on 1 1 t ys thing th (out 1) r
rest_on (Inside k) t ys thing th out r = deep_on k t ys thing th r
rest_on After t ys thing th out r = outside_on 0 0 t ys thing th (out 0) r

byte_thing : (b : ℕ) → is_free b ≡ true → (b == 60) ≡ false → IsThing (Byte b) (b ∷ [])
byte_thing b free other = record { is = λ c is. and_is _ _ (and_is _ _ free (ap not other)) is; text = λ c. refl }

pub white_on : (L : Level) (b : ℕ) (ys : List ℕ) → is_white b ≡ true → Rest L ys → Rest L (b ∷ ys)
white_on L b ys w r = rest_on L (b ∷ []) ys (Byte b) (byte_thing b (white_free b w) (differs is_white b 60 w refl)) (λ n c out. and_is _ _ w out) r

pub byte_on : (k : ℕ) (b : ℕ) (ys : List ℕ) → is_free b ≡ true → (b == 60) ≡ false → Deep k ys → Deep k (b ∷ ys)
byte_on k b ys free other r = deep_on k (b ∷ []) ys (Byte b) (byte_thing b free other) r

grouped : (a bytes end c : List ℕ) → a ++ (bytes ++ (end ++ c)) ≡ (a ++ (bytes ++ end)) ++ c
grouped a bytes end c = ap (λ w. a ++ w) (sym (append_assoc bytes end c)) ∙ sym (append_assoc a (bytes ++ end) c)

pub comment_on : (L : Level) (ys : List ℕ) → Until (Rest L) (codes "-->") ys → Rest L (codes "<!--" ++ ys)
comment_on L ys u =
    let R : List ℕ → Type 0 = Rest L in
    subst R (sym (ap (λ w. codes "<!--" ++ w) u.text ∙ grouped (codes "<!--") u.bytes (codes "-->") u.rest))
    (rest_on L (codes "<!--" ++ (u.bytes ++ codes "-->")) u.rest (Comment u.bytes) (record { is = λ c is. and_is _ _ u.up_to is; text = λ c. grouped (codes "<!--") u.bytes (codes "-->") (content_text c) }) (λ n c out. out) u.after)

pub instruction_on : (L : Level) (ys : List ℕ) → Until (Rest L) (codes "?>") ys → Rest L (codes "<?" ++ ys)
instruction_on L ys u =
    let R : List ℕ → Type 0 = Rest L in
    subst R (sym (ap (λ w. codes "<?" ++ w) u.text ∙ grouped (codes "<?") u.bytes (codes "?>") u.rest))
    (rest_on L (codes "<?" ++ (u.bytes ++ codes "?>")) u.rest (Instruction u.bytes) (record { is = λ c is. and_is _ _ u.up_to is; text = λ c. grouped (codes "<?") u.bytes (codes "?>") (content_text c) }) (λ n c out. out) u.after)

pub cdata_on : (k : ℕ) (ys : List ℕ) → Until (Deep k) (codes "]]>") ys → Deep k (codes "<![CDATA[" ++ ys)
cdata_on k ys u =
    let R : List ℕ → Type 0 = Deep k in
    subst R (sym (ap (λ w. codes "<![CDATA[" ++ w) u.text ∙ grouped (codes "<![CDATA[") u.bytes (codes "]]>") u.rest))
    (deep_on k (codes "<![CDATA[" ++ (u.bytes ++ codes "]]>")) u.rest (CData u.bytes) (record { is = λ c is. and_is _ _ u.up_to is; text = λ c. grouped (codes "<![CDATA[") u.bytes (codes "]]>") (content_text c) }) u.after)

-- tags

-- what ends a tag
pub data Ending (L : Level) (ys : List ℕ) : Type 0 where
  by_open : (rest : List ℕ) → ys ≡ 62 ∷ rest → Rest (opened L) rest → Ending L ys
  by_empty : (rest : List ℕ) → ys ≡ 47 ∷ 62 ∷ rest → Rest (passed L) rest → Ending L ys

-- attributes, white and an end of the tag
pub record Attributes (L : Level) (ys : List ℕ) : Type 0 where
  pub attributes : List Attribute
  pub are : list_all is_attribute attributes ≡ true
  pub white : List ℕ
  pub is : list_all is_white white ≡ true
  pub rest : List ℕ
  pub ending : Ending L rest
  pub text : ys ≡ flat_map attribute_text attributes ++ (white ++ rest)

-- the rest of a name, and then an R
pub record Named (R : List ℕ → Type 0) (ys : List ℕ) : Type 0 where
  pub name : List ℕ
  pub is : list_all is_in_name name ≡ true
  pub rest : List ℕ
  pub after : R rest
  pub text : ys ≡ name ++ rest

-- white, a byte, and then an R
pub record Spaced (R : List ℕ → Type 0) (b : ℕ) (ys : List ℕ) : Type 0 where
  pub white : List ℕ
  pub is : list_all is_white white ≡ true
  pub rest : List ℕ
  pub after : R rest
  pub text : ys ≡ white ++ b ∷ rest

-- the rest of a value, its quote and the attributes that follow
pub record Quoted (L : Level) (quote : ℕ) (ys : List ℕ) : Type 0 where
  pub value : List ℕ
  pub is : list_all (is_in_value quote) value ≡ true
  pub rest : List ℕ
  pub after : Attributes L rest
  pub text : ys ≡ value ++ quote ∷ rest

-- white and a value
pub record Valued (L : Level) (ys : List ℕ) : Type 0 where
  pub quote : ℕ
  pub is : is_quote quote ≡ true
  pub value : Spaced (Quoted L quote) quote ys

-- the tag of what is begun
start_of : (L : Level) (b : ℕ) (ys : List ℕ) → Named (Attributes L) ys → StartTag
start_of L b ys n = record { name = b ∷ n.name; attributes = n.after.attributes; white = n.after.white }

start_is : (L : Level) (b : ℕ) (ys : List ℕ) (n : Named (Attributes L) ys) → begins_name b ≡ true → is_start (start_of L b ys n) ≡ true
unfolding start_of
start_is L b ys n begins = and_is _ _ (and_is _ _ (and_is _ _ begins n.is) n.after.are) n.after.is

tag_of : (L : Level) (b : ℕ) (ys : List ℕ) (n : Named (Attributes L) ys) → 60 ∷ b ∷ ys ≡ tag_text (start_of L b ys n) ++ n.after.rest
unfolding start_of
tag_of L b ys n =
    ap (λ w. 60 ∷ b ∷ w) (n.text ∙ ap (λ w. n.name ++ w) n.after.text ∙ ap (λ w. n.name ++ w) (sym (append_assoc (flat_map attribute_text n.after.attributes) n.after.white n.after.rest)) ∙ sym (append_assoc n.name (flat_map attribute_text n.after.attributes ++ n.after.white) n.after.rest))

empty_on : (L : Level) (tag : StartTag) (ys : List ℕ) → is_unclosed L ≡ true → is_start tag ≡ true → Rest (passed L) ys → Rest L (empty_text tag ++ ys)
empty_on Before tag ys un is r = outside_on 0 1 (empty_text tag) ys (Empty tag) (record { is = λ c ok. and_is _ _ is ok; text = λ c. refl }) (λ c out. out) r
empty_on (Inside k) tag ys un is r = deep_on k (empty_text tag) ys (Empty tag) (record { is = λ c ok. and_is _ _ is ok; text = λ c. refl }) r
empty_on After tag ys un is r = cc

element_text : (tag : StartTag) (inside : Content) (end : EndTag) (ys : List ℕ) → start_text tag ++ (content_text inside ++ (end_text end ++ ys)) ≡ (start_text tag ++ (content_text inside ++ end_text end)) ++ ys
element_text tag inside end ys = grouped (start_text tag) (content_text inside) (end_text end) ys

whole_on : (L : Level) (tag : StartTag) (ys : List ℕ) → is_unclosed L ≡ true → is_start tag ≡ true → Rest (opened L) ys → Rest L (start_text tag ++ ys)
whole_on Before tag ys un is r =
    let R : List ℕ → Type 0 = IsOutside 1 in
    subst R (sym (ap (λ w. start_text tag ++ w) r.text ∙ element_text tag r.inside r.end r.rest))
    (outside_on 0 1 (start_text tag ++ (content_text r.inside ++ end_text r.end)) r.rest (Element tag r.inside r.end)
    (record { is = λ c ok. and_is _ _ (and_is _ _ (and_is _ _ is r.is) r.ends) ok; text = λ c. element_text tag r.inside r.end (content_text c) }) (λ c out. out) r.after)
whole_on (Inside k) tag ys un is r =
    let R : List ℕ → Type 0 = Deep k in
    subst R (sym (ap (λ w. start_text tag ++ w) r.text ∙ element_text tag r.inside r.end r.rest))
    (deep_on k (start_text tag ++ (content_text r.inside ++ end_text r.end)) r.rest (Element tag r.inside r.end)
    (record { is = λ c ok. and_is _ _ (and_is _ _ (and_is _ _ is r.is) r.ends) ok; text = λ c. element_text tag r.inside r.end (content_text c) }) r.after)
whole_on After tag ys un is r = cc

ended : (L : Level) (tag : StartTag) (ys zs : List ℕ) → is_unclosed L ≡ true → is_start tag ≡ true → ys ≡ tag_text tag ++ zs → Ending L zs → Rest L ys
ended L tag ys zs un is text (by_open rest e r) =
    let R : List ℕ → Type 0 = Rest L in
    subst R (sym (text ∙ ap (λ w. tag_text tag ++ w) e ∙ sym (append_assoc (tag_text tag) (62 ∷ []) rest))) (whole_on L tag rest un is r)
ended L tag ys zs un is text (by_empty rest e r) =
    let R : List ℕ → Type 0 = Rest L in
    subst R (sym (text ∙ ap (λ w. tag_text tag ++ w) e ∙ sym (append_assoc (tag_text tag) (47 ∷ 62 ∷ []) rest))) (empty_on L tag rest un is r)

-- an element that begins with a name
pub element_on : (L : Level) (b : ℕ) (ys : List ℕ) → is_unclosed L ≡ true → begins_name b ≡ true → Named (Attributes L) ys → Rest L (60 ∷ b ∷ ys)
element_on L b ys un begins n = ended L (start_of L b ys n) (60 ∷ b ∷ ys) n.after.rest un (start_is L b ys n begins) (tag_of L b ys n) n.after.ending

-- an end tag
pub end_on : (k : ℕ) (b : ℕ) (ys : List ℕ) → begins_name b ≡ true → Named (Spaced (Rest (closed (Inside k))) 62) ys → Deep k (60 ∷ 47 ∷ b ∷ ys)
end_on k b ys begins n = by k n
  where
    closing : (R : List ℕ → Type 0) → Named (Spaced R 62) ys → Closes R (60 ∷ 47 ∷ b ∷ ys)
    closing R n = record {
      inside = Nothing;
      is = refl;
      end = record { name = b ∷ n.name; white = n.after.white };
      ends = and_is _ _ (and_is _ _ begins n.is) n.after.is;
      rest = n.after.rest;
      after = n.after.after;
      text = ap (λ w. 60 ∷ 47 ∷ b ∷ w) (n.text ∙ ap (λ w. n.name ++ w) n.after.text ∙ regroup n.name n.after.white n.after.rest);
    }
      where
        regroup : (name white rest : List ℕ) → name ++ (white ++ 62 ∷ rest) ≡ (name ++ (white ++ codes ">")) ++ rest
        regroup name white rest = ap (λ w. name ++ w) (sym (append_assoc white (62 ∷ []) rest)) ∙ sym (append_assoc name (white ++ 62 ∷ []) rest)

    by : (k : ℕ) → Named (Spaced (Rest (closed (Inside k))) 62) ys → Deep k (60 ∷ 47 ∷ b ∷ ys)
    by zero n = closing (IsOutside 0) n
    by (suc k) n = closing (Deep k) n

-- attributes

abbrev widened : ℕ → Attribute → Attribute
widened w x = record x { before = w ∷ x.before }

all_white : (before : List ℕ) → is_gap before ≡ true → list_all is_white before ≡ true
all_white (b ∷ bs) gap = gap
all_white [] gap = cc

widened_is : (w : ℕ) (x : Attribute) → is_white w ≡ true → is_attribute x ≡ true → is_attribute (widened w x) ≡ true
widened_is w x white is =
    let a = both _ _ is in
    let b = both _ _ a.0 in
    let c = both _ _ b.0 in
    let d = both _ _ c.0 in
    let e = both _ _ d.0 in
    and_is _ _ (and_is _ _ (and_is _ _ (and_is _ _ (and_is _ _ (and_is _ _ white (all_white x.before e.0)) e.1) d.1) c.1) b.1) a.1

attribute_of : (L : Level) (w b : ℕ) (ys : List ℕ) → Named (Spaced (Valued L) 61) ys → Attribute
attribute_of L w b ys n =
    let v = n.after.after in
    record { before = w ∷ []; name = b ∷ n.name; before_equals = n.after.white; after_equals = v.value.white; quote = v.quote; value = v.value.after.value }

attribute_is : (L : Level) (w b : ℕ) (ys : List ℕ) (n : Named (Spaced (Valued L) 61) ys) → is_white w ≡ true → begins_name b ≡ true → is_attribute (attribute_of L w b ys n) ≡ true
unfolding attribute_of
attribute_is L w b ys n white begins =
    let v = n.after.after in
    and_is _ _ (and_is _ _ (and_is _ _ (and_is _ _ (and_is _ _ (and_is _ _ white refl) (and_is _ _ begins n.is)) n.after.is) v.value.is) v.is) v.value.after.is

attribute_spelled : (L : Level) (w b : ℕ) (ys : List ℕ) (n : Named (Spaced (Valued L) 61) ys) → w ∷ b ∷ ys ≡ attribute_text (attribute_of L w b ys n) ++ n.after.after.value.after.rest
unfolding attribute_of
attribute_spelled L w b ys n =
    let v = n.after.after in
    let q = v.value.after in
    ap (λ r. w ∷ b ∷ r) (n.text ∙ ap (λ r. n.name ++ r) (n.after.text ∙ ap (λ r. n.after.white ++ 61 ∷ r) (v.value.text ∙ ap (λ r. v.value.white ++ v.quote ∷ r) q.text)) ∙ regroup n.name n.after.white v.value.white q.value q.rest v.quote)
  where
    regroup : (a b c d e : List ℕ) (q : ℕ) → a ++ (b ++ 61 ∷ (c ++ q ∷ (d ++ q ∷ e))) ≡ (a ++ (b ++ 61 ∷ (c ++ q ∷ (d ++ q ∷ [])))) ++ e
    regroup a b c d e q = sym (simp append_assoc)

-- white before what follows in a tag
pub white_before : (L : Level) (w : ℕ) (ys : List ℕ) → is_white w ≡ true → Attributes L ys → Attributes L (w ∷ ys)
white_before L w ys white a = by a.attributes a.are a.text
  where
    by : (attributes : List Attribute) → list_all is_attribute attributes ≡ true → ys ≡ flat_map attribute_text attributes ++ (a.white ++ a.rest) → Attributes L (w ∷ ys)
    by [] are text = record { attributes = []; are = refl; white = w ∷ a.white; is = and_is _ _ white a.is; rest = a.rest; ending = a.ending; text = ap (λ v. w ∷ v) text }
    by (x ∷ xs) are text =
        record {
          attributes = widened w x ∷ xs;
          are = and_is _ _ (widened_is w x white (both _ _ are).0) (both _ _ are).1;
          white = a.white;
          is = a.is;
          rest = a.rest;
          ending = a.ending;
          text = ap (λ v. w ∷ v) text;
        }

-- an attribute that begins after white
pub attribute_before : (L : Level) (w b : ℕ) (ys : List ℕ) → is_white w ≡ true → begins_name b ≡ true → Named (Spaced (Valued L) 61) ys → Attributes L (w ∷ b ∷ ys)
attribute_before L w b ys white begins n =
    let v = n.after.after in
    let q = v.value.after in
    let x = attribute_of L w b ys n in
    record {
      attributes = x ∷ q.after.attributes;
      are = and_is _ _ (attribute_is L w b ys n white begins) q.after.are;
      white = q.after.white;
      is = q.after.is;
      rest = q.after.rest;
      ending = q.after.ending;
      text = attribute_spelled L w b ys n ∙ ap (λ r. attribute_text x ++ r) q.after.text ∙ sym (append_assoc (attribute_text x) (flat_map attribute_text q.after.attributes) (q.after.white ++ q.after.rest));
    }

-- the end of a tag after white
pub end_before : (L : Level) (w : ℕ) (ys : List ℕ) → is_white w ≡ true → Ending L ys → Attributes L (w ∷ ys)
end_before L w ys white e = record { attributes = []; are = refl; white = w ∷ []; is = and_is _ _ white refl; rest = ys; ending = e; text = refl }

pub end_here : (L : Level) (ys : List ℕ) → Ending L ys → Attributes L ys
end_here L ys e = record { attributes = []; are = refl; white = []; is = refl; rest = ys; ending = e; text = refl }
