-- A document as a tree, and the bytes that spell it. White, quotes and names are kept as they stand, so a tree has one text.
use Rattle.std.specs.Prelude.{◌≡◌, ℕ, Bool, true, false, ◌==◌, ◌&&◌, ◌||◌, not, nat_lt, List, [], ◌∷◌, ◌++◌, length, take, codes, bytes_eq, flat_map, if◌then◌else◌, IsTrue}
use Rattle.std.specs.List.{list_all}

-- bytes

-- a space, TAB, LF or CR
abbrev pub is_white : ℕ → Bool
is_white b = b == 32 || b == 9 || b == 10 || b == 13

-- allowed somewhere: no byte below 32 but white
abbrev pub is_free : ℕ → Bool
is_free b = nat_lt 31 b || is_white b

-- an ASCII letter, _, : or a byte from 128 on
abbrev pub begins_name : ℕ → Bool
begins_name b = (nat_lt 64 b && nat_lt b 91) || (nat_lt 96 b && nat_lt b 123) || b == 95 || b == 58 || nat_lt 127 b

-- one that begins a name, a digit, - or .
abbrev pub is_in_name : ℕ → Bool
is_in_name b = begins_name b || (nat_lt 47 b && nat_lt b 58) || b == 45 || b == 46

-- one that begins a name, and bytes of names
abbrev pub is_name : List ℕ → Bool
is_name [] = false
is_name (b ∷ bs) = begins_name b && list_all is_in_name bs

-- one white or more
abbrev pub is_gap : List ℕ → Bool
is_gap [] = false
is_gap (b ∷ bs) = is_white b && list_all is_white bs

-- the quotes of an attribute's value
abbrev pub is_quote : ℕ → Bool
is_quote b = b == 34 || b == 39

-- a byte of a value between such quotes
abbrev pub is_in_value : ℕ → ℕ → Bool
is_in_value quote b = is_free b && not (b == quote) && not (b == 60)

-- tags

-- an attribute, with the white before its name, before its = and after it
pub record Attribute : Type 0 where
  pub before : List ℕ
  pub name : List ℕ
  pub before_equals : List ℕ
  pub after_equals : List ℕ
  pub quote : ℕ
  pub value : List ℕ

-- the tag of an element, with the white before its end
pub record StartTag : Type 0 where
  pub name : List ℕ
  pub attributes : List Attribute
  pub white : List ℕ

-- an end tag, with the white before its end
pub record EndTag : Type 0 where
  pub name : List ℕ
  pub white : List ℕ

-- the text of an attribute
abbrev pub attribute_text : Attribute → List ℕ
attribute_text a = a.before ++ (a.name ++ (a.before_equals ++ 61 ∷ (a.after_equals ++ a.quote ∷ (a.value ++ a.quote ∷ []))))

-- the text of a tag up to its end
abbrev pub tag_text : StartTag → List ℕ
tag_text t = 60 ∷ (t.name ++ (flat_map attribute_text t.attributes ++ t.white))

-- the text of a start tag
abbrev pub start_text : StartTag → List ℕ
start_text t = tag_text t ++ codes ">"

-- the text of an empty element
abbrev pub empty_text : StartTag → List ℕ
empty_text t = tag_text t ++ codes "/>"

-- the text of an end tag
abbrev pub end_text : EndTag → List ℕ
end_text e = codes "</" ++ (e.name ++ (e.white ++ codes ">"))

-- at least one white before its name, and a value without its quote and < in it
abbrev pub is_attribute : Attribute → Bool
is_attribute a =
    is_gap a.before && is_name a.name
    && list_all is_white a.before_equals && list_all is_white a.after_equals
    && is_quote a.quote && list_all (is_in_value a.quote) a.value

-- a name, attributes and white
abbrev pub is_start : StartTag → Bool
is_start t = is_name t.name && list_all is_attribute t.attributes && list_all is_white t.white

-- a name and white
abbrev pub is_end : EndTag → Bool
is_end e = is_name e.name && list_all is_white e.white

-- content

-- what stands inside an element, or in a document: one thing, and what comes after it
pub data Content : Type 0 where
  Nothing : Content
  Byte : ℕ → Content → Content
  Comment : List ℕ → Content → Content
  Instruction : List ℕ → Content → Content
  CData : List ℕ → Content → Content
  Empty : StartTag → Content → Content
  Element : StartTag → Content → EndTag → Content → Content

-- the text of content
abbrev pub content_text : Content → List ℕ
content_text Nothing = []
content_text (Byte b after) = b ∷ content_text after
content_text (Comment bytes after) = codes "<!--" ++ (bytes ++ (codes "-->" ++ content_text after))
content_text (Instruction bytes after) = codes "<?" ++ (bytes ++ (codes "?>" ++ content_text after))
content_text (CData bytes after) = codes "<![CDATA[" ++ (bytes ++ (codes "]]>" ++ content_text after))
content_text (Empty tag after) = empty_text tag ++ content_text after
content_text (Element tag inside end after) = start_text tag ++ (content_text inside ++ (end_text end ++ content_text after))

-- with the end after them, the bytes have the end nowhere before
abbrev pub is_up_to : List ℕ → List ℕ → Bool
is_up_to end [] = true
is_up_to end (b ∷ bs) = not (bytes_eq (take (length end) (b ∷ bs ++ end)) end) && is_free b && is_up_to end bs

-- each thing is spelled as it must be
abbrev pub is_content : Content → Bool
is_content Nothing = true
is_content (Byte b after) = is_free b && not (b == 60) && is_content after
is_content (Comment bytes after) = is_up_to (codes "-->") bytes && is_content after
is_content (Instruction bytes after) = is_up_to (codes "?>") bytes && is_content after
is_content (CData bytes after) = is_up_to (codes "]]>") bytes && is_content after
is_content (Empty tag after) = is_start tag && is_content after
is_content (Element tag inside end after) = is_start tag && is_content inside && is_end end && is_content after

-- white, comments and processing instructions, and this many elements
abbrev pub is_outside : ℕ → Content → Bool
is_outside elements Nothing = elements == 0
is_outside elements (Byte b after) = is_white b && is_outside elements after
is_outside elements (Comment bytes after) = is_outside elements after
is_outside elements (Instruction bytes after) = is_outside elements after
is_outside elements (CData bytes after) = false
is_outside elements (Empty tag after) = elements == 1 && is_outside 0 after
is_outside elements (Element tag inside end after) = elements == 1 && is_outside 0 after

-- documents

-- a byte order mark or none, and what stands in the document
pub record Document : Type 0 where
  pub has_mark : Bool
  pub body : Content

-- the bytes of a byte order mark
abbrev pub mark : Document → List ℕ
mark d = if d.has_mark then 0xEF ∷ 0xBB ∷ 0xBF ∷ [] else []

-- the one text of a document
abbrev pub document_text : Document → List ℕ
document_text d = mark d ++ content_text d.body

-- each thing is spelled as it must be, and there is one element outside
abbrev pub IsDocument : Document → Type 0
IsDocument d = IsTrue (is_content d.body && is_outside 1 d.body)

-- the bytes spell a document
abbrev pub IsDocumentText : List ℕ → Type 0
IsDocumentText bytes = (d : Document) × IsDocument d × (bytes ≡ document_text d)
