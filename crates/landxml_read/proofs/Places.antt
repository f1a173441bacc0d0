-- Which elements begin before an offset.
use Rattle.std.proofs.Common.{◌≡◌, ◌≤◌, ◌<◌, ℕ, ◌+◌, Bool, true, false, cond, List, [], ◌∷◌, ◌++◌, length, refl, sym, ◌∙◌, ap, arith, nat_lt, lt-ltb, filter, append_assoc, length-append, codes}
use Rattle.std.proofs.lemmas.Bool.Decides.{nat_tests}
use Rattle.std.proofs.lemmas.List.{append-nil}
use Rattle.landxml_read.specs.declared.kind.Kind.{Kind}
use Rattle.landxml_read.specs.Markup.{StartTag, EndTag, Content, Nothing, Byte, Comment, Instruction, CData, Empty, Element, content_text, start_text, empty_text, end_text}
use Rattle.landxml_read.specs.Elements.{Found, below, elements, empty_found, whole_found}
use Rattle.landxml_read.specs.Lists.{inner, before}

-- those of some elements that begin before an offset
abbrev pub upto : ℕ → List Found → List Found
upto offset es = filter (λ y. nat_lt y.at offset) es

pub filter_more : {X : Type 0} (p : X → Bool) (xs ys : List X) → filter p (xs ++ ys) ≡ filter p xs ++ filter p ys
filter_more p [] ys = refl
filter_more {X = X} p (x ∷ xs) ys = ap (λ zs. cond (p x) (x ∷ zs) zs) (filter_more p xs ys) ∙ by (p x)
  where
    by : (t : Bool) → cond t (x ∷ (filter p xs ++ filter p ys)) (filter p xs ++ filter p ys) ≡ cond t (x ∷ filter p xs) (filter p xs) ++ filter p ys
    by true = refl
    by false = refl

later : (at offset : ℕ) → offset ≤ at → nat_lt at offset ≡ false
later at offset le = grind (arith, nat_tests, le)

earlier : (at offset : ℕ) → at < offset → nat_lt at offset ≡ true
earlier at offset lt = lt-ltb at offset lt

-- an element that begins later
pub upto_later : (offset : ℕ) (e : Found) (es : List Found) → offset ≤ e.at → upto offset (e ∷ es) ≡ upto offset es
upto_later offset e es le = ap (λ t. cond t (e ∷ upto offset es) (upto offset es)) (later e.at offset le)

-- an element that begins earlier
pub upto_earlier : (offset : ℕ) (e : Found) (es : List Found) → e.at < offset → upto offset (e ∷ es) ≡ e ∷ upto offset es
upto_earlier offset e es lt = ap (λ t. cond t (e ∷ upto offset es) (upto offset es)) (earlier e.at offset lt)

-- none of content's begins before it
pub none_before : (kind : Kind) (depth at : ℕ) (x : Content) (offset : ℕ) → offset ≤ at → upto offset (elements kind depth at x) ≡ []
none_before kind depth at Nothing offset le = refl
none_before kind depth at (Byte b after) offset le = none_before kind depth (at + 1) after offset (omega (arith, le))
none_before kind depth at (Comment bytes after) offset le = none_before kind depth (at + (length bytes + 7)) after offset (omega (arith, le))
none_before kind depth at (Instruction bytes after) offset le = none_before kind depth (at + (length bytes + 4)) after offset (omega (arith, le))
none_before kind depth at (CData bytes after) offset le = none_before kind depth (at + (length bytes + 12)) after offset (omega (arith, le))
none_before kind depth at (Empty tag after) offset le =
    let m = at + length (empty_text tag) in
    upto_later offset (empty_found (below kind tag.name) (depth + 1) at tag) (elements kind depth m after) le
    ∙ none_before kind depth m after offset (omega (arith, le))
none_before kind depth at (Element tag inside end after) offset le =
    let own = below kind tag.name in
    let m = at + length (start_text tag) in
    let there = m + length (content_text inside) + length (end_text end) in
    let within = elements own (depth + 1) m inside in
    let further = elements kind depth there after in
    upto_later offset (whole_found own (depth + 1) at tag inside end) (within ++ further) le
    ∙ filter_more (λ y. nat_lt y.at offset) within further
    ∙ ap (λ es. es ++ upto offset further) (none_before own (depth + 1) m inside offset (omega (arith, le)))
    ∙ none_before kind depth there after offset (omega (arith, le))

-- where content ends
abbrev pub end_of : ℕ → Content → ℕ
end_of at x = at + length (content_text x)

pub comment_end : (at : ℕ) (bytes : List ℕ) (after : Content) → end_of (at + (length bytes + 7)) after ≡ end_of at (Comment bytes after)
comment_end at bytes after = let a = length-append bytes (codes "-->" ++ content_text after) in omega (arith, a)

pub instruction_end : (at : ℕ) (bytes : List ℕ) (after : Content) → end_of (at + (length bytes + 4)) after ≡ end_of at (Instruction bytes after)
instruction_end at bytes after = let a = length-append bytes (codes "?>" ++ content_text after) in omega (arith, a)

pub cdata_end : (at : ℕ) (bytes : List ℕ) (after : Content) → end_of (at + (length bytes + 12)) after ≡ end_of at (CData bytes after)
cdata_end at bytes after = let a = length-append bytes (codes "]]>" ++ content_text after) in omega (arith, a)

pub empty_end : (at : ℕ) (tag : StartTag) (after : Content) → end_of (at + length (empty_text tag)) after ≡ end_of at (Empty tag after)
empty_end at tag after = let a = length-append (empty_text tag) (content_text after) in omega (arith, a)

pub element_end : (at : ℕ) (tag : StartTag) (inside : Content) (end : EndTag) (after : Content)
    → end_of (at + length (start_text tag) + length (content_text inside) + length (end_text end)) after ≡ end_of at (Element tag inside end after)
element_end at tag inside end after =
    let a = length-append (start_text tag) (content_text inside ++ (end_text end ++ content_text after)) in
    let b = length-append (content_text inside) (end_text end ++ content_text after) in
    let c = length-append (end_text end) (content_text after) in
    omega (arith, a, b, c)

-- all of content's begin before its end
pub all_before : (kind : Kind) (depth at : ℕ) (x : Content) (offset : ℕ) → end_of at x ≤ offset → upto offset (elements kind depth at x) ≡ elements kind depth at x
all_before kind depth at Nothing offset le = refl
all_before kind depth at (Byte b after) offset le = all_before kind depth (at + 1) after offset (omega (arith, le))
all_before kind depth at (Comment bytes after) offset le = let m = comment_end at bytes after in all_before kind depth (at + (length bytes + 7)) after offset (omega (arith, le, m))
all_before kind depth at (Instruction bytes after) offset le = let m = instruction_end at bytes after in all_before kind depth (at + (length bytes + 4)) after offset (omega (arith, le, m))
all_before kind depth at (CData bytes after) offset le = let m = cdata_end at bytes after in all_before kind depth (at + (length bytes + 12)) after offset (omega (arith, le, m))
all_before kind depth at (Empty tag after) offset le =
    let m = at + length (empty_text tag) in
    let e = empty_end at tag after in
    upto_earlier offset (empty_found (below kind tag.name) (depth + 1) at tag) (elements kind depth m after) (omega (arith, le, e))
    ∙ ap (λ es. empty_found (below kind tag.name) (depth + 1) at tag ∷ es) (all_before kind depth m after offset (omega (arith, le, e)))
all_before kind depth at (Element tag inside end after) offset le =
    let own = below kind tag.name in
    let m = at + length (start_text tag) in
    let there = m + length (content_text inside) + length (end_text end) in
    let within = elements own (depth + 1) m inside in
    let further = elements kind depth there after in
    let e = element_end at tag inside end after in
    upto_earlier offset (whole_found own (depth + 1) at tag inside end) (within ++ further) (omega (arith, le, e))
    ∙ ap (λ es. whole_found own (depth + 1) at tag inside end ∷ es) (
    filter_more (λ y. nat_lt y.at offset) within further
    ∙ ap (λ es. es ++ upto offset further) (all_before own (depth + 1) m inside offset (omega (arith, le, e)))
    ∙ ap (λ es. within ++ es) (all_before kind depth there after offset (omega (arith, le, e)))
    )

-- some elements of a surface from an offset on up to another, with those before and after them
pub record IsPart (surface : Found) (from to : ℕ) (es pre post : List Found) : Type 0 where
  pub is : inner surface ≡ pre ++ (es ++ post)
  pub early : (offset : ℕ) → from ≤ offset → upto offset pre ≡ pre
  pub late : (offset : ℕ) → offset ≤ to → upto offset post ≡ []

-- the same elements between further offsets
pub narrowed : (surface : Found) (from to m n : ℕ) (es pre post : List Found) → from ≤ m → n ≤ to → IsPart surface from to es pre post → IsPart surface m n es pre post
narrowed surface from to m n es pre post le ge part = record { is = part.is; early = λ offset h. part.early offset (omega (arith, le, h)); late = λ offset h. part.late offset (omega (arith, ge, h)) }

-- its first part
pub first_part : (surface : Found) (from m to : ℕ) (es fs pre post : List Found) → m ≤ to → ((offset : ℕ) → offset ≤ m → upto offset fs ≡ []) → IsPart surface from to (es ++ fs) pre post → IsPart surface from m es pre (fs ++ post)
first_part surface from m to es fs pre post le fresh part = record {
  is = part.is ∙ ap (λ ys. pre ++ ys) (append_assoc es fs post);
  early = part.early;
  late = λ offset h. filter_more (λ y. nat_lt y.at offset) fs post ∙ ap (λ ys. ys ++ upto offset post) (fresh offset h) ∙ part.late offset (omega (arith, le, h));
}

-- its second part
pub second_part : (surface : Found) (from m to : ℕ) (es fs pre post : List Found) → from ≤ m → ((offset : ℕ) → m ≤ offset → upto offset es ≡ es) → IsPart surface from to (es ++ fs) pre post → IsPart surface m to fs (pre ++ es) post
second_part surface from m to es fs pre post le old part = record {
  is = part.is ∙ ap (λ ys. pre ++ ys) (append_assoc es fs post) ∙ sym (append_assoc pre es (fs ++ post));
  early = λ offset h.
      filter_more (λ y. nat_lt y.at offset) pre es
      ∙ ap (λ ys. ys ++ upto offset es) (part.early offset (omega (arith, le, h)))
      ∙ ap (λ ys. pre ++ ys) (old offset h);
  late = part.late;
}

-- those before it
pub before_is : (surface : Found) (from to : ℕ) (es pre post : List Found) → from ≤ to → upto from es ≡ [] → IsPart surface from to es pre post → before from surface ≡ pre
before_is surface from to es pre post le fresh part =
    ap (upto from) part.is
    ∙ filter_more (λ y. nat_lt y.at from) pre (es ++ post)
    ∙ ap (λ ys. upto from pre ++ ys) (filter_more (λ y. nat_lt y.at from) es post ∙ ap (λ ys. ys ++ upto from post) fresh ∙ part.late from le)
    ∙ append-nil (upto from pre)
    ∙ part.early from (omega arith)
