-- What the scan accepts is a document.
use Rattle.std.proofs.Common.{◌≡◌, ℕ, Bool, true, false, ◌==◌, ◌&&◌, ◌||◌, cond, List, [], ◌∷◌, ◌++◌, codes, Option, None, Some, refl, sym, ◌∙◌, ap, subst, eqb-true}
use Rattle.landxml_read.specs.Markup.{is_white, is_free, begins_name, is_in_name, is_in_value, Nothing, IsDocumentText}
use Rattle.landxml_read.specs.declared.scan.Scan.{Scan}
use Rattle.landxml_read.specs.declared.level.Level.{Level}
use Rattle.landxml_read.specs.declared.level.Level.TheVariants.{Before, Inside, After}
use Rattle.landxml_read.specs.declared.scan.Part.{Part}
use Rattle.landxml_read.specs.declared.scan.Part.TheVariants.{Start, MarkFirst, MarkSecond, Text, Open, Bang, BangDash, Bracket, BracketC, BracketCd, BracketCda, BracketCdat, BracketCdata, In, Tag, EndOpen, EndName, EndWhite}
use Rattle.landxml_read.specs.declared.skipped.Skipped.{Skipped}
use Rattle.landxml_read.specs.declared.skipped.Skipped.TheVariants.{Comment, CommentDash, CommentDashes, Instruction, InstructionMark, CData, CDataBracket, CDataBrackets}
use Rattle.landxml_read.specs.declared.tag.TagPart.{TagPart}
use Rattle.landxml_read.specs.declared.tag.TagPart.TheVariants.{Name, White, Attribute, BeforeEquals, AfterEquals, DoubleQuoted, SingleQuoted, AfterValue, Slash}
use Rattle.landxml_read.specs.Scan.{opened, passed, closed, is_inside, is_unclosed, at, only, text_next, open_next, bang_next, skipping, skipped_next, tag_end, white_or_end, before_quote, value_next, tag_next, end_next, part_next, next, is_final, run}
use Rattle.landxml_read.proofs.Accepts.{Slashed, AcceptsSkipped, AcceptsTag, Accepts, Continues, by_test}
use Rattle.landxml_read.proofs.Bytes.{both, and_is}
use Rattle.landxml_read.proofs.Closing.{Until, until_more, until_end, twice, no_first, no_second, no_third, no_mark, no_close}
use Rattle.landxml_read.proofs.Following.{Rest, IsOutside, white_on, byte_on, comment_on, instruction_on, cdata_on, Ending, by_open, by_empty, Attributes, Named, Spaced, Quoted, Valued, element_on, end_on, white_before, attribute_before, end_here}

-- a byte that must stand there
by_only : (k b : ℕ) (L : Level) (part : Part) (ys : List ℕ) (G : ℕ → Type 0) → (Accepts part L ys → G k) → Continues (only k b L part) ys → G b
by_only k b L part ys G on c = by_test (b == k) (at L part) None ys (G b) (λ e a. subst G (sym (eqb-true b k e)) (on a)) (λ e n. absurd n) c

text_back : (L : Level) (b : ℕ) (ys : List ℕ) → Continues (text_next L b) ys → Rest L (b ∷ ys)
text_back L b ys c =
    let R : ℕ → Type 0 = λ x. Rest L (x ∷ ys) in
    by_test (b == 60) (at L Open) _ ys (Rest L (b ∷ ys)) (λ e a. subst R (sym (eqb-true b 60 e)) a)
    (λ e d. by_test (is_white b || (is_inside L && is_free b)) (at L Text) None ys (Rest L (b ∷ ys)) (λ f a. on L (is_white b) refl f e a) (λ f n. absurd n) d) c
  where
    deeper : (L : Level) → is_inside L && is_free b ≡ true → (b == 60) ≡ false → Rest L ys → Rest L (b ∷ ys)
    deeper Before f e a = cc
    deeper (Inside k) f e a = byte_on k b ys f e a
    deeper After f e a = cc

    on : (L : Level) (w : Bool) → is_white b ≡ w → (is_white b || (is_inside L && is_free b)) ≡ true → (b == 60) ≡ false → Rest L ys → Rest L (b ∷ ys)
    on L true g f e a = white_on L b ys g a
    on L false g f e a = deeper L (sym (ap (λ t. t || (is_inside L && is_free b)) g) ∙ f) e a

inside_level : (L : Level) (P : Level → Type 0) → is_inside L ≡ true → ((k : ℕ) → P (Inside k)) → P L
inside_level Before P e on = cc
inside_level (Inside k) P e on = on k
inside_level After P e on = cc

open_back : (L : Level) (b : ℕ) (ys : List ℕ) → Continues (open_next L b) ys → Rest L (60 ∷ b ∷ ys)
open_back L b ys c =
    let R : ℕ → Type 0 = λ x. Rest L (60 ∷ x ∷ ys) in
    by_test (b == 33) (at L Bang) _ ys (R b) (λ e a. subst R (sym (eqb-true b 33 e)) a)
    (λ e d. by_test (b == 63) (at L (In Instruction)) _ ys (R b) (λ e a. subst R (sym (eqb-true b 63 e)) (instruction_on L ys a))
    (λ e d. by_test (b == 47 && is_inside L) (at L EndOpen) _ ys (R b) (λ e a. let p = both (b == 47) (is_inside L) e in subst R (sym (eqb-true b 47 p.0)) (a p.1))
    (λ e d. by_test (begins_name b && is_unclosed L) (at L (Tag Name)) None ys (R b) (λ e a. let p = both (begins_name b) (is_unclosed L) e in element_on L b ys p.1 p.0 a) (λ e n. absurd n) d) d) d) c

bang_back : (L : Level) (b : ℕ) (ys : List ℕ) → Continues (bang_next L b) ys → Rest L (60 ∷ 33 ∷ b ∷ ys)
bang_back L b ys c =
    let R : ℕ → Type 0 = λ x. Rest L (60 ∷ 33 ∷ x ∷ ys) in
    by_test (b == 45) (at L BangDash) _ ys (R b) (λ e a. subst R (sym (eqb-true b 45 e)) a)
    (λ e d. by_test (b == 91 && is_inside L) (at L Bracket) None ys (R b) (λ e a. let p = both (b == 91) (is_inside L) e in subst R (sym (eqb-true b 91 p.0)) (a p.1)) (λ e n. absurd n) d) c

-- up to an end of a byte twice and >

none_back : (R : List ℕ → Type 0) (x b : ℕ) (ys : List ℕ) → is_free b ≡ true → (b == x) ≡ false → Until R (twice x) ys → Until R (twice x) (b ∷ ys)
none_back R x b ys free e u = until_more R (twice x) ys b free (no_first x b ys e) u

one_back : (R : List ℕ → Type 0) (x b : ℕ) (ys : List ℕ) → is_free x ≡ true → is_free b ≡ true → (b == x) ≡ false → Until R (twice x) ys → Until R (twice x) (x ∷ b ∷ ys)
one_back R x b ys both_free free e u = until_more R (twice x) (b ∷ ys) x both_free (no_second x b ys e) (none_back R x b ys free e u)

two_back : (R : List ℕ → Type 0) (x b : ℕ) (ys : List ℕ) → is_free x ≡ true → is_free b ≡ true → (b == x) ≡ false → (b == 62) ≡ false → Until R (twice x) ys → Until R (twice x) (x ∷ x ∷ b ∷ ys)
two_back R x b ys both_free free e f u = until_more R (twice x) (x ∷ b ∷ ys) x both_free (no_third x b ys f) (one_back R x b ys both_free free e u)

more_back : (R : List ℕ → Type 0) (x b : ℕ) (ys : List ℕ) → is_free x ≡ true → (b == x) ≡ true → (b == 62) ≡ false → Until R (twice x) (x ∷ x ∷ ys) → Until R (twice x) (x ∷ x ∷ b ∷ ys)
more_back R x b ys free e f u =
    let same : b ≡ x = eqb-true b x e in
    let P : ℕ → Type 0 = λ y. Until R (twice x) (x ∷ x ∷ y ∷ ys) in
    subst P (sym same) (until_more R (twice x) (x ∷ x ∷ ys) x free (no_third x x ys (sym (ap (λ y. y == 62) same) ∙ f)) u)

close_back : (R : List ℕ → Type 0) (x b : ℕ) (ys : List ℕ) → (b == 62) ≡ true → R ys → Until R (twice x) (x ∷ x ∷ b ∷ ys)
close_back R x b ys e r =
    let P : ℕ → Type 0 = λ y. Until R (twice x) (x ∷ x ∷ y ∷ ys) in
    subst P (sym (eqb-true b 62 e)) (until_end R (twice x) ys r)

by_skip : (L : Level) (part : Skipped) (b : ℕ) (ys : List ℕ) (G : Type 0) → (is_free b ≡ true → AcceptsSkipped part L ys → G) → Continues (skipping L part b) ys → G
by_skip L part b ys G on c = by_test (is_free b) (at L (In part)) None ys G on (λ e n. absurd n) c

-- after no such byte, after one, and after two or more
first_back : (R : List ℕ → Type 0) (x b : ℕ) (L : Level) (none one : Skipped) (ys : List ℕ) → (AcceptsSkipped one L ys → Until R (twice x) (x ∷ ys)) → (AcceptsSkipped none L ys → Until R (twice x) ys)
    → Continues (cond (b == x) (at L (In one)) (skipping L none b)) ys → Until R (twice x) (b ∷ ys)
first_back R x b L none one ys on off c =
    let P : ℕ → Type 0 = λ y. Until R (twice x) (y ∷ ys) in
    by_test (b == x) (at L (In one)) _ ys (P b) (λ e a. subst P (sym (eqb-true b x e)) (on a)) (λ e d. by_skip L none b ys (P b) (λ f a. none_back R x b ys f e (off a)) d) c

second_back : (R : List ℕ → Type 0) (x b : ℕ) (L : Level) (none two : Skipped) (ys : List ℕ) → is_free x ≡ true → (AcceptsSkipped two L ys → Until R (twice x) (x ∷ x ∷ ys)) → (AcceptsSkipped none L ys → Until R (twice x) ys)
    → Continues (cond (b == x) (at L (In two)) (skipping L none b)) ys → Until R (twice x) (x ∷ b ∷ ys)
second_back R x b L none two ys free on off c =
    let P : ℕ → Type 0 = λ y. Until R (twice x) (x ∷ y ∷ ys) in
    by_test (b == x) (at L (In two)) _ ys (P b) (λ e a. subst P (sym (eqb-true b x e)) (on a)) (λ e d. by_skip L none b ys (P b) (λ f a. one_back R x b ys free f e (off a)) d) c

third_back : (x b : ℕ) (L : Level) (none two : Skipped) (ys : List ℕ) → is_free x ≡ true → (AcceptsSkipped two L ys → Until (Rest L) (twice x) (x ∷ x ∷ ys)) → (AcceptsSkipped none L ys → Until (Rest L) (twice x) ys)
    → Continues (cond (b == 62) (at L Text) (cond (b == x) (at L (In two)) (skipping L none b))) ys → Until (Rest L) (twice x) (x ∷ x ∷ b ∷ ys)
third_back x b L none two ys free on off c =
    let G : Type 0 = Until (Rest L) (twice x) (x ∷ x ∷ b ∷ ys) in
    by_test (b == 62) (at L Text) _ ys G (λ e a. close_back (Rest L) x b ys e a)
    (λ f d. by_test (b == x) (at L (In two)) _ ys G (λ e a. more_back (Rest L) x b ys free e f (on a)) (λ e d. by_skip L none b ys G (λ g a. two_back (Rest L) x b ys free g e f (off a)) d) d) c

skipped_back : (L : Level) (part : Skipped) (b : ℕ) (ys : List ℕ) → Continues (skipped_next L part b) ys → AcceptsSkipped part L (b ∷ ys)
skipped_back L Comment b ys c = first_back (Rest L) 45 b L Comment CommentDash ys (λ a. a) (λ a. a) c
skipped_back L CommentDash b ys c = second_back (Rest L) 45 b L Comment CommentDashes ys refl (λ a. a) (λ a. a) c
skipped_back L CommentDashes b ys c = third_back 45 b L Comment CommentDashes ys refl (λ a. a) (λ a. a) c
skipped_back L CData b ys c = first_back (Rest L) 93 b L CData CDataBracket ys (λ a. a) (λ a. a) c
skipped_back L CDataBracket b ys c = second_back (Rest L) 93 b L CData CDataBrackets ys refl (λ a. a) (λ a. a) c
skipped_back L CDataBrackets b ys c = third_back 93 b L CData CDataBrackets ys refl (λ a. a) (λ a. a) c
skipped_back L Instruction b ys c =
    let P : ℕ → Type 0 = λ x. Until (Rest L) (codes "?>") (x ∷ ys) in
    by_test (b == 63) (at L (In InstructionMark)) _ ys (P b) (λ e a. subst P (sym (eqb-true b 63 e)) a)
    (λ e d. by_skip L Instruction b ys (P b) (λ f a. until_more (Rest L) (codes "?>") ys b f (no_mark b ys e) a) d) c
skipped_back L InstructionMark b ys c =
    let P : ℕ → Type 0 = λ x. Until (Rest L) (codes "?>") (63 ∷ x ∷ ys) in
    by_test (b == 62) (at L Text) _ ys (P b) (λ e a. subst P (sym (eqb-true b 62 e)) (until_end (Rest L) (codes "?>") ys a))
    (λ f d. by_test (b == 63) (at L (In InstructionMark)) _ ys (P b) (λ e a. subst P (sym (eqb-true b 63 e)) (until_more (Rest L) (codes "?>") (63 ∷ ys) 63 refl (no_close 63 ys refl) a))
    (λ e d. by_skip L Instruction b ys (P b) (λ g a. until_more (Rest L) (codes "?>") (b ∷ ys) 63 refl (no_close b ys f) (until_more (Rest L) (codes "?>") ys b g (no_mark b ys e) a)) d) d) c

-- tags

by_end : (L : Level) (b : ℕ) (ys : List ℕ) (G : Type 0) → (Ending L (b ∷ ys) → G) → Continues (tag_end L b) ys → G
by_end L b ys G on c =
    let P : ℕ → Type 0 = λ x. Ending L (x ∷ ys) in
    by_test (b == 62) (at (opened L) Text) _ ys G (λ e a. on (subst P (sym (eqb-true b 62 e)) (by_open ys refl a)))
    (λ e d. by_test (b == 47) (at L (Tag Slash)) None ys G (λ e a. on (subst P (sym (eqb-true b 47 e)) (by_empty a.rest (ap (λ w. 47 ∷ w) a.text) a.after))) (λ e n. absurd n) d) c

white_back : (L : Level) (b : ℕ) (ys : List ℕ) → Continues (white_or_end L b) ys → Attributes L (b ∷ ys)
white_back L b ys c =
    by_test (is_white b) (at L (Tag White)) _ ys (Attributes L (b ∷ ys)) (λ e a. a b e) (λ e d. by_end L b ys (Attributes L (b ∷ ys)) (λ x. end_here L (b ∷ ys) x) d) c

after_white_back : (L : Level) (b : ℕ) (ys : List ℕ) → Continues (white_or_end L b) ys → (w : ℕ) → is_white w ≡ true → Attributes L (w ∷ b ∷ ys)
after_white_back L b ys c w white = white_before L w (b ∷ ys) white (white_back L b ys c)

name_here : (R : List ℕ → Type 0) (ys : List ℕ) → R ys → Named R ys
name_here R ys r = record { name = []; is = refl; rest = ys; after = r; text = refl }

name_more : (R : List ℕ → Type 0) (b : ℕ) (ys : List ℕ) → is_in_name b ≡ true → Named R ys → Named R (b ∷ ys)
name_more R b ys in_name n = record { name = b ∷ n.name; is = and_is _ _ in_name n.is; rest = n.rest; after = n.after; text = ap (λ w. b ∷ w) n.text }

space_more : (R : List ℕ → Type 0) (k b : ℕ) (ys : List ℕ) → is_white b ≡ true → Spaced R k ys → Spaced R k (b ∷ ys)
space_more R k b ys white n = record { white = b ∷ n.white; is = and_is _ _ white n.is; rest = n.rest; after = n.after; text = ap (λ w. b ∷ w) n.text }

space_here : (R : List ℕ → Type 0) (k : ℕ) (ys : List ℕ) → R ys → Spaced R k (k ∷ ys)
space_here R k ys r = record { white = []; is = refl; rest = ys; after = r; text = refl }

value_back : (L : Level) (part : TagPart) (quote b : ℕ) (ys : List ℕ) → (AcceptsTag part L ys → Quoted L quote ys) → Continues (value_next L part quote b) ys → Quoted L quote (b ∷ ys)
value_back L part quote b ys read c =
    let P : ℕ → Type 0 = λ x. Quoted L quote (x ∷ ys) in
    by_test (b == quote) (at L (Tag AfterValue)) _ ys (P b) (λ e a. subst P (sym (eqb-true b quote e)) (record { value = []; is = refl; rest = ys; after = a; text = refl }))
    (λ e d. by_test (is_in_value quote b) (at L (Tag part)) None ys (P b)
    (λ f a. let q = read a in record { value = b ∷ q.value; is = and_is _ _ f q.is; rest = q.rest; after = q.after; text = ap (λ w. b ∷ w) q.text }) (λ f n. absurd n) d) c

quote_back : (L : Level) (b : ℕ) (ys : List ℕ) → Continues (before_quote L b) ys → Valued L (b ∷ ys)
quote_back L b ys c =
    let P : ℕ → Type 0 = λ x. Valued L (x ∷ ys) in
    by_test (is_white b) (at L (Tag AfterEquals)) _ ys (P b) (λ e a. record { quote = a.quote; is = a.is; value = space_more (Quoted L a.quote) a.quote b ys e a.value })
    (λ e d. by_test (b == 34) (at L (Tag DoubleQuoted)) _ ys (P b) (λ e a. subst P (sym (eqb-true b 34 e)) (record { quote = 34; is = refl; value = space_here (Quoted L 34) 34 ys a }))
    (λ e d. by_test (b == 39) (at L (Tag SingleQuoted)) None ys (P b) (λ e a. subst P (sym (eqb-true b 39 e)) (record { quote = 39; is = refl; value = space_here (Quoted L 39) 39 ys a })) (λ e n. absurd n) d) d) c

equals_back : (L : Level) (b : ℕ) (ys : List ℕ) → Continues (tag_next L BeforeEquals b) ys → Spaced (Valued L) 61 (b ∷ ys)
equals_back L b ys c =
    by_test (is_white b) (at L (Tag BeforeEquals)) _ ys (Spaced (Valued L) 61 (b ∷ ys)) (λ e a. space_more (Valued L) 61 b ys e a)
    (λ e d. by_only 61 b L (Tag AfterEquals) ys (λ x. Spaced (Valued L) 61 (x ∷ ys)) (λ a. space_here (Valued L) 61 ys a) d) c

tag_back : (L : Level) (part : TagPart) (b : ℕ) (ys : List ℕ) → Continues (tag_next L part b) ys → AcceptsTag part L (b ∷ ys)
tag_back L Name b ys c =
    by_test (is_in_name b) (at L (Tag Name)) _ ys (Named (Attributes L) (b ∷ ys)) (λ e a. name_more (Attributes L) b ys e a) (λ e d. name_here (Attributes L) (b ∷ ys) (white_back L b ys d)) c
tag_back L White b ys c =
    λ w white. by_test (begins_name b) (at L (Tag Attribute)) _ ys (Attributes L (w ∷ b ∷ ys)) (λ e a. attribute_before L w b ys white e a) (λ e d. after_white_back L b ys d w white) c
tag_back L Attribute b ys c =
    by_test (is_in_name b) (at L (Tag Attribute)) _ ys (Named (Spaced (Valued L) 61) (b ∷ ys)) (λ e a. name_more (Spaced (Valued L) 61) b ys e a)
    (λ e d. name_here (Spaced (Valued L) 61) (b ∷ ys) (equals_back L b ys d)) c
tag_back L BeforeEquals b ys c = equals_back L b ys c
tag_back L AfterEquals b ys c = quote_back L b ys c
tag_back L DoubleQuoted b ys c = value_back L DoubleQuoted 34 b ys (λ a. a) c
tag_back L SingleQuoted b ys c = value_back L SingleQuoted 39 b ys (λ a. a) c
tag_back L AfterValue b ys c = white_back L b ys c
tag_back L Slash b ys c = by_only 62 b (passed L) Text ys (λ x. Slashed L (x ∷ ys)) (λ a. record { rest = ys; after = a; text = refl }) c

end_back : (L : Level) (b : ℕ) (ys : List ℕ) → Continues (end_next L b) ys → Spaced (Rest (closed L)) 62 (b ∷ ys)
end_back L b ys c =
    by_test (is_white b) (at L EndWhite) _ ys (Spaced (Rest (closed L)) 62 (b ∷ ys)) (λ e a. space_more (Rest (closed L)) 62 b ys e a)
    (λ e d. by_only 62 b (closed L) Text ys (λ x. Spaced (Rest (closed L)) 62 (x ∷ ys)) (λ a. space_here (Rest (closed L)) 62 ys a) d) c

-- documents

unmarked : (ys : List ℕ) → IsOutside 1 ys → IsDocumentText ys
unmarked ys r = (record { has_mark = false; body = r.content }, and_is _ _ r.is r.outside, r.text)

marked : (ys : List ℕ) → IsOutside 1 ys → IsDocumentText (0xEF ∷ 0xBB ∷ 0xBF ∷ ys)
marked ys r = (record { has_mark = true; body = r.content }, and_is _ _ r.is r.outside, ap (λ w. 0xEF ∷ 0xBB ∷ 0xBF ∷ w) r.text)

at_before : (P : Level → Type 0) (L : Level) → L ≡ Before → P L → P Before
at_before P L e p = subst P e p

-- a byte is put before what may follow after it
pub back : (part : Part) (L : Level) (b : ℕ) (ys : List ℕ) → Continues (part_next L part b) ys → Accepts part L (b ∷ ys)
back Start L b ys c =
    λ e. by_test (b == 0xEF) (at L MarkFirst) _ ys (IsDocumentText (b ∷ ys))
    (λ f a. let P : ℕ → Type 0 = λ x. IsDocumentText (x ∷ ys) in subst P (sym (eqb-true b 0xEF f)) (a e))
    (λ f d. unmarked (b ∷ ys) (at_before (λ K. Rest K (b ∷ ys)) L e (text_back L b ys d))) c
back MarkFirst L b ys c = λ e. by_only 0xBB b L MarkSecond ys (λ x. IsDocumentText (0xEF ∷ x ∷ ys)) (λ a. a e) c
back MarkSecond L b ys c = λ e. by_only 0xBF b L Text ys (λ x. IsDocumentText (0xEF ∷ 0xBB ∷ x ∷ ys)) (λ a. marked ys (at_before (λ K. Rest K ys) L e a)) c
back Text L b ys c = text_back L b ys c
back Open L b ys c = open_back L b ys c
back Bang L b ys c = bang_back L b ys c
back BangDash L b ys c = by_only 45 b L (In Comment) ys (λ x. Rest L (60 ∷ 33 ∷ 45 ∷ x ∷ ys)) (λ a. comment_on L ys a) c
back Bracket L b ys c = λ e. by_only 67 b L BracketC ys (λ x. Rest L (codes "<![" ++ x ∷ ys)) (λ a. a e) c
back BracketC L b ys c = λ e. by_only 68 b L BracketCd ys (λ x. Rest L (codes "<![C" ++ x ∷ ys)) (λ a. a e) c
back BracketCd L b ys c = λ e. by_only 65 b L BracketCda ys (λ x. Rest L (codes "<![CD" ++ x ∷ ys)) (λ a. a e) c
back BracketCda L b ys c = λ e. by_only 84 b L BracketCdat ys (λ x. Rest L (codes "<![CDA" ++ x ∷ ys)) (λ a. a e) c
back BracketCdat L b ys c = λ e. by_only 65 b L BracketCdata ys (λ x. Rest L (codes "<![CDAT" ++ x ∷ ys)) (λ a. a e) c
back BracketCdata L b ys c =
    λ e. by_only 91 b L (In CData) ys (λ x. Rest L (codes "<![CDATA" ++ x ∷ ys)) (λ a. inside_level L (λ K. Until (Rest K) (codes "]]>") ys → Rest K (codes "<![CDATA[" ++ ys)) e (λ k u. cdata_on k ys u) a) c
back (In part) L b ys c = skipped_back L part b ys c
back (Tag part) L b ys c = tag_back L part b ys c
back EndOpen L b ys c =
    λ e. by_test (begins_name b) (at L EndName) None ys (Rest L (60 ∷ 47 ∷ b ∷ ys))
    (λ f a. inside_level L (λ K. Named (Spaced (Rest (closed K)) 62) ys → Rest K (60 ∷ 47 ∷ b ∷ ys)) e (λ k n. end_on k b ys f n) a) (λ f n. absurd n) c
back EndName L b ys c =
    by_test (is_in_name b) (at L EndName) _ ys (Named (Spaced (Rest (closed L)) 62) (b ∷ ys)) (λ e a. name_more (Spaced (Rest (closed L)) 62) b ys e a)
    (λ e d. name_here (Spaced (Rest (closed L)) 62) (b ∷ ys) (end_back L b ys d)) c
back EndWhite L b ys c = end_back L b ys c

-- the scan comes to an end of documents
abbrev pub Ends : Option Scan → Type 0
Ends None = ⊥
Ends (Some s) = is_final s ≡ true

at_end : (part : Part) (L : Level) → is_final (record { part = part; level = L }) ≡ true → Accepts part L []
at_end Text After h = record { content = Nothing; is = refl; outside = refl; text = refl }
at_end Text Before h = cc
at_end Text (Inside k) h = cc
at_end Start L h = cc
at_end MarkFirst L h = cc
at_end MarkSecond L h = cc
at_end Open L h = cc
at_end Bang L h = cc
at_end BangDash L h = cc
at_end Bracket L h = cc
at_end BracketC L h = cc
at_end BracketCd L h = cc
at_end BracketCda L h = cc
at_end BracketCdat L h = cc
at_end BracketCdata L h = cc
at_end (In part) L h = cc
at_end (Tag part) L h = cc
at_end EndOpen L h = cc
at_end EndName L h = cc
at_end EndWhite L h = cc

-- what the scan accepts may follow
pub accepts : (ys : List ℕ) (s : Scan) → Ends (run (Some s) ys) → Accepts s.part s.level ys
accepts [] s h = at_end s.part s.level h
accepts (b ∷ ys) s h = back s.part s.level b ys (go (next s b) (accepts ys) h)
  where
    go : (o : Option Scan) → ((t : Scan) → Ends (run (Some t) ys) → Accepts t.part t.level ys) → Ends (run o ys) → Continues o ys
    go None again h = dead ys h
      where
        dead : (ys : List ℕ) → Ends (run None ys) → ⊥
        dead [] h = h
        dead (y ∷ ys) h = h
    go (Some t) again h = again t h
