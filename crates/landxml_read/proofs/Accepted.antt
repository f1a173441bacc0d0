-- A reading of each document: the scan takes it, and it shows the document's events.
use Rattle.std.proofs.Common.{◌≡◌, ℕ, ◌+◌, ◌-◌, Bool, true, false, ◌==◌, ◌&&◌, ◌||◌, List, [], ◌∷◌, ◌++◌, length, codes, Option, Some, refl, sym, ◌∙◌, ap, subst, arith, append_assoc, length-append}
use Rattle.std.specs.Option.{option_map}
use Rattle.landxml_read.specs.Markup.{is_white, is_free, start_text, empty_text, end_text, Content, Nothing, Byte, Comment as CommentOf, Instruction as InstructionOf, CData as CDataOf, Empty, Element as ElementOf, is_content, is_outside, content_text, Document, document_text, IsDocument}
use Rattle.landxml_read.specs.declared.kind.Kind.TheVariants.{Outside}
use Rattle.landxml_read.specs.declared.level.Level.{Level}
use Rattle.landxml_read.specs.declared.level.Level.TheVariants.{Before, After}
use Rattle.landxml_read.specs.declared.scan.Part.TheVariants.{Text, Open}
use Rattle.landxml_read.specs.declared.tokens.Tokens.{Tokens}
use Rattle.landxml_read.specs.Elements.{below}
use Rattle.landxml_read.specs.Events.{Event, Opened, Closed, opening, closing, empty_events, no_word, events, document_events}
use Rattle.landxml_read.specs.Scan.{is_inside, start, run}
use Rattle.landxml_read.specs.Tokens.{Reading, reads, pushed, no_tokens, at_start}
use Rattle.landxml_read.proofs.Bytes.{both, differs}
use Rattle.landxml_read.proofs.Accepting.{Ends}
use Rattle.landxml_read.proofs.Running.{scan, reading, if_true, if_false, goes, then_reads, pushed_more, run_of}
use Rattle.landxml_read.proofs.Skipping.{comment_read, instruction_read}
use Rattle.landxml_read.proofs.Tags.{tail_text, end_tail, empty_read}
use Rattle.landxml_read.proofs.Contents.{content_read, element_run, element_parts, own_of, skipped_length}

-- outside the root
abbrev outside_at : Level → Tokens → ℕ → List Event → Reading
outside_at L t n told = reading Text L n (record t { stack = []; word_at = 0; word = [] }) told

-- content outside, up to the end of the document
record OutsideRead (L : Level) (t : Tokens) (n : ℕ) (told : List Event) (x : Content) : Type 0 where
  rest : Tokens
  runs : reads (Some (outside_at L t n told)) (content_text x) ≡ Some (outside_at After rest (n + length (content_text x)) (pushed (events Outside 0 n no_word x) told))

-- the texts of a part and of what follows
joined : (a bytes end c : List ℕ) → a ++ (bytes ++ (end ++ c)) ≡ a ++ ((bytes ++ end) ++ c)
joined a bytes end c = ap (λ w. a ++ w) (sym (append_assoc bytes end c))

byte_read : (L : Level) (t : Tokens) (n : ℕ) (told : List Event) (b : ℕ) (after : Content) → is_white b ≡ true → OutsideRead L t (n + 1) told after → OutsideRead L t n told (Byte b after)
byte_read L t n told b after white c =
    let p : n + 1 + length (content_text after) ≡ n + length (b ∷ content_text after) = omega arith in
    record {
      rest = c.rest;
      runs = goes (outside_at L t n told) b (scan Text L) (content_text after) _ (if_false (b == 60) _ _ (differs is_white b 60 white refl) ∙ if_true (is_white b || (is_inside L && is_free b)) _ _ (ap (λ x. x || (is_inside L && is_free b)) white))
          (c.runs ∙ (λ i. Some (outside_at After c.rest (p i) (pushed (events Outside 0 (n + 1) no_word after) told))));
    }

comment_on : (L : Level) (t : Tokens) (n : ℕ) (told : List Event) (bytes : List ℕ) (after : Content) → is_content (CommentOf bytes after) ≡ true → OutsideRead L (record t { at = n }) (n + (length bytes + 7)) told after → OutsideRead L t n told (CommentOf bytes after)
comment_on L t n told bytes after is c =
    let h = both _ _ is in
    let m = n + (length bytes + 7) in
    let p : m + length (content_text after) ≡ n + length (content_text (CommentOf bytes after)) = omega (arith, skipped_length bytes (codes "-->") (content_text after)) in
    record {
      rest = c.rest;
      runs = ap (reads (Some (outside_at L t n told))) (joined (codes "<!--") bytes (codes "-->") (content_text after))
          ∙ then_reads _ _ (bytes ++ codes "-->") (content_text after) _ (comment_read L _ _ bytes (n + 1 + 1 + 1 + 1) m (omega arith) h.0)
          (c.runs ∙ (λ i. Some (outside_at After c.rest (p i) (pushed (events Outside 0 m no_word after) told))));
    }

instruction_on : (L : Level) (t : Tokens) (n : ℕ) (told : List Event) (bytes : List ℕ) (after : Content) → is_content (InstructionOf bytes after) ≡ true → OutsideRead L (record t { at = n }) (n + (length bytes + 4)) told after → OutsideRead L t n told (InstructionOf bytes after)
instruction_on L t n told bytes after is c =
    let h = both _ _ is in
    let m = n + (length bytes + 4) in
    let p : m + length (content_text after) ≡ n + length (content_text (InstructionOf bytes after)) = omega (arith, skipped_length bytes (codes "?>") (content_text after)) in
    record {
      rest = c.rest;
      runs = ap (reads (Some (outside_at L t n told))) (joined (codes "<?") bytes (codes "?>") (content_text after))
          ∙ then_reads _ _ (bytes ++ codes "?>") (content_text after) _ (instruction_read L _ _ bytes (n + 1 + 1) m (omega arith) h.0)
          (c.runs ∙ (λ i. Some (outside_at After c.rest (p i) (pushed (events Outside 0 m no_word after) told))));
    }

after_read : (t : Tokens) (n : ℕ) (told : List Event) (x : Content) → is_content x ≡ true → is_outside 0 x ≡ true → OutsideRead After t n told x
after_read t n told Nothing is out = record { rest = t; runs = let g : n ≡ n + 0 = omega arith in λ i. Some (outside_at After t (g i) told) }
after_read t n told (Byte b after) is out = let h = both _ _ out in byte_read After t n told b after h.0 (after_read t (n + 1) told after (both _ _ is).1 h.1)
after_read t n told (CommentOf bytes after) is out = comment_on After t n told bytes after is (after_read (record t { at = n }) (n + (length bytes + 7)) told after (both _ _ is).1 out)
after_read t n told (InstructionOf bytes after) is out = instruction_on After t n told bytes after is (after_read (record t { at = n }) (n + (length bytes + 4)) told after (both _ _ is).1 out)
after_read t n told (CDataOf bytes after) is out = cc
after_read t n told (Empty tag after) is out = cc
after_read t n told (ElementOf tag inside end after) is out = cc

before_read : (t : Tokens) (n : ℕ) (told : List Event) (x : Content) → is_content x ≡ true → is_outside 1 x ≡ true → OutsideRead Before t n told x
before_read t n told Nothing is out = cc
before_read t n told (Byte b after) is out = let h = both _ _ out in byte_read Before t n told b after h.0 (before_read t (n + 1) told after (both _ _ is).1 h.1)
before_read t n told (CommentOf bytes after) is out = comment_on Before t n told bytes after is (before_read (record t { at = n }) (n + (length bytes + 7)) told after (both _ _ is).1 out)
before_read t n told (InstructionOf bytes after) is out = instruction_on Before t n told bytes after is (before_read (record t { at = n }) (n + (length bytes + 4)) told after (both _ _ is).1 out)
before_read t n told (CDataOf bytes after) is out = cc
before_read t n told (Empty tag after) is out =
    let h = both _ _ is in
    let u : Tokens = record t { at = n; stack = []; word_at = 0; word = [] } in
    let m = n + 1 + length (tail_text tag) in
    let whole = length-append (tail_text tag) (47 ∷ 62 ∷ []) in
    let x = empty_read Before (n + 1) m u told tag refl refl h.0 in
    let last = n + length (empty_text tag) - 1 in
    let now = pushed (empty_events Outside 0 n tag) told in
    let there = n + length (empty_text tag) in
    let c = after_read x.rest there now after h.1 out in
    let a : m + 1 + 1 ≡ there = omega (arith, whole) in
    let b : m + 1 ≡ last = omega (arith, whole) in
    let p : there + length (content_text after) ≡ n + length (content_text (Empty tag after)) = omega (arith, length-append (empty_text tag) (content_text after)) in
    let later = events Outside 0 there no_word after in
    let r = sym (pushed_more (empty_events Outside 0 n tag) later told) in
    record {
      rest = c.rest;
      runs = then_reads (reading Open Before (n + 1) u told) (outside_at After x.rest there now) (tail_text tag ++ 47 ∷ 62 ∷ []) (content_text after) _
          (x.runs ∙ (λ i. Some (reading Text After (a i) (record x.rest { stack = []; word_at = 0; word = [] })
          (Closed (record { kind = below Outside tag.name; words = 0; is_misnamed = false; at = n; shown = b i }) ∷ Opened (opening Outside 0 n tag (b i)) ∷ told))))
          (c.runs ∙ (λ i. Some (outside_at After c.rest (p i) (r i))));
    }
before_read t n told (ElementOf tag inside end after) is out =
    let h = both _ _ is in
    let g = both _ _ h.0 in
    let l = both _ _ g.0 in
    let inside_at = n + length (start_text tag) in
    let there = inside_at + length (content_text inside) + length (end_text end) in
    let z = element_run Before 0 [] n t told tag inside end refl refl l.0 g.1 (λ u now. content_read 0 u (own_of [] tag) [] no_word inside_at now inside l.1) in
    let own_events = events (below Outside tag.name) 1 inside_at no_word inside in
    let opens = Opened (opening Outside 0 n tag (inside_at - 1)) ∷ told in
    let now = Closed (closing Outside n tag inside end) ∷ pushed own_events opens in
    let c = after_read z.rest there now after h.1 out in
    let p : there + length (content_text after) ≡ n + length (content_text (ElementOf tag inside end after)) =
    omega (arith, length-append (start_text tag) (content_text inside ++ (end_text end ++ content_text after)), length-append (content_text inside) (end_text end ++ content_text after), length-append (end_text end) (content_text after)) in
    let r = sym (pushed_more own_events (Closed (closing Outside n tag inside end) ∷ events Outside 0 there no_word after) opens) in
    let bytes = (tail_text tag ++ 62 ∷ []) ++ ((content_text inside ++ 60 ∷ []) ++ end_tail end) in
    record {
      rest = c.rest;
      runs = ap (reads (Some (outside_at Before t n told))) (element_parts (tail_text tag) (content_text inside) (end.name ++ (end.white ++ 62 ∷ [])) (content_text after))
          ∙ then_reads (reading Open Before (n + 1) (record t { at = n; stack = []; word_at = 0; word = [] }) told) (outside_at After z.rest there now) bytes (content_text after) _ z.runs
          (c.runs ∙ (λ i. Some (outside_at After c.rest (p i) (r i))));
    }

-- without a byte order mark
unmarked_read : (c : Content) → is_outside 1 c ≡ true → reads (Some at_start) (content_text c) ≡ reads (Some (outside_at Before no_tokens 0 [])) (content_text c)
unmarked_read Nothing out = cc
unmarked_read (Byte b after) out =
    let white = (both (is_white b) (is_outside 1 after) out).0 in
    let text = if_false (b == 60) _ _ (differs is_white b 60 white refl) ∙ if_true (is_white b || (is_inside Before && is_free b)) _ _ (ap (λ x. x || (is_inside Before && is_free b)) white) in
    goes at_start b (scan Text Before) (content_text after) _ (if_false (b == 0xEF) _ _ (differs is_white b 0xEF white refl) ∙ text) refl
    ∙ sym (goes (outside_at Before no_tokens 0 []) b (scan Text Before) (content_text after) _ text refl)
unmarked_read (CommentOf bytes after) out = refl
unmarked_read (InstructionOf bytes after) out = refl
unmarked_read (CDataOf bytes after) out = cc
unmarked_read (Empty tag after) out = refl
unmarked_read (ElementOf tag inside end after) out = refl

-- the reading of a document
pub record DocumentRead (d : Document) : Type 0 where
  pub tokens : Tokens
  pub runs : reads (Some at_start) (document_text d) ≡ Some (reading Text After (length (document_text d)) tokens (pushed (document_events d) []))

pub document_read : (d : Document) → IsDocument d → DocumentRead d
document_read d is =
    let h = both (is_content d.body) (is_outside 1 d.body) is in
    by d.has_mark d.body h.0 h.1
  where
    by : (m : Bool) (c : Content) → is_content c ≡ true → is_outside 1 c ≡ true → DocumentRead (record { has_mark = m; body = c })
    by true c ok out =
        let r = before_read no_tokens 3 [] c ok out in
        let p : 3 + length (content_text c) ≡ length (0xEF ∷ 0xBB ∷ 0xBF ∷ content_text c) = omega arith in
        record { tokens = record r.rest { stack = []; word_at = 0; word = [] }; runs = r.runs ∙ (λ i. Some (outside_at After r.rest (p i) (pushed (events Outside 0 3 no_word c) []))) }
    by false c ok out =
        let r = before_read no_tokens 0 [] c ok out in
        let p : 0 + length (content_text c) ≡ length (content_text c) = omega arith in
        record { tokens = record r.rest { stack = []; word_at = 0; word = [] }; runs = unmarked_read c out ∙ r.runs ∙ (λ i. Some (outside_at After r.rest (p i) (pushed (events Outside 0 0 no_word c) []))) }

-- the scan of a document ends well
pub accepted : (d : Document) → IsDocument d → Ends (run (Some start) (document_text d))
accepted d is =
    let P : Option _ → Type 0 = Ends in
    subst P (sym (run_of at_start (document_text d) ∙ ap (option_map (λ u. u.scan)) (document_read d is).runs)) refl
