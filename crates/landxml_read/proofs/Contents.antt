-- A reading of what stands in an element, up to the < of its end tag.
use Rattle.std.proofs.Common.{◌≡◌, ℕ, suc, ◌+◌, ◌-◌, Bool, true, false, ◌==◌, ◌&&◌, ◌||◌, not, List, [], ◌∷◌, ◌++◌, length, codes, bytes_eq, Some, refl, sym, ◌∙◌, ap, arith, append_assoc, length-append}
use Rattle.landxml_read.specs.Markup.{StartTag, EndTag, is_start, is_end, is_white, is_free, start_text, empty_text, end_text, Content, Nothing, Byte, Comment as CommentOf, Instruction as InstructionOf, CData as CDataOf, Empty, Element as ElementOf, is_content, content_text}
use Rattle.landxml_read.specs.declared.level.Level.{Level}
use Rattle.landxml_read.specs.declared.level.Level.TheVariants.{Inside}
use Rattle.landxml_read.specs.declared.scan.Part.TheVariants.{Text, Open, In}
use Rattle.landxml_read.specs.declared.skipped.Skipped.TheVariants.{CData}
use Rattle.landxml_read.specs.declared.tokens.Tokens.{Tokens}
use Rattle.landxml_read.specs.declared.element.Element.{Element}
use Rattle.landxml_read.specs.Elements.{below}
use Rattle.landxml_read.specs.Words.{Word}
use Rattle.landxml_read.specs.Faults.{has_text}
use Rattle.landxml_read.specs.Events.{Event, Opened, Closed, opening, closing, empty_events, no_values, no_word, finished, word_after, ended_by, ampersands, quotes, read, words_read, events}
use Rattle.landxml_read.specs.Scan.{is_inside, is_unclosed, opened, closed}
use Rattle.landxml_read.specs.Tokens.{Reading, reads, pushed, kind_in}
use Rattle.landxml_read.proofs.Bytes.{both, flip_true}
use Rattle.landxml_read.proofs.Running.{scan, reading, if_true, if_false, goes, then_reads, pushed_more}
use Rattle.landxml_read.proofs.Skipping.{comment_read, cdata_read, instruction_read}
use Rattle.landxml_read.proofs.Tags.{tail_text, end_tail, start_read, empty_read, end_read}

-- in the text of an innermost element, with an open word
abbrev pub text_at : Level → Tokens → Element → List Element → Word → ℕ → List Event → Reading
text_at L t e es w n told = reading Text L n (record t { stack = e ∷ es; word_at = w.at; word = w.text }) told

-- after a < in it, with so many words complete
abbrev pub less_at : Level → Tokens → Element → List Element → ℕ → ℕ → List Event → Reading
less_at L t e es n words told = reading Open L (n + 1) (record t { at = n; stack = record e { words = words } ∷ es; word_at = 0; word = [] }) told

-- content, and the < after it
pub record ContentRead (k : ℕ) (t : Tokens) (e : Element) (es : List Element) (w : Word) (n : ℕ) (told : List Event) (x : Content) : Type 0 where
  pub rest : Tokens
  pub runs : reads (Some (text_at (Inside k) t e es w n told)) (content_text x ++ 60 ∷ [])
      ≡ Some (less_at (Inside k) rest e es (n + length (content_text x)) (e.words + length (words_read (has_text e.kind) n w x)) (pushed (events e.kind (suc (length es)) n w x) told))

free_or : (w f : Bool) → f ≡ true → (w || (true && f)) ≡ true
free_or true f e = refl
free_or false f e = e

-- a part of a text, and what follows
parted : (a bytes end c : List ℕ) → (a ++ (bytes ++ (end ++ c))) ++ 60 ∷ [] ≡ a ++ ((bytes ++ end) ++ (c ++ 60 ∷ []))
parted a bytes end c = simp append_assoc

pub skipped_length : (bytes end c : List ℕ) → length (bytes ++ (end ++ c)) ≡ length bytes + (length end + length c)
skipped_length bytes end c = let e = length-append bytes (end ++ c) in let f = length-append end c in omega (arith, e, f)

counted_more : {A : Type 0} (n : ℕ) (xs ys : List A) → n + length xs + length ys ≡ n + length (xs ++ ys)
counted_more n xs ys = omega (arith, length-append xs ys)

-- an element, from after its < to its end
pub record ElementRead (L : Level) (k : ℕ) (stack : List Element) (n : ℕ) (t : Tokens) (told : List Event) (tag : StartTag) (inside : Content) (end : EndTag) : Type 0 where
  pub rest : Tokens
  pub runs : reads (Some (reading Open L (n + 1) (record t { at = n; stack = stack; word_at = 0; word = [] }) told)) ((tail_text tag ++ 62 ∷ []) ++ ((content_text inside ++ 60 ∷ []) ++ end_tail end))
      ≡ Some (reading Text (closed (Inside k)) (n + length (start_text tag) + length (content_text inside) + length (end_text end)) (record rest { stack = stack; word_at = 0; word = [] })
      (Closed (closing (kind_in stack) n tag inside end)
      ∷ pushed (events (below (kind_in stack) tag.name) (length stack + 1) (n + length (start_text tag)) no_word inside) (Opened (opening (kind_in stack) (length stack) n tag (n + length (start_text tag) - 1)) ∷ told)))

-- the element that a tag opens
abbrev pub own_of : List Element → StartTag → Element
own_of stack tag = record { kind = below (kind_in stack) tag.name; name = tag.name; words = 0 }

pub element_run : (L : Level) (k : ℕ) (stack : List Element) (n : ℕ) (t : Tokens) (told : List Event) (tag : StartTag) (inside : Content) (end : EndTag) → is_unclosed L ≡ true → opened L ≡ Inside k → is_start tag ≡ true → is_end end ≡ true
    → ((u : Tokens) (now : List Event) → ContentRead k u (own_of stack tag) stack no_word (n + length (start_text tag)) now inside) → ElementRead L k stack n t told tag inside end
element_run L k stack n t told tag inside end un deeper is ends inner =
    let own = own_of stack tag in
    let kind = kind_in stack in
    let u : Tokens = record t { at = n; stack = stack; word_at = 0; word = [] } in
    let inside_at = n + length (start_text tag) in
    let end_at = inside_at + length (content_text inside) in
    let there = inside_at + length (content_text inside) + length (end_text end) in
    let tag_length = length-append (tail_text tag) (62 ∷ []) in
    let end_length : length (end_text end) ≡ length end.name + length end.white + 3 =
    (let a = length-append end.name (end.white ++ 62 ∷ []) in let b = length-append end.white (62 ∷ []) in omega (arith, a, b)) in
    let m = n + 1 + length (tail_text tag) in
    let x = start_read L (n + 1) m u told tag refl un is in
    let opens = Opened (opening kind (length stack) n tag (inside_at - 1)) ∷ told in
    let y = inner x.rest opens in
    let own_events = events own.kind (suc (length stack)) inside_at no_word inside in
    let own_words = words_read (has_text own.kind) inside_at no_word inside in
    let j = end_at + 1 + length end.name + length end.white in
    let ended = end_read k (end_at + 1) j (record y.rest { at = end_at; stack = record own { words = 0 + length own_words } ∷ stack; word_at = 0; word = [] }) (pushed own_events opens) end refl ends in
    let last : Tokens = record y.rest { at = end_at; name = end.name; values = no_values } in
    let a : m + 1 ≡ inside_at = omega (arith, tag_length) in
    let b : m ≡ inside_at - 1 = omega (arith, tag_length) in
    let d : suc (length stack) ≡ length stack + 1 = omega arith in
    let s : j + 1 + 1 ≡ there = omega (arith, end_length) in
    let v : j + 1 ≡ end_at + length (end_text end) - 1 = omega (arith, end_length) in
    let z : 0 + length own_words ≡ length own_words = omega arith in
    let begun = text_at (Inside k) x.rest own stack no_word inside_at opens in
    let less = less_at (Inside k) y.rest own stack end_at (0 + length own_words) (pushed own_events opens) in
    record {
      rest = last;
      runs = then_reads (reading Open L (n + 1) u told) begun (tail_text tag ++ 62 ∷ []) _ _
          (x.runs ∙ (λ i. Some (reading Text (deeper i) (a i) (record x.rest { stack = own ∷ stack; word_at = 0; word = [] }) (Opened (opening kind (length stack) n tag (b i)) ∷ told))))
          (then_reads begun less (content_text inside ++ 60 ∷ []) _ _ y.runs
          (ended ∙ (λ i. Some (reading Text (closed (Inside k)) (s i) (record last { stack = stack; word_at = 0; word = [] })
          (Closed (record { kind = own.kind; words = z i; is_misnamed = not (bytes_eq end.name tag.name); at = end_at; shown = v i }) ∷ pushed (events own.kind (d i) inside_at no_word inside) opens)))));
    }

-- the bytes of an element, and what follows it
pub element_parts : (a b d c : List ℕ) → (60 ∷ a ++ 62 ∷ []) ++ (b ++ ((60 ∷ 47 ∷ d) ++ c)) ≡ 60 ∷ (((a ++ 62 ∷ []) ++ ((b ++ 60 ∷ []) ++ (47 ∷ d))) ++ c)
element_parts a b d c =
    ap (λ w. 60 ∷ ((a ++ 62 ∷ []) ++ w)) (sym (append_assoc b (60 ∷ []) (47 ∷ (d ++ c))) ∙ sym (append_assoc (b ++ 60 ∷ []) (47 ∷ d) c))
    ∙ ap (λ w. 60 ∷ w) (sym (append_assoc (a ++ 62 ∷ []) ((b ++ 60 ∷ []) ++ (47 ∷ d)) c))

pub content_read : (k : ℕ) (t : Tokens) (e : Element) (es : List Element) (w : Word) (n : ℕ) (told : List Event) (x : Content) → is_content x ≡ true → ContentRead k t e es w n told x
content_read k t e es w n told Nothing is = record { rest = t; runs = let g : n ≡ n + 0 = omega arith in λ i. Some (less_at (Inside k) t e es (g i) (e.words + length (finished w)) (pushed (read e.kind n (finished w)) told)) }
content_read k t e es w n told (Byte b after) is =
    let h = both _ _ is in
    let g = both _ _ h.0 in
    let has = has_text e.kind in
    let shown = read e.kind n (ended_by has b w) ++ ampersands has n b in
    let c = content_read k t (record e { words = e.words + length (ended_by has b w) }) es (word_after has n b w) (n + 1) (pushed shown told) after h.1 in
    let p : n + 1 + length (content_text after) ≡ n + length (b ∷ content_text after) = omega arith in
    let q = counted_more e.words (ended_by has b w) (words_read has (n + 1) (word_after has n b w) after) in
    let r = sym (pushed_more shown (events e.kind (suc (length es)) (n + 1) (word_after has n b w) after) told) in
    record {
      rest = c.rest;
      runs = goes (text_at (Inside k) t e es w n told) b (scan Text (Inside k)) (content_text after ++ 60 ∷ []) _ (if_false (b == 60) _ _ (flip_true _ g.1) ∙ if_true (is_white b || (is_inside (Inside k) && is_free b)) _ _ (free_or (is_white b) (is_free b) g.0))
          (c.runs ∙ (λ i. Some (less_at (Inside k) c.rest e es (p i) (q i) (r i))));
    }
content_read k t e es w n told (CommentOf bytes after) is =
    let h = both _ _ is in
    let done = finished w in
    let m = n + (length bytes + 7) in
    let u : Tokens = record t { at = n } in
    let c = content_read k u (record e { words = e.words + length done }) es no_word m (pushed (read e.kind n done) told) after h.1 in
    let p : m + length (content_text after) ≡ n + length (content_text (CommentOf bytes after)) = omega (arith, skipped_length bytes (codes "-->") (content_text after)) in
    let q = counted_more e.words done (words_read (has_text e.kind) m no_word after) in
    let r = sym (pushed_more (read e.kind n done) (events e.kind (suc (length es)) m no_word after) told) in
    record {
      rest = c.rest;
      runs = ap (reads (Some (text_at (Inside k) t e es w n told))) (parted (codes "<!--") bytes (codes "-->") (content_text after))
          ∙ then_reads _ _ (bytes ++ codes "-->") (content_text after ++ 60 ∷ []) _ (comment_read (Inside k) _ _ bytes (n + 1 + 1 + 1 + 1) m (omega arith) h.0)
          (c.runs ∙ (λ i. Some (less_at (Inside k) c.rest e es (p i) (q i) (r i))));
    }
content_read k t e es w n told (InstructionOf bytes after) is =
    let h = both _ _ is in
    let done = finished w in
    let m = n + (length bytes + 4) in
    let u : Tokens = record t { at = n } in
    let c = content_read k u (record e { words = e.words + length done }) es no_word m (pushed (read e.kind n done) told) after h.1 in
    let p : m + length (content_text after) ≡ n + length (content_text (InstructionOf bytes after)) = omega (arith, skipped_length bytes (codes "?>") (content_text after)) in
    let q = counted_more e.words done (words_read (has_text e.kind) m no_word after) in
    let r = sym (pushed_more (read e.kind n done) (events e.kind (suc (length es)) m no_word after) told) in
    record {
      rest = c.rest;
      runs = ap (reads (Some (text_at (Inside k) t e es w n told))) (parted (codes "<?") bytes (codes "?>") (content_text after))
          ∙ then_reads _ _ (bytes ++ codes "?>") (content_text after ++ 60 ∷ []) _ (instruction_read (Inside k) _ _ bytes (n + 1 + 1) m (omega arith) h.0)
          (c.runs ∙ (λ i. Some (less_at (Inside k) c.rest e es (p i) (q i) (r i))));
    }
content_read k t e es w n told (CDataOf bytes after) is =
    let h = both _ _ is in
    let done = finished w in
    let has = has_text e.kind in
    let m = n + (length bytes + 12) in
    let u : Tokens = record t { at = n } in
    let c = content_read k u (record e { words = e.words + length done }) es no_word m (pushed (quotes has n (n + 8)) (pushed (read e.kind n done) told)) after h.1 in
    let p : m + length (content_text after) ≡ n + length (content_text (CDataOf bytes after)) = omega (arith, skipped_length bytes (codes "]]>") (content_text after)) in
    let q = counted_more e.words done (words_read has m no_word after) in
    let later = events e.kind (suc (length es)) m no_word after in
    let eight : n + 1 + 1 + 1 + 1 + 1 + 1 + 1 + 1 ≡ n + 8 = omega arith in
    let r = sym (pushed_more (read e.kind n done) (quotes has n (n + 8) ++ later) told ∙ pushed_more (quotes has n (n + 8)) later (pushed (read e.kind n done) told)) in
    record {
      rest = c.rest;
      runs = ap (reads (Some (text_at (Inside k) t e es w n told))) (parted (codes "<![CDATA[") bytes (codes "]]>") (content_text after))
          ∙ (λ i. reads (Some (reading (In CData) (Inside k) (n + 1 + 1 + 1 + 1 + 1 + 1 + 1 + 1 + 1) (record u { stack = record e { words = e.words + length done } ∷ es; word_at = 0; word = [] }) (pushed (quotes has n (eight i)) (pushed (read e.kind n done) told)))) ((bytes ++ codes "]]>") ++ (content_text after ++ 60 ∷ [])))
          ∙ then_reads _ _ (bytes ++ codes "]]>") (content_text after ++ 60 ∷ []) _ (cdata_read (Inside k) _ _ bytes (n + 1 + 1 + 1 + 1 + 1 + 1 + 1 + 1 + 1) m (omega arith) h.0)
          (c.runs ∙ (λ i. Some (less_at (Inside k) c.rest e es (p i) (q i) (r i))));
    }
content_read k t e es w n told (Empty tag after) is =
    let h = both _ _ is in
    let done = finished w in
    let before = pushed (read e.kind n done) told in
    let f : Element = record e { words = e.words + length done } in
    let u : Tokens = record t { at = n; stack = f ∷ es; word_at = 0; word = [] } in
    let m = n + 1 + length (tail_text tag) in
    let whole = length-append (tail_text tag) (47 ∷ 62 ∷ []) in
    let x = empty_read (Inside k) (n + 1) m u before tag refl refl h.0 in
    let last = n + length (empty_text tag) - 1 in
    let now = pushed (empty_events e.kind (suc (length es)) n tag) before in
    let there = n + length (empty_text tag) in
    let c = content_read k x.rest f es no_word there now after h.1 in
    let a : m + 1 + 1 ≡ there = omega (arith, whole) in
    let b : m + 1 ≡ last = omega (arith, whole) in
    let p : there + length (content_text after) ≡ n + length (content_text (Empty tag after)) = omega (arith, length-append (empty_text tag) (content_text after)) in
    let q = counted_more e.words done (words_read (has_text e.kind) there no_word after) in
    let later = events e.kind (suc (length es)) there no_word after in
    let r = sym (pushed_more (read e.kind n done) (empty_events e.kind (suc (length es)) n tag ++ later) told ∙ pushed_more (empty_events e.kind (suc (length es)) n tag) later before) in
    record {
      rest = c.rest;
      runs = ap (reads (Some (text_at (Inside k) t e es w n told))) (regroup (tail_text tag) (content_text after))
          ∙ then_reads (reading Open (Inside k) (n + 1) u before) (text_at (Inside k) x.rest f es no_word there now) (tail_text tag ++ 47 ∷ 62 ∷ []) (content_text after ++ 60 ∷ []) _
          (x.runs ∙ (λ i. Some (reading Text (Inside k) (a i) (record x.rest { stack = f ∷ es; word_at = 0; word = [] })
          (Closed (record { kind = below e.kind tag.name; words = 0; is_misnamed = false; at = n; shown = b i }) ∷ Opened (opening e.kind (suc (length es)) n tag (b i)) ∷ before))))
          (c.runs ∙ (λ i. Some (less_at (Inside k) c.rest e es (p i) (q i) (r i))));
    }
  where
    regroup : (a c : List ℕ) → ((60 ∷ a ++ 47 ∷ 62 ∷ []) ++ c) ++ 60 ∷ [] ≡ 60 ∷ ((a ++ 47 ∷ 62 ∷ []) ++ (c ++ 60 ∷ []))
    regroup a c = simp append_assoc
content_read k t e es w n told (ElementOf tag inside end after) is =
    let h = both _ _ is in
    let g = both _ _ h.0 in
    let l = both _ _ g.0 in
    let done = finished w in
    let depth = suc (length es) in
    let before = pushed (read e.kind n done) told in
    let f : Element = record e { words = e.words + length done } in
    let inside_at = n + length (start_text tag) in
    let there = inside_at + length (content_text inside) + length (end_text end) in
    let z = element_run (Inside k) (suc k) (f ∷ es) n t before tag inside end refl refl l.0 g.1 (λ u now. content_read (suc k) u (own_of (f ∷ es) tag) (f ∷ es) no_word inside_at now inside l.1) in
    let all_events = events (below e.kind tag.name) (depth + 1) inside_at no_word inside in
    let opens = Opened (opening e.kind depth n tag (inside_at - 1)) ∷ before in
    let now = Closed (closing e.kind n tag inside end) ∷ pushed all_events opens in
    let c = content_read k z.rest f es no_word there now after h.1 in
    let p : there + length (content_text after) ≡ n + length (content_text (ElementOf tag inside end after)) =
    omega (arith, length-append (start_text tag) (content_text inside ++ (end_text end ++ content_text after)), length-append (content_text inside) (end_text end ++ content_text after), length-append (end_text end) (content_text after)) in
    let q = counted_more e.words done (words_read (has_text e.kind) there no_word after) in
    let later = events e.kind depth there no_word after in
    let r = sym (pushed_more (read e.kind n done) (Opened (opening e.kind depth n tag (inside_at - 1)) ∷ (all_events ++ (Closed (closing e.kind n tag inside end) ∷ later))) told
    ∙ pushed_more all_events (Closed (closing e.kind n tag inside end) ∷ later) opens) in
    let bytes = (tail_text tag ++ 62 ∷ []) ++ ((content_text inside ++ 60 ∷ []) ++ end_tail end) in
    record {
      rest = c.rest;
      runs = ap (reads (Some (text_at (Inside k) t e es w n told))) (ap (λ v. v ++ 60 ∷ []) (element_parts (tail_text tag) (content_text inside) (end.name ++ (end.white ++ 62 ∷ [])) (content_text after)) ∙ ap (λ v. 60 ∷ v) (append_assoc bytes (content_text after) (60 ∷ [])))
          ∙ then_reads (reading Open (Inside k) (n + 1) (record t { at = n; stack = f ∷ es; word_at = 0; word = [] }) before) (text_at (Inside k) z.rest f es no_word there now) bytes (content_text after ++ 60 ∷ []) _ z.runs
          (c.runs ∙ (λ i. Some (less_at (Inside k) c.rest e es (p i) (q i) (r i))));
    }
