-- What a document shows are the faults of its tree: as many pass any test.
use Rattle.std.proofs.Common.{◌≡◌, ℕ, ◌+◌, ◌-◌, Bool, true, false, ◌==◌, ◌&&◌, ◌||◌, not, nat_lt, cond, List, [], ◌∷◌, ◌++◌, length, codes, bytes_eq, flat_map, Option, None, refl, sym, ◌∙◌, ap, arith, append_assoc, length-append}
use Rattle.std.proofs.lemmas.List.{append-nil}
use Rattle.landxml_read.specs.Markup.{is_white, StartTag, Content, Nothing, Byte, Comment, Instruction, CData, Empty, Element, content_text, start_text, empty_text, end_text, Document, mark}
use Rattle.landxml_read.specs.declared.kind.Kind.{Kind}
use Rattle.landxml_read.specs.declared.kind.Kind.TheVariants as kinds
use Rattle.landxml_read.specs.declared.fault.DocCause.{DocCause}
use Rattle.landxml_read.specs.declared.fault.DocCause.TheVariants as cause
use Rattle.landxml_read.specs.Elements.{Found, below, elements, empty_found, whole_found}
use Rattle.landxml_read.specs.Words.{Letter, Quoted, Other, Placed, placed, parts, of_word, Word, word_end, words}
use Rattle.landxml_read.specs.Faults.{Fault, fault, when, read_name, must_have, is_bad_unit, is_bad_surface, is_bad_break, is_bad_boundary, has_text, is_miscounted, tag_faults, end_faults, is_misnamed, word_faults, part_faults, has_numbers, text_faults, element_faults, document_elements, tree_faults}
use Rattle.landxml_read.specs.Numbers.{decimal_of, is_over}
use Rattle.std.specs.Option.{is_none}
use Rattle.landxml_read.specs.Events.{causes, word_rows, Event, Opened, Ampersand, Closed, opening, closing, opening_faults, event_faults, empty_events, no_word, longer, finished, word_after, ended_by, ampersands, quotes, read, words_read, events, document_events, shown_faults}
use Rattle.landxml_read.proofs.Totals.{total, totals, total_more, totals_more, total_flat}
use Rattle.landxml_read.proofs.WordLists.{all_words, at_end, broken, byte_words, words_are}
use Rattle.landxml_read.proofs.ReadValues.{read_values}

-- tags

-- the faults of a tag, by what its values come to
abbrev faults_by : ℕ → List ℕ → Kind → Bool → Bool → Bool → Bool → Bool → Option (List ℕ) → ℕ → ℕ → List Fault
faults_by depth name kind some none twice long unlisted first shown at =
    let by : DocCause → Fault = λ c. fault shown c at in
    when (depth == 1 && not (bytes_eq name (codes "LandXML"))) (by cause.Root)
    ++ when (nat_lt 64 depth) (by cause.Depth)
    ++ when (nat_lt 255 (length name) || long) (by cause.Long)
    ++ when unlisted (by cause.Entity)
    ++ when ((must_have kind && none) || twice) (by cause.Attr)
    ++ when (is_bad_unit kind first) (by cause.Unit)
    ++ when (is_bad_surface kind some first) (by cause.SurfType)
    ++ when (is_bad_break kind some first) (by cause.BrkType)
    ++ when (is_bad_boundary kind first) (by cause.BndType)

nine : (a b c d e f g h i : List Fault) → a ++ (b ++ (c ++ (d ++ (e ++ (f ++ (g ++ (h ++ (i ++ [])))))))) ≡ a ++ b ++ c ++ d ++ e ++ f ++ g ++ h ++ i
nine a b c d e f g h i = ap (λ w. a ++ (b ++ (c ++ (d ++ (e ++ (f ++ (g ++ (h ++ w)))))))) (append-nil i) ∙ sym (simp append_assoc)

opening_same : (kind : Kind) (depth at shown : ℕ) (tag : StartTag) (e : Found) → e.kind ≡ below kind tag.name → e.depth ≡ depth + 1 → e.at ≡ at → e.tag ≡ tag → e.tag_end ≡ shown → opening_faults (opening kind depth at tag shown) ≡ tag_faults e
opening_same kind depth at shown tag e k d a t s =
    let c = read_values (read_name (below kind tag.name)) tag.attributes in
    let o = opening kind depth at tag shown in
    let by : DocCause → Fault = λ x. fault shown x at in
    nine (when (o.depth == 1 && not (bytes_eq o.name (codes "LandXML"))) (by cause.Root)) (when (nat_lt 64 o.depth) (by cause.Depth)) (when (nat_lt 255 (length o.name) || o.values.is_long) (by cause.Long))
    (when o.values.is_unlisted (by cause.Entity)) (when ((must_have o.kind && not o.values.is_there) || o.values.is_twice) (by cause.Attr)) (when (is_bad_unit o.kind o.values.first) (by cause.Unit))
    (when (is_bad_surface o.kind o.values.is_there o.values.first) (by cause.SurfType)) (when (is_bad_break o.kind o.values.is_there o.values.first) (by cause.BrkType)) (when (is_bad_boundary o.kind o.values.first) (by cause.BndType))
    ∙ (λ i. faults_by (depth + 1) tag.name (below kind tag.name) (c.some i) (c.none i) (c.twice i) (c.long i) (c.unlisted i) (c.first i) shown at)
    ∙ sym (λ i. tag_faults (record e { kind = k i; depth = d i; at = a i; tag = t i; tag_end = s i }))

-- text

-- the faults of an element's own text that pass a test, from an offset on after an open word
abbrev own : (Fault → Bool) → Bool → Kind → Word → List Placed → ℕ
own p true kind w ps = totals p part_faults ps + totals p (word_faults kind) (all_words w ps)
own p false kind w ps = 0

-- the bytes of an open word end at an offset
abbrev EndsAt : ℕ → ℕ → List ℕ → Type 0
EndsAt n at [] = Unit {0}
EndsAt n at (b ∷ bs) = at + length (b ∷ bs) ≡ n

-- an open word ends at an offset, and none is open where text isn't read
pub record IsOpen (h : Bool) (n : ℕ) (w : Word) : Type 0 where
  pub idle : h ≡ false → w.text ≡ []
  pub ends : EndsAt n w.at w.text

read_totals : (p : Fault → Bool) (kind : Kind) (n : ℕ) (w : Word) → EndsAt n w.at w.text → totals p event_faults (read kind n (finished w)) ≡ totals p (word_faults kind) (finished w)
read_totals p kind n w ends = by w.at w.text ends
  where
    three : (a b c : List Fault) → a ++ (b ++ (c ++ [])) ≡ a ++ b ++ c
    three a b c = ap (λ w. a ++ (b ++ w)) (append-nil c) ∙ sym (append_assoc a b c)

    by : (at : ℕ) (text : List ℕ) → EndsAt n at text → totals p event_faults (read kind n (finished (record { at = at; text = text }))) ≡ totals p (word_faults kind) (finished (record { at = at; text = text }))
    by at [] ends = refl
    by at (b ∷ bs) ends =
        let w : Word = record { at = at; text = b ∷ bs } in
        ap (λ m. total p (causes m at (word_rows kind w)) + 0) (sym ends)
        ∙ ap (λ fs. total p fs + 0) (three (when (nat_lt 255 (length w.text)) (fault (word_end w) cause.Long at)) (when (has_numbers kind && is_none (decimal_of w.text)) (fault (word_end w) cause.Number at)) (when (has_numbers kind && is_over (decimal_of w.text)) (fault (word_end w) cause.Big at)))

no_finished : (w : Word) → w.text ≡ [] → finished w ≡ []
no_finished w e = ap (λ text. finished (record { at = w.at; text = text })) e

-- a part that ends a word
part_own : (p : Fault → Bool) (h : Bool) (kind : Kind) (w : Word) (x : Placed) (ps : List Placed) (n : ℕ) (shown : List Event) → IsOpen h n w → of_word x.part ≡ None → (h ≡ true → totals p event_faults shown ≡ total p (part_faults x)) → (h ≡ false → shown ≡ [])
    → totals p event_faults (read kind n (finished w)) + totals p event_faults shown + own p h kind no_word ps ≡ own p h kind w (x ∷ ps)
part_own p true kind w x ps n shown idle none is isnt =
    let a = read_totals p kind n w idle.ends in
    let b = is refl in
    let c = ap (totals p (word_faults kind)) (broken w x ps none) ∙ totals_more p (word_faults kind) (finished w) (all_words no_word ps) in
    omega (arith, a, b, c)
part_own p false kind w x ps n shown idle none is isnt =
    let a = ap (λ ws. totals p event_faults (read kind n ws)) (no_finished w (idle.idle refl)) in
    let b = ap (totals p event_faults) (isnt refl) in
    omega (arith, a, b)

-- a byte
byte_own : (p : Fault → Bool) (h : Bool) (kind : Kind) (w : Word) (at b : ℕ) (ps : List Placed) → IsOpen h at w
    → totals p event_faults (read kind at (ended_by h b w) ++ ampersands h at b) + own p h kind (word_after h at b w) ps ≡ own p h kind w (placed at (Letter b) ∷ ps)
byte_own p false kind w at b ps is = refl
byte_own p true kind w at b ps is =
    let a = totals_more p event_faults (read kind at (ended_by true b w)) (ampersands true at b) in
    let c = ended (is_white b) in
    let d = ap (totals p (word_faults kind)) (byte_words w at b ps) ∙ totals_more p (word_faults kind) (ended_by true b w) (all_words (word_after true at b w) ps) in
    let e = amp (b == 38) in
    omega (arith, a, c, d, e)
  where
    ended : (t : Bool) → totals p event_faults (read kind at (cond (true && t) (finished w) [])) ≡ totals p (word_faults kind) (cond (true && t) (finished w) [])
    ended true = read_totals p kind at w is.ends
    ended false = refl

    amp : (t : Bool) → totals p event_faults (cond (true && t) (Ampersand at ∷ []) []) ≡ total p (when t (fault at cause.Entity at) ++ when false (fault (at + 8) cause.Entity at))
    amp true = omega arith
    amp false = refl

no_open : (h : Bool) (n : ℕ) → IsOpen h n no_word
no_open h n = record { idle = λ _. refl; ends = tt }

after_open : (h : Bool) (at b : ℕ) (w : Word) → IsOpen h at w → IsOpen h (at + 1) (word_after h at b w)
after_open true at b w is = by (is_white b)
  where
    longer_ends : (from : ℕ) (text : List ℕ) → EndsAt at from text → EndsAt (at + 1) (longer at b (record { at = from; text = text })).at (longer at b (record { at = from; text = text })).text
    longer_ends from [] e = refl
    longer_ends from (c ∷ cs) e = omega (arith, e, length-append (c ∷ cs) (b ∷ []))

    by : (t : Bool) → IsOpen true (at + 1) (cond t no_word (longer at b w))
    by true = no_open true (at + 1)
    by false = record { idle = λ e. cc; ends = longer_ends w.at w.text is.ends }
after_open false at b w is = no_open false (at + 1)

-- ends

-- the faults of an end, by whether its words are miscounted
abbrev closing_by : Kind → Bool → Bool → ℕ → ℕ → List Fault
closing_by kind is_misnamed is_bad at shown = when is_misnamed (fault shown cause.Tag at) ++ (when is_bad (fault shown cause.Count at) ++ [])

two : (a b : List Fault) → a ++ (b ++ []) ≡ a ++ b
two a b = ap (λ w. a ++ w) (append-nil b)

-- words are counted in text alone
pub counts : (kind : Kind) (at : ℕ) (x : Content) → is_miscounted kind (length (words_read (has_text kind) at no_word x)) ≡ is_miscounted kind (length (words (parts at x)))
counts kinds.Triples at x = ap (λ ws. is_miscounted kinds.Triples (length ws)) (words_are at no_word x)
counts kinds.Pairs at x = ap (λ ws. is_miscounted kinds.Pairs (length ws)) (words_are at no_word x)
counts kinds.Point at x = ap (λ ws. is_miscounted kinds.Point (length ws)) (words_are at no_word x)
counts kinds.Face at x = ap (λ ws. is_miscounted kinds.Face (length ws)) (words_are at no_word x)
counts kinds.Outside at x = refl
counts kinds.Root at x = refl
counts kinds.Units at x = refl
counts kinds.UnitOf at x = refl
counts kinds.Surfaces at x = refl
counts kinds.Surface at x = refl
counts kinds.SourceData at x = refl
counts kinds.Boundaries at x = refl
counts kinds.Boundary at x = refl
counts kinds.Breaklines at x = refl
counts kinds.Breakline at x = refl
counts kinds.DataPoints at x = refl
counts kinds.Definition at x = refl
counts kinds.Points at x = refl
counts kinds.Faces at x = refl
counts kinds.Skipped at x = refl

-- the text of an element
text_own : (p : Fault → Bool) (h : Bool) (kind : Kind) (ps : List Placed) → total p (cond h (flat_map part_faults ps ++ flat_map (word_faults kind) (words ps)) []) ≡ own p h kind no_word ps
text_own p false kind ps = refl
text_own p true kind ps =
    total_more p (flat_map part_faults ps) (flat_map (word_faults kind) (words ps))
    ∙ (λ i. total_flat p part_faults ps i + total_flat p (word_faults kind) (words ps) i)

-- at the end of text
end_own : (p : Fault → Bool) (h : Bool) (kind : Kind) (n : ℕ) (w : Word) → IsOpen h n w → totals p event_faults (read kind n (finished w)) ≡ own p h kind w []
end_own p true kind n w idle = let a = read_totals p kind n w idle.ends in let b = ap (totals p (word_faults kind)) (at_end w) in omega (arith, a, b)
end_own p false kind n w idle = ap (λ ws. totals p event_faults (read kind n ws)) (no_finished w (idle.idle refl))

nothing_own : (p : Fault → Bool) (h : Bool) (kind : Kind) → own p h kind no_word [] ≡ 0
nothing_own p true kind = refl
nothing_own p false kind = refl

element_total : (p : Fault → Bool) (e : Found) → total p (element_faults e) ≡ total p (tag_faults e) + (total p (text_faults e) + total p (end_faults e))
element_total p e = let a = total_more p (tag_faults e ++ text_faults e) (end_faults e) in let b = total_more p (tag_faults e) (text_faults e) in omega (arith, a, b)

quotes_total : (p : Fault → Bool) (h : Bool) (at : ℕ) → h ≡ true → totals p event_faults (quotes h at (at + 8)) ≡ total p (part_faults (placed at Quoted))
quotes_total p true at e = omega arith
quotes_total p false at e = cc

no_quotes : (h : Bool) (at : ℕ) → h ≡ false → quotes h at (at + 8) ≡ []
no_quotes true at e = cc
no_quotes false at e = refl

-- what is shown of content
pub shown : (p : Fault → Bool) (kind : Kind) (depth at : ℕ) (w : Word) (x : Content) → IsOpen (has_text kind) at w
    → totals p event_faults (events kind depth at w x) ≡ totals p element_faults (elements kind depth at x) + own p (has_text kind) kind w (parts at x)
shown p kind depth at w Nothing idle = let a = end_own p (has_text kind) kind at w idle in omega (arith, a)
shown p kind depth at w (Byte b after) idle =
    let h = has_text kind in
    let u = word_after h at b w in
    let a = totals_more p event_faults (read kind at (ended_by h b w) ++ ampersands h at b) (events kind depth (at + 1) u after) in
    let c = shown p kind depth (at + 1) u after (after_open h at b w idle) in
    let d = byte_own p h kind w at b (parts (at + 1) after) idle in
    omega (arith, a, c, d)
shown p kind depth at w (Comment bytes after) idle =
    let m = at + (length bytes + 7) in
    let a = totals_more p event_faults (read kind at (finished w)) (events kind depth m no_word after) in
    let c = shown p kind depth m no_word after (no_open (has_text kind) m) in
    let d = part_own p (has_text kind) kind w (placed at Other) (parts m after) at [] idle refl (λ _. refl) (λ _. refl) in
    omega (arith, a, c, d)
shown p kind depth at w (Instruction bytes after) idle =
    let m = at + (length bytes + 4) in
    let a = totals_more p event_faults (read kind at (finished w)) (events kind depth m no_word after) in
    let c = shown p kind depth m no_word after (no_open (has_text kind) m) in
    let d = part_own p (has_text kind) kind w (placed at Other) (parts m after) at [] idle refl (λ _. refl) (λ _. refl) in
    omega (arith, a, c, d)
shown p kind depth at w (CData bytes after) idle =
    let m = at + (length bytes + 12) in
    let h = has_text kind in
    let a = totals_more p event_faults (read kind at (finished w)) (quotes h at (at + 8) ++ events kind depth m no_word after) in
    let b = totals_more p event_faults (quotes h at (at + 8)) (events kind depth m no_word after) in
    let c = shown p kind depth m no_word after (no_open (has_text kind) m) in
    let d = part_own p h kind w (placed at Quoted) (parts m after) at (quotes h at (at + 8)) idle refl (quotes_total p h at) (no_quotes h at) in
    omega (arith, a, b, c, d)
shown p kind depth at w (Empty tag after) idle =
    let m = at + length (empty_text tag) in
    let own_kind = below kind tag.name in
    let e = empty_found own_kind (depth + 1) at tag in
    let a = totals_more p event_faults (read kind at (finished w)) (empty_events kind depth at tag ++ events kind depth m no_word after) in
    let b = totals_more p event_faults (empty_events kind depth at tag) (events kind depth m no_word after) in
    let c = shown p kind depth m no_word after (no_open (has_text kind) m) in
    let d = part_own p (has_text kind) kind w (placed at Other) (parts m after) at [] idle refl (λ _. refl) (λ _. refl) in
    let f = element_total p e in
    let g = ap (total p) (opening_same kind depth at (m - 1) tag e refl refl refl refl refl) in
    let t = text_own p (has_text own_kind) own_kind [] ∙ nothing_own p (has_text own_kind) own_kind in
    let k = ap (total p) (two (when false (fault (m - 1) cause.Tag at)) (when (is_miscounted own_kind 0) (fault (m - 1) cause.Count at))) in
    omega (arith, a, b, c, d, f, g, t, k)
shown p kind depth at w (Element tag inside end after) idle =
    let own_kind = below kind tag.name in
    let h = has_text own_kind in
    let inside_at = at + length (start_text tag) in
    let there = inside_at + length (content_text inside) + length (end_text end) in
    let e = whole_found own_kind (depth + 1) at tag inside end in
    let within = events own_kind (depth + 1) inside_at no_word inside in
    let later = Closed (closing kind at tag inside end) ∷ events kind depth there no_word after in
    let a = totals_more p event_faults (read kind at (finished w)) (Opened (opening kind depth at tag (inside_at - 1)) ∷ (within ++ later)) in
    let b = totals_more p event_faults within later in
    let c = shown p kind depth there no_word after (no_open (has_text kind) there) in
    let d = part_own p (has_text kind) kind w (placed at Other) (parts there after) at [] idle refl (λ _. refl) (λ _. refl) in
    let f = element_total p e in
    let g = ap (total p) (opening_same kind depth at (inside_at - 1) tag e refl refl refl refl refl) in
    let i = shown p own_kind (depth + 1) inside_at no_word inside (no_open h inside_at) in
    let n : inside_at - 1 + 1 ≡ inside_at = omega arith in
    let t = text_own p h own_kind (parts (inside_at - 1 + 1) inside) ∙ ap (λ k. own p h own_kind no_word (parts k inside)) n in
    let k = ap (λ x. total p (closing_by own_kind (not (bytes_eq end.name tag.name)) x (e.end_at) (e.end_end))) (counts own_kind inside_at inside ∙ ap (λ j. is_miscounted own_kind (length (words (parts j inside)))) (sym n))
    ∙ ap (total p) (two (when (not (bytes_eq end.name tag.name)) (fault e.end_end cause.Tag e.end_at)) (when (is_miscounted own_kind (length (words (parts (inside_at - 1 + 1) inside)))) (fault e.end_end cause.Count e.end_at))) in
    let l = totals_more p element_faults (elements own_kind (depth + 1) inside_at inside) (elements kind depth there after) in
    omega (arith, a, b, c, d, f, g, i, t, k, l)

-- what a document shows
pub shown_total : (p : Fault → Bool) (d : Document) → total p (shown_faults d) ≡ total p (tree_faults d)
shown_total p d =
    let a = total_flat p event_faults (document_events d) in
    let b = total_flat p element_faults (document_elements d) in
    let c = shown p kinds.Outside 0 (length (mark d)) no_word d.body (no_open false (length (mark d))) in
    omega (arith, a, b, c)
