-- The words that a reading completes are those of the text.
use Rattle.std.proofs.Common.{◌≡◌, ℕ, ◌+◌, Bool, true, false, ◌&&◌, cond, List, [], ◌∷◌, ◌++◌, length, None, Some, refl, sym, ◌∙◌, ap, append_assoc}
use Rattle.std.proofs.lemmas.List.{append-nil}
use Rattle.landxml_read.specs.Markup.{is_white, Content, Nothing, Byte, Comment, Instruction, CData, Empty, Element, content_text, start_text, empty_text, end_text}
use Rattle.landxml_read.specs.Words.{Letter, Quoted, Other, Placed, placed, parts, of_word, Word, run_of, run, words_of, words_after}
use Rattle.landxml_read.specs.Events.{no_word, longer, finished, word_after, ended_by, words_read}
use Rattle.landxml_read.proofs.Running.{if_true, if_false}

-- the words of some parts after the bytes of an open word, where there are any
abbrev pub words_from : ℕ → List ℕ → List Placed → List Word
words_from at [] ps = words_after false ps
words_from at (b ∷ bs) ps = record { at = at; text = (b ∷ bs) ++ run ps } ∷ words_after true ps

-- the words of some parts after an open word
abbrev pub all_words : Word → List Placed → List Word
all_words w ps = words_from w.at w.text ps

-- at the end
pub at_end : (w : Word) → finished w ≡ all_words w []
at_end w = by w.at w.text
  where
    by : (at : ℕ) (text : List ℕ) → finished (record { at = at; text = text }) ≡ words_from at text []
    by at [] = refl
    by at (b ∷ bs) = let e : b ∷ bs ≡ (b ∷ bs) ++ [] = sym (append-nil (b ∷ bs)) in λ i. record { at = at; text = e i } ∷ []

-- a part that is no byte of a word ends it
pub broken : (w : Word) (p : Placed) (ps : List Placed) → of_word p.part ≡ None → all_words w (p ∷ ps) ≡ finished w ++ all_words no_word ps
broken w p ps e = by w.at w.text
  where
    by : (at : ℕ) (text : List ℕ) → words_from at text (p ∷ ps) ≡ finished (record { at = at; text = text }) ++ words_after false ps
    by at [] = ap (λ o. words_of false o (run ps) (words_after false ps) (words_after true ps) p.at) e
    by at (b ∷ bs) =
        let f : (b ∷ bs) ++ run_of (of_word p.part) (run ps) ≡ b ∷ bs = ap (λ o. (b ∷ bs) ++ run_of o (run ps)) e ∙ append-nil (b ∷ bs) in
        λ i. record { at = at; text = f i } ∷ words_of true (e i) (run ps) (words_after false ps) (words_after true ps) p.at

-- a byte of a word goes on with it
pub grown : (w : Word) (at b : ℕ) (ps : List Placed) → is_white b ≡ false → all_words w (placed at (Letter b) ∷ ps) ≡ all_words (longer at b w) ps
grown w at b ps e = by w.at w.text
  where
    is : of_word (Letter b) ≡ Some b
    is = if_false (is_white b) None (Some b) e

    by : (from : ℕ) (text : List ℕ) → words_from from text (placed at (Letter b) ∷ ps) ≡ all_words (longer at b (record { at = from; text = text })) ps
    by from [] = ap (λ o. words_of false o (run ps) (words_after false ps) (words_after true ps) at) is
    by from (c ∷ cs) =
        let f : (c ∷ cs) ++ run_of (of_word (Letter b)) (run ps) ≡ ((c ∷ cs) ++ b ∷ []) ++ run ps = ap (λ o. (c ∷ cs) ++ run_of o (run ps)) is ∙ sym (append_assoc (c ∷ cs) (b ∷ []) (run ps)) in
        λ i. record { at = from; text = f i } ∷ words_of true (is i) (run ps) (words_after false ps) (words_after true ps) at

white_none : (b : ℕ) → is_white b ≡ true → of_word (Letter b) ≡ None
white_none b e = if_true (is_white b) None (Some b) e

-- a byte of text
pub byte_words : (w : Word) (at b : ℕ) (ps : List Placed) → all_words w (placed at (Letter b) ∷ ps) ≡ ended_by true b w ++ all_words (word_after true at b w) ps
byte_words w at b ps = by (is_white b) refl
  where
    by : (t : Bool) → is_white b ≡ t → all_words w (placed at (Letter b) ∷ ps) ≡ cond (true && is_white b) (finished w) [] ++ all_words (cond (is_white b) no_word (longer at b w)) ps
    by true e = broken w (placed at (Letter b)) ps (white_none b e) ∙ sym (ap (λ x. cond x (finished w) [] ++ all_words (cond x no_word (longer at b w)) ps) e)
    by false e = grown w at b ps e ∙ sym (ap (λ x. cond x (finished w) [] ++ all_words (cond x no_word (longer at b w)) ps) e)

-- the words of content
pub words_are : (at : ℕ) (w : Word) (x : Content) → words_read true at w x ≡ all_words w (parts at x)
words_are at w Nothing = at_end w
words_are at w (Byte b after) = ap (λ ws. ended_by true b w ++ ws) (words_are (at + 1) (word_after true at b w) after) ∙ sym (byte_words w at b (parts (at + 1) after))
words_are at w (Comment bytes after) = let m = at + (length bytes + 7) in ap (λ ws. finished w ++ ws) (words_are m no_word after) ∙ sym (broken w (placed at Other) (parts m after) refl)
words_are at w (Instruction bytes after) = let m = at + (length bytes + 4) in ap (λ ws. finished w ++ ws) (words_are m no_word after) ∙ sym (broken w (placed at Other) (parts m after) refl)
words_are at w (CData bytes after) = let m = at + (length bytes + 12) in ap (λ ws. finished w ++ ws) (words_are m no_word after) ∙ sym (broken w (placed at Quoted) (parts m after) refl)
words_are at w (Empty tag after) = let m = at + length (empty_text tag) in ap (λ ws. finished w ++ ws) (words_are m no_word after) ∙ sym (broken w (placed at Other) (parts m after) refl)
words_are at w (Element tag inside end after) =
    let m = at + length (start_text tag) + length (content_text inside) + length (end_text end) in ap (λ ws. finished w ++ ws) (words_are m no_word after) ∙ sym (broken w (placed at Other) (parts m after) refl)
