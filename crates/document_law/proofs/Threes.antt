-- Three words of an element's text, read.
use Rattle.std.proofs.Common.{◌≡◌, ℕ, ◌+◌, true, false, ◌==◌, List, [], ◌∷◌, ◌++◌, length, Some, refl, sym, ◌∙◌, ap, subst, append_assoc}
use Rattle.std.specs.List.{list_all}
use Rattle.landxml_read.specs.Markup.{is_white}
use Rattle.landxml_read.specs.Faults.{has_text}
use Rattle.landxml_read.specs.Course.{is_plain_byte}
use Rattle.landxml_read.specs.declared.utf8.Utf8.TheVariants.{Ready}
use Rattle.landxml_read.specs.declared.element.Element.{Element}
use Rattle.landxml_read.specs.declared.tokens.Tokens.{Tokens}
use Rattle.landxml_read.specs.declared.level.Level.TheVariants.{Inside}
use Rattle.landxml_read.specs.declared.scan.Part.TheVariants.{Text}
use Rattle.landxml_read.specs.Events.{Event, Read}
use Rattle.landxml_read.specs.Words.{Word}
use Rattle.landxml_read.specs.Scan.{next}
use Rattle.landxml_read.specs.Utf8.{utf8_next}
use Rattle.landxml_read.proofs.Running.{scan}
use Rattle.document_law.proofs.Runs.{Run, run_both, stand, opens, worded}
use Rattle.document_law.proofs.Words.{word_read, white_ends, less_ends}
use Rattle.document_law.proofs.Numbers.{IsCons}

-- the white that parts words in a written document
pub record IsParting (b : ℕ) : Type 0 where
  pub white : is_white b ≡ true
  pub ampersand : (b == 38) ≡ false
  pub goes : (k : ℕ) → next (scan Text (Inside k)) b ≡ Some (scan Text (Inside k))
  pub utf8 : utf8_next Ready b ≡ Some Ready

pub space_parts : IsParting 32
space_parts = record { white = refl; ampersand = refl; goes = λ k. refl; utf8 = refl }

pub line_parts : IsParting 10
line_parts = record { white = refl; ampersand = refl; goes = λ k. refl; utf8 = refl }

-- one byte or more, each of a word
pub record IsWord (text : List ℕ) : Type 0 where
  pub some : IsCons text
  pub plain : list_all is_plain_byte text ≡ true

abbrev pub word : ℕ → List ℕ → Word
word at text = record { at = at; text = text }

-- so many more words are complete
abbrev pub more_words : Element → Element
more_words e = record e { words = e.words + 1 }

pub word_white : (k n b : ℕ) (e : Element) (es : List Element) (t : Tokens) (told : List Event) (text : List ℕ) → has_text e.kind ≡ true → IsParting b → IsWord text
    → Run (stand k (e ∷ es) n t told) (text ++ b ∷ []) (stand k (more_words e ∷ es) (n + length text + 1) t (Read e.kind (word n text) (n + length text) ∷ told))
word_white k n b e es t told text has part is =
    let P : List ℕ → Type 0 = λ text. Run (stand k (e ∷ es) n t told) (text ++ b ∷ []) (stand k (more_words e ∷ es) (n + length text + 1) t (Read e.kind (word n text) (n + length text) ∷ told)) in
    let c = is.some.first in
    let cs = is.some.rest in
    let m = n + length (c ∷ cs) in
    subst P (sym is.some.is)
    (run_both (stand k (e ∷ es) n t told) (worded k (e ∷ es) n t told (c ∷ cs) m) _ (c ∷ cs) (b ∷ [])
    (word_read k n (e ∷ es) t told c cs has (ap (list_all is_plain_byte) (sym is.some.is) ∙ is.plain))
    (white_ends k n m b c (e ∷ es) t told cs has part.white part.ampersand (part.goes k) part.utf8))

pub word_less : (k n : ℕ) (e : Element) (es : List Element) (t : Tokens) (told : List Event) (text : List ℕ) → has_text e.kind ≡ true → IsWord text
    → Run (stand k (e ∷ es) n t told) (text ++ 60 ∷ []) (opens k (more_words e ∷ es) (n + length text + 1) (record t { at = n + length text }) (Read e.kind (word n text) (n + length text) ∷ told))
word_less k n e es t told text has is =
    let P : List ℕ → Type 0 = λ text. Run (stand k (e ∷ es) n t told) (text ++ 60 ∷ []) (opens k (more_words e ∷ es) (n + length text + 1) (record t { at = n + length text }) (Read e.kind (word n text) (n + length text) ∷ told)) in
    let c = is.some.first in
    let cs = is.some.rest in
    let m = n + length (c ∷ cs) in
    subst P (sym is.some.is)
    (run_both (stand k (e ∷ es) n t told) (worded k (e ∷ es) n t told (c ∷ cs) m) _ (c ∷ cs) (60 ∷ [])
    (word_read k n (e ∷ es) t told c cs has (ap (list_all is_plain_byte) (sym is.some.is) ∙ is.plain))
    (less_ends k n m c (e ∷ es) t told cs))

-- three words, parted by a space
abbrev pub three_text : List ℕ → List ℕ → List ℕ → List ℕ
three_text a b c = a ++ (32 ∷ (b ++ (32 ∷ c)))

regrouped : (a b c : List ℕ) (z : ℕ) → three_text a b c ++ z ∷ [] ≡ (a ++ 32 ∷ []) ++ ((b ++ 32 ∷ []) ++ (c ++ z ∷ []))
regrouped a b c z = simp append_assoc

-- three words, the latest first
abbrev pub after_three : (e : Element) (told : List Event) (a b c : Word) (a_end b_end c_end : ℕ) → List Event
after_three e told a b c a_end b_end c_end = Read e.kind c c_end ∷ Read e.kind b b_end ∷ Read e.kind a a_end ∷ told

-- where a word begins after one that begins there
abbrev pub b_at : ℕ → List ℕ → ℕ
b_at n a = n + length a + 1

-- three words that begin there
abbrev pub told_three : ℕ → Element → List Event → List ℕ → List ℕ → List ℕ → List Event
told_three n e told a b c =
    let m = b_at n a in
    let l = b_at m b in
    after_three e told (word n a) (word m b) (word l c) (n + length a) (m + length b) (l + length c)

two_read : (k n : ℕ) (e : Element) (es : List Element) (t : Tokens) (told : List Event) (a b : List ℕ) → has_text e.kind ≡ true → IsWord a → IsWord b
    → Run (stand k (e ∷ es) n t told) ((a ++ 32 ∷ []) ++ (b ++ 32 ∷ [])) (stand k (more_words (more_words e) ∷ es) (b_at (b_at n a) b) t (Read e.kind (word (b_at n a) b) (b_at n a + length b) ∷ Read e.kind (word n a) (n + length a) ∷ told))
two_read k n e es t told a b has is_a is_b =
    run_both _ _ _ (a ++ 32 ∷ []) (b ++ 32 ∷ []) (word_white k n 32 e es t told a has space_parts is_a)
    (word_white k (b_at n a) 32 (more_words e) es t (Read e.kind (word n a) (n + length a) ∷ told) b has space_parts is_b)

pub three_white : (k n z : ℕ) (e : Element) (es : List Element) (t : Tokens) (told : List Event) (a b c : List ℕ) → has_text e.kind ≡ true → IsParting z → IsWord a → IsWord b → IsWord c
    → Run (stand k (e ∷ es) n t told) (three_text a b c ++ z ∷ []) (stand k (more_words (more_words (more_words e)) ∷ es) (b_at (b_at (b_at n a) b) c) t (told_three n e told a b c))
three_white k n z e es t told a b c has part is_a is_b is_c =
    let P : List ℕ → Type 0 = λ text. Run (stand k (e ∷ es) n t told) text (stand k (more_words (more_words (more_words e)) ∷ es) (b_at (b_at (b_at n a) b) c) t (told_three n e told a b c)) in
    subst P (append_assoc (a ++ 32 ∷ []) (b ++ 32 ∷ []) (c ++ z ∷ []) ∙ sym (regrouped a b c z))
    (run_both _ _ _ ((a ++ 32 ∷ []) ++ (b ++ 32 ∷ [])) (c ++ z ∷ []) (two_read k n e es t told a b has is_a is_b)
    (word_white k (b_at (b_at n a) b) z (more_words (more_words e)) es t (Read e.kind (word (b_at n a) b) (b_at n a + length b) ∷ Read e.kind (word n a) (n + length a) ∷ told) c has part is_c))

pub three_less : (k n : ℕ) (e : Element) (es : List Element) (t : Tokens) (told : List Event) (a b c : List ℕ) → has_text e.kind ≡ true → IsWord a → IsWord b → IsWord c
    → Run (stand k (e ∷ es) n t told) (three_text a b c ++ 60 ∷ [])
    (opens k (more_words (more_words (more_words e)) ∷ es) (b_at (b_at (b_at n a) b) c) (record t { at = b_at (b_at n a) b + length c }) (told_three n e told a b c))
three_less k n e es t told a b c has is_a is_b is_c =
    let P : List ℕ → Type 0 = λ text. Run (stand k (e ∷ es) n t told) text
    (opens k (more_words (more_words (more_words e)) ∷ es) (b_at (b_at (b_at n a) b) c) (record t { at = b_at (b_at n a) b + length c }) (told_three n e told a b c)) in
    subst P (append_assoc (a ++ 32 ∷ []) (b ++ 32 ∷ []) (c ++ 60 ∷ []) ∙ sym (regrouped a b c 60))
    (run_both _ _ _ ((a ++ 32 ∷ []) ++ (b ++ 32 ∷ [])) (c ++ 60 ∷ []) (two_read k n e es t told a b has is_a is_b)
    (word_less k (b_at (b_at n a) b) (more_words (more_words e)) es t (Read e.kind (word (b_at n a) b) (b_at n a + length b) ∷ Read e.kind (word n a) (n + length a) ∷ told) c has is_c))
