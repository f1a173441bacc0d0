-- The fault offset of a table's texts, one row after another.
use Rattle.std.proofs.Common.{◌≡◌, ℕ, max, Bool, true, false, cond, List, [], ◌∷◌, ◌++◌, refl, sym, subst, ◌∙◌, ap, inl, inr, ◌⊎◌, append_assoc, arith, Option, None, Some}
use Rattle.std.specs.Prelude.{◌&&◌, not, is_some, IsSome, bytes_eq, if◌then◌else◌}
use Rattle.std.specs.List.{list_all, onto_first}
use Rattle.std.proofs.lemmas.Bool.{eqb-true}
use Rattle.std.proofs.lemmas.List.{append-nil}
use Rattle.std.proofs.lemmas.Slice.Eq.{bytes_eq-Decides}
use Rattle.ground_num.specs.FirstFault.{IsFirstFault}
use Rattle.line_protocol.specs.Grammar.{Word, Form, is_space, words_of, by_word, bare}
use Rattle.line_protocol.specs.declared.figure.Scan.{Scan}
use Rattle.line_protocol.specs.Fault.{After, IsEmpty}
use Rattle.line_protocol.specs.Scanning.{EndsNumbers, end_numbers}
use Rattle.line_protocol.proofs.Splitting.{words_some}
use Rattle.line_protocol.proofs.Faults.{by_other_words, of_both, of_none}

-- ---- a text's first word
abbrev pub is_one_word : List ℕ → Bool
is_one_word text = list_all (λ b. not (is_space b)) text

one_of_two : (a b : Bool) → (a && b) ≡ true → (a ≡ true) × (b ≡ true)
one_of_two true b h = (refl, h)
one_of_two false b h = cc

word_then : (w rest : List ℕ) → is_one_word w ≡ true → words_of (w ++ 32 ∷ rest) ≡ w ∷ words_of rest
word_then [] rest one = refl
word_then (b ∷ w) rest one = let h = one_of_two (not (is_space b)) (is_one_word w) one in by (is_space b) h.0 (word_then w rest h.1)
  where
    by : (space : Bool) → not space ≡ true → words_of (w ++ 32 ∷ rest) ≡ w ∷ words_of rest → cond space ([] ∷ words_of (w ++ 32 ∷ rest)) (onto_first b (words_of (w ++ 32 ∷ rest))) ≡ (b ∷ w) ∷ words_of rest
    by true h e = cc
    by false h e = ap (onto_first b) e

word_alone : (w : List ℕ) → is_one_word w ≡ true → words_of w ≡ w ∷ []
word_alone [] one = refl
word_alone (b ∷ w) one = let h = one_of_two (not (is_space b)) (is_one_word w) one in by (is_space b) h.0 (word_alone w h.1)
  where
    by : (space : Bool) → not space ≡ true → words_of w ≡ w ∷ [] → cond space ([] ∷ words_of w) (onto_first b (words_of w)) ≡ (b ∷ w) ∷ []
    by true h e = cc
    by false h e = ap (onto_first b) e

-- a word, a space and a rest
record Parted (text : List ℕ) : Type 0 where
  first : Word
  rest : List ℕ
  whole : text ≡ first ++ 32 ∷ rest
  words : words_of text ≡ first ∷ words_of rest

parted : (text : List ℕ) → (words_of text ≡ text ∷ []) ⊎ Parted text
parted [] = inl refl
parted (b ∷ text) = by (is_space b) refl (parted text)
  where
    onto_alone : words_of text ≡ text ∷ [] → onto_first b (words_of text) ≡ (b ∷ text) ∷ []
    onto_alone e = ap (onto_first b) e

    longer : (parts : Parted text) → onto_first b (words_of text) ≡ (b ∷ parts.first) ∷ words_of parts.rest
    longer parts = ap (onto_first b) parts.words

    at_space : b ≡ 32 → is_space b ≡ true → Parted (b ∷ text)
    at_space e space = record { first = []; rest = text; whole = ap (λ c. c ∷ text) e; words = ap (λ t. cond t ([] ∷ words_of text) (onto_first b (words_of text))) space }

    by : (space : Bool) → is_space b ≡ space → (words_of text ≡ text ∷ []) ⊎ Parted text → (words_of (b ∷ text) ≡ (b ∷ text) ∷ []) ⊎ Parted (b ∷ text)
    by true e h = inr (at_space (eqb-true b 32 e) e)
    by false e (inl h) = inl (ap (λ t. cond t ([] ∷ words_of text) (onto_first b (words_of text))) e ∙ onto_alone h)
    by false e (inr parts) = inr (record {
      first = b ∷ parts.first;
      rest = parts.rest;
      whole = ap (λ t. b ∷ t) parts.whole;
      words = ap (λ t. cond t ([] ∷ words_of text) (onto_first b (words_of text))) e ∙ longer parts;
    })

-- ---- rows
-- the texts of a table
abbrev pub IsOfTable : {X : Type 0} → List (Word × Form X) → List ℕ → Type 0
IsOfTable rows text = IsSome (by_word rows (words_of text))

-- the fault offset of a table's texts
pub record IsTableFault (X : Type 0) (rows : List (Word × Form X)) (text : List ℕ) (k : ℕ) : Type 0 where
  pub fault : IsFirstFault (IsOfTable rows) text k

chosen : {X : Type 0} (test : Bool) (row rest : Option X) → is_some (if test then row else rest) ≡ true → ((test ≡ true) × (is_some row ≡ true)) ⊎ (is_some rest ≡ true)
chosen true row rest h = inl (refl, h)
chosen false row rest h = inr h

kept : {X : Type 0} (test : Bool) (row rest : Option X) → (test ≡ true → rest ≡ None) → is_some rest ≡ true → is_some (if test then row else rest) ≡ true
kept {X = X} true row rest fresh h = absurd (none_some rest (fresh refl) h)
  where
    none_some : (o : Option X) → o ≡ None → is_some o ≡ true → ⊥
    none_some None e h = cc
    none_some (Some x) e h = cc
kept false row rest fresh h = h

same_word : (w : Word) → bytes_eq w w ≡ true
same_word w = (bytes_eq-Decides w w).1 refl

no_texts : (o : Bool) → o ≡ false → o ≡ true → ⊥
no_texts o e h = cc

module _ {X : Type 0} (word : Word) (form : Form X) (rows : List (Word × Form X)) (one : is_one_word word ≡ true) (fresh : (ws : List Word) → by_word rows (word ∷ ws) ≡ None) where
  from_rest : (text : List ℕ) → IsOfTable rows text → IsOfTable ((word, form) ∷ rows) text
  from_rest text h =
      let some = words_some text in
      let P : List Word → Type 0 = λ vs. is_some (by_word rows vs) ≡ true → is_some (by_word ((word, form) ∷ rows) vs) ≡ true in
      subst P (sym some.2) (kept (bytes_eq some.0 word) (form some.1) (by_word rows (some.0 ∷ some.1)) (λ t. ap (λ v. by_word rows (v ∷ some.1)) ((bytes_eq-Decides some.0 word).0 t) ∙ fresh some.1)) h

  -- the word stands first, and its row takes the others
  to_table : (text : List ℕ) (ws : List Word) → words_of text ≡ word ∷ ws → is_some (form ws) ≡ true → IsOfTable ((word, form) ∷ rows) text
  to_table text ws e h = ap (λ vs. is_some (by_word ((word, form) ∷ rows) vs)) e ∙ ap (λ t. is_some (if t then form ws else by_word rows (word ∷ ws))) (same_word word) ∙ h

  -- the first word is the row's, or the text is of the rows after it
  of_row : (text : List ℕ) (w : Word) (ws : List Word) → words_of text ≡ w ∷ ws → IsOfTable ((word, form) ∷ rows) text → IsOfTable rows text ⊎ ((w ≡ word) × (is_some (form ws) ≡ true))
  of_row text w ws e h = by (chosen (bytes_eq w word) (form ws) (by_word rows (w ∷ ws)) (ap (λ vs. is_some (by_word ((word, form) ∷ rows) vs)) (sym e) ∙ h))
    where
      by : ((bytes_eq w word ≡ true) × (is_some (form ws) ≡ true)) ⊎ (is_some (by_word rows (w ∷ ws)) ≡ true) → IsOfTable rows text ⊎ ((w ≡ word) × (is_some (form ws) ≡ true))
      by (inl found) = inr ((bytes_eq-Decides w word).0 found.0, found.1)
      by (inr found) = inl (ap (λ vs. is_some (by_word rows vs)) e ∙ found)

  -- a row of more than one word
  pub phrase_row : (test : List Word → Bool) → ((ws : List Word) → is_some (form ws) ≡ test ws) → test [] ≡ false → (text : List ℕ) (a b k : ℕ) → k ≡ max a b → IsTableFault X rows text a → IsFirstFault (After (word ++ 32 ∷ []) (λ rest. test (words_of rest) ≡ true)) text b → IsTableFault X ((word, form) ∷ rows) text k
  phrase_row test same more text a b k e first second = record { fault = subst (IsFirstFault (IsOfTable ((word, form) ∷ rows)) text) (sym e) (by_other_words text (max a b) from to (of_both text a b first.fault second)) }
    where
      from : (t : List ℕ) → IsOfTable rows t ⊎ After (word ++ 32 ∷ []) (λ rest. test (words_of rest) ≡ true) t → IsOfTable ((word, form) ∷ rows) t
      from t (inl h) = from_rest t h
      from t (inr h) = to_table t (words_of h.0) (ap words_of (h.1 ∙ append_assoc word (32 ∷ []) h.0) ∙ word_then word h.0 one) (same (words_of h.0) ∙ h.2)

      by : (t : List ℕ) → (words_of t ≡ t ∷ []) ⊎ Parted t → IsOfTable ((word, form) ∷ rows) t → IsOfTable rows t ⊎ After (word ++ 32 ∷ []) (λ rest. test (words_of rest) ≡ true) t
      by t (inl alone) h = alone_by (of_row t t [] alone h)
        where
          alone_by : IsOfTable rows t ⊎ ((t ≡ word) × (is_some (form []) ≡ true)) → IsOfTable rows t ⊎ After (word ++ 32 ∷ []) (λ rest. test (words_of rest) ≡ true) t
          alone_by (inl found) = inl found
          alone_by (inr found) = absurd (no_texts (test []) more (sym (same []) ∙ found.1))
      by t (inr parts) h = then_by (of_row t parts.first (words_of parts.rest) parts.words h)
        where
          then_by : IsOfTable rows t ⊎ ((parts.first ≡ word) × (is_some (form (words_of parts.rest)) ≡ true)) → IsOfTable rows t ⊎ After (word ++ 32 ∷ []) (λ rest. test (words_of rest) ≡ true) t
          then_by (inl found) = inl found
          then_by (inr found) = inr (parts.rest, parts.whole ∙ ap (λ w. w ++ 32 ∷ parts.rest) found.0 ∙ sym (append_assoc word (32 ∷ []) parts.rest), sym (same (words_of parts.rest)) ∙ found.1)

      to : (t : List ℕ) → IsOfTable ((word, form) ∷ rows) t → IsOfTable rows t ⊎ After (word ++ 32 ∷ []) (λ rest. test (words_of rest) ≡ true) t
      to t h = by t (parted t) h

  -- a row of numbers
  pub numbers_row : (scan : Scan) → ((ws : List Word) → end_numbers (Some scan) ws ≡ is_some (form ws)) → (text : List ℕ) (a b k : ℕ) → k ≡ max a b → IsTableFault X rows text a → IsFirstFault (After (word ++ 32 ∷ []) (EndsNumbers scan)) text b → IsTableFault X ((word, form) ∷ rows) text k
  numbers_row scan same text a b k e first second = phrase_row (λ ws. end_numbers (Some scan) ws) (λ ws. sym (same ws)) refl text a b k e first second

-- a row of one word
module _ {X : Type 0} (word : Word) (x : X) (rows : List (Word × Form X)) (one : is_one_word word ≡ true) (fresh : (ws : List Word) → by_word rows (word ∷ ws) ≡ None) where
  pub bare_row : (text : List ℕ) (a b k : ℕ) → k ≡ max a b → IsTableFault X rows text a → IsFirstFault (After word IsEmpty) text b → IsTableFault X ((word, bare x) ∷ rows) text k
  bare_row text a b k e first second = record { fault = subst (IsFirstFault (IsOfTable ((word, bare x) ∷ rows)) text) (sym e) (by_other_words text (max a b) from to (of_both text a b first.fault second)) }
    where
      from : (t : List ℕ) → IsOfTable rows t ⊎ After word IsEmpty t → IsOfTable ((word, bare x) ∷ rows) t
      from t (inl h) = from_rest word (bare x) rows one fresh t h
      from t (inr h) = to_table word (bare x) rows one fresh t [] (ap words_of (h.1 ∙ ap (λ r. word ++ r) h.2 ∙ append-nil word) ∙ word_alone word one) refl

      by : (t : List ℕ) → (words_of t ≡ t ∷ []) ⊎ Parted t → IsOfTable ((word, bare x) ∷ rows) t → IsOfTable rows t ⊎ After word IsEmpty t
      by t (inl alone) h = alone_by (of_row word (bare x) rows one fresh t t [] alone h)
        where
          alone_by : IsOfTable rows t ⊎ ((t ≡ word) × (is_some (bare x []) ≡ true)) → IsOfTable rows t ⊎ After word IsEmpty t
          alone_by (inl found) = inl found
          alone_by (inr found) = inr ([], found.0 ∙ sym (append-nil word), refl)
      by t (inr parts) h = then_by (of_row word (bare x) rows one fresh t parts.first (words_of parts.rest) parts.words h)
        where
          none_then : is_some (bare x (words_of parts.rest)) ≡ true → ⊥
          none_then h = let some = words_some parts.rest in no_texts (is_some (bare x (words_of parts.rest))) (ap (λ ws. is_some (bare x ws)) some.2) h

          then_by : IsOfTable rows t ⊎ ((parts.first ≡ word) × (is_some (bare x (words_of parts.rest)) ≡ true)) → IsOfTable rows t ⊎ After word IsEmpty t
          then_by (inl found) = inl found
          then_by (inr found) = absurd (none_then found.1)

      to : (t : List ℕ) → IsOfTable ((word, bare x) ∷ rows) t → IsOfTable rows t ⊎ After word IsEmpty t
      to t h = by t (parted t) h

-- no rows
pub no_rows : (X : Type 0) (text : List ℕ) → IsTableFault X [] text 0
no_rows X text = record { fault = of_none text (λ t h. cc) }

pub none_before : (k : ℕ) → k ≡ max 0 k
none_before k = omega arith
