-- The first words of requests, none of which goes on to another.
use Rattle.std.proofs.Common.{◌≡◌, ℕ, Bool, true, false, cond, List, [], ◌∷◌, ◌++◌, take, refl, sym, ◌∙◌, ap, inl, inr, ◌⊎◌, Option, ◌<◌, arith}
use Rattle.std.specs.Prelude.{◌==◌, ◌&&◌, ◌||◌, not, is_some, codes, bytes_eq, if◌then◌else◌}
use Rattle.std.specs.List.{list_all, list_any, onto_first}
use Rattle.std.proofs.lemmas.Slice.Eq.{bytes_eq-Decides}
use Rattle.std.proofs.lemmas.List.{append-nil}
use Rattle.std.proofs.lemmas.List.Elements.{All-from_recursion}
use Rattle.std.proofs.lemmas.Bool.{eq-eqb}
use Rattle.ground_num.specs.FirstFault.{IsFirstFault}
use Rattle.line_protocol.specs.Grammar.{Word, is_space, words_of, request, request_rows, edit, edit_rows, spoken}
use Rattle.line_protocol.specs.Fault.{IsRequest}
use Rattle.line_protocol.specs.Laws.{ReadsEachRow}
use Rattle.line_protocol.proofs.Splitting.{words_some}

-- ---- one fault offset
not_below : {A : List ℕ → Type 0} (text : List ℕ) (j k : ℕ) → IsFirstFault A text j → IsFirstFault A text k → j < k → ⊥
not_below text j k first second below = first.not_allowed (omega (arith, second.within)) (second.allowed j below)

pub one_offset : {A : List ℕ → Type 0} (text : List ℕ) (j k : ℕ) → IsFirstFault A text j → IsFirstFault A text k → j ≡ k
one_offset text j k first second = by (order j k)
  where
    order : (m n : ℕ) → (m < n) ⊎ ((n < m) ⊎ (m ≡ n))
    order m n = grind arith

    by : (j < k) ⊎ ((k < j) ⊎ (j ≡ k)) → j ≡ k
    by (inl h) = absurd (not_below text j k first second h)
    by (inr (inl h)) = absurd (not_below text k j second first h)
    by (inr (inr h)) = h

-- ---- rows
-- each row of the table of requests reads what stands after its word
pub each_request : ReadsEachRow request request_rows
unfolding request
each_request = All-from_recursion (λ row. (ws : List Word) → request (row.0 ∷ ws) ≡ row.1 ws) request_rows ((λ ws. refl), ((λ ws. refl), ((λ ws. refl), ((λ ws. refl), ((λ ws. refl), ((λ ws. refl), ((λ ws. refl), ((λ ws. refl), ((λ ws. refl), ((λ ws. refl), tt))))))))))

-- and each row of the table of edits
pub each_edit : ReadsEachRow edit edit_rows
unfolding edit
each_edit = All-from_recursion (λ row. (ws : List Word) → edit (row.0 ∷ ws) ≡ row.1 ws) edit_rows ((λ ws. refl), ((λ ws. refl), ((λ ws. refl), ((λ ws. refl), ((λ ws. refl), tt)))))

-- ---- first words
keywords : List Word
keywords = codes "sync" ∷ codes "plan" ∷ codes "commit" ∷ codes "do" ∷ codes "level" ∷ codes "contour" ∷ codes "volume" ∷ codes "stat" ∷ codes "export" ∷ codes "quit" ∷ []

is_among : Word → List Word → Bool
is_among w ks = list_any (bytes_eq w) ks

one_row : {X : Type 0} (test : Bool) (row rest : Option X) (others : Bool) → (is_some rest ≡ true → others ≡ true) → is_some (if test then row else rest) ≡ true → (test || others) ≡ true
one_row true row rest others more h = refl
one_row false row rest others more h = more h

is_keyword : (w : Word) (ws : List Word) → is_some (request (w ∷ ws)) ≡ true → is_among w keywords ≡ true
unfolding request is_among keywords
is_keyword w ws h = one_row (bytes_eq w (codes "sync")) _ _ _ (one_row (bytes_eq w (codes "plan")) _ _ _ (one_row (bytes_eq w (codes "commit")) _ _ _ (one_row (bytes_eq w (codes "do")) _ _ _ (one_row (bytes_eq w (codes "level")) _ _ _ (one_row (bytes_eq w (codes "contour")) _ _ _ (one_row (bytes_eq w (codes "volume")) _ _ _ (one_row (bytes_eq w (codes "stat")) _ _ _ (one_row (bytes_eq w (codes "export")) _ _ _ (one_row (bytes_eq w (codes "quit")) _ _ _ (λ none. none)))))))))) h

-- whether the second goes on after the first
goes_on : Word → Word → Bool
goes_on [] [] = false
goes_on [] (y ∷ ys) = true
goes_on (x ∷ xs) [] = false
goes_on (x ∷ xs) (y ∷ ys) = x == y && goes_on xs ys

goes_on_more : (w : Word) (b : ℕ) (u : Word) → goes_on w (w ++ b ∷ u) ≡ true
unfolding goes_on
goes_on_more [] b u = refl
goes_on_more (x ∷ w) b u = ap (λ t. t && goes_on w (w ++ b ∷ u)) (eq-eqb x x refl) ∙ goes_on_more w b u

all_apart : list_all (λ v. list_all (λ w. not (goes_on v w)) keywords) keywords ≡ true
unfolding goes_on keywords
all_apart = refl

both_true : (a b : Bool) → (a && b) ≡ true → (a ≡ true) × (b ≡ true)
both_true true b h = (refl, h)
both_true false b h = cc

-- what holds of all words holds of each
of_each : (test : Word → Bool) (w : Word) (ks : List Word) → is_among w ks ≡ true → list_all test ks ≡ true → test w ≡ true
unfolding is_among
of_each test w [] h all = cc
of_each test w (k ∷ ks) h all = by (bytes_eq w k) refl h (both_true (test k) (list_all test ks) all) (of_each test w ks)
  where
    by : (same : Bool) → bytes_eq w k ≡ same → (same || list_any (bytes_eq w) ks) ≡ true → (test k ≡ true) × (list_all test ks ≡ true) → (list_any (bytes_eq w) ks ≡ true → list_all test ks ≡ true → test w ≡ true) → test w ≡ true
    by true e found parts again = ap test ((bytes_eq-Decides w k).0 e) ∙ parts.0
    by false e found parts again = again found parts.1

no_longer : (w u : Word) → is_among w keywords ≡ true → is_among (w ++ u) keywords ≡ true → w ++ u ≡ w
no_longer w [] first second = append-nil w
no_longer w (b ∷ u) first second =
    let apart = of_each (λ v. not (goes_on w v)) (w ++ b ∷ u) keywords second (of_each (λ v. list_all (λ k. not (goes_on v k)) keywords) w keywords first all_apart) in
    absurd (not_both (goes_on w (w ++ b ∷ u)) (goes_on_more w b u) apart)
  where
    not_both : (t : Bool) → t ≡ true → not t ≡ true → ⊥
    not_both true e h = cc
    not_both false e h = cc

-- the first word of a text, and of one that goes on after it
record FirstWords (text more : List ℕ) : Type 0 where
  first : Word
  others : List Word
  longer : Word
  later : List Word
  words : words_of text ≡ first ∷ others
  words_more : words_of (text ++ more) ≡ (first ++ longer) ∷ later

first_words : (text more : List ℕ) → FirstWords text more
first_words [] more =
    let some = words_some more in
    record { first = []; others = []; longer = some.0; later = some.1; words = refl; words_more = some.2 }
first_words (b ∷ text) more = by (is_space b) refl (first_words text more)
  where
    at_space : is_space b ≡ true → FirstWords (b ∷ text) more
    at_space space = record {
      first = [];
      others = words_of text;
      longer = [];
      later = words_of (text ++ more);
      words = ap (λ t. cond t ([] ∷ words_of text) (onto_first b (words_of text))) space;
      words_more = ap (λ t. cond t ([] ∷ words_of (text ++ more)) (onto_first b (words_of (text ++ more)))) space;
    }

    by : (space : Bool) → is_space b ≡ space → FirstWords text more → FirstWords (b ∷ text) more
    by true e rest = at_space e
    by false e rest = record {
      first = b ∷ rest.first;
      others = rest.others;
      longer = rest.longer;
      later = rest.later;
      words = ap (λ t. cond t ([] ∷ words_of text) (onto_first b (words_of text))) e ∙ ap (onto_first b) rest.words;
      words_more = ap (λ t. cond t ([] ∷ words_of (text ++ more)) (onto_first b (words_of (text ++ more)))) e ∙ ap (onto_first b) rest.words_more;
    }

pub keeps_first_word : (line more : List ℕ) → IsRequest line → IsRequest (line ++ more) → take 1 (words_of (line ++ more)) ≡ take 1 (words_of line)
unfolding spoken
keeps_first_word line more first second =
    let h = first_words line more in
    let one = is_keyword h.first h.others (ap (λ ws. is_some (request ws)) (sym h.words) ∙ first) in
    let two = is_keyword (h.first ++ h.longer) h.later (ap (λ ws. is_some (request ws)) (sym h.words_more) ∙ second) in
    ap (take 1) h.words_more ∙ ap (λ w. w ∷ []) (no_longer h.first h.longer one two) ∙ sym (ap (take 1) h.words)
