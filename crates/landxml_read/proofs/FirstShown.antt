-- What a byte shows first, and how many words are complete.
use Rattle.std.proofs.Common.{◌≡◌, ℕ, suc, ◌+◌, ◌≤◌, Bool, true, false, ◌==◌, ◌&&◌, cond, List, [], ◌∷◌, ◌++◌, length, flat_map, Option, None, Some, refl, sym, ◌∙◌, ap, subst, arith}
use Rattle.std.proofs.lemmas.List.{append-nil}
use Rattle.landxml_read.specs.Markup.{is_white}
use Rattle.landxml_read.specs.declared.scan.Scan.{Scan}
use Rattle.landxml_read.specs.declared.element.Element.{Element}
use Rattle.landxml_read.specs.declared.tokens.Tokens.{Tokens}
use Rattle.landxml_read.specs.declared.act.Act.{Act}
use Rattle.landxml_read.specs.declared.act.Act.TheVariants.{Pass, Letter, Less, BeginName, Name, BeginAttribute, Attribute, BeginValue, Value, EndValue, Opens, Passes, Closes, Quotes}
use Rattle.landxml_read.specs.declared.fault.DocCause.{DocCause}
use Rattle.landxml_read.specs.declared.fault.DocCause.TheVariants as cause
use Rattle.landxml_read.specs.declared.fault.DocFault.{DocFault}
use Rattle.landxml_read.specs.Words.{Word}
use Rattle.landxml_read.specs.Faults.{Fault, fault, when, has_text, is_miscounted}
use Rattle.landxml_read.specs.Values.{decoded}
use Rattle.landxml_read.specs.Events.{with_value, Ampersand, causes, opening_rows, closing_rows, word_rows, event_faults, finished, ended_by, ampersands, quotes, read}
use Rattle.landxml_read.specs.Scan.{next}
use Rattle.landxml_read.specs.Tokens.{Reading, act, after, shown, kind_in, kind_of, words_in, word_of, opening_at, outer, counted, on, led, reads}
use Rattle.landxml_read.specs.Verdict.{first_cause, first_of, caused, closing_at, word_verdict, empty_cause, verdict_of}
use Rattle.landxml_read.proofs.Bytes.{white_cases}

-- a fault, or else another
abbrev or_else : Option DocFault → Option DocFault → Option DocFault
or_else None o = o
or_else (Some f) o = Some f

or_none : (o : Option DocFault) → or_else o None ≡ o
or_none None = refl
or_none (Some f) = refl

-- the first of some causes and of what comes after them
first_causes : (n at : ℕ) (rows : List (Bool × DocCause)) (rest : List Fault) → first_of (causes n at rows ++ rest) ≡ or_else (caused at (first_cause rows)) (first_of rest)
first_causes n at [] rest = refl
first_causes n at (row ∷ rows) rest = by row.0 (first_causes n at rows rest)
  where
    by : (t : Bool) → first_of (causes n at rows ++ rest) ≡ or_else (caused at (first_cause rows)) (first_of rest)
        → first_of ((when t (fault n row.1 at) ++ causes n at rows) ++ rest) ≡ or_else (caused at (cond t (Some row.1) (first_cause rows))) (first_of rest)
    by true h = refl
    by false h = h

all_causes : (n at : ℕ) (rows : List (Bool × DocCause)) → first_of (causes n at rows ++ []) ≡ caused at (first_cause rows)
all_causes n at rows = first_causes n at rows [] ∙ or_none (caused at (first_cause rows))

word_first : (n : ℕ) (t : Tokens) → first_of (flat_map event_faults (read (kind_in t.stack) n (finished (word_of t)))) ≡ word_verdict t
word_first n t = by t.word
  where
    by : (text : List ℕ) → first_of (flat_map event_faults (read (kind_in t.stack) n (finished (record { at = t.word_at; text = text })))) ≡ cond (length text == 0) None (caused t.word_at (first_cause (word_rows (kind_in t.stack) (record { at = t.word_at; text = text }))))
    by [] = refl
    by (b ∷ bs) = all_causes n t.word_at (word_rows (kind_in t.stack) (record { at = t.word_at; text = b ∷ bs })) ∙ sym (some (length bs))
      where
        some : (k : ℕ) → cond (suc k == 0) None (caused t.word_at (first_cause (word_rows (kind_in t.stack) (record { at = t.word_at; text = b ∷ bs })))) ≡ caused t.word_at (first_cause (word_rows (kind_in t.stack) (record { at = t.word_at; text = b ∷ bs })))
        some k = let never : (suc k == 0) ≡ false = grind arith in ap (λ x. cond x None (caused t.word_at (first_cause (word_rows (kind_in t.stack) (record { at = t.word_at; text = b ∷ bs }))))) never

letter_first : (n b : ℕ) (t : Tokens) (has : Bool) → first_of (flat_map event_faults (read (kind_in t.stack) n (ended_by has b (word_of t)) ++ ampersands has n b))
    ≡ cond has (cond (is_white b) (word_verdict t) (cond (b == 38) (Some (record { at = n; cause = cause.Entity })) None)) None
letter_first n b t false = refl
letter_first n b t true = by (is_white b) (b == 38) (λ white. white_cases (λ x. x == 38) false b white refl refl refl refl)
  where
    by : (x y : Bool) → (x ≡ true → y ≡ false) → first_of (flat_map event_faults (read (kind_in t.stack) n (cond (true && x) (finished (word_of t)) []) ++ cond (true && y) (Ampersand n ∷ []) []))
        ≡ cond x (word_verdict t) (cond y (Some (record { at = n; cause = cause.Entity })) None)
    by true true h = let e = h refl in cc
    by true false h = ap (λ es. first_of (flat_map event_faults es)) (append-nil (read (kind_in t.stack) n (finished (word_of t)))) ∙ word_first n t
    by false true h = refl
    by false false h = refl

quotes_first : (n : ℕ) (t : Tokens) (has : Bool) → first_of (flat_map event_faults (quotes has t.at n)) ≡ cond has (Some (record { at = t.at; cause = cause.Entity })) None
quotes_first n t false = refl
quotes_first n t true = refl

empty_first : (n : ℕ) (t : Tokens) (o : Option DocCause) → or_else (caused t.at o) (first_of ((causes n t.at ((false, cause.Tag) ∷ (is_miscounted (kind_of t) 0, cause.Count) ∷ [])) ++ [])) ≡ caused t.at (empty_cause (kind_of t) o)
empty_first n t (Some c) = refl
empty_first n t None = by (is_miscounted (kind_of t) 0)
  where
    by : (x : Bool) → first_of ((when x (fault n cause.Count t.at) ++ []) ++ []) ≡ caused t.at (cond x (Some cause.Count) None)
    by true = refl
    by false = refl

-- what a byte shows first
pub verdict_is : (a : Act) (n b : ℕ) (t : Tokens) → first_of (flat_map event_faults (shown a n b t)) ≡ verdict_of a n b t
verdict_is Pass n b t = refl
verdict_is Letter n b t = letter_first n b t (has_text (kind_in t.stack))
verdict_is Less n b t = word_first n t
verdict_is BeginName n b t = refl
verdict_is Name n b t = refl
verdict_is BeginAttribute n b t = refl
verdict_is Attribute n b t = refl
verdict_is BeginValue n b t = refl
verdict_is Value n b t = refl
verdict_is EndValue n b t = refl
verdict_is Opens n b t = all_causes n t.at (opening_rows (opening_at n t))
verdict_is Passes n b t =
    first_causes n t.at (opening_rows (opening_at n t)) (causes n t.at ((false, cause.Tag) ∷ (is_miscounted (kind_of t) 0, cause.Count) ∷ []) ++ []) ∙ empty_first n t (first_cause (opening_rows (opening_at n t)))
verdict_is Closes n b t = all_causes n t.at (closing_rows (closing_at n t))
verdict_is Quotes n b t = quotes_first n t (has_text (kind_in t.stack))

-- words are no more than bytes

abbrev pub AllCounted : ℕ → List Element → Type 0
AllCounted n [] = Unit {0}
AllCounted n (e ∷ es) = (e.words ≤ n) × AllCounted n es

later : (n : ℕ) (es : List Element) → AllCounted n es → AllCounted (n + 1) es
later n [] h = tt
later n (e ∷ es) h = (omega (arith, h.0), later n es h.1)

one_more : (n k : ℕ) (es : List Element) → k ≤ 1 → AllCounted n es → AllCounted (n + 1) (counted k es)
one_more n k [] le h = tt
one_more n k (e ∷ es) le h = (omega (arith, h.0, le), later n es h.1)

outer_counted : (n : ℕ) (es : List Element) → AllCounted n es → AllCounted n (outer es)
outer_counted n [] h = tt
outer_counted n (e ∷ es) h = h.1

few_finished : (w : Word) → length (finished w) ≤ 1
few_finished w = by w.text
  where
    by : (text : List ℕ) → length (finished (record { at = w.at; text = text })) ≤ 1
    by [] = omega arith
    by (b ∷ bs) = omega arith

few_ended : (has : Bool) (b : ℕ) (w : Word) → length (ended_by has b w) ≤ 1
few_ended has b w = by (has && is_white b)
  where
    by : (x : Bool) → length (cond x (finished w) []) ≤ 1
    by true = few_finished w
    by false = omega arith

pub after_counted : (a : Act) (n b : ℕ) (t : Tokens) → AllCounted n t.stack → AllCounted (n + 1) (after a n b t).stack
after_counted Pass n b t h = later n t.stack h
after_counted Letter n b t h = one_more n (length (ended_by (has_text (kind_in t.stack)) b (word_of t))) t.stack (few_ended (has_text (kind_in t.stack)) b (word_of t)) h
after_counted Less n b t h = one_more n (length (finished (word_of t))) t.stack (few_finished (word_of t)) h
after_counted BeginName n b t h = later n t.stack h
after_counted Name n b t h = later n t.stack h
after_counted BeginAttribute n b t h = later n t.stack h
after_counted Attribute n b t h = later n t.stack h
after_counted BeginValue n b t h = later n t.stack h
after_counted Value n b t h = by t.is_read
  where
    by : (x : Bool) → AllCounted (n + 1) (cond x (record t { value = t.value ++ b ∷ [] }) t).stack
    by true = later n t.stack h
    by false = later n t.stack h
after_counted EndValue n b t h = by t.is_read
  where
    by : (x : Bool) → AllCounted (n + 1) (cond x (record t { values = with_value t.values (decoded t.value) }) t).stack
    by true = later n t.stack h
    by false = later n t.stack h
after_counted Opens n b t h = (omega arith, later n t.stack h)
after_counted Passes n b t h = later n t.stack h
after_counted Closes n b t h = outer_counted (n + 1) t.stack (later n t.stack h)
after_counted Quotes n b t h = later n t.stack h

none_left : (bs : List ℕ) (u : Reading) → reads None bs ≡ Some u → ⊥
none_left [] u e = cc
none_left (b ∷ bs) u e = cc

pub counted_in : (ys : List ℕ) (q u : Reading) → AllCounted q.offset q.tokens.stack → reads (Some q) ys ≡ Some u → AllCounted u.offset u.tokens.stack
counted_in [] q u h e = let same : u ≡ q = cc in let P : Reading → Type 0 = λ x. AllCounted x.offset x.tokens.stack in subst P (sym same) h
counted_in (b ∷ ys) q u h e = go (next q.scan b) (λ s. counted_in ys (on q b s) u (after_counted (act q.scan.part s.part) q.offset b q.tokens h)) e
  where
    go : (o : Option Scan) → ((s : Scan) → reads (Some (on q b s)) ys ≡ Some u → AllCounted u.offset u.tokens.stack) → reads (led q b o) ys ≡ Some u → AllCounted u.offset u.tokens.stack
    go None again f = absurd (none_left ys u f)
    go (Some s) again f = again s f

pub few_words : (n : ℕ) (es : List Element) → AllCounted n es → words_in es ≤ n
few_words n [] h = omega arith
few_words n (e ∷ es) h = h.0
