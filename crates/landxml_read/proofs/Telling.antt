-- What a byte of a reading shows: faults shown by that very byte, in the order of their causes.
use Rattle.std.proofs.Common.{◌≡◌, ℕ, ◌+◌, ◌≤◌, Bool, true, false, ◌==◌, ◌&&◌, not, cond, List, [], ◌∷◌, ◌++◌, length, bytes_eq, flat_map, Option, None, Some, refl, sym, ◌∙◌, ap, subst, arith}
use Rattle.landxml_read.specs.Markup.{is_white}
use Rattle.landxml_read.specs.declared.scan.Scan.{Scan}
use Rattle.landxml_read.specs.declared.kind.Kind.{Kind}
use Rattle.landxml_read.specs.declared.tokens.Tokens.{Tokens}
use Rattle.landxml_read.specs.declared.act.Act.{Act}
use Rattle.landxml_read.specs.declared.act.Act.TheVariants.{Pass, Letter, Less, BeginName, Name, BeginAttribute, Attribute, BeginValue, Value, EndValue, Opens, Passes, Closes, Quotes}
use Rattle.landxml_read.specs.declared.fault.DocCause.{DocCause}
use Rattle.landxml_read.specs.declared.fault.DocCause.TheVariants as cause
use Rattle.landxml_read.specs.Words.{Word}
use Rattle.std.proofs.lemmas.List.{append-nil}
use Rattle.landxml_read.specs.Faults.{Fault, fault, when, has_text, is_miscounted}
use Rattle.landxml_read.specs.Answer.{rank}
use Rattle.landxml_read.specs.Events.{Event, Opened, Read, Ampersand, Quoted, Closed, Opening, Closing, causes, opening_rows, closing_rows, word_rows, event_faults, finished, ended_by, ampersands, quotes, read}
use Rattle.landxml_read.specs.Scan.{next}
use Rattle.landxml_read.specs.Tokens.{Reading, act, shown, kind_in, name_in, words_in, kind_of, word_of, opening_at, on, led, reads, pushed}
use Rattle.landxml_read.proofs.Bytes.{white_cases}
use Rattle.landxml_read.proofs.Running.{reads_more}
use Rattle.landxml_read.proofs.Totals.{total, totals, total_more, totals_more}
use Rattle.landxml_read.proofs.FaultTests.{IsRanked, ranked_more, ranked_when}

-- the order of causes

-- the causes of some rows stand in the table from a place to another, in its order
abbrev AreRanked : ℕ → ℕ → List (Bool × DocCause) → Type 0
AreRanked low high [] = low ≤ high
AreRanked low high (row ∷ rows) = (low ≤ rank row.1) × AreRanked (rank row.1) high rows

ranked_high : (low high : ℕ) (rows : List (Bool × DocCause)) → AreRanked low high rows → low ≤ high
ranked_high low high [] r = r
ranked_high low high (row ∷ rows) r = let s = ranked_high (rank row.1) high rows r.1 in omega (arith, r.0, s)

ranked_causes : (low high shown at : ℕ) (rows : List (Bool × DocCause)) → AreRanked low high rows → IsRanked low high (causes shown at rows)
ranked_causes low high shown at [] r = tt
ranked_causes low high shown at (row ∷ rows) r =
    ranked_more low (rank row.1) high (when row.0 (fault shown row.1 at)) (causes shown at rows) r.0 (ranked_high (rank row.1) high rows r.1)
    (ranked_when low (rank row.1) row.0 (fault shown row.1 at) r.0 (omega arith)) (ranked_causes (rank row.1) high shown at rows r.1)

opening_ranked : (o : Opening) → IsRanked 4 13 (event_faults (Opened o))
opening_ranked o =
    ranked_causes 4 13 o.shown o.at (opening_rows o)
    (omega arith, (omega arith, (omega arith, (omega arith, (omega arith, (omega arith, (omega arith, (omega arith, (omega arith, omega arith)))))))))

word_ranked : (kind : Kind) (w : Word) (n : ℕ) → IsRanked 4 16 (event_faults (Read kind w n))
word_ranked kind w n = ranked_causes 4 16 n w.at (word_rows kind w) (omega arith, (omega arith, (omega arith, omega arith)))

one_ranked : (low high : ℕ) (e : Event) → low ≤ high → IsRanked low high (event_faults e) → IsRanked low high (flat_map event_faults (e ∷ []))
one_ranked low high e le r = ranked_more low high high (event_faults e) [] le (omega arith) r tt

finished_ranked : (kind : Kind) (n : ℕ) (w : Word) → IsRanked 4 16 (flat_map event_faults (read kind n (finished w)))
finished_ranked kind n w = by w.at w.text
  where
    by : (at : ℕ) (text : List ℕ) → IsRanked 4 16 (flat_map event_faults (read kind n (finished (record { at = at; text = text }))))
    by at [] = tt
    by at (b ∷ bs) = one_ranked 4 16 (Read kind (record { at = at; text = b ∷ bs }) n) (omega arith) (word_ranked kind (record { at = at; text = b ∷ bs }) n)

entity_ranked : (at n : ℕ) → IsRanked 4 16 (causes n at ((true, cause.Entity) ∷ []))
entity_ranked at n = ranked_causes 4 16 n at ((true, cause.Entity) ∷ []) (omega arith, omega arith)

letter_ranked : (kind : Kind) (n b : ℕ) (w : Word) (has : Bool) → IsRanked 4 16 (flat_map event_faults (read kind n (ended_by has b w) ++ ampersands has n b))
letter_ranked kind n b w false = tt
letter_ranked kind n b w true = by (is_white b) (b == 38) (λ white. white_cases (λ x. x == 38) false b white refl refl refl refl)
  where
    by : (x y : Bool) → (x ≡ true → y ≡ false) → IsRanked 4 16 (flat_map event_faults (read kind n (cond (true && x) (finished w) []) ++ cond (true && y) (Ampersand n ∷ []) []))
    by true true h = let e = h refl in cc
    by true false h = let P : List Event → Type 0 = λ es. IsRanked 4 16 (flat_map event_faults es) in subst P (sym (append-nil (read kind n (finished w)))) (finished_ranked kind n w)
    by false true h = one_ranked 4 16 (Ampersand n) (omega arith) (entity_ranked n n)
    by false false h = tt

quotes_ranked : (has : Bool) (at n : ℕ) → IsRanked 4 16 (flat_map event_faults (quotes has at n))
quotes_ranked false at n = tt
quotes_ranked true at n = one_ranked 4 16 (Quoted at n) (omega arith) (entity_ranked at n)

-- what a byte shows stands in the order of the table
pub shown_ranked : (a : Act) (n b : ℕ) (t : Tokens) → IsRanked 4 16 (flat_map event_faults (shown a n b t))
shown_ranked Pass n b t = tt
shown_ranked Letter n b t = letter_ranked (kind_in t.stack) n b (word_of t) (has_text (kind_in t.stack))
shown_ranked Less n b t = finished_ranked (kind_in t.stack) n (word_of t)
shown_ranked BeginName n b t = tt
shown_ranked Name n b t = tt
shown_ranked BeginAttribute n b t = tt
shown_ranked Attribute n b t = tt
shown_ranked BeginValue n b t = tt
shown_ranked Value n b t = tt
shown_ranked EndValue n b t = tt
shown_ranked Opens n b t = let o = opening_at n t in ranked_more 4 13 16 (event_faults (Opened o)) [] (omega arith) (omega arith) (opening_ranked o) tt
shown_ranked Passes n b t =
    let o = opening_at n t in
    let c : Closing = record { kind = kind_of t; words = 0; is_misnamed = false; at = t.at; shown = n } in
    ranked_more 4 13 16 (event_faults (Opened o)) (event_faults (Closed c) ++ []) (omega arith) (omega arith) (opening_ranked o)
    (one_ranked 13 16 (Closed c) (omega arith) (ranked_causes 13 16 n t.at ((is_miscounted (kind_of t) 0, cause.Count) ∷ []) (omega arith, omega arith)))
shown_ranked Closes n b t =
    let c : Closing = record { kind = kind_in t.stack; words = words_in t.stack; is_misnamed = not (bytes_eq t.name (name_in t.stack)); at = t.at; shown = n } in
    one_ranked 4 16 (Closed c) (omega arith) (ranked_causes 4 16 n t.at (closing_rows c) (omega arith, (omega arith, omega arith)))
shown_ranked Quotes n b t = quotes_ranked (has_text (kind_in t.stack)) t.at n

-- a test that no fault passes which the byte at an offset shows

abbrev pub NoneAt : (Fault → Bool) → ℕ → Type 0
NoneAt p n = (c : DocCause) (at : ℕ) → p (fault n c at) ≡ false

when_none : (p : Fault → Bool) (t : Bool) (f : Fault) → p f ≡ false → total p (when t f) ≡ 0
when_none p true f e = let none : ◌≡◌ {A = ℕ} (cond (p f) 1 0) 0 = ap (λ b. cond b 1 0) e in omega (arith, none)
when_none p false f e = refl

causes_none : (p : Fault → Bool) (n at : ℕ) (rows : List (Bool × DocCause)) → NoneAt p n → total p (causes n at rows) ≡ 0
causes_none p n at [] h = refl
causes_none p n at (row ∷ rows) h =
    let a = total_more p (when row.0 (fault n row.1 at)) (causes n at rows) in
    let b = when_none p row.0 (fault n row.1 at) (h row.1 at) in
    let c = causes_none p n at rows h in
    omega (arith, a, b, c)

read_none : (p : Fault → Bool) (kind : Kind) (n : ℕ) (ws : List Word) → NoneAt p n → totals p event_faults (read kind n ws) ≡ 0
read_none p kind n [] h = refl
read_none p kind n (w ∷ ws) h = let a = causes_none p n w.at (word_rows kind w) h in let b = read_none p kind n ws h in omega (arith, a, b)

letter_none : (p : Fault → Bool) (kind : Kind) (n b : ℕ) (w : Word) (has : Bool) → NoneAt p n → totals p event_faults (read kind n (ended_by has b w) ++ ampersands has n b) ≡ 0
letter_none p kind n b w has h =
    let a = totals_more p event_faults (read kind n (ended_by has b w)) (ampersands has n b) in
    let c = read_none p kind n (ended_by has b w) h in
    let d = amp (has && b == 38) in
    omega (arith, a, c, d)
  where
    amp : (t : Bool) → totals p event_faults (cond t (Ampersand n ∷ []) []) ≡ 0
    amp false = refl
    amp true = let e = causes_none p n n ((true, cause.Entity) ∷ []) h in omega (arith, e)

quotes_none : (p : Fault → Bool) (has : Bool) (at n : ℕ) → NoneAt p n → totals p event_faults (quotes has at n) ≡ 0
quotes_none p false at n h = refl
quotes_none p true at n h = let e = causes_none p n at ((true, cause.Entity) ∷ []) h in omega (arith, e)

pub shown_none : (p : Fault → Bool) (a : Act) (n b : ℕ) (t : Tokens) → NoneAt p n → totals p event_faults (shown a n b t) ≡ 0
shown_none p Pass n b t h = refl
shown_none p Letter n b t h = letter_none p (kind_in t.stack) n b (word_of t) (has_text (kind_in t.stack)) h
shown_none p Less n b t h = read_none p (kind_in t.stack) n (finished (word_of t)) h
shown_none p BeginName n b t h = refl
shown_none p Name n b t h = refl
shown_none p BeginAttribute n b t h = refl
shown_none p Attribute n b t h = refl
shown_none p BeginValue n b t h = refl
shown_none p Value n b t h = refl
shown_none p EndValue n b t h = refl
shown_none p Opens n b t h = let e = causes_none p n t.at (opening_rows (opening_at n t)) h in omega (arith, e)
shown_none p Passes n b t h =
    let e = causes_none p n t.at (opening_rows (opening_at n t)) h in
    let f = causes_none p n t.at ((false, cause.Tag) ∷ (is_miscounted (kind_of t) 0, cause.Count) ∷ []) h in
    omega (arith, e, f)
shown_none p Closes n b t h =
    let e = causes_none p n t.at ((not (bytes_eq t.name (name_in t.stack)), cause.Tag) ∷ (is_miscounted (kind_in t.stack) (words_in t.stack), cause.Count) ∷ []) h in
    omega (arith, e)
shown_none p Quotes n b t h = quotes_none p (has_text (kind_in t.stack)) t.at n h

-- what was told

pub pushed_totals : (p : Fault → Bool) (es told : List Event) → totals p event_faults (pushed es told) ≡ totals p event_faults es + totals p event_faults told
pushed_totals p [] told = omega arith
pushed_totals p (e ∷ es) told = let a = pushed_totals p es (e ∷ told) in omega (arith, a)

-- how many of the faults that were told pass a test
abbrev pub told_total : (Fault → Bool) → Reading → ℕ
told_total p r = totals p event_faults r.told

none_left : (bs : List ℕ) (u : Reading) → reads None bs ≡ Some u → ⊥
none_left [] u e = cc
none_left (b ∷ bs) u e = cc

-- none that passes is told from an offset on
pub told_later : (p : Fault → Bool) (ys : List ℕ) (q u : Reading) → ((n : ℕ) → q.offset ≤ n → NoneAt p n) → reads (Some q) ys ≡ Some u → told_total p u ≡ told_total p q
told_later p [] q u h e = let same : u ≡ q = cc in ap (told_total p) same
told_later p (b ∷ ys) q u h e = go (next q.scan b) (λ s k. told_later p ys (on q b s) u k) e
  where
    go : (o : Option Scan) → ((s : Scan) → ((n : ℕ) → q.offset + 1 ≤ n → NoneAt p n) → reads (Some (on q b s)) ys ≡ Some u → told_total p u ≡ told_total p (on q b s)) → reads (led q b o) ys ≡ Some u → told_total p u ≡ told_total p q
    go None again f = absurd (none_left ys u f)
    go (Some s) again f =
        let a = again s (λ n le. h n (omega (arith, le))) f in
        let c = pushed_totals p (shown (act q.scan.part s.part) q.offset b q.tokens) q.told in
        let d = shown_none p (act q.scan.part s.part) q.offset b q.tokens (h q.offset (omega arith)) in
        omega (arith, a, c, d)

-- what was told stays told
pub told_stays : (p : Fault → Bool) (ys : List ℕ) (q u : Reading) → reads (Some q) ys ≡ Some u → told_total p q ≤ told_total p u
told_stays p [] q u e = let same : u ≡ q = cc in let g = ap (told_total p) same in omega (arith, g)
told_stays p (b ∷ ys) q u e = go (next q.scan b) (λ s. told_stays p ys (on q b s) u) e
  where
    go : (o : Option Scan) → ((s : Scan) → reads (Some (on q b s)) ys ≡ Some u → told_total p (on q b s) ≤ told_total p u) → reads (led q b o) ys ≡ Some u → told_total p q ≤ told_total p u
    go None again f = absurd (none_left ys u f)
    go (Some s) again f =
        let a = again s f in
        let c = pushed_totals p (shown (act q.scan.part s.part) q.offset b q.tokens) q.told in
        omega (arith, a, c)

-- the offset is that of the bytes
pub offset_after : (ys : List ℕ) (q u : Reading) → reads (Some q) ys ≡ Some u → u.offset ≡ q.offset + length ys
offset_after [] q u e = let same : u ≡ q = cc in let g = ap (λ x. x.offset) same in omega (arith, g)
offset_after (b ∷ ys) q u e = go (next q.scan b) (λ s. offset_after ys (on q b s) u) e
  where
    go : (o : Option Scan) → ((s : Scan) → reads (Some (on q b s)) ys ≡ Some u → u.offset ≡ q.offset + 1 + length ys) → reads (led q b o) ys ≡ Some u → u.offset ≡ q.offset + length (b ∷ ys)
    go None again f = absurd (none_left ys u f)
    go (Some s) again f = let a = again s f in omega (arith, a)

-- what a reading comes from
pub from_front : (xs ys : List ℕ) (r u : Reading) → reads (Some r) (xs ++ ys) ≡ Some u → (q : Reading) × (reads (Some r) xs ≡ Some q) × (reads (Some q) ys ≡ Some u)
from_front xs ys r u e = go (reads (Some r) xs) refl (sym (reads_more (Some r) xs ys) ∙ e)
  where
    go : (o : Option Reading) → reads (Some r) xs ≡ o → reads o ys ≡ Some u → (q : Reading) × (reads (Some r) xs ≡ Some q) × (reads (Some q) ys ≡ Some u)
    go None f g = absurd (none_left ys u g)
    go (Some q) f g = (q, f, g)
