-- The words of an element's text, read.
use Rattle.std.proofs.Common.{◌≡◌, ℕ, ◌+◌, Bool, true, false, ◌==◌, ◌&&◌, ◌||◌, not, cond, nat_lt, List, [], ◌∷◌, ◌++◌, length, Some, refl, ◌∙◌, ap, arith, append_assoc}
use Rattle.std.specs.List.{list_all}
use Rattle.landxml_read.specs.Markup.{is_white, is_free}
use Rattle.landxml_read.specs.Faults.{has_text}
use Rattle.landxml_read.specs.Course.{is_plain_byte}
use Rattle.landxml_read.specs.declared.utf8.Utf8.TheVariants.{Ready}
use Rattle.landxml_read.specs.declared.element.Element.{Element}
use Rattle.landxml_read.specs.declared.tokens.Tokens.{Tokens}
use Rattle.landxml_read.specs.declared.level.Level.TheVariants.{Inside}
use Rattle.landxml_read.specs.declared.scan.Part.TheVariants.{Text}
use Rattle.landxml_read.specs.Events.{Event, Read, Ampersand, word_after, ended_by, ampersands, read, longer, no_word, finished}
use Rattle.landxml_read.specs.Words.{Word}
use Rattle.landxml_read.specs.Scan.{next}
use Rattle.landxml_read.specs.Utf8.{utf8_run, utf8_next}
use Rattle.landxml_read.specs.Tokens.{reads, step, on, led, kind_in, counted, with_word, pushed}
use Rattle.landxml_read.proofs.Bytes.{both}
use Rattle.landxml_read.proofs.Running.{scan, if_true, if_false}
use Rattle.document_law.proofs.Runs.{Run, stand, opens, worded}

-- what a byte of a word isn't
record IsPlain (b : ℕ) : Type 0 where
  low : nat_lt b 128 ≡ true
  free : is_free b ≡ true
  white : is_white b ≡ false
  less : (b == 60) ≡ false
  ampersand : (b == 38) ≡ false

plain : (b : ℕ) → is_plain_byte b ≡ true → IsPlain b
plain b e =
    let p = both (nat_lt b 128 && is_free b && not (is_white b) && not (b == 60)) (not (b == 38)) e in
    let q = both (nat_lt b 128 && is_free b && not (is_white b)) (not (b == 60)) p.0 in
    let r = both (nat_lt b 128 && is_free b) (not (is_white b)) q.0 in
    let s = both (nat_lt b 128) (is_free b) r.0 in
    record { low = s.0; free = s.1; white = flip (is_white b) r.1; less = flip (b == 60) q.1; ampersand = flip (b == 38) p.1 }
  where
    flip : (t : Bool) → not t ≡ true → t ≡ false
    flip true e = cc
    flip false e = refl

pub none_counted : (es : List Element) → counted 0 es ≡ es
none_counted [] = refl
none_counted (e ∷ es) = let a : e.words + 0 ≡ e.words = omega arith in λ i. record e { words = a i } ∷ es

plain_next : (k b : ℕ) → IsPlain b → next (scan Text (Inside k)) b ≡ Some (scan Text (Inside k))
plain_next k b p = if_false (b == 60) _ _ p.less ∙ if_true (is_white b || (true && is_free b)) _ _ (free (is_white b) (is_free b) p.free)
  where
    free : (w f : Bool) → f ≡ true → (w || (true && f)) ≡ true
    free true f e = refl
    free false f e = e

-- a byte of text, whatever it does to the word
letter_step : (k n b : ℕ) (es : List Element) (t : Tokens) (told : List Event) (w v : Word) (done : List Word) → has_text (kind_in es) ≡ true → next (scan Text (Inside k)) b ≡ Some (scan Text (Inside k)) → (b == 38) ≡ false
    → cond (is_white b) no_word (longer n b w) ≡ v → cond (is_white b) (finished w) [] ≡ done
    → step (worded k es w.at t told w.text n) b ≡ Some (worded k (counted (length done) es) v.at t (pushed (read (kind_in es) n done) told) v.text (n + 1))
letter_step k n b es t told w v done has goes amp e f =
    let r = worded k es w.at t told w.text n in
    let a : word_after (has_text (kind_in es)) n b w ≡ v = if_true (has_text (kind_in es)) (cond (is_white b) no_word (longer n b w)) no_word has ∙ e in
    let c : ended_by (has_text (kind_in es)) b w ≡ done = ap (λ h. cond (h && is_white b) (finished w) []) has ∙ f in
    let g : ampersands (has_text (kind_in es)) n b ≡ [] = ap (λ h. ampersands h n b) has ∙ ap (λ h. cond h (Ampersand n ∷ []) []) amp in
    ap (led r b) goes
    ∙ (λ i. Some (record {
      scan = scan Text (Inside k);
      offset = n + 1;
      tokens = with_word r.tokens (a i) (c i);
      told = pushed (read (kind_in es) n (c i) ++ g i) told;
    }))
    ∙ ap (λ events. Some (worded k (counted (length done) es) v.at t (pushed events told) v.text (n + 1))) (nothing_more (read (kind_in es) n done))
  where
    nothing_more : (xs : List Event) → xs ++ [] ≡ xs
    nothing_more [] = refl
    nothing_more (x ∷ xs) = ap (λ w. x ∷ w) (nothing_more xs)

-- a byte of a word
plain_step : (k n b : ℕ) (es : List Element) (t : Tokens) (told : List Event) (w : Word) → has_text (kind_in es) ≡ true → is_plain_byte b ≡ true
    → step (worded k es w.at t told w.text n) b ≡ Some (worded k es (longer n b w).at t told (longer n b w).text (n + 1))
plain_step k n b es t told w has is =
    let p = plain b is in
    letter_step k n b es t told w (longer n b w) [] has (plain_next k b p) p.ampersand (if_false (is_white b) _ _ p.white) (if_false (is_white b) _ _ p.white)
    ∙ ap (λ s. Some (worded k s (longer n b w).at t told (longer n b w).text (n + 1))) (none_counted es)

-- a byte of a word is UTF-8 by itself
plain_utf8 : (b : ℕ) → is_plain_byte b ≡ true → utf8_next Ready b ≡ Some Ready
plain_utf8 b is = if_true (nat_lt b 128) _ _ (plain b is).low

pub plain_text : (bs : List ℕ) → list_all is_plain_byte bs ≡ true → utf8_run (Some Ready) bs ≡ Some Ready
plain_text [] is = refl
plain_text (b ∷ bs) is =
    let h = both (is_plain_byte b) (list_all is_plain_byte bs) is in ap (λ o. utf8_run o bs) (plain_utf8 b h.0) ∙ plain_text bs h.1

-- a word, which the byte after it ends
pub word_read : (k n : ℕ) (es : List Element) (t : Tokens) (told : List Event) (b : ℕ) (bs : List ℕ) → has_text (kind_in es) ≡ true → list_all is_plain_byte (b ∷ bs) ≡ true
    → Run (stand k es n t told) (b ∷ bs) (worded k es n t told (b ∷ bs) (n + length (b ∷ bs)))
word_read k n es t told b bs has is =
    let h = both (is_plain_byte b) (list_all is_plain_byte bs) is in
    let p : n + 1 + length bs ≡ n + length (b ∷ bs) = omega arith in
    record {
      reads = ap (λ o. reads o bs) (plain_step k n b es t told (record { at = 0; text = [] }) has h.0)
          ∙ more b [] (n + 1) bs h.1
          ∙ ap (λ m. Some (worded k es n t told (b ∷ bs) m)) p;
      utf8 = plain_text (b ∷ bs) is;
    }
  where
    more : (c : ℕ) (cs : List ℕ) (m : ℕ) (bs : List ℕ) → list_all is_plain_byte bs ≡ true → reads (Some (worded k es n t told (c ∷ cs) m)) bs ≡ Some (worded k es n t told (c ∷ (cs ++ bs)) (m + length bs))
    more c cs m [] is = let e = nothing_more cs in let g : m ≡ m + 0 = omega arith in λ i. Some (worded k es n t told (c ∷ e i) (g i))
      where
        nothing_more : (xs : List ℕ) → xs ≡ xs ++ []
        nothing_more [] = refl
        nothing_more (x ∷ xs) = ap (λ w. x ∷ w) (nothing_more xs)
    more c cs m (b ∷ bs) is =
        let h = both (is_plain_byte b) (list_all is_plain_byte bs) is in
        let e : (cs ++ b ∷ []) ++ bs ≡ cs ++ (b ∷ bs) = append_assoc cs (b ∷ []) bs in
        let g : m + 1 + length bs ≡ m + length (b ∷ bs) = omega arith in
        ap (λ o. reads o bs) (plain_step k m b es t told (record { at = n; text = c ∷ cs }) has h.0)
        ∙ more c (cs ++ b ∷ []) (m + 1) bs h.1
        ∙ (λ i. Some (worded k es n t told (c ∷ e i) (g i)))

-- white ends a word
pub white_ends : (k n m b c : ℕ) (es : List Element) (t : Tokens) (told : List Event) (cs : List ℕ) → has_text (kind_in es) ≡ true → is_white b ≡ true → (b == 38) ≡ false → next (scan Text (Inside k)) b ≡ Some (scan Text (Inside k)) → utf8_next Ready b ≡ Some Ready
    → Run (worded k es n t told (c ∷ cs) m) (b ∷ []) (stand k (counted 1 es) (m + 1) t (Read (kind_in es) (record { at = n; text = c ∷ cs }) m ∷ told))
white_ends k n m b c es t told cs has white amp on utf8 =
    let w : Word = record { at = n; text = c ∷ cs } in
    record { reads = letter_step k m b es t told w no_word (w ∷ []) has on amp (if_true (is_white b) _ _ white) (if_true (is_white b) _ _ white); utf8 = utf8 }

-- a < ends a word
pub less_ends : (k n m c : ℕ) (es : List Element) (t : Tokens) (told : List Event) (cs : List ℕ)
    → Run (worded k es n t told (c ∷ cs) m) (60 ∷ []) (opens k (counted 1 es) (m + 1) (record t { at = m }) (Read (kind_in es) (record { at = n; text = c ∷ cs }) m ∷ told))
less_ends k n m c es t told cs = record { reads = refl; utf8 = refl }
