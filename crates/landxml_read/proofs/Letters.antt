-- A byte of a word is taken as every byte is.
use Rattle.std.proofs.Common.{◌≡◌, ℕ, ◌+◌, ◌<◌, ◌^◌, Bool, true, false, ◌==◌, ◌&&◌, ◌||◌, not, nat_lt, cond, List, [], ◌∷◌, ◌++◌, None, Some, refl, sym, ◌∙◌, ap, arith}
use Rattle.landxml_read.specs.Markup.{is_white, is_free}
use Rattle.landxml_read.specs.declared.scan.Part.TheVariants.{Text}
use Rattle.landxml_read.specs.declared.utf8.Utf8.TheVariants.{Ready}
use Rattle.landxml_read.specs.declared.element.Element.{Element}
use Rattle.landxml_read.specs.declared.tokens.Tokens.{Tokens}
use Rattle.landxml_read.specs.declared.course.Course.{Course}
use Rattle.landxml_read.specs.declared.act.Act.TheVariants.{Letter}
use Rattle.landxml_read.specs.declared.fault.DocCause.TheVariants as cause
use Rattle.landxml_read.specs.Faults.{has_text}
use Rattle.landxml_read.specs.Events.{longer, finished, no_word, word_after, ended_by, ampersands, read}
use Rattle.landxml_read.specs.Utf8.{utf8_next, is_ready}
use Rattle.landxml_read.specs.Scan.{is_inside, at, part_next, next}
use Rattle.landxml_read.specs.Tokens.{act, after, shown, kind_in, word_of, counted, with_word}
use Rattle.landxml_read.specs.Verdict.{word_verdict, letter_verdict, verdict_of}
use Rattle.landxml_read.specs.Gather.{gather}
use Rattle.landxml_read.specs.Known.{IsKnown}
use Rattle.landxml_read.specs.Course.{HasTaken, IsLetter, with_longer}
use Rattle.landxml_read.proofs.Bytes.{both}
use Rattle.landxml_read.proofs.Running.{if_true, if_false}
use Rattle.landxml_read.proofs.Outlines.{stands_on}
use Rattle.landxml_read.proofs.Knowing.{known_on}
use Rattle.landxml_read.proofs.Readers.{taken_on}

-- what such a byte isn't
record IsPlain (b : ℕ) : Type 0 where
  low : nat_lt b 128 ≡ true
  free : is_free b ≡ true
  white : is_white b ≡ false
  less : (b == 60) ≡ false
  ampersand : (b == 38) ≡ false

plain : (b : ℕ) → (nat_lt b 128 && is_free b && not (is_white b) && not (b == 60) && not (b == 38)) ≡ true → IsPlain b
plain b e =
    let p = both (nat_lt b 128 && is_free b && not (is_white b) && not (b == 60)) (not (b == 38)) e in
    let q = both (nat_lt b 128 && is_free b && not (is_white b)) (not (b == 60)) p.0 in
    let r = both (nat_lt b 128 && is_free b) (not (is_white b)) q.0 in
    let s = both (nat_lt b 128) (is_free b) r.0 in
    record { low = s.0; free = s.1; white = flip (is_white b) r.1; less = flip (b == 60) q.1; ampersand = flip (b == 38) p.1 }
  where
    flip : (t : Bool) → not t ≡ true → t ≡ false
    flip true e = cc
    flip false e = refl

none_counted : (es : List Element) → counted 0 es ≡ es
none_counted [] = refl
none_counted (e ∷ es) = let a : e.words + 0 ≡ e.words = omega arith in λ i. record e { words = a i } ∷ es

-- the word goes on
goes_on : (n b : ℕ) (t : Tokens) → IsPlain b → has_text (kind_in t.stack) ≡ true → after Letter n b t ≡ with_longer n b t
goes_on n b t p has =
    let w = word_of t in
    let a : word_after (has_text (kind_in t.stack)) n b w ≡ longer n b w = if_true (has_text (kind_in t.stack)) (cond (is_white b) no_word (longer n b w)) no_word has ∙ if_false (is_white b) no_word (longer n b w) p.white in
    let c : ended_by (has_text (kind_in t.stack)) b w ≡ [] = if_false (has_text (kind_in t.stack) && is_white b) (finished w) [] (both_false (has_text (kind_in t.stack)) (is_white b) p.white) in
    (λ i. with_word t (a i) (c i)) ∙ ap (λ es. record (with_longer n b t) { stack = es }) (none_counted t.stack)
  where
    both_false : (x y : Bool) → y ≡ false → (x && y) ≡ false
    both_false true y e = e
    both_false false y e = refl

-- and shows nothing
shows_none : (n b : ℕ) (t : Tokens) → IsPlain b → shown Letter n b t ≡ []
shows_none n b t p =
    let w = word_of t in
    let has = has_text (kind_in t.stack) in
    let c : ended_by has b w ≡ [] = if_false (has && is_white b) (finished w) [] (both_false has (is_white b) p.white) in
    let d : ampersands has n b ≡ [] = if_false (has && b == 38) _ [] (both_false has (b == 38) p.ampersand) in
    λ i. read (kind_in t.stack) n (c i) ++ d i
  where
    both_false : (x y : Bool) → y ≡ false → (x && y) ≡ false
    both_false true y e = e
    both_false false y e = refl

no_fault : (n b : ℕ) (t : Tokens) → IsPlain b → letter_verdict n b t ≡ None
no_fault n b t p = by (has_text (kind_in t.stack))
  where
    by : (x : Bool) → cond x (cond (is_white b) (word_verdict t) (cond (b == 38) (Some (record { at = n; cause = cause.Entity })) None)) None ≡ None
    by true = if_false (is_white b) (word_verdict t) _ p.white ∙ if_false (b == 38) _ None p.ampersand
    by false = refl

-- encoding and markup stay as they are
module _ (c : Course) (b : ℕ) (l : IsLetter c b) where
  utf8_stays : utf8_next c.standing.utf8 b ≡ Some c.standing.utf8
  utf8_stays = ap (λ s. utf8_next s b) l.utf8 ∙ if_true (nat_lt b 128) (Some Ready) _ (plain b l.plain).low ∙ ap Some (sym l.utf8)

  scan_stays : next c.standing.scan b ≡ Some c.standing.scan
  scan_stays =
      let L = c.standing.scan.level in
      let p = plain b l.plain in
      ap (λ x. part_next L x b) l.part
      ∙ if_false (b == 60) _ _ p.less
      ∙ if_true (is_white b || (is_inside L && is_free b)) (at L Text) None (right (is_white b) (is_inside L) (is_free b) l.level p.free)
      ∙ ap (at L) (sym l.part)
    where
      right : (x y z : Bool) → y ≡ true → z ≡ true → (x || (y && z)) ≡ true
      right true y z e f = refl
      right false y z e f = rw (e, f) refl

-- after such a byte
module _ (c m : Course) (b : ℕ) (l : IsLetter c b) (utf8 : m.standing.utf8 ≡ c.standing.utf8) (scan : m.standing.scan ≡ c.standing.scan) (offset : m.standing.offset ≡ c.standing.offset + 1)
    (sequence : m.standing.sequence ≡ c.standing.offset + 1) (tokens : m.tokens ≡ with_longer c.standing.offset b c.tokens) (gathered : m.gathered ≡ c.gathered) where
  act_is : act c.standing.scan.part m.standing.scan.part ≡ Letter
  act_is = λ i. act (l.part i) ((ap (λ s. s.part) scan ∙ l.part) i)

  tokens_is : m.tokens ≡ after (act c.standing.scan.part m.standing.scan.part) c.standing.offset b c.tokens
  tokens_is = tokens ∙ sym (goes_on c.standing.offset b c.tokens (plain b l.plain) l.text) ∙ ap (λ a. after a c.standing.offset b c.tokens) (sym act_is)

  gathered_is : m.gathered ≡ gather c.gathered (shown (act c.standing.scan.part m.standing.scan.part) c.standing.offset b c.tokens)
  gathered_is = gathered ∙ sym (ap (λ a. gather c.gathered (shown a c.standing.offset b c.tokens)) act_is ∙ ap (gather c.gathered) (shows_none c.standing.offset b c.tokens (plain b l.plain)))

  pub letter_known : IsKnown c.standing c.tokens c.gathered → c.standing.offset + 1 < 2 ^ 32 → IsKnown m.standing m.tokens m.gathered
  letter_known k short =
      known_on c.standing m.standing c.tokens m.tokens c.gathered m.gathered b k short (utf8_stays c b l ∙ ap Some (sym utf8)) (scan_stays c b l ∙ ap Some (sym scan)) offset tokens_is gathered_is

  pub letter_taken : (seen : List ℕ) → HasTaken seen c → HasTaken (seen ++ b ∷ []) m
  letter_taken seen h =
      let stands = stands_on seen c.standing m.standing b h.read.outline (utf8_stays c b l ∙ ap Some (sym utf8)) (scan_stays c b l ∙ ap Some (sym scan)) offset
      (sequence ∙ sym (ap (λ s. cond (is_ready s) (c.standing.offset + 1) c.standing.sequence) (utf8 ∙ l.utf8))) in
      taken_on seen c m b h stands (ap (λ a. verdict_of a c.standing.offset b c.tokens) act_is ∙ no_fault c.standing.offset b c.tokens (plain b l.plain)) tokens_is gathered_is
