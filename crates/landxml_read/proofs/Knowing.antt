-- What is true of a reader stays true after a byte, and leaves room for it.
use Rattle.std.proofs.Common.{◌≡◌, ℕ, ◌+◌, ◌<◌, ◌^◌, true, nat_lt, List, [], ◌∷◌, Some, refl, sym, ◌∙◌, ap, subst, arith}
use Rattle.std.proofs.lemmas.Bool.Decides.{nat_tests}
use Rattle.landxml_read.specs.declared.element.Element.{Element}
use Rattle.landxml_read.specs.declared.standing.Standing.{Standing}
use Rattle.landxml_read.specs.declared.tokens.Tokens.{Tokens}
use Rattle.landxml_read.specs.declared.gather.Gathered.{Gathered}
use Rattle.landxml_read.specs.Utf8.{utf8_next}
use Rattle.landxml_read.specs.Scan.{next}
use Rattle.landxml_read.specs.Tokens.{act, after, shown, words_in}
use Rattle.landxml_read.specs.Gather.{gather, HasRoom}
use Rattle.landxml_read.specs.Known.{IsSpelled, HasFew, has_few_words, IsKnown}
use Rattle.landxml_read.proofs.Bytes.{both, and_is}
use Rattle.landxml_read.proofs.FirstShown.{AllCounted, after_counted}
use Rattle.landxml_read.proofs.Spelled.{spelled_on}
use Rattle.landxml_read.proofs.Rooms.{few_on}

counted_all : (n : ℕ) (es : List Element) → has_few_words n es ≡ true → AllCounted n es
counted_all n [] h = tt
counted_all n (e ∷ es) h = let p = both (nat_lt e.words (n + 1)) (has_few_words n es) h in (grind (arith, nat_tests, p.0), counted_all n es p.1)

all_counted : (n : ℕ) (es : List Element) → AllCounted n es → has_few_words n es ≡ true
all_counted n [] h = refl
all_counted n (e ∷ es) h = and_is (nat_lt e.words (n + 1)) (has_few_words n es) (grind (arith, nat_tests, h.0)) (all_counted n es h.1)

-- the words of an element are fewer than its bytes
pub words_fit : (s : Standing) (t : Tokens) (g : Gathered) → IsKnown s t g → s.offset + 1 < 2 ^ 32 → words_in t.stack + 1 < 2 ^ 32
words_fit s t g k short = by t.stack (counted_all s.offset t.stack k.words)
  where
    by : (es : List Element) → AllCounted s.offset es → words_in es + 1 < 2 ^ 32
    by [] h = omega (arith, short)
    by (e ∷ es) h = let a = h.0 in omega (arith, a, short)

-- the lists have room
pub room : (s : Standing) (t : Tokens) (g : Gathered) → IsKnown s t g → s.offset + 1 < 2 ^ 32 → HasRoom g
room s t g k short = let a = k.few.triples in let b = k.few.pairs in record { triples = omega (arith, a, short); pairs = omega (arith, b, short) }

pub known_on : (s n : Standing) (t u : Tokens) (g h : Gathered) (b : ℕ) → IsKnown s t g → s.offset + 1 < 2 ^ 32 → utf8_next s.utf8 b ≡ Some n.utf8 → next s.scan b ≡ Some n.scan → n.offset ≡ s.offset + 1
    → u ≡ after (act s.scan.part n.scan.part) s.offset b t → h ≡ gather g (shown (act s.scan.part n.scan.part) s.offset b t) → IsKnown n u h
known_on s n t u g h b k short utf8 scan offset e f =
    let a = act s.scan.part n.scan.part in
    let P : Tokens → Type 0 = IsSpelled n.utf8 n.scan.part in
    let Q : ℕ → Type 0 = λ i. has_few_words i u.stack ≡ true in
    let R : ℕ → Type 0 = λ i. HasFew i h in
    let S : Gathered → Type 0 = HasFew (s.offset + 1) in
    let words : has_few_words (s.offset + 1) u.stack ≡ true = ap (λ x. has_few_words (s.offset + 1) x.stack) e ∙ all_counted (s.offset + 1) (after a s.offset b t).stack (after_counted a s.offset b t (counted_all s.offset t.stack k.words)) in
    record {
      short = omega (arith, offset, short);
      spelled = subst P (sym e) (spelled_on s.utf8 n.utf8 s.scan n.scan s.offset b t utf8 scan k.spelled);
      words = subst Q (sym offset) words;
      few = subst R (sym offset) (subst S (sym f) (few_on a s.offset b t g k.few));
    }
