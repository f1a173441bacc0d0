-- First faults of languages that are put together.
use Rattle.std.proofs.Common.{◌≡◌, ℕ, zero, suc, ◌+◌, ◌<◌, ◌≤◌, max, Bool, true, false, cond, List, [], ◌∷◌, ◌++◌, length, take, drop, refl, sym, subst, ◌∙◌, ap, arith, add-one, zero-add, inl, inr, ◌⊎◌, append_assoc}
use Rattle.std.specs.List.{common_prefix_len}
use Rattle.std.specs.Prelude.{nat_eq}
use Rattle.std.proofs.lemmas.List.{take-take, take-append-drop}
use Rattle.std.proofs.lemmas.List.Sums.{common_prefix_len-le}
use Rattle.std.proofs.lemmas.Bool.{eqb-true, eqb-false}
use Rattle.ground_num.specs.FirstFault.{Begins, IsFirstFault}
use Rattle.line_protocol.specs.Fault.{After, IsEmpty}

-- one language, said in two ways
pub by_other_words : {A B : List ℕ → Type 0} (text : List ℕ) (k : ℕ) → ((t : List ℕ) → A t → B t) → ((t : List ℕ) → B t → A t) → IsFirstFault A text k → IsFirstFault B text k
by_other_words text k to from fault = record {
  within = fault.within;
  allowed = λ j below. let a = fault.allowed j below in (a.0, to _ a.1);
  not_allowed = λ below b. fault.not_allowed below (b.0, from _ b.1);
}

-- a language without texts
pub of_none : {A : List ℕ → Type 0} (text : List ℕ) → ((t : List ℕ) → A t → ⊥) → IsFirstFault A text 0
of_none text none = record {
  within = omega arith;
  allowed = λ j below. absurd (omega arith);
  not_allowed = λ below b. none _ b.1;
}

-- the end of a text
pub of_end : {A : List ℕ → Type 0} → IsFirstFault A [] 0
of_end = record {
  within = omega arith;
  allowed = λ j below. absurd (omega arith);
  not_allowed = λ below b. absurd (omega arith);
}

-- a byte that no text begins with
pub of_stray : {A : List ℕ → Type 0} (b : ℕ) (text : List ℕ) → ((t : List ℕ) → A (b ∷ t) → ⊥) → IsFirstFault A (b ∷ text) 0
of_stray b text none = record {
  within = omega arith;
  allowed = λ j below. absurd (omega arith);
  not_allowed = λ below found. none found.0 found.1;
}

take_next : (b : ℕ) (text : List ℕ) (k : ℕ) → take (suc k + 1) (b ∷ text) ≡ b ∷ take (k + 1) text
take_next b text k = ap (λ n. take n (b ∷ text)) (add-one (suc k)) ∙ ap (λ n. b ∷ take n text) (sym (add-one k))

-- a byte that some text begins with
pub of_next : {A B : List ℕ → Type 0} (b : ℕ) (text : List ℕ) (k : ℕ) → ((t : List ℕ) → A (b ∷ t) → B t) → ((t : List ℕ) → B t → A (b ∷ t)) → Begins B [] → IsFirstFault B text k → IsFirstFault A (b ∷ text) (suc k)
of_next {A = A} {B = B} b text k to from some fault = record {
  within = omega (arith, fault.within);
  allowed = allowed;
  not_allowed = λ below found. fault.not_allowed (omega arith) (found.0, to _ (let P : List ℕ → Type 0 = λ t. A (t ++ found.0) in subst P (take_next b text k) found.1));
}
  where
    allowed : (j : ℕ) → j < suc k → Begins A (take (j + 1) (b ∷ text))
    allowed zero below = (some.0, from _ some.1)
    allowed (suc j) below =
        let found = fault.allowed j (omega arith) in
        let P : List ℕ → Type 0 = λ t. A (t ++ found.0) in
        (found.0, subst P (sym (take_next b text j)) (from _ found.1))

-- what begins with more begins with less
begins_less : (A : List ℕ → Type 0) (text : List ℕ) (m n : ℕ) → m ≤ n → Begins A (take n text) → Begins A (take m text)
begins_less A text m n le found = (
  drop m (take n text) ++ found.0,
  let same : take m text ++ (drop m (take n text) ++ found.0) ≡ take n text ++ found.0 =
      ap (λ t. t ++ (drop m (take n text) ++ found.0)) (sym (take-take m n text le)) ∙ sym (append_assoc (take m (take n text)) (drop m (take n text)) found.0) ∙ ap (λ t. t ++ found.0) (take-append-drop m (take n text)) in
      subst A (sym same) found.1,
)

-- the texts of two languages
pub of_both : {A B : List ℕ → Type 0} (text : List ℕ) (a b : ℕ) → IsFirstFault A text a → IsFirstFault B text b → IsFirstFault (λ t. A t ⊎ B t) text (max a b)
of_both {A = A} {B = B} text a b first second = record {
  within = omega (arith, first.within, second.within);
  allowed = λ j below. pick j (split j a b below);
  not_allowed = λ below found. neither below found.0 found.1;
}
  where
    split : (j m n : ℕ) → j < max m n → (j < m) ⊎ (j < n)
    split j m n below = grind arith

    pick : (j : ℕ) → (j < a) ⊎ (j < b) → Begins (λ t. A t ⊎ B t) (take (j + 1) text)
    pick j (inl h) = let found = first.allowed j h in (found.0, inl found.1)
    pick j (inr h) = let found = second.allowed j h in (found.0, inr found.1)

    neither : max a b < length text → (more : List ℕ) → A (take (max a b + 1) text ++ more) ⊎ B (take (max a b + 1) text ++ more) → ⊥
    neither below more (inl h) = first.not_allowed (omega arith) (begins_less A text (a + 1) (max a b + 1) (omega arith) (more, h))
    neither below more (inr h) = second.not_allowed (omega arith) (begins_less B text (b + 1) (max a b + 1) (omega arith) (more, h))

add_one_out : (m n : ℕ) → suc m + n ≡ suc (m + n)
add_one_out m n = omega arith

one_more : (k : ℕ) → 1 + k ≡ suc k
one_more k = omega arith

-- ---- a phrase, and what stands after it
module _ {L : List ℕ → Type 0} (some : Begins L []) where
  after_some : (phrase : List ℕ) → Begins (After phrase L) []
  after_some phrase = (phrase ++ some.0, (some.0, refl, some.1))

  heads_off : (b c : ℕ) (t phrase : List ℕ) → After (c ∷ phrase) L (b ∷ t) → (b ≡ c) × After phrase L t
  heads_off b c t phrase h = let e : b ∷ t ≡ c ∷ (phrase ++ h.0) = h.1 in (cc, (h.0, cc, h.2))

  head_on : (b c : ℕ) (t phrase : List ℕ) → b ≡ c → After phrase L t → After (c ∷ phrase) L (b ∷ t)
  head_on b c t phrase same h = (h.0, (λ i. same i ∷ h.1 i), h.2)

  next_after : (b c : ℕ) (text phrase : List ℕ) (k : ℕ) → b ≡ c → IsFirstFault (After phrase L) text k → IsFirstFault (After (c ∷ phrase) L) (b ∷ text) (suc k)
  next_after b c text phrase k same fault = of_next b text k (λ t h. (heads_off b c t phrase h).1) (λ t h. head_on b c t phrase same h) (after_some phrase) fault

  -- the text leaves the phrase
  pub leaves_phrase : (phrase text : List ℕ) → common_prefix_len nat_eq phrase text < length phrase → IsFirstFault (After phrase L) text (common_prefix_len nat_eq phrase text)
  leaves_phrase [] text below = absurd (omega arith)
  leaves_phrase (c ∷ phrase) [] below = of_end
  leaves_phrase (c ∷ phrase) (b ∷ text) below = at_head (nat_eq c b) refl below (leaves_phrase phrase text)
    where
      at_head : (same : Bool) → nat_eq c b ≡ same → cond same (1 + common_prefix_len nat_eq phrase text) 0 < suc (length phrase)
          → (common_prefix_len nat_eq phrase text < length phrase → IsFirstFault (After phrase L) text (common_prefix_len nat_eq phrase text))
          → IsFirstFault (After (c ∷ phrase) L) (b ∷ text) (cond same (1 + common_prefix_len nat_eq phrase text) 0)
      at_head true e less again = rw (one_more (common_prefix_len nat_eq phrase text)) (next_after b c text phrase _ (sym (eqb-true c b e)) (again (omega arith)))
      at_head false e less again = of_stray b text (λ t h. eqb-false c b e (sym (heads_off b c t phrase h).0))

  -- the text has the phrase
  pub has_phrase : (phrase text : List ℕ) (k : ℕ) → length phrase ≤ common_prefix_len nat_eq phrase text → IsFirstFault L (drop (length phrase) text) k → IsFirstFault (After phrase L) text (length phrase + k)
  has_phrase [] text k long fault = rw (zero-add k) (by_other_words text k (λ t h. (t, refl, h)) (λ t h. subst L (sym h.1) h.2) fault)
  has_phrase (c ∷ phrase) [] k long fault = absurd (omega arith)
  has_phrase (c ∷ phrase) (b ∷ text) k long fault = at_head (nat_eq c b) refl long (λ less. has_phrase phrase text k less fault)
    where
      at_head : (same : Bool) → nat_eq c b ≡ same → suc (length phrase) ≤ cond same (1 + common_prefix_len nat_eq phrase text) 0
          → (length phrase ≤ common_prefix_len nat_eq phrase text → IsFirstFault (After phrase L) text (length phrase + k))
          → IsFirstFault (After (c ∷ phrase) L) (b ∷ text) (suc (length phrase) + k)
      at_head true e less again = rw (add_one_out (length phrase) k) (next_after b c text phrase _ (sym (eqb-true c b e)) (again (omega arith)))
      at_head false e less again = absurd (omega arith)

  -- the two, over what a function found
  pub left_phrase : (phrase text : List ℕ) (k : ℕ) → k ≡ common_prefix_len nat_eq phrase text → k < length phrase → IsFirstFault (After phrase L) text k
  left_phrase phrase text k e short = let P : ℕ → Type 0 = λ n. n < length phrase in subst (IsFirstFault (After phrase L) text) (sym e) (leaves_phrase phrase text (subst P e short))

  pub kept_phrase : (phrase text rest : List ℕ) (n k : ℕ) → n ≡ common_prefix_len nat_eq phrase text → length phrase ≤ n → rest ≡ drop n text → IsFirstFault L rest k → IsFirstFault (After phrase L) text (n + k)
  kept_phrase phrase text rest n k e long same fault =
      let all : length phrase ≡ n = omega (arith, e, long, (common_prefix_len-le nat_eq phrase text).0) in
      let left : rest ≡ drop (length phrase) text = same ∙ ap (λ m. drop m text) (sym all) in
      let P : ℕ → Type 0 = λ m. IsFirstFault (After phrase L) text (m + k) in
      let Q : List ℕ → Type 0 = λ t. IsFirstFault L t k in
      subst P all (has_phrase phrase text k (omega (arith, e, long)) (subst Q left fault))

of_empty : (text : List ℕ) → IsFirstFault IsEmpty text 0
of_empty [] = of_end
of_empty (b ∷ text) = of_stray b text (λ t h. cc)

le_or_gt : (m n : ℕ) → (m ≤ n) ⊎ (n < m)
le_or_gt m n = grind arith

-- a phrase alone
pub phrase_alone : (phrase text : List ℕ) → IsFirstFault (After phrase IsEmpty) text (common_prefix_len nat_eq phrase text)
phrase_alone phrase text = by (le_or_gt (length phrase) (common_prefix_len nat_eq phrase text))
  where
    by : (length phrase ≤ common_prefix_len nat_eq phrase text) ⊎ (common_prefix_len nat_eq phrase text < length phrase) → IsFirstFault (After phrase IsEmpty) text (common_prefix_len nat_eq phrase text)
    by (inl long) =
        let e : length phrase + 0 ≡ common_prefix_len nat_eq phrase text = omega (arith, (common_prefix_len-le nat_eq phrase text).0, long) in
        subst (IsFirstFault (After phrase IsEmpty) text) e (has_phrase ([], refl) phrase text 0 long (of_empty (drop (length phrase) text)))
    by (inr short) = leaves_phrase ([], refl) phrase text short

pub none_in_common : (phrase : List ℕ) → common_prefix_len nat_eq phrase [] ≡ 0
none_in_common [] = refl
none_in_common (c ∷ phrase) = refl
