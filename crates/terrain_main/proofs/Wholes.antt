-- Which words are whole numbers, and what `parse` makes of them.
use Rattle.std.proofs.Common.{arith, ◌≡◌, ◌∙◌, sym, ap, refl, ℕ, ◌^◌, ◌<◌, ◌≤◌, Bool, true, false, List, Option, Some, None}
use Rattle.std.specs.Prelude.{◌&&◌, nat_le, bytes_eq, if◌then◌else◌}
use Rattle.std.specs.declared.result.Result.{Result}
use Rattle.std.specs.declared.result.Result.TheVariants.{Ok, Err}
use Rattle.std.specs.Fmt.{decimal}
use Rattle.std.specs.Str.Parse.{digits_value, ParsesUnsigned}
use Rattle.std.proofs.lemmas.Fmt.{decimal_is_IsNumeral, parse-decimal}
use Rattle.std.proofs.lemmas.Slice.Eq.{bytes_eq-Decides}
use Rattle.std.proofs.lemmas.Bool.{true≢false}
use Rattle.terrain_main.specs.Commands.{whole_of}

-- the number where it is at most `most` and the word is its text
abbrev taken : ℕ → List ℕ → ℕ → Option ℕ
taken most word n = if bytes_eq word (decimal n) && nat_le n most then Some n else None

not_both : (a b : Bool) (n : ℕ) → (a ≡ true → b ≡ true → ⊥) → None ≡ (if a && b then Some n else None)
not_both true true n h = absurd (h refl refl)
not_both true false n h = refl
not_both false b n h = refl

-- no number of 64 bits whose text is the word
none_taken : (most : ℕ) (word : List ℕ) → ((n : ℕ) → n ≤ most → word ≡ decimal n → ⊥) → None ≡ whole_of most word
none_taken most word h =
    let n = digits_value 10 word in
    not_both (bytes_eq word (decimal n)) (nat_le n most) n (λ s l. h n (grind (arith, l)) ((bytes_eq-Decides word (decimal n)).0 s))

no_number : (E : Type 0) (e : E) (n : ℕ) → ◌≡◌ {A = Result ℕ E} (Err e) (Ok n) → ⊥
no_number E e n q = cc

same_number : (m n : ℕ) → ◌≡◌ {A = Result ℕ ℕ} (Ok m) (Ok n) → m ≡ n
same_number m n q = cc

-- a word that does not parse is no whole number
pub unread : (E : Type 0) (most : ℕ) (word : List ℕ) (e : E) → most < 2 ^ 64 → ParsesUnsigned {E = E} 64 10 word (Err e) → None ≡ whole_of most word
unread E most word e small p = none_taken most word (λ n l s. no_number E e n (parse-decimal 64 n word (Err e) (omega (arith, l, small)) (omega (arith, l, small)) s p))

-- a number that a word parses as, where the word is no text of its own number
other : (most n : ℕ) (word : List ℕ) → most < 2 ^ 64 → ParsesUnsigned {E = ℕ} 64 10 word (Ok n) → bytes_eq word (decimal n) ≡ false → (m : ℕ) → m ≤ most → word ≡ decimal m → ⊥
other most n word small p f m l s =
    let same = same_number n m (parse-decimal 64 m word (Ok n) (omega (arith, l, small)) (omega (arith, l, small)) s p) in
    true≢false (sym ((bytes_eq-Decides word (decimal n)).1 (s ∙ ap decimal (sym same))) ∙ f)

value_of : (n : ℕ) (word : List ℕ) → ParsesUnsigned {E = ℕ} 64 10 word (Ok n) → word ≡ decimal n → digits_value 10 word ≡ n
value_of n word p e = ap (digits_value 10) e ∙ (decimal_is_IsNumeral n (omega (arith, p.0.1, p.1))).1

by_text : (most n : ℕ) (word : List ℕ) → most < 2 ^ 64 → ParsesUnsigned {E = ℕ} 64 10 word (Ok n) → (a : Bool) → bytes_eq word (decimal n) ≡ a → taken most word n ≡ whole_of most word
by_text most n word small p true s = ap (taken most word) (sym (value_of n word p ((bytes_eq-Decides word (decimal n)).0 s)))
by_text most n word small p false s = ap (λ a. if a && nat_le n most then Some n else None) s ∙ none_taken most word (other most n word small p s)

-- and one that does is one where it is the text of its number
pub read : (most n : ℕ) (word : List ℕ) → most < 2 ^ 64 → ParsesUnsigned {E = ℕ} 64 10 word (Ok n) → taken most word n ≡ whole_of most word
read most n word small p = by_text most n word small p (bytes_eq word (decimal n)) refl
