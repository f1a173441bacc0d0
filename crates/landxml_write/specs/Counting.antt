-- A count of the bytes of a text.
use Rattle.std.proofs.Common.{sym, ap, subst, ◌∙◌, length-append}
use Rattle.std.proofs.Math.Nat.{add-zero, add_assoc, lt_of_le_of_lt, le-add_right}
use Rattle.std.specs.Prelude.{◌≡◌, ℕ, ◌+◌, ◌<◌, ◌^◌, List, [], ◌++◌, length}

-- the text's length was added, where the sum is a number of 64 bits
abbrev pub Counts : ℕ → ℕ → List ℕ → Type 0
Counts x y text = x + length text < 2 ^ 64 → y ≡ x + length text

pub counts_none : (x : ℕ) → Counts x x []
counts_none x small = sym (add-zero x)

-- the length of two texts, one after the other
both_long : (x : ℕ) (t u : List ℕ) → x + length (t ++ u) ≡ (x + length t) + length u
both_long x t u = ap (λ n. x + n) (length-append t u) ∙ sym (add_assoc x (length t) (length u))

pub counts_both : (x y z : ℕ) (t u : List ℕ) → Counts x y t → Counts y z u → Counts x z (t ++ u)
counts_both x y z t u first second small =
    let both : (x + length t) + length u < 2 ^ 64 = subst (λ n. n < 2 ^ 64) (both_long x t u) small in
    let one : y ≡ x + length t = first (lt_of_le_of_lt (le-add_right (x + length t) (length u)) both) in
    second (subst (λ n. n + length u < 2 ^ 64) (sym one) both) ∙ ap (λ n. n + length u) one ∙ sym (both_long x t u)
