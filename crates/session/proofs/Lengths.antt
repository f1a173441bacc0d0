-- How long the lines of a stream are.
use Rattle.std.proofs.Common.{◌≡◌, ℕ, suc, ◌+◌, ◌<◌, ◌≤◌, ◌==◌, true, false, cond, List, [], ◌∷◌, ◌++◌, length, arith, refl, length-append}
use Rattle.std.proofs.lemmas.List.Elements.{All-nil, All-cons, All-append}
use Rattle.std.specs.List.{All}
use Rattle.session.specs.Lines.{ended_from, rest_from, ended, unfinished}
use Rattle.session.proofs.Streams.{ended_from-append, rest_from-append}

short_from : (n : ℕ) (rest bytes : List ℕ) → length rest + length bytes ≤ n → All (λ (line : List ℕ). length line < n) (ended_from rest bytes)
short_from n rest [] fits = All-nil (λ (line : List ℕ). length line < n)
short_from n rest (b ∷ bytes) fits =
    elim (b == 10) as (λ t. All (λ (line : List ℕ). length line < n) (cond t (rest ∷ ended_from [] bytes) (ended_from (rest ++ b ∷ []) bytes))) [
      | true ↦ All-cons (λ (line : List ℕ). length line < n) rest (ended_from [] bytes) (omega arith) (short_from n [] bytes (omega arith))
      | false ↦ short_from n (rest ++ b ∷ []) bytes (rw length-append (omega arith))
    ]

-- The lines of a stream stay short where a piece fits after the line so far.
pub short_more : (n : ℕ) (seen bytes : List ℕ) → All (λ (line : List ℕ). length line < n) (ended seen) → length (unfinished seen) + length bytes ≤ n → All (λ (line : List ℕ). length line < n) (ended (seen ++ bytes))
short_more n seen bytes short fits = rw (ended_from-append [] seen bytes) (All-append (λ (line : List ℕ). length line < n) (ended seen) (ended_from (unfinished seen) bytes) short (short_from n (unfinished seen) bytes fits))

rest_short : (rest bytes : List ℕ) → length (rest_from rest bytes) ≤ length rest + length bytes
rest_short rest [] = omega arith
rest_short rest (b ∷ bytes) =
    elim (b == 10) as (λ t. length (cond t (rest_from [] bytes) (rest_from (rest ++ b ∷ []) bytes)) ≤ length rest + suc (length bytes)) [
      | true ↦ omega (arith, rest_short [] bytes)
      | false ↦ omega (arith, rest_short (rest ++ b ∷ []) bytes, length-append rest (b ∷ []))
    ]

pub unfinished_short : (seen bytes : List ℕ) → length (unfinished (seen ++ bytes)) ≤ length (unfinished seen) + length bytes
unfinished_short seen bytes = rw (rest_from-append [] seen bytes) (rest_short (unfinished seen) bytes)

pub empty_from : (xs : List ℕ) → length xs ≡ 0 → xs ≡ []
empty_from [] e = refl
empty_from (x ∷ xs) e = absurd (omega arith)
