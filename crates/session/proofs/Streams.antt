-- The lines of a stream that comes in pieces.
use Rattle.std.proofs.Common.{◌≡◌, ℕ, ◌==◌, true, false, cond, List, [], ◌∷◌, ◌++◌, refl, ap, ◌∙◌}
use Rattle.std.proofs.lemmas.List.{append-nil}
use Rattle.session.specs.Lines.{ended_from, rest_from, ended, unfinished}

pub ended_from-append : (rest xs ys : List ℕ) → ended_from rest (xs ++ ys) ≡ ended_from rest xs ++ ended_from (rest_from rest xs) ys
ended_from-append rest [] ys = refl
ended_from-append rest (b ∷ xs) ys =
    elim (b == 10) as (λ t. cond t (rest ∷ ended_from [] (xs ++ ys)) (ended_from (rest ++ b ∷ []) (xs ++ ys)) ≡ cond t (rest ∷ ended_from [] xs) (ended_from (rest ++ b ∷ []) xs) ++ ended_from (cond t (rest_from [] xs) (rest_from (rest ++ b ∷ []) xs)) ys) [
      | true ↦ ap (λ ls. rest ∷ ls) (ended_from-append [] xs ys)
      | false ↦ ended_from-append (rest ++ b ∷ []) xs ys
    ]

pub rest_from-append : (rest xs ys : List ℕ) → rest_from rest (xs ++ ys) ≡ rest_from (rest_from rest xs) ys
rest_from-append rest [] ys = refl
rest_from-append rest (b ∷ xs) ys =
    elim (b == 10) as (λ t. cond t (rest_from [] (xs ++ ys)) (rest_from (rest ++ b ∷ []) (xs ++ ys)) ≡ rest_from (cond t (rest_from [] xs) (rest_from (rest ++ b ∷ []) xs)) ys) [
      | true ↦ rest_from-append [] xs ys
      | false ↦ rest_from-append (rest ++ b ∷ []) xs ys
    ]

-- one more byte, which is a line end
pub ended_more : (seen : List ℕ) (b : ℕ) → (b == 10) ≡ true → ended (seen ++ b ∷ []) ≡ ended seen ++ unfinished seen ∷ []
ended_more seen b e = ended_from-append [] seen (b ∷ []) ∙ rw e refl

pub unfinished_ended : (seen : List ℕ) (b : ℕ) → (b == 10) ≡ true → unfinished (seen ++ b ∷ []) ≡ []
unfinished_ended seen b e = rest_from-append [] seen (b ∷ []) ∙ rw e refl

-- one more byte of the line
pub ended_same : (seen : List ℕ) (b : ℕ) → (b == 10) ≡ false → ended (seen ++ b ∷ []) ≡ ended seen
ended_same seen b e = ended_from-append [] seen (b ∷ []) ∙ rw e (append-nil (ended seen))

pub unfinished_more : (seen : List ℕ) (b : ℕ) → (b == 10) ≡ false → unfinished (seen ++ b ∷ []) ≡ unfinished seen ++ b ∷ []
unfinished_more seen b e = rest_from-append [] seen (b ∷ []) ∙ rw e refl
