-- What holds of all lines of the protocol.
use Rattle.std.specs.Prelude.{◌≡◌, ℕ, List, ◌∷◌, ◌++◌, take, All}
use Rattle.line_protocol.specs.Grammar.{Word, Form, words_of}
use Rattle.line_protocol.specs.Fault.{IsRequest, IsFaultOffset}

-- whatever stands after a row's word, the row reads it: no row is shadowed by one above it
abbrev pub ReadsEachRow : {X : Type 0} → Form X → List (Word × Form X) → Type 0
ReadsEachRow form rows = All (λ row. (ws : List Word) → form (row.0 ∷ ws) ≡ row.1 ws) rows

-- a line has at most one fault offset
abbrev pub OneFaultOffset : Type 0
OneFaultOffset = (line : List ℕ) (j k : ℕ) → IsFaultOffset line j → IsFaultOffset line k → j ≡ k

-- a request's line that goes on to a request's line keeps its first word
abbrev pub KeepsFirstWord : Type 0
KeepsFirstWord = (line more : List ℕ) → IsRequest line → IsRequest (line ++ more) → take 1 (words_of (line ++ more)) ≡ take 1 (words_of line)
