-- Where a line that is no request first differs from every request.
use Rattle.std.specs.Prelude.{ℕ, ◌≡◌, List, [], ◌++◌, IsSome}
use Rattle.ground_num.specs.FirstFault.{IsFirstFault}
use Rattle.line_protocol.specs.Grammar.{words_of, edit, line_edit, spoken}

-- the line spells a request
abbrev pub IsRequest : List ℕ → Type 0
IsRequest line = IsSome (spoken line)

-- the first byte that no request allows, or the line's length
abbrev pub IsFaultOffset : List ℕ → ℕ → Type 0
IsFaultOffset line offset = IsFirstFault IsRequest line offset

-- the phrase, and after it a text of the language
abbrev pub After : List ℕ → (List ℕ → Type 0) → List ℕ → Type 0
After phrase IsText text = (rest : List ℕ) × (text ≡ phrase ++ rest) × IsText rest

-- nothing
abbrev pub IsEmpty : List ℕ → Type 0
IsEmpty text = text ≡ []

-- an edit
abbrev pub IsEdit : List ℕ → Type 0
IsEdit text = IsSome (edit (words_of text))

-- a kind and the places of a line
abbrev pub IsLine : List ℕ → Type 0
IsLine text = IsSome (line_edit (words_of text))
