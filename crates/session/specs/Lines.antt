-- The lines of a stream of bytes: parted at each LF; what stands after the last one is the line that has not ended yet.
use Rattle.std.specs.Prelude.{◌==◌, ℕ, List, [], ◌∷◌, ◌++◌, map, take, length, ◌-◌, slice_index, if◌then◌else◌}

-- the lines that the bytes end, each without its LF, where `rest` came before them since the last line end
abbrev pub ended_from : List ℕ → List ℕ → List (List ℕ)
ended_from rest [] = []
ended_from rest (b ∷ bs) = if b == 10 then rest ∷ ended_from [] bs else ended_from (rest ++ b ∷ []) bs

-- what came since the last line end, where `rest` had come since it before these bytes
abbrev pub rest_from : List ℕ → List ℕ → List ℕ
rest_from rest [] = rest
rest_from rest (b ∷ bs) = if b == 10 then rest_from [] bs else rest_from (rest ++ b ∷ []) bs

-- the line's text: a CR right before its end belongs to the end; of an empty line there is no last byte, and none is taken off
abbrev pub text_of : List ℕ → List ℕ
text_of line = if slice_index line (length line - 1) == 13 then take (length line - 1) line else line

-- the bytes of each line, up to its LF
abbrev pub ended : List ℕ → List (List ℕ)
ended bytes = ended_from [] bytes

-- the texts of the whole lines
abbrev pub whole_lines : List ℕ → List (List ℕ)
whole_lines bytes = map text_of (ended bytes)

-- what came since the last line end
abbrev pub unfinished : List ℕ → List ℕ
unfinished bytes = rest_from [] bytes
