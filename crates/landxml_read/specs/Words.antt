-- The text of an element: its words, parted by white and by all that isn't text.
use Rattle.std.specs.Prelude.{ℕ, ◌+◌, Bool, true, false, ◌==◌, List, [], ◌∷◌, length, Option, Some, None, if◌then◌else◌}
use Rattle.landxml_read.specs.Markup.{is_white, Content, Nothing, Byte, Comment, Instruction, CData, Empty, Element, content_text, empty_text, start_text, end_text}

-- what stands directly in an element: a byte of its text, CDATA, or anything else
pub data Part : Type 0 where
  Letter : ℕ → Part
  Quoted : Part
  Other : Part

-- such a part at its offset
pub record Placed : Type 0 where
  pub at : ℕ
  pub part : Part

-- a part at an offset
abbrev pub placed : ℕ → Part → Placed
placed at part = record { at = at; part = part }

-- the parts of what begins at a place: bytes, CDATA, and comments, instructions and elements
abbrev pub parts : ℕ → Content → List Placed
parts at Nothing = []
parts at (Byte b after) = placed at (Letter b) ∷ parts (at + 1) after
parts at (Comment bytes after) = placed at Other ∷ parts (at + (length bytes + 7)) after
parts at (Instruction bytes after) = placed at Other ∷ parts (at + (length bytes + 4)) after
parts at (CData bytes after) = placed at Quoted ∷ parts (at + (length bytes + 12)) after
parts at (Empty tag after) = placed at Other ∷ parts (at + length (empty_text tag)) after
parts at (Element tag inside end after) =
    placed at Other ∷ parts (at + length (start_text tag) + length (content_text inside) + length (end_text end)) after

-- the byte, where it belongs to a word
abbrev pub of_word : Part → Option ℕ
of_word (Letter b) = if is_white b then None else Some b
of_word _ = None

-- a word, and the offset of its first byte
pub record Word : Type 0 where
  pub at : ℕ
  pub text : List ℕ

-- a byte of a word before the bytes of words at the front, or none
abbrev pub run_of : Option ℕ → List ℕ → List ℕ
run_of None rest = []
run_of (Some b) rest = b ∷ rest

-- the bytes of words at the front
abbrev pub run : List Placed → List ℕ
run [] = []
run (p ∷ ps) = run_of (of_word p.part) (run ps)

-- the words where a part stands first: with those after it, inside a word or not, and the bytes of words right after it
abbrev pub words_of : Bool → Option ℕ → List ℕ → List Word → List Word → ℕ → List Word
words_of in_word None rest after within at = after
words_of true (Some b) rest after within at = within
words_of false (Some b) rest after within at = record { at = at; text = b ∷ rest } ∷ within

-- a word begins at a byte of a word that has no such byte before it
abbrev pub words_after : Bool → List Placed → List Word
words_after in_word [] = []
words_after in_word (p ∷ ps) = words_of in_word (of_word p.part) (run ps) (words_after false ps) (words_after true ps) p.at

-- the words of some parts
abbrev pub words : List Placed → List Word
words ps = words_after false ps

-- the offset of the byte after a word, which shows it
abbrev pub word_end : Word → ℕ
word_end w = w.at + length w.text

-- an ampersand
abbrev pub is_ampersand : Part → Bool
is_ampersand (Letter b) = b == 38
is_ampersand _ = false

-- CDATA
abbrev pub is_quoted : Part → Bool
is_quoted Quoted = true
is_quoted _ = false
