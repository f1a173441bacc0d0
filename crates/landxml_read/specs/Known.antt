-- What is true of a reader whatever it has read: its open word and its values are UTF-8 up to where they stand, and its lists have room.
use Rattle.std.specs.Prelude.{◌≡◌, ◌+◌, ◌<◌, ◌≤◌, ◌^◌, ℕ, Bool, true, false, ◌&&◌, nat_lt, List, [], length, Option, None, Some}
use Rattle.std.specs.List.{list_any, list_all}
use Rattle.ground_num.specs.Names.{is_control}
use Rattle.landxml_read.specs.declared.utf8.Utf8.{Utf8}
use Rattle.landxml_read.specs.declared.utf8.Utf8.TheVariants.{Ready, One, Two}
use Rattle.landxml_read.specs.declared.scan.Part.{Part}
use Rattle.landxml_read.specs.declared.scan.Part.TheVariants.{Start, MarkFirst, MarkSecond, Text, Tag}
use Rattle.landxml_read.specs.declared.tag.TagPart.TheVariants.{DoubleQuoted, SingleQuoted}
use Rattle.landxml_read.specs.declared.standing.Standing.{Standing}
use Rattle.landxml_read.specs.declared.element.Element.{Element}
use Rattle.landxml_read.specs.declared.tokens.Tokens.{Tokens}
use Rattle.landxml_read.specs.declared.gather.Gathered.{Gathered}
use Rattle.landxml_read.specs.Faults.{has_text}
use Rattle.landxml_read.specs.Utf8.{utf8_run}
use Rattle.landxml_read.specs.Tokens.{kind_in}
use Rattle.landxml_read.specs.Gather.{triples_in, pairs_in}

-- the state of UTF-8 that the beginning of a document is in
abbrev pub due : Part → Option Utf8
due Start = Some Ready
due MarkFirst = Some Two
due MarkSecond = Some One
due _ = None

-- between markup
abbrev pub is_text : Part → Bool
is_text Text = true
is_text _ = false

-- inside a value
abbrev pub is_quoted : Part → Bool
is_quoted (Tag DoubleQuoted) = true
is_quoted (Tag SingleQuoted) = true
is_quoted _ = false

-- in text that is read
abbrev pub in_words : Part → Tokens → Bool
in_words part t = is_text part && has_text (kind_in t.stack)

-- no control byte
abbrev pub IsPlain : List ℕ → Type 0
IsPlain text = list_any is_control text ≡ false

-- whole UTF-8 without control bytes, over 255 bytes only where that is noted
pub record IsKept (text : List ℕ) (noted : Bool) : Type 0 where
  pub utf8 : utf8_run (Some Ready) text ≡ Some Ready
  pub plain : IsPlain text
  pub long : nat_lt 255 (length text) ≡ true → noted ≡ true

-- the open word, the open value and the first value that was read, at a part of the markup and a state of UTF-8
pub record IsSpelled (s : Utf8) (part : Part) (t : Tokens) : Type 0 where
  pub mark : (m : Utf8) → due part ≡ Some m → (s ≡ m) × (has_text (kind_in t.stack) ≡ false)
  pub word : in_words part t ≡ true → utf8_run (Some Ready) t.word ≡ Some s
  pub no_word : in_words part t ≡ false → t.word ≡ []
  pub plain_word : IsPlain t.word
  pub value : is_quoted part ≡ true → t.is_read ≡ true → utf8_run (Some Ready) t.value ≡ Some s
  pub plain_value : IsPlain t.value
  pub first : (text : List ℕ) → t.values.first ≡ Some text → IsKept text t.values.is_long

-- each open element has no more words than there were bytes
abbrev pub has_few_words : ℕ → List Element → Bool
has_few_words n es = list_all (λ e. nat_lt e.words (n + 1)) es

-- the open surface has no more triples and pairs than there were bytes
pub record HasFew (n : ℕ) (g : Gathered) : Type 0 where
  pub triples : length (triples_in g.surface) ≤ n
  pub pairs : length (pairs_in g.surface) ≤ n

-- what is true of a reader's parts
pub record IsKnown (s : Standing) (t : Tokens) (g : Gathered) : Type 0 where
  pub short : s.offset < 2 ^ 32
  pub spelled : IsSpelled s.utf8 s.scan.part t
  pub words : has_few_words s.offset t.stack ≡ true
  pub few : HasFew s.offset g
