-- How the tokens that are open go on, byte by byte, and what they show.
use Rattle.std.specs.Prelude.{ℕ, ◌+◌, false, not, List, [], ◌∷◌, ◌++◌, length, bytes_eq, Option, Some, None, if◌then◌else◌}
use Rattle.landxml_read.specs.declared.kind.Kind.{Kind}
use Rattle.landxml_read.specs.declared.kind.Kind.TheVariants.{Outside}
use Rattle.landxml_read.specs.declared.scan.Scan.{Scan}
use Rattle.landxml_read.specs.declared.scan.Part.{Part}
use Rattle.landxml_read.specs.declared.scan.Part.TheVariants as part
use Rattle.landxml_read.specs.declared.tag.TagPart.{TagPart}
use Rattle.landxml_read.specs.declared.tag.TagPart.TheVariants as tag
use Rattle.landxml_read.specs.declared.element.Element.{Element}
use Rattle.landxml_read.specs.declared.tokens.Tokens.{Tokens}
use Rattle.landxml_read.specs.declared.act.Act.{Act}
use Rattle.landxml_read.specs.declared.act.Act.TheVariants.{Pass, Letter, Less, BeginName, Name, BeginAttribute, Attribute, BeginValue, Value, EndValue, Opens, Passes, Closes, Quotes}
use Rattle.landxml_read.specs.Elements.{below}
use Rattle.landxml_read.specs.Values.{decoded}
use Rattle.landxml_read.specs.Words.{Word}
use Rattle.landxml_read.specs.Faults.{has_text, read_name}
use Rattle.landxml_read.specs.Events.{Event, Opened, Closed, Opening, is_read_name, no_values, with_value, finished, word_after, ended_by, ampersands, read, quotes, no_word}
use Rattle.landxml_read.specs.Scan.{next, start}

-- what a byte is in a start tag that leads from a part of it to a part
abbrev pub tag_act : TagPart → TagPart → Act
tag_act tag.Name tag.Name = Name
tag_act tag.White tag.Attribute = BeginAttribute
tag_act tag.Attribute tag.Attribute = Attribute
tag_act tag.AfterEquals tag.DoubleQuoted = BeginValue
tag_act tag.AfterEquals tag.SingleQuoted = BeginValue
tag_act tag.DoubleQuoted tag.DoubleQuoted = Value
tag_act tag.SingleQuoted tag.SingleQuoted = Value
tag_act tag.DoubleQuoted tag.AfterValue = EndValue
tag_act tag.SingleQuoted tag.AfterValue = EndValue
tag_act _ _ = Pass

-- what the > is that ends a start tag at a part
abbrev pub end_act : TagPart → Act
end_act tag.Slash = Passes
end_act _ = Opens

-- what a byte is that leads from a part to a part
abbrev pub act : Part → Part → Act
act part.Text part.Text = Letter
act part.Text part.Open = Less
act part.Start part.Open = Less
act part.Open (part.Tag to) = BeginName
act (part.Tag from) (part.Tag to) = tag_act from to
act (part.Tag from) part.Text = end_act from
act part.EndOpen part.EndName = BeginName
act part.EndName part.EndName = Name
act part.EndName part.Text = Closes
act part.EndWhite part.Text = Closes
act part.BracketCdata (part.In to) = Quotes
act _ _ = Pass

-- a byte that is kept of a tag
abbrev pub IsOfTag : Act → Type 0
IsOfTag BeginName = Unit {0}
IsOfTag Name = Unit {0}
IsOfTag BeginAttribute = Unit {0}
IsOfTag Attribute = Unit {0}
IsOfTag BeginValue = Unit {0}
IsOfTag Value = Unit {0}
IsOfTag _ = ⊥

-- the kind of the innermost element
abbrev pub kind_in : List Element → Kind
kind_in [] = Outside
kind_in (e ∷ es) = e.kind

-- the name of the innermost element
abbrev pub name_in : List Element → List ℕ
name_in [] = []
name_in (e ∷ es) = e.name

-- how many words of its text are complete
abbrev pub words_in : List Element → ℕ
words_in [] = 0
words_in (e ∷ es) = e.words

-- the elements round the innermost
abbrev pub outer : List Element → List Element
outer [] = []
outer (e ∷ es) = es

-- so many more words of its text are complete
abbrev pub counted : ℕ → List Element → List Element
counted n [] = []
counted n (e ∷ es) = record e { words = e.words + n } ∷ es

-- the word that is open
abbrev pub word_of : Tokens → Word
word_of t = record { at = t.word_at; text = t.word }

-- the open word and those that were completed
abbrev pub with_word : Tokens → Word → List Word → Tokens
with_word t w done = record t { word_at = w.at; word = w.text; stack = counted (length done) t.stack }

-- the kind of the element whose tag is open
abbrev pub kind_of : Tokens → Kind
kind_of t = below (kind_in t.stack) t.name

-- the tokens after a byte at an offset
abbrev pub after : Act → ℕ → ℕ → Tokens → Tokens
after Pass at b t = t
after Letter at b t = let has = has_text (kind_in t.stack) in with_word t (word_after has at b (word_of t)) (ended_by has b (word_of t))
after Less at b t = record (with_word t no_word (finished (word_of t))) { at = at }
after BeginName at b t = record t { name = b ∷ []; values = no_values }
after Name at b t = record t { name = t.name ++ b ∷ [] }
after BeginAttribute at b t = record t { attribute = b ∷ [] }
after Attribute at b t = record t { attribute = t.attribute ++ b ∷ [] }
after BeginValue at b t = record t { is_read = is_read_name (read_name (kind_of t)) t.attribute; value = [] }
after Value at b t = if t.is_read then record t { value = t.value ++ b ∷ [] } else t
after EndValue at b t = if t.is_read then record t { values = with_value t.values (decoded t.value) } else t
after Opens at b t = record t { stack = record { kind = kind_of t; name = t.name; words = 0 } ∷ t.stack }
after Passes at b t = t
after Closes at b t = record t { stack = outer t.stack }
after Quotes at b t = t

-- the tag that a > ends
abbrev pub opening_at : ℕ → Tokens → Opening
opening_at at t = record { kind = kind_of t; depth = length t.stack + 1; at = t.at; name = t.name; values = t.values; shown = at }

-- what a byte at an offset shows
abbrev pub shown : Act → ℕ → ℕ → Tokens → List Event
shown Pass at b t = []
shown Letter at b t = let has = has_text (kind_in t.stack) in read (kind_in t.stack) at (ended_by has b (word_of t)) ++ ampersands has at b
shown Less at b t = read (kind_in t.stack) at (finished (word_of t))
shown BeginName at b t = []
shown Name at b t = []
shown BeginAttribute at b t = []
shown Attribute at b t = []
shown BeginValue at b t = []
shown Value at b t = []
shown EndValue at b t = []
shown Opens at b t = Opened (opening_at at t) ∷ []
shown Passes at b t = Opened (opening_at at t) ∷ Closed (record { kind = kind_of t; words = 0; is_misnamed = false; at = t.at; shown = at }) ∷ []
shown Closes at b t =
    Closed (record { kind = kind_in t.stack; words = words_in t.stack; is_misnamed = not (bytes_eq t.name (name_in t.stack)); at = t.at; shown = at }) ∷ []
shown Quotes at b t = quotes (has_text (kind_in t.stack)) t.at at

-- events put before those that were told before, the latest first
abbrev pub pushed : List Event → List Event → List Event
pushed [] told = told
pushed (e ∷ es) told = pushed es (e ∷ told)

-- where the reading of a document stands: its scan, how many bytes there were, the open tokens and all that was shown, the latest first
pub record Reading : Type 0 where
  pub scan : Scan
  pub offset : ℕ
  pub tokens : Tokens
  pub told : List Event

-- no token
abbrev pub no_tokens : Tokens
no_tokens = record { at = 0; name = []; attribute = []; is_read = false; value = []; values = no_values; word_at = 0; word = []; stack = [] }

-- at the beginning of a document
abbrev pub at_start : Reading
at_start = record { scan = start; offset = 0; tokens = no_tokens; told = [] }

-- after a byte that leads the scan on
abbrev pub on : Reading → ℕ → Scan → Reading
on r b s = let a = act r.scan.part s.part in record {
  scan = s;
  offset = r.offset + 1;
  tokens = after a r.offset b r.tokens;
  told = pushed (shown a r.offset b r.tokens) r.told;
}

-- after a byte, where the scan goes on
abbrev pub led : Reading → ℕ → Option Scan → Option Reading
led r b None = None
led r b (Some s) = Some (on r b s)

-- after a byte, where a document goes on with it
abbrev pub step : Reading → ℕ → Option Reading
step r b = led r b (next r.scan b)

-- after some bytes, where a document goes on with each
abbrev pub reads : Option Reading → List ℕ → Option Reading
reads o [] = o
reads None (b ∷ bs) = None
reads (Some r) (b ∷ bs) = reads (step r b) bs
