-- What a document shows as it goes on: its tags, words, ampersands and CDATA, each at the byte that ends it.
use Rattle.std.specs.Prelude.{ℕ, ◌+◌, ◌-◌, Bool, true, false, ◌==◌, ◌&&◌, ◌||◌, not, nat_lt, List, [], ◌∷◌, ◌++◌, length, codes, bytes_eq, flat_map, Option, Some, None, is_none, if◌then◌else◌}
use Rattle.landxml_read.specs.declared.kind.Kind.{Kind}
use Rattle.landxml_read.specs.declared.kind.Kind.TheVariants.{Outside}
use Rattle.landxml_read.specs.declared.values.Values.{Values}
use Rattle.landxml_read.specs.declared.fault.DocCause.{DocCause}
use Rattle.landxml_read.specs.declared.fault.DocCause.TheVariants as cause
use Rattle.landxml_read.specs.Markup.{is_white, Attribute, StartTag, EndTag, Content, Nothing, Byte, Comment, Instruction, CData, Empty, Element, content_text, start_text, empty_text, end_text, Document, mark}
use Rattle.landxml_read.specs.Elements.{below}
use Rattle.landxml_read.specs.Values.{decoded}
use Rattle.landxml_read.specs.Words.{Word}
use Rattle.landxml_read.specs.Faults.{Fault, fault, when, read_name, is_long, must_have, is_bad_unit, is_bad_surface, is_bad_break, is_bad_boundary, has_text, has_numbers, is_miscounted}
use Rattle.landxml_read.specs.Numbers.{decimal_of, is_over}

-- values

-- the attribute of this name is read
abbrev pub is_read_name : Option (List ℕ) → List ℕ → Bool
is_read_name None name = false
is_read_name (Some read) name = bytes_eq name read

-- of no value
abbrev pub no_values : Values
no_values = record { is_there = false; is_twice = false; is_long = false; is_unlisted = false; first = None }

-- with one more value, decoded where its references are listed
abbrev pub with_value : Values → Option (List ℕ) → Values
with_value v text = record {
  is_there = true;
  is_twice = v.is_twice || v.is_there;
  is_long = v.is_long || is_long text;
  is_unlisted = v.is_unlisted || is_none text;
  first = if v.is_there then v.first else text;
}

-- with the attribute's value, where it is the one that is read
abbrev pub with_attribute : Option (List ℕ) → Values → Attribute → Values
with_attribute read v a = if is_read_name read a.name then with_value v (decoded a.value) else v

-- with those of further attributes
abbrev pub with_attributes : Option (List ℕ) → Values → List Attribute → Values
with_attributes read v [] = v
with_attributes read v (a ∷ attributes) = with_attributes read (with_attribute read v a) attributes

-- events

-- the tag of an element
pub record Opening : Type 0 where
  pub kind : Kind
  pub depth : ℕ
  pub at : ℕ
  pub name : List ℕ
  pub values : Values
  pub shown : ℕ

-- the end of an element
pub record Closing : Type 0 where
  pub kind : Kind
  pub words : ℕ
  pub is_misnamed : Bool
  pub at : ℕ
  pub shown : ℕ

-- what is shown: a tag, a word of an element of a kind at the byte after it, an ampersand, CDATA at an offset by the last byte of what opens it, an end
pub data Event : Type 0 where
  Opened : Opening → Event
  Read : Kind → Word → ℕ → Event
  Ampersand : ℕ → Event
  Quoted : ℕ → ℕ → Event
  Closed : Closing → Event

-- the causes whose test holds, as faults of a place that are shown by the byte at an offset
abbrev pub causes : ℕ → ℕ → List (Bool × DocCause) → List Fault
causes shown at [] = []
causes shown at (row ∷ rows) = when row.0 (fault shown row.1 at) ++ causes shown at rows

-- the causes of the values of a read attribute
abbrev pub value_rows : Kind → Values → List (Bool × DocCause)
value_rows kind v =
    (v.is_unlisted, cause.Entity)
    ∷ ((must_have kind && not v.is_there) || v.is_twice, cause.Attr)
    ∷ (is_bad_unit kind v.first, cause.Unit)
    ∷ (is_bad_surface kind v.is_there v.first, cause.SurfType)
    ∷ (is_bad_break kind v.is_there v.first, cause.BrkType)
    ∷ (is_bad_boundary kind v.first, cause.BndType)
    ∷ []

-- the causes of a tag
abbrev pub opening_rows : Opening → List (Bool × DocCause)
opening_rows o =
    (o.depth == 1 && not (bytes_eq o.name (codes "LandXML")), cause.Root)
    ∷ (nat_lt 64 o.depth, cause.Depth)
    ∷ (nat_lt 255 (length o.name) || o.values.is_long, cause.Long)
    ∷ value_rows o.kind o.values

-- the causes of an end
abbrev pub closing_rows : Closing → List (Bool × DocCause)
closing_rows c = (c.is_misnamed, cause.Tag) ∷ (is_miscounted c.kind c.words, cause.Count) ∷ []

-- the causes of a word
abbrev pub word_rows : Kind → Word → List (Bool × DocCause)
word_rows kind w =
    (nat_lt 255 (length w.text), cause.Long)
    ∷ (has_numbers kind && is_none (decimal_of w.text), cause.Number)
    ∷ (has_numbers kind && is_over (decimal_of w.text), cause.Big)
    ∷ []

-- the faults of a tag
abbrev pub opening_faults : Opening → List Fault
opening_faults o = causes o.shown o.at (opening_rows o)

-- the faults of an end
abbrev pub closing_faults : Closing → List Fault
closing_faults c = causes c.shown c.at (closing_rows c)

-- the faults that are shown
abbrev pub event_faults : Event → List Fault
event_faults (Opened o) = opening_faults o
event_faults (Read kind w shown) = causes shown w.at (word_rows kind w)
event_faults (Ampersand at) = causes at at ((true, cause.Entity) ∷ [])
event_faults (Quoted at shown) = causes shown at ((true, cause.Entity) ∷ [])
event_faults (Closed c) = closing_faults c

-- words that are open

-- no word
abbrev pub no_word : Word
no_word = record { at = 0; text = [] }

-- one more byte of a word, which begins there where none is open
abbrev pub longer : ℕ → ℕ → Word → Word
longer at b w = started w.text where
  started : List ℕ → Word
  started [] = record { at = at; text = b ∷ [] }
  started (c ∷ cs) = record { at = w.at; text = (c ∷ cs) ++ b ∷ [] }

-- the word that is open, where one is
abbrev pub finished : Word → List Word
finished w = of_text w.text where
  of_text : List ℕ → List Word
  of_text [] = []
  of_text (b ∷ bs) = w ∷ []

-- the open word after a byte of text
abbrev pub word_after : Bool → ℕ → ℕ → Word → Word
word_after has_text at b w = if has_text then (if is_white b then no_word else longer at b w) else no_word

-- the word that a byte of text ends
abbrev pub ended_by : Bool → ℕ → Word → List Word
ended_by has_text b w = if has_text && is_white b then finished w else []

-- an ampersand in text
abbrev pub ampersands : Bool → ℕ → ℕ → List Event
ampersands has_text at b = if has_text && b == 38 then Ampersand at ∷ [] else []

-- words that the byte at an offset ends
abbrev pub read : Kind → ℕ → List Word → List Event
read kind shown [] = []
read kind shown (w ∷ ws) = Read kind w shown ∷ read kind shown ws

-- CDATA in text
abbrev pub quotes : Bool → ℕ → ℕ → List Event
quotes has_text at shown = if has_text then Quoted at shown ∷ [] else []

-- the words of content that begins at an offset, after an open word
abbrev pub words_read : Bool → ℕ → Word → Content → List Word
words_read has_text at w Nothing = finished w
words_read has_text at w (Byte b after) = ended_by has_text b w ++ words_read has_text (at + 1) (word_after has_text at b w) after
words_read has_text at w (Comment bytes after) = finished w ++ words_read has_text (at + (length bytes + 7)) no_word after
words_read has_text at w (Instruction bytes after) = finished w ++ words_read has_text (at + (length bytes + 4)) no_word after
words_read has_text at w (CData bytes after) = finished w ++ words_read has_text (at + (length bytes + 12)) no_word after
words_read has_text at w (Empty tag after) = finished w ++ words_read has_text (at + length (empty_text tag)) no_word after
words_read has_text at w (Element tag inside end after) =
    finished w ++ words_read has_text (at + length (start_text tag) + length (content_text inside) + length (end_text end)) no_word after

-- the tag of an element in one of a kind, with so many elements open round it
abbrev pub opening : Kind → ℕ → ℕ → StartTag → ℕ → Opening
opening kind depth at tag shown =
    let own = below kind tag.name in
    record { kind = own; depth = depth + 1; at = at; name = tag.name; values = with_attributes (read_name own) no_values tag.attributes; shown = shown }

-- an element of one tag
abbrev pub empty_events : Kind → ℕ → ℕ → StartTag → List Event
empty_events kind depth at tag =
    let last = at + length (empty_text tag) - 1 in
    Opened (opening kind depth at tag last) ∷ Closed (record { kind = below kind tag.name; words = 0; is_misnamed = false; at = at; shown = last }) ∷ []

-- the end of an element
abbrev pub closing : Kind → ℕ → StartTag → Content → EndTag → Closing
closing kind at tag inside end =
    let inside_at = at + length (start_text tag) in
    let end_at = inside_at + length (content_text inside) in
    record {
      kind = below kind tag.name;
      words = length (words_read (has_text (below kind tag.name)) inside_at no_word inside);
      is_misnamed = not (bytes_eq end.name tag.name);
      at = end_at;
      shown = end_at + length (end_text end) - 1;
    }

-- what content shows that begins at an offset after an open word, in an element of a kind, with so many elements open
abbrev pub events : Kind → ℕ → ℕ → Word → Content → List Event
events kind depth at w Nothing = read kind at (finished w)
events kind depth at w (Byte b after) =
    (read kind at (ended_by (has_text kind) b w) ++ ampersands (has_text kind) at b) ++ events kind depth (at + 1) (word_after (has_text kind) at b w) after
events kind depth at w (Comment bytes after) = read kind at (finished w) ++ events kind depth (at + (length bytes + 7)) no_word after
events kind depth at w (Instruction bytes after) = read kind at (finished w) ++ events kind depth (at + (length bytes + 4)) no_word after
events kind depth at w (CData bytes after) =
    read kind at (finished w) ++ (quotes (has_text kind) at (at + 8) ++ events kind depth (at + (length bytes + 12)) no_word after)
events kind depth at w (Empty tag after) =
    read kind at (finished w) ++ (empty_events kind depth at tag ++ events kind depth (at + length (empty_text tag)) no_word after)
events kind depth at w (Element tag inside end after) =
    read kind at (finished w)
    ++ (Opened (opening kind depth at tag (at + length (start_text tag) - 1))
    ∷ (events (below kind tag.name) (depth + 1) (at + length (start_text tag)) no_word inside
    ++ (Closed (closing kind at tag inside end)
    ∷ events kind depth (at + length (start_text tag) + length (content_text inside) + length (end_text end)) no_word after)))

-- what a document shows
abbrev pub document_events : Document → List Event
document_events d = events Outside 0 (length (mark d)) no_word d.body

-- the faults that a document shows, in the order in which it shows them
abbrev pub shown_faults : Document → List Fault
shown_faults d = flat_map event_faults (document_events d)
