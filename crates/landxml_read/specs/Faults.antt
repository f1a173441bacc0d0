-- The faults of a tree, each with its place and the byte that shows it.
use Rattle.std.specs.Prelude.{ℕ, ◌+◌, ◌%◌, Bool, true, false, ◌==◌, ◌&&◌, ◌||◌, not, nat_lt, List, [], ◌∷◌, ◌++◌, length, map, filter, flat_map, codes, bytes_eq, Option, Some, None, is_none, if◌then◌else◌}
use Rattle.std.specs.List.{list_any}
use Rattle.landxml_read.specs.declared.fault.DocCause.{DocCause}
use Rattle.landxml_read.specs.declared.fault.DocCause.TheVariants as cause
use Rattle.landxml_read.specs.Markup.{Attribute, EndTag, Document, mark}
use Rattle.landxml_read.specs.declared.kind.Kind.{Kind}
use Rattle.landxml_read.specs.declared.kind.Kind.TheVariants.{Outside, UnitOf, Surface, Boundary, Breakline, Triples, Pairs, Definition, Point, Face}
use Rattle.landxml_read.specs.Elements.{Found, elements}
use Rattle.landxml_read.specs.Values.{decoded}
use Rattle.landxml_read.specs.Words.{Word, Placed, parts, words, word_end, is_ampersand, is_quoted}
use Rattle.landxml_read.specs.Numbers.{decimal_of, is_over}

-- a cause, its place, and the offset of the byte that shows it
pub record Fault : Type 0 where
  pub show : ℕ
  pub cause : DocCause
  pub place : ℕ

-- such a fault
abbrev pub fault : ℕ → DocCause → ℕ → Fault
fault show cause place = record { show = show; cause = cause; place = place }

-- the fault, where the test holds
abbrev pub when : Bool → Fault → List Fault
when holds f = if holds then f ∷ [] else []

-- read attributes

-- the attribute that is read of an element
abbrev pub read_name : Kind → Option (List ℕ)
read_name UnitOf = Some (codes "linearUnit")
read_name Surface = Some (codes "name")
read_name Boundary = Some (codes "bndType")
read_name Breakline = Some (codes "brkType")
read_name Definition = Some (codes "surfType")
read_name Point = Some (codes "id")
read_name _ = None

-- the values of the attributes of a name, as written
abbrev pub values_named : Option (List ℕ) → List Attribute → List (List ℕ)
values_named None attributes = []
values_named (Some name) attributes = map (λ a. a.value) (filter (λ a. bytes_eq a.name name) attributes)

-- the values of the element's read attribute, as written
abbrev pub raw_values : Found → List (List ℕ)
raw_values e = values_named (read_name e.kind) e.tag.attributes

-- the first value, decoded
abbrev pub first_decoded : List (List ℕ) → Option (List ℕ)
first_decoded [] = None
first_decoded (value ∷ values) = decoded value

-- the value of the element's read attribute
abbrev pub value_of : Found → Option (List ℕ)
value_of e = first_decoded (raw_values e)

-- a decoded value of more than 255 bytes
abbrev pub is_long : Option (List ℕ) → Bool
is_long None = false
is_long (Some text) = nat_lt 255 (length text)

-- a value that is one of some texts
abbrev pub is_one_of : List (List ℕ) → Option (List ℕ) → Bool
is_one_of texts None = false
is_one_of texts (Some value) = list_any (λ text. bytes_eq value text) texts

-- the three units
abbrev pub units : List (List ℕ)
units = codes "meter" ∷ codes "foot" ∷ codes "USSurveyFoot" ∷ []

-- the three kinds of a boundary
abbrev pub rings : List (List ℕ)
rings = codes "outer" ∷ codes "void" ∷ codes "island" ∷ []

-- an element that must have its attribute
abbrev pub must_have : Kind → Bool
must_have Surface = true
must_have Point = true
must_have _ = false

-- a Metric or Imperial without one of the three units
abbrev pub is_bad_unit : Kind → Option (List ℕ) → Bool
is_bad_unit UnitOf value = not (is_one_of units value)
is_bad_unit _ value = false

-- a Definition with a value that isn't TIN
abbrev pub is_bad_surface : Kind → Bool → Option (List ℕ) → Bool
is_bad_surface Definition is_there value = is_there && not (is_one_of (codes "TIN" ∷ []) value)
is_bad_surface _ is_there value = false

-- a Breakline with a value that isn't standard
abbrev pub is_bad_break : Kind → Bool → Option (List ℕ) → Bool
is_bad_break Breakline is_there value = is_there && not (is_one_of (codes "standard" ∷ []) value)
is_bad_break _ is_there value = false

-- a Boundary without one of the three kinds
abbrev pub is_bad_boundary : Kind → Option (List ℕ) → Bool
is_bad_boundary Boundary value = not (is_one_of rings value)
is_bad_boundary _ value = false

-- text

-- an element whose text is read
abbrev pub has_text : Kind → Bool
has_text Triples = true
has_text Pairs = true
has_text Point = true
has_text Face = true
has_text _ = false

-- one whose words are numbers
abbrev pub has_numbers : Kind → Bool
has_numbers Triples = true
has_numbers Pairs = true
has_numbers Point = true
has_numbers _ = false

-- one that doesn't have as many words as it must
abbrev pub is_miscounted : Kind → ℕ → Bool
is_miscounted Triples n = not (n % 3 == 0)
is_miscounted Pairs n = not (n % 2 == 0)
is_miscounted Point n = not (n == 3)
is_miscounted Face n = not (n == 3)
is_miscounted _ n = false

-- the parts of an element's text
abbrev pub parts_of : Found → List Placed
parts_of e = parts (e.tag_end + 1) e.inside

-- the table of causes

-- shown by the > of a tag
abbrev pub tag_faults : Found → List Fault
tag_faults e =
    let shown : DocCause → Fault = λ c. fault e.tag_end c e.at in
    let values = map decoded (raw_values e) in
    when (e.depth == 1 && not (bytes_eq e.tag.name (codes "LandXML"))) (shown cause.Root)
    ++ when (nat_lt 64 e.depth) (shown cause.Depth)
    ++ when (nat_lt 255 (length e.tag.name) || list_any is_long values) (shown cause.Long)
    ++ when (list_any is_none values) (shown cause.Entity)
    ++ when ((must_have e.kind && length values == 0) || nat_lt 1 (length values)) (shown cause.Attr)
    ++ when (is_bad_unit e.kind (value_of e)) (shown cause.Unit)
    ++ when (is_bad_surface e.kind (nat_lt 0 (length values)) (value_of e)) (shown cause.SurfType)
    ++ when (is_bad_break e.kind (nat_lt 0 (length values)) (value_of e)) (shown cause.BrkType)
    ++ when (is_bad_boundary e.kind (value_of e)) (shown cause.BndType)

-- an end tag of another name
abbrev pub is_misnamed : Option EndTag → List ℕ → Bool
is_misnamed None name = false
is_misnamed (Some end) name = not (bytes_eq end.name name)

-- shown by the > of an end tag, or of an empty element's tag
abbrev pub end_faults : Found → List Fault
end_faults e =
    let shown : DocCause → Fault = λ c. fault e.end_end c e.end_at in
    when (is_misnamed e.ending e.tag.name) (shown cause.Tag)
    ++ when (is_miscounted e.kind (length (words (parts_of e)))) (shown cause.Count)

-- shown by the byte after a word
abbrev pub word_faults : Kind → Word → List Fault
word_faults kind w =
    let shown : DocCause → Fault = λ c. fault (word_end w) c w.at in
    when (nat_lt 255 (length w.text)) (shown cause.Long)
    ++ when (has_numbers kind && is_none (decimal_of w.text)) (shown cause.Number)
    ++ when (has_numbers kind && is_over (decimal_of w.text)) (shown cause.Big)

-- shown by an ampersand, or by the whole of what opens CDATA
abbrev pub part_faults : Placed → List Fault
part_faults p =
    when (is_ampersand p.part) (fault p.at cause.Entity p.at)
    ++ when (is_quoted p.part) (fault (p.at + 8) cause.Entity p.at)

-- of an element's text
abbrev pub text_faults : Found → List Fault
text_faults e = if has_text e.kind then flat_map part_faults (parts_of e) ++ flat_map (word_faults e.kind) (words (parts_of e)) else []

-- of an element
abbrev pub element_faults : Found → List Fault
element_faults e = tag_faults e ++ text_faults e ++ end_faults e

-- the elements of a document
abbrev pub document_elements : Document → List Found
document_elements d = elements Outside 0 (length (mark d)) d.body

-- of a document
abbrev pub tree_faults : Document → List Fault
tree_faults d = flat_map element_faults (document_elements d)
