-- What bytes are read as: a tree without a fault, or the fault that their shortest beginning shows.
use Rattle.std.specs.Prelude.{◌≡◌, ℕ, ◌+◌, ◌<◌, ◌≤◌, ◌⊎◌, List, [], ◌++◌, length, take, drop, codes, Contains, IsUtf8}
use Rattle.ground_num.specs.FirstFault.{IsFirstFault}
use Rattle.landxml_read.specs.declared.fault.DocCause.{DocCause}
use Rattle.landxml_read.specs.declared.fault.DocCause.TheVariants.{Utf8, Doctype, Syntax, Cut, Root, Depth, Tag, Long, Entity, Attr, Unit as BadUnit, SurfType, BrkType, BndType, Number, Big, Count, Range, NoHeight, Id, Face}
use Rattle.landxml_read.specs.Markup.{Document, IsDocument, IsDocumentText, document_text}
use Rattle.landxml_read.specs.Faults.{Fault, tree_faults}

-- the beginning of n bytes is UTF-8, and no longer one is
pub record IsLastUtf8 (bytes : List ℕ) (n : ℕ) : Type 0 where
  pub is : IsUtf8 (take n bytes)
  pub last : (m : ℕ) → n < m → m ≤ length bytes → ¬ (IsUtf8 (take m bytes))

-- no UTF-8 goes on with the byte that shows it, or the bytes end inside a sequence; the place is where the sequence begins
abbrev pub IsNotUtf8 : List ℕ → Fault → Type 0
IsNotUtf8 bytes f = IsFirstFault IsUtf8 bytes f.show × IsLastUtf8 bytes f.place × (f.place < length bytes)

-- no document goes on with the byte that shows it
abbrev pub IsStray : List ℕ → Fault → Type 0
IsStray bytes f = IsFirstFault IsDocumentText bytes f.show × (f.show < length bytes)

-- some document begins with the bytes, and they are none
abbrev pub IsCut : List ℕ → Fault → Type 0
IsCut bytes f = IsFirstFault IsDocumentText bytes f.show × ¬ (IsDocumentText bytes) × (f.show ≡ length bytes)

-- the bytes up to the one that shows it begin a document that has the fault in its tree
abbrev pub IsOfTree : List ℕ → Fault → Type 0
IsOfTree bytes f =
    (f.show < length bytes)
    × ((more : List ℕ) × (d : Document) × IsDocument d × (take (f.show + 1) bytes ++ more ≡ document_text d) × Contains (tree_faults d) f)

-- the bytes show a fault of their encoding or markup, whatever the elements mean
abbrev pub ShowsOutline : List ℕ → Fault → Type 0
ShowsOutline bytes f = by_cause f.cause where
  by_cause : DocCause → Type 0
  by_cause Utf8 = IsNotUtf8 bytes f
  by_cause Doctype = IsStray bytes f × (f.place + 2 ≡ f.show) × (take 3 (drop f.place bytes) ≡ codes "<!D")
  by_cause Syntax = IsStray bytes f × (f.place ≡ f.show)
  by_cause Cut = IsCut bytes f × (f.place ≡ f.show)
  by_cause _ = ⊥

-- the bytes show the fault
abbrev pub Shows : List ℕ → Fault → Type 0
Shows bytes f = by_cause f.cause where
  by_cause : DocCause → Type 0
  by_cause Utf8 = ShowsOutline bytes f
  by_cause Doctype = ShowsOutline bytes f
  by_cause Syntax = ShowsOutline bytes f
  by_cause Cut = ShowsOutline bytes f
  by_cause _ = IsOfTree bytes f

-- the place of a cause in the table
abbrev pub rank : DocCause → ℕ
rank Utf8 = 0
rank Doctype = 1
rank Syntax = 2
rank Cut = 3
rank Root = 4
rank Depth = 5
rank Tag = 6
rank Long = 7
rank Entity = 8
rank Attr = 9
rank BadUnit = 10
rank SurfType = 11
rank BrkType = 12
rank BndType = 13
rank Number = 14
rank Big = 15
rank Count = 16
rank Range = 17
rank NoHeight = 18
rank Id = 19
rank Face = 20

-- shown by a shorter beginning, or by the same with a cause that stands no later in the table
abbrev pub IsBefore : Fault → Fault → Type 0
IsBefore f g = (f.show < g.show) ⊎ ((f.show ≡ g.show) × (rank f.cause ≤ rank g.cause))

-- the fault of the bytes
pub record IsFaultOf (bytes : List ℕ) (f : Fault) : Type 0 where
  pub shown : Shows bytes f
  pub first : (g : Fault) → Shows bytes g → IsBefore f g

-- the tree of the bytes
pub record IsTreeOf (bytes : List ℕ) (d : Document) : Type 0 where
  pub utf8 : IsUtf8 bytes
  pub shaped : IsDocument d
  pub text : bytes ≡ document_text d
  pub faultless : tree_faults d ≡ []

-- the fault of the bytes' encoding or markup
pub record IsOutlineFault (bytes : List ℕ) (f : Fault) : Type 0 where
  pub shown : ShowsOutline bytes f
  pub first : (g : Fault) → ShowsOutline bytes g → IsBefore f g
