-- The lines of faults.
use Rattle.std.specs.Prelude.{ℕ, List, [], ◌∷◌, ◌++◌, codes}
use Rattle.ground_num.specs.declared.head.Origin.{Origin}
use Rattle.ground_model.specs.declared.refusal.Refusal.{Refusal}
use Rattle.landxml_read.specs.declared.fault.DocCause.{DocCause}
use Rattle.landxml_read.specs.declared.fault.DocCause.TheVariants.{Utf8, Doctype, Syntax, Cut, Root, Depth, Tag, Long, Entity, Attr, Unit as BadUnit, SurfType, BrkType, BndType, Number, Big, Count, Range, NoHeight, Id, Face}
use Rattle.line_protocol.specs.Replies.{spaced, reason_text}

-- the word of a cause
abbrev pub cause_word : DocCause → List ℕ
cause_word Utf8 = codes "utf8"
cause_word Doctype = codes "doctype"
cause_word Syntax = codes "syntax"
cause_word Cut = codes "cut"
cause_word Root = codes "root"
cause_word Depth = codes "depth"
cause_word Tag = codes "tag"
cause_word Long = codes "long"
cause_word Entity = codes "entity"
cause_word Attr = codes "attr"
cause_word BadUnit = codes "unit"
cause_word SurfType = codes "surftype"
cause_word BrkType = codes "brktype"
cause_word BndType = codes "bndtype"
cause_word Number = codes "number"
cause_word Big = codes "big"
cause_word Count = codes "count"
cause_word Range = codes "range"
cause_word NoHeight = codes "noheight"
cause_word Id = codes "id"
cause_word Face = codes "face"

-- a fault of a document at an offset
abbrev pub document_line : ℕ → List ℕ → List ℕ
document_line at word = codes "fault document" ++ spaced at ++ 32 ∷ word ++ 10 ∷ []

-- the surface that is asked for isn't in a document of so many bytes
abbrev pub missing_line : ℕ → List ℕ
missing_line size = document_line size (codes "no-surface")

-- a document with too many bytes
abbrev pub too_large_line : List ℕ
too_large_line = codes "fault too-large" ++ 10 ∷ []

-- a surface, counted from 1, of which a line, counted from 1, or a point, told by 0, is refused
abbrev pub refused_line : ℕ → ℕ → Origin → Refusal → List ℕ
refused_line number line origin cause = codes "fault surface" ++ spaced number ++ spaced line ++ 32 ∷ reason_text origin cause ++ 10 ∷ []
