-- How a document goes on from the left, byte by byte.
use Rattle.std.specs.Prelude.{ℕ, zero, suc, ◌+◌, ◌<◌, ◌^◌, Bool, true, false, ◌==◌, ◌&&◌, ◌||◌, List, [], ◌∷◌, Option, Some, None, if◌then◌else◌}
use Rattle.landxml_read.specs.Markup.{is_white, is_free, begins_name, is_in_name, is_in_value}
use Rattle.landxml_read.specs.declared.scan.Scan.{Scan}
use Rattle.landxml_read.specs.declared.level.Level.{Level}
use Rattle.landxml_read.specs.declared.level.Level.TheVariants.{Before, Inside, After}
use Rattle.landxml_read.specs.declared.scan.Part.{Part}
use Rattle.landxml_read.specs.declared.scan.Part.TheVariants.{Start, MarkFirst, MarkSecond, Text, Open, Bang, BangDash, Bracket, BracketC, BracketCd, BracketCda, BracketCdat, BracketCdata, In, Tag, EndOpen, EndName, EndWhite}
use Rattle.landxml_read.specs.declared.skipped.Skipped.{Skipped}
use Rattle.landxml_read.specs.declared.skipped.Skipped.TheVariants.{Comment, CommentDash, CommentDashes, Instruction, InstructionMark, CData, CDataBracket, CDataBrackets}
use Rattle.landxml_read.specs.declared.tag.TagPart.{TagPart}
use Rattle.landxml_read.specs.declared.tag.TagPart.TheVariants.{Name, White, Attribute, BeforeEquals, AfterEquals, DoubleQuoted, SingleQuoted, AfterValue, Slash}

-- the level after a start tag
abbrev pub opened : Level → Level
opened Before = Inside 0
opened (Inside k) = Inside (suc k)
opened After = Inside 0

-- the level after an empty element
abbrev pub passed : Level → Level
passed Before = After
passed (Inside k) = Inside k
passed After = After

-- the level after an end tag
abbrev pub closed : Level → Level
closed Before = After
closed (Inside zero) = After
closed (Inside (suc k)) = Inside k
closed After = After

-- an element is open
abbrev pub is_inside : Level → Bool
is_inside (Inside k) = true
is_inside Before = false
is_inside After = false

-- an element may begin
abbrev pub is_unclosed : Level → Bool
is_unclosed Before = true
is_unclosed (Inside k) = true
is_unclosed After = false

-- how many elements are open in the root
abbrev pub inner_depth : Level → ℕ
inner_depth Before = 0
inner_depth (Inside k) = k
inner_depth After = 0

-- fewer than 2 ^ 32 - 1 elements are open in the root
abbrev pub IsShallow : Level → Type 0
IsShallow level = inner_depth level + 1 < 2 ^ 32

-- the scan in a part at a level
abbrev pub at : Level → Part → Option Scan
at level part = Some (record { part = part; level = level })

-- on in a part where the byte is this one
abbrev pub only : ℕ → ℕ → Level → Part → Option Scan
only byte b level part = if b == byte then at level part else None

-- between markup
abbrev pub text_next : Level → ℕ → Option Scan
text_next level b = if b == 60 then at level Open else (if is_white b || (is_inside level && is_free b) then at level Text else None)

-- after <
abbrev pub open_next : Level → ℕ → Option Scan
open_next level b =
    if b == 33 then at level Bang
    else (if b == 63 then at level (In Instruction)
    else (if b == 47 && is_inside level then at level EndOpen
    else (if begins_name b && is_unclosed level then at level (Tag Name) else None)))

-- after <!
abbrev pub bang_next : Level → ℕ → Option Scan
bang_next level b = if b == 45 then at level BangDash else (if b == 91 && is_inside level then at level Bracket else None)

-- at a byte that is no part of an end
abbrev pub skipping : Level → Skipped → ℕ → Option Scan
skipping level part b = if is_free b then at level (In part) else None

-- in a comment, a processing instruction or CDATA
abbrev pub skipped_next : Level → Skipped → ℕ → Option Scan
skipped_next level Comment b = if b == 45 then at level (In CommentDash) else skipping level Comment b
skipped_next level CommentDash b = if b == 45 then at level (In CommentDashes) else skipping level Comment b
skipped_next level CommentDashes b =
    if b == 62 then at level Text else (if b == 45 then at level (In CommentDashes) else skipping level Comment b)
skipped_next level Instruction b = if b == 63 then at level (In InstructionMark) else skipping level Instruction b
skipped_next level InstructionMark b =
    if b == 62 then at level Text else (if b == 63 then at level (In InstructionMark) else skipping level Instruction b)
skipped_next level CData b = if b == 93 then at level (In CDataBracket) else skipping level CData b
skipped_next level CDataBracket b = if b == 93 then at level (In CDataBrackets) else skipping level CData b
skipped_next level CDataBrackets b =
    if b == 62 then at level Text else (if b == 93 then at level (In CDataBrackets) else skipping level CData b)

-- where a tag may end
abbrev pub tag_end : Level → ℕ → Option Scan
tag_end level b = if b == 62 then at (opened level) Text else (if b == 47 then at level (Tag Slash) else None)

-- where white may stand, or the tag end
abbrev pub white_or_end : Level → ℕ → Option Scan
white_or_end level b = if is_white b then at level (Tag White) else tag_end level b

-- before a quote
abbrev pub before_quote : Level → ℕ → Option Scan
before_quote level b =
    if is_white b then at level (Tag AfterEquals)
    else (if b == 34 then at level (Tag DoubleQuoted) else (if b == 39 then at level (Tag SingleQuoted) else None))

-- in a value
abbrev pub value_next : Level → TagPart → ℕ → ℕ → Option Scan
value_next level part quote b =
    if b == quote then at level (Tag AfterValue) else (if is_in_value quote b then at level (Tag part) else None)

-- in a start tag
abbrev pub tag_next : Level → TagPart → ℕ → Option Scan
tag_next level Name b = if is_in_name b then at level (Tag Name) else white_or_end level b
tag_next level White b = if begins_name b then at level (Tag Attribute) else white_or_end level b
tag_next level Attribute b =
    if is_in_name b then at level (Tag Attribute)
    else (if is_white b then at level (Tag BeforeEquals) else only 61 b level (Tag AfterEquals))
tag_next level BeforeEquals b = if is_white b then at level (Tag BeforeEquals) else only 61 b level (Tag AfterEquals)
tag_next level AfterEquals b = before_quote level b
tag_next level DoubleQuoted b = value_next level DoubleQuoted 34 b
tag_next level SingleQuoted b = value_next level SingleQuoted 39 b
tag_next level AfterValue b = white_or_end level b
tag_next level Slash b = only 62 b (passed level) Text

-- after the name of an end tag
abbrev pub end_next : Level → ℕ → Option Scan
end_next level b = if is_white b then at level EndWhite else only 62 b (closed level) Text

-- in a part at a level
abbrev pub part_next : Level → Part → ℕ → Option Scan
part_next level Start b = if b == 0xEF then at level MarkFirst else text_next level b
part_next level MarkFirst b = only 0xBB b level MarkSecond
part_next level MarkSecond b = only 0xBF b level Text
part_next level Text b = text_next level b
part_next level Open b = open_next level b
part_next level Bang b = bang_next level b
part_next level BangDash b = only 45 b level (In Comment)
part_next level Bracket b = only 67 b level BracketC
part_next level BracketC b = only 68 b level BracketCd
part_next level BracketCd b = only 65 b level BracketCda
part_next level BracketCda b = only 84 b level BracketCdat
part_next level BracketCdat b = only 65 b level BracketCdata
part_next level BracketCdata b = only 91 b level (In CData)
part_next level (In part) b = skipped_next level part b
part_next level (Tag part) b = tag_next level part b
part_next level EndOpen b = if begins_name b then at level EndName else None
part_next level EndName b = if is_in_name b then at level EndName else end_next level b
part_next level EndWhite b = end_next level b

-- the scan after a byte, where a document goes on with it
abbrev pub next : Scan → ℕ → Option Scan
next s b = part_next s.level s.part b

-- after <!
abbrev pub is_bang : Part → Bool
is_bang Bang = true
is_bang _ = false

-- a document may end here
abbrev pub is_final : Scan → Bool
is_final s = of_part s.part s.level where
  of_part : Part → Level → Bool
  of_part Text After = true
  of_part _ _ = false

-- at the beginning of a document
abbrev pub start : Scan
start = record { part = Start; level = Before }

-- the scan after some bytes, where a document goes on with each
abbrev pub run : Option Scan → List ℕ → Option Scan
run o [] = o
run None (b ∷ bs) = None
run (Some s) (b ∷ bs) = run (next s b) bs
