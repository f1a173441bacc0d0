-- What may follow in each part of a document's markup.
use Rattle.std.proofs.Common.{◌≡◌, ℕ, Bool, true, false, cond, List, ◌∷◌, ◌++◌, codes, Option, None, Some, refl}
use Rattle.landxml_read.specs.Markup.{is_white, IsDocumentText}
use Rattle.landxml_read.specs.declared.scan.Scan.{Scan}
use Rattle.landxml_read.specs.declared.level.Level.{Level}
use Rattle.landxml_read.specs.declared.level.Level.TheVariants.{Before}
use Rattle.landxml_read.specs.declared.scan.Part.{Part}
use Rattle.landxml_read.specs.declared.scan.Part.TheVariants.{Start, MarkFirst, MarkSecond, Text, Open, Bang, BangDash, Bracket, BracketC, BracketCd, BracketCda, BracketCdat, BracketCdata, In, Tag, EndOpen, EndName, EndWhite}
use Rattle.landxml_read.specs.declared.skipped.Skipped.{Skipped}
use Rattle.landxml_read.specs.declared.skipped.Skipped.TheVariants.{Comment, CommentDash, CommentDashes, Instruction, InstructionMark, CData, CDataBracket, CDataBrackets}
use Rattle.landxml_read.specs.declared.tag.TagPart.{TagPart}
use Rattle.landxml_read.specs.declared.tag.TagPart.TheVariants.{Name, White, Attribute, BeforeEquals, AfterEquals, DoubleQuoted, SingleQuoted, AfterValue, Slash}
use Rattle.landxml_read.specs.Scan.{passed, closed, is_inside}
use Rattle.landxml_read.proofs.Closing.{Until}
use Rattle.landxml_read.proofs.Following.{Rest, Attributes, Named, Spaced, Quoted, Valued}

-- a > and what may follow an empty element
pub record Slashed (L : Level) (ys : List ℕ) : Type 0 where
  pub rest : List ℕ
  pub after : Rest (passed L) rest
  pub text : ys ≡ 62 ∷ rest

-- what may follow in a comment, a processing instruction or CDATA
abbrev pub AcceptsSkipped : Skipped → Level → List ℕ → Type 0
AcceptsSkipped Comment L ys = Until (Rest L) (codes "-->") ys
AcceptsSkipped CommentDash L ys = Until (Rest L) (codes "-->") (45 ∷ ys)
AcceptsSkipped CommentDashes L ys = Until (Rest L) (codes "-->") (45 ∷ 45 ∷ ys)
AcceptsSkipped Instruction L ys = Until (Rest L) (codes "?>") ys
AcceptsSkipped InstructionMark L ys = Until (Rest L) (codes "?>") (63 ∷ ys)
AcceptsSkipped CData L ys = Until (Rest L) (codes "]]>") ys
AcceptsSkipped CDataBracket L ys = Until (Rest L) (codes "]]>") (93 ∷ ys)
AcceptsSkipped CDataBrackets L ys = Until (Rest L) (codes "]]>") (93 ∷ 93 ∷ ys)

-- what may follow in a tag
abbrev pub AcceptsTag : TagPart → Level → List ℕ → Type 0
AcceptsTag Name L ys = Named (Attributes L) ys
AcceptsTag White L ys = (w : ℕ) → is_white w ≡ true → Attributes L (w ∷ ys)
AcceptsTag Attribute L ys = Named (Spaced (Valued L) 61) ys
AcceptsTag BeforeEquals L ys = Spaced (Valued L) 61 ys
AcceptsTag AfterEquals L ys = Valued L ys
AcceptsTag DoubleQuoted L ys = Quoted L 34 ys
AcceptsTag SingleQuoted L ys = Quoted L 39 ys
AcceptsTag AfterValue L ys = Attributes L ys
AcceptsTag Slash L ys = Slashed L ys

-- what may follow in a part at a level
abbrev pub Accepts : Part → Level → List ℕ → Type 0
Accepts Start L ys = L ≡ Before → IsDocumentText ys
Accepts MarkFirst L ys = L ≡ Before → IsDocumentText (0xEF ∷ ys)
Accepts MarkSecond L ys = L ≡ Before → IsDocumentText (0xEF ∷ 0xBB ∷ ys)
Accepts Text L ys = Rest L ys
Accepts Open L ys = Rest L (60 ∷ ys)
Accepts Bang L ys = Rest L (60 ∷ 33 ∷ ys)
Accepts BangDash L ys = Rest L (60 ∷ 33 ∷ 45 ∷ ys)
Accepts Bracket L ys = is_inside L ≡ true → Rest L (codes "<![" ++ ys)
Accepts BracketC L ys = is_inside L ≡ true → Rest L (codes "<![C" ++ ys)
Accepts BracketCd L ys = is_inside L ≡ true → Rest L (codes "<![CD" ++ ys)
Accepts BracketCda L ys = is_inside L ≡ true → Rest L (codes "<![CDA" ++ ys)
Accepts BracketCdat L ys = is_inside L ≡ true → Rest L (codes "<![CDAT" ++ ys)
Accepts BracketCdata L ys = is_inside L ≡ true → Rest L (codes "<![CDATA" ++ ys)
Accepts (In part) L ys = AcceptsSkipped part L ys
Accepts (Tag part) L ys = AcceptsTag part L ys
Accepts EndOpen L ys = is_inside L ≡ true → Rest L (60 ∷ 47 ∷ ys)
Accepts EndName L ys = Named (Spaced (Rest (closed L)) 62) ys
Accepts EndWhite L ys = Spaced (Rest (closed L)) 62 ys

-- the scan goes on, and what may follow does
abbrev pub Continues : Option Scan → List ℕ → Type 0
Continues None ys = ⊥
Continues (Some s) ys = Accepts s.part s.level ys

pub by_test : (x : Bool) (o u : Option Scan) (ys : List ℕ) (G : Type 0) → (x ≡ true → Continues o ys → G) → (x ≡ false → Continues u ys → G) → Continues (cond x o u) ys → G
by_test true o u ys G first second c = first refl c
by_test false o u ys G first second c = second refl c
