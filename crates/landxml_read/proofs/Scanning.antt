-- Each state of the scan goes on to a document, so a byte that no state takes is the first fault.
use Rattle.std.proofs.Common.{◌≡◌, ℕ, zero, suc, true, false, List, [], ◌∷◌, ◌++◌, codes, length, Option, None, Some, refl, sym, ◌∙◌, ap, subst}
use Rattle.landxml_read.specs.Markup.{IsDocumentText}
use Rattle.landxml_read.specs.declared.scan.Scan.{Scan}
use Rattle.landxml_read.specs.declared.level.Level.{Level}
use Rattle.landxml_read.specs.declared.level.Level.TheVariants.{Before, Inside, After}
use Rattle.landxml_read.specs.declared.scan.Part.{Part}
use Rattle.landxml_read.specs.declared.scan.Part.TheVariants.{Start, MarkFirst, MarkSecond, Text, Open, Bang, BangDash, Bracket, BracketC, BracketCd, BracketCda, BracketCdat, BracketCdata, In, Tag, EndOpen, EndName, EndWhite}
use Rattle.landxml_read.specs.declared.skipped.Skipped.{Skipped}
use Rattle.landxml_read.specs.declared.skipped.Skipped.TheVariants.{Comment, CommentDash, CommentDashes, Instruction, InstructionMark, CData, CDataBracket, CDataBrackets}
use Rattle.landxml_read.specs.declared.tag.TagPart.{TagPart}
use Rattle.landxml_read.specs.declared.tag.TagPart.TheVariants.{Name, White, Attribute, BeforeEquals, AfterEquals, DoubleQuoted, SingleQuoted, AfterValue, Slash}
use Rattle.landxml_read.specs.Scan.{passed, closed, next, is_final, start, run}
use Rattle.landxml_read.proofs.Bytes.{clash}
use Rattle.landxml_read.proofs.Accepting.{Ends, accepts}
use Rattle.landxml_read.proofs.FirstFaults.{fault_at, no_fault}
use Rattle.landxml_read.proofs.Running.{from}
use Rattle.landxml_read.proofs.Accepted.{accepted}
use Rattle.ground_num.specs.FirstFault.{Begins, IsFirstFault}

-- what closes the elements that are open
abbrev closing : Level → List ℕ
closing Before = codes "<a/>"
closing (Inside k) = ends k where
  ends : ℕ → List ℕ
  ends zero = codes "</a>"
  ends (suc k) = codes "</a>" ++ ends k
closing After = []

closed_well : (L : Level) → Ends (from Text L (closing L))
closed_well Before = refl
closed_well After = refl
closed_well (Inside zero) = refl
closed_well (Inside (suc k)) = closed_well (Inside k)

abbrev Alive : Part → Level → Type 0
Alive part L = (more : List ℕ) × Ends (from part L more)

skipped_alive : (part : Skipped) (L : Level) → Alive (In part) L
skipped_alive Comment L = (codes "-->" ++ closing L, closed_well L)
skipped_alive CommentDash L = (codes "->" ++ closing L, closed_well L)
skipped_alive CommentDashes L = (codes ">" ++ closing L, closed_well L)
skipped_alive Instruction L = (codes "?>" ++ closing L, closed_well L)
skipped_alive InstructionMark L = (codes ">" ++ closing L, closed_well L)
skipped_alive CData L = (codes "]]>" ++ closing L, closed_well L)
skipped_alive CDataBracket L = (codes "]>" ++ closing L, closed_well L)
skipped_alive CDataBrackets L = (codes ">" ++ closing L, closed_well L)

tag_alive : (part : TagPart) (L : Level) → Alive (Tag part) L
tag_alive Name L = (codes "/>" ++ closing (passed L), closed_well (passed L))
tag_alive White L = (codes "/>" ++ closing (passed L), closed_well (passed L))
tag_alive Attribute L = (codes "=''/>" ++ closing (passed L), closed_well (passed L))
tag_alive BeforeEquals L = (codes "=''/>" ++ closing (passed L), closed_well (passed L))
tag_alive AfterEquals L = (codes "''/>" ++ closing (passed L), closed_well (passed L))
tag_alive DoubleQuoted L = (34 ∷ codes "/>" ++ closing (passed L), closed_well (passed L))
tag_alive SingleQuoted L = (codes "'/>" ++ closing (passed L), closed_well (passed L))
tag_alive AfterValue L = (codes "/>" ++ closing (passed L), closed_well (passed L))
tag_alive Slash L = (codes ">" ++ closing (passed L), closed_well (passed L))

alive : (part : Part) (L : Level) → Alive part L
alive Start L = (codes "<??>" ++ closing L, closed_well L)
alive MarkFirst L = (0xBB ∷ 0xBF ∷ closing L, closed_well L)
alive MarkSecond L = (0xBF ∷ closing L, closed_well L)
alive Text L = (closing L, closed_well L)
alive Open L = (codes "??>" ++ closing L, closed_well L)
alive Bang L = (codes "---->" ++ closing L, closed_well L)
alive BangDash L = (codes "--->" ++ closing L, closed_well L)
alive Bracket L = (codes "CDATA[]]>" ++ closing L, closed_well L)
alive BracketC L = (codes "DATA[]]>" ++ closing L, closed_well L)
alive BracketCd L = (codes "ATA[]]>" ++ closing L, closed_well L)
alive BracketCda L = (codes "TA[]]>" ++ closing L, closed_well L)
alive BracketCdat L = (codes "A[]]>" ++ closing L, closed_well L)
alive BracketCdata L = (codes "[]]>" ++ closing L, closed_well L)
alive (In part) L = skipped_alive part L
alive (Tag part) L = tag_alive part L
alive EndOpen L = (codes "a>" ++ closing (closed L), closed_well (closed L))
alive EndName L = (codes ">" ++ closing (closed L), closed_well (closed L))
alive EndWhite L = (codes ">" ++ closing (closed L), closed_well (closed L))

-- runs

run_none : (bs : List ℕ) → run None bs ≡ None
run_none [] = refl
run_none (b ∷ bs) = refl

pub run_more : (o : Option Scan) (xs ys : List ℕ) → run o (xs ++ ys) ≡ run (run o xs) ys
run_more o [] ys = refl
run_more None (x ∷ xs) ys = sym (run_none ys)
run_more (Some s) (x ∷ xs) ys = run_more (next s x) xs ys

-- the bytes that the scan has taken begin a document
pub begun : (xs : List ℕ) (s : Scan) → run (Some start) xs ≡ Some s → Begins IsDocumentText xs
begun xs s e =
    let a = alive s.part s.level in
    let P : Option Scan → Type 0 = Ends in
    (a.0, accepts (xs ++ a.0) start (subst P (sym (run_more (Some start) xs a.0 ∙ ap (λ o. run o a.0) e)) a.1) refl)

-- with a byte that the scan doesn't take, no document begins so
pub not_begun : (xs : List ℕ) (s : Scan) (b : ℕ) (more : List ℕ) → run (Some start) xs ≡ Some s → next s b ≡ None → IsDocumentText (xs ++ b ∷ more) → ⊥
not_begun xs s b more e none d =
    let P : Option Scan → Type 0 = Ends in
    subst P (ap (run (Some start)) (sym d.2) ∙ run_more (Some start) xs (b ∷ more) ∙ ap (λ o. run o (b ∷ more)) e ∙ ap (λ o. run o more) none ∙ run_none more) (accepted d.0 d.1)

-- where the scan may end, the bytes are a document
pub whole : (xs : List ℕ) (s : Scan) → run (Some start) xs ≡ Some s → is_final s ≡ true → IsDocumentText xs
whole xs s e final = let P : Option Scan → Type 0 = Ends in accepts xs start (subst P (sym e) final) refl

-- and elsewhere they are none
pub not_whole : (xs : List ℕ) (s : Scan) → run (Some start) xs ≡ Some s → is_final s ≡ false → ¬ (IsDocumentText xs)
not_whole xs s e open_end d =
    let P : Option Scan → Type 0 = Ends in
    let final : is_final s ≡ true = subst P (ap (run (Some start)) (sym d.2) ∙ e) (accepted d.0 d.1) in
    clash _ final open_end

-- the first fault after what the scan has taken
pub fault_after : (xs : List ℕ) (s : Scan) (b : ℕ) (more : List ℕ) → run (Some start) xs ≡ Some s → next s b ≡ None → IsFirstFault IsDocumentText (xs ++ b ∷ more) (length xs)
fault_after xs s b more e none = fault_at IsDocumentText xs b more (begun xs s e) (λ rest d. not_begun xs s b rest e none d)

-- and where the scan has taken all, there is none
pub no_fault_in : (xs : List ℕ) (s : Scan) → run (Some start) xs ≡ Some s → IsFirstFault IsDocumentText xs (length xs)
no_fault_in xs s e = no_fault IsDocumentText xs (begun xs s e)
