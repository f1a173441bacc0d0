-- The text of a report.
use Rattle.std.specs.Prelude.{ℕ, ℤ, List, [], ◌∷◌, ◌++◌, codes}
use Rattle.std.specs.Fmt.{decimal, signed_decimal}
use Rattle.trial.specs.declared.report.Report.{Report}

-- a word and a count after it
unfoldable pub counted : List ℕ → ℕ → List ℕ
counted word count = word ++ decimal count

-- a word and a signed number after it
unfoldable pub measured : List ℕ → ℤ → List ℕ
measured word number = word ++ signed_decimal number

-- what was run, and how many edits were made
abbrev pub course_text : Report → List ℕ
course_text r = counted (codes "trial ") r.seed ++ counted (codes " ") r.count ++ counted (codes " front ") r.front

-- what there is, and what was refused and in conflict
abbrev pub counts_text : Report → List ℕ
counts_text r = counted (codes " points ") r.points ++ counted (codes " lines ") r.lines ++ counted (codes " refused ") r.refused ++ counted (codes " conflicts ") r.conflicts ++ counted (codes " facets ") r.facets

-- the volume, in sixths of a cubic thousandth
abbrev pub volume_text : ℤ → ℤ → ℤ → List ℕ
volume_text cut fill net = measured (codes " cut ") cut ++ measured (codes " fill ") fill ++ measured (codes " net ") net

-- the whole text: one line, with its end
unfoldable pub report_text : Report → List ℕ
report_text r = course_text r ++ counts_text r ++ volume_text r.cut r.fill r.net ++ 10 ∷ []
