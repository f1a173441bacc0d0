-- Runs of a reading over bytes that are UTF-8 by themselves.
use Rattle.std.proofs.Common.{◌≡◌, ℕ, List, [], ◌++◌, Some, refl, ◌∙◌, ap}
use Rattle.std.specs.Prelude.{unwrap_or}
use Rattle.landxml_read.specs.declared.utf8.Utf8.TheVariants.{Ready}
use Rattle.landxml_read.specs.declared.element.Element.{Element}
use Rattle.landxml_read.specs.declared.tokens.Tokens.{Tokens}
use Rattle.landxml_read.specs.declared.level.Level.TheVariants.{Inside}
use Rattle.landxml_read.specs.declared.scan.Part.TheVariants.{Text, Open}
use Rattle.landxml_read.specs.Events.{Event}
use Rattle.landxml_read.specs.Utf8.{utf8_run}
use Rattle.landxml_read.specs.Tokens.{Reading, reads}
use Rattle.landxml_read.proofs.Running.{reading, reads_more}
use Rattle.landxml_read.proofs.Encoded.{utf8_run_more}

-- the bytes lead a reading to another one, and end no sequence early
pub record Run (r : Reading) (bytes : List ℕ) (s : Reading) : Type 0 where
  pub reads : reads (Some r) bytes ≡ Some s
  pub utf8 : utf8_run (Some Ready) bytes ≡ Some Ready

pub run_none : (r : Reading) → Run r [] r
run_none r = record { reads = refl; utf8 = refl }

pub run_both : (r s u : Reading) (xs ys : List ℕ) → Run r xs s → Run s ys u → Run r (xs ++ ys) u
run_both r s u xs ys a b = record {
  reads = reads_more (Some r) xs ys ∙ ap (λ o. reads o ys) a.reads ∙ b.reads;
  utf8 = utf8_run_more (Some Ready) xs ys ∙ ap (λ o. utf8_run o ys) a.utf8 ∙ b.utf8;
}

-- where bytes lead
abbrev pub led_to : Reading → List ℕ → Reading
led_to r bytes = unwrap_or (reads (Some r) bytes) r

-- between markup, with some elements open and no word
abbrev pub stand : ℕ → List Element → ℕ → Tokens → List Event → Reading
stand k es n t told = reading Text (Inside k) n (record t { stack = es; word_at = 0; word = [] }) told

-- after a < there
abbrev pub opens : ℕ → List Element → ℕ → Tokens → List Event → Reading
opens k es n t told = reading Open (Inside k) n (record t { stack = es; word_at = 0; word = [] }) told

-- in a word there
abbrev pub worded : ℕ → List Element → ℕ → Tokens → List Event → List ℕ → ℕ → Reading
worded k es at t told text n = reading Text (Inside k) n (record t { stack = es; word_at = at; word = text }) told
