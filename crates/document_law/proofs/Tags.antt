-- A value between quotes that ends a tag, read.
use Rattle.std.proofs.Common.{◌≡◌, ℕ, ◌+◌, true, ◌==◌, List, [], ◌∷◌, ◌++◌, length, codes, Option, Some, refl, ◌∙◌, ap}
use Rattle.std.specs.List.{list_all}
use Rattle.landxml_read.specs.Markup.{is_in_value}
use Rattle.landxml_read.specs.Values.{decoded}
use Rattle.landxml_read.specs.declared.utf8.Utf8.TheVariants.{Ready}
use Rattle.landxml_read.specs.declared.level.Level.{Level}
use Rattle.landxml_read.specs.declared.scan.Part.TheVariants.{Tag}
use Rattle.landxml_read.specs.declared.tag.TagPart.TheVariants.{DoubleQuoted, AfterValue}
use Rattle.landxml_read.specs.declared.tokens.Tokens.{Tokens}
use Rattle.landxml_read.specs.Events.{Event, with_value}
use Rattle.landxml_read.specs.Utf8.{utf8_run}
use Rattle.landxml_read.specs.Tokens.{Reading, reads, step}
use Rattle.landxml_read.proofs.Bytes.{both, flip_true}
use Rattle.landxml_read.proofs.Running.{reading, scan, goes, grows, reads_more, if_true, if_false}
use Rattle.landxml_read.proofs.Encoded.{utf8_run_more}
use Rattle.document_law.proofs.Runs.{Run, led_to}

-- in a value that is read, of which there is so much
abbrev pub valuing : Level → Tokens → List Event → List ℕ → ℕ → Reading
valuing L t told text n = reading (Tag DoubleQuoted) L n (record t { is_read = true; value = text }) told

-- after the value and the > of its tag, where the value stands for a text
abbrev pub tagged : Level → Tokens → List Event → List ℕ → Option (List ℕ) → ℕ → Reading
tagged L t told value text m =
    led_to (reading (Tag AfterValue) L (m + 1) (record t { is_read = true; value = value; values = with_value t.values text }) told) (62 ∷ [])

value_step : (L : Level) (t : Tokens) (told : List Event) (text : List ℕ) (n b : ℕ) → is_in_value 34 b ≡ true → step (valuing L t told text n) b ≡ Some (valuing L t told (text ++ b ∷ []) (n + 1))
value_step L t told text n b is =
    goes (valuing L t told text n) b (scan (Tag DoubleQuoted) L) [] _ (if_false (b == 34) _ _ (flip_true _ (both _ _ (both _ _ is).0).1) ∙ if_true (is_in_value 34 b) _ _ is) refl

pub tag_valued : (L : Level) (t : Tokens) (told : List Event) (value text : List ℕ) (n : ℕ) → list_all (is_in_value 34) value ≡ true → utf8_run (Some Ready) value ≡ Some Ready → decoded value ≡ Some text
    → Run (valuing L t told [] n) (value ++ codes "\">") (tagged L t told value (Some text) (n + length value))
tag_valued L t told value text n is utf8 d = record {
  reads = reads_more (Some (valuing L t told [] n)) value (codes "\">")
      ∙ ap (λ o. reads o (codes "\">")) (grows (λ text k. valuing L t told text k) (is_in_value 34) (λ text k b ok. value_step L t told text k b ok) value [] n is)
      ∙ ap (λ o. Some (tagged L t told value o (n + length value))) d;
  utf8 = utf8_run_more (Some Ready) value (codes "\">") ∙ ap (λ o. utf8_run o (codes "\">")) utf8;
}
