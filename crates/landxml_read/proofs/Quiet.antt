-- A word that shows no fault is short, and a number where it must be one; a tag that shows none has no long value.
use Rattle.std.proofs.Common.{◌≡◌, ◌≤◌, ℕ, ◌==◌, ◌&&◌, ◌||◌, Bool, true, false, cond, length, Option, None, Some, refl, sym, ◌∙◌, nat_lt, arith}
use Rattle.std.proofs.lemmas.Bool.Decides.{nat_tests}
use Rattle.std.specs.Option.{is_none}
use Rattle.landxml_read.specs.declared.fault.DocCause.{DocCause}
use Rattle.landxml_read.specs.declared.fault.DocCause.TheVariants as cause
use Rattle.landxml_read.specs.declared.tokens.Tokens.{Tokens}
use Rattle.landxml_read.specs.Numbers.{decimal_of, is_over, number_cause}
use Rattle.landxml_read.specs.Faults.{has_numbers}
use Rattle.landxml_read.specs.Events.{word_rows, opening_rows}
use Rattle.landxml_read.specs.Tokens.{kind_in, word_of, opening_at}
use Rattle.landxml_read.specs.Verdict.{first_cause, caused, word_verdict}
use Rattle.landxml_read.proofs.Running.{if_false}

no_cause : (at : ℕ) (o : Option DocCause) → caused at o ≡ None → o ≡ None
no_cause at None e = refl
no_cause at (Some c) e = cc

pub quiet_number : (t : Tokens) → word_verdict t ≡ None → (length t.word == 0) ≡ false → has_numbers (kind_in t.stack) ≡ true → number_cause t.word ≡ None
quiet_number t quiet some numbers =
    let rows = first_cause (word_rows (kind_in t.stack) (word_of t)) in
    let e : rows ≡ None = no_cause t.word_at rows (sym (if_false (length t.word == 0) None (caused t.word_at rows) some) ∙ quiet) in
    by (nat_lt 255 (length t.word)) (has_numbers (kind_in t.stack)) (is_none (decimal_of t.word)) (is_over (decimal_of t.word)) numbers e
  where
    by : (long has none over : Bool) → has ≡ true → cond long (Some cause.Long) (cond (has && none) (Some cause.Number) (cond (has && over) (Some cause.Big) None)) ≡ None
        → cond none (Some cause.Number) (cond over (Some cause.Big) None) ≡ None
    by true has none over h e = cc
    by false true none over h e = e
    by false false none over h e = cc

pub quiet_short : (t : Tokens) → word_verdict t ≡ None → (length t.word == 0) ≡ false → length t.word ≤ 255
quiet_short t quiet some =
    let rows = first_cause (word_rows (kind_in t.stack) (word_of t)) in
    let e : rows ≡ None = no_cause t.word_at rows (sym (if_false (length t.word == 0) None (caused t.word_at rows) some) ∙ quiet) in
    by (nat_lt 255 (length t.word)) refl (has_numbers (kind_in t.stack)) (is_none (decimal_of t.word)) (is_over (decimal_of t.word)) e
  where
    by : (long : Bool) → nat_lt 255 (length t.word) ≡ long → (has none over : Bool) → cond long (Some cause.Long) (cond (has && none) (Some cause.Number) (cond (has && over) (Some cause.Big) None)) ≡ None → length t.word ≤ 255
    by true f has none over e = cc
    by false f has none over e = grind (arith, nat_tests)

pub quiet_values : (t : Tokens) → first_cause (opening_rows (opening_at 0 t)) ≡ None → t.values.is_long ≡ false
quiet_values t quiet = by _ _ (nat_lt 255 (length t.name)) t.values.is_long _ quiet
  where
    by : (root depth name long : Bool) (rest : Option DocCause) → cond root (Some cause.Root) (cond depth (Some cause.Depth) (cond (name || long) (Some cause.Long) rest)) ≡ None → long ≡ false
    by true depth name long rest e = cc
    by false true name long rest e = cc
    by false false true long rest e = cc
    by false false false true rest e = cc
    by false false false false rest e = refl
