-- Texts and lines that are written.
use Rattle.std.proofs.Common.{arith, ◌≡◌, ◌+◌, ℕ, List, [], ◌++◌, length, take, Option, inl, inr, refl, sym, ap, ◌∙◌, subst, length-append}
use Rattle.std.specs.declared.result.Result.{Result}
use Rattle.std.specs.declared.result.Result.TheVariants.{Ok, Err}
use Rattle.std.specs.Io.KnownBytes.{Appends}
use Rattle.std.proofs.KnownBytes.{Appends-trans}
use Rattle.std.proofs.lemmas.List.{take-append-le, take_all}
use Rattle.std.proofs.Math.Seq.{take-append-add}
use Rattle.ground_io.specs.Causes.{HasCause, Rose}
use Rattle.ground_io.specs.Streams.{AppendsSome, WritesText}
use Rattle.document_commands.specs.Streams.{Stream, WritesLine}

-- a line of which all was written, or a beginning
pub line_put : {T E : Type 0} (before after : Stream) (line : List ℕ) (r : Result T E) → WritesText before.bytes after.bytes r line → HasCause before.faults after.faults r → WritesLine before after [] line
line_put before after line (Ok u) w h =
    let P : List ℕ → Type 0 = Appends before.bytes after.bytes in
    record { count = length line; within = omega arith; appended = subst P (sym (take_all (length line) line (omega arith))) w; cause = inl refl }
line_put before after line (Err e) w h = record { count = w.0; within = w.1; appended = w.2; cause = inr h.failed }

-- after a text
pub line_after : (before mid after : Stream) (text whole line : List ℕ) → whole ≡ text → mid.faults ≡ before.faults → Appends before.bytes mid.bytes text → WritesLine mid after [] line → WritesLine before after whole line
line_after before mid after text whole line same kept a w = record {
  count = w.count;
  within = w.within;
  appended = let P : List ℕ → Type 0 = λ x. Appends before.bytes after.bytes (x ++ take w.count line) in subst P (sym same) (Appends-trans before.bytes mid.bytes after.bytes text (take w.count line) a w.appended);
  cause = elim w.cause [ inl x ↦ inl x | inr x ↦ inr (let P : ℕ → Type 0 = λ f. Rose f after.faults in subst P kept x) ];
}

-- a text and a beginning of the next are a beginning of the whole
pub some_after : (a b c : Option (List ℕ)) (done text more whole : List ℕ) → whole ≡ done ++ (text ++ more) → Appends a b done → AppendsSome b c text → AppendsSome a c whole
some_after a b c done text more whole is first then_some =
    let n = then_some.0 in
    let within = then_some.1 in
    let cut : take (length done + n) whole ≡ done ++ take n text = ap (take (length done + n)) is ∙ take-append-add done (text ++ more) n ∙ ap (λ x. done ++ x) (take-append-le n text more within) in
    let P : List ℕ → Type 0 = Appends a c in
    (length done + n, omega (arith, within, ap length is, length-append done (text ++ more), length-append text more), subst P (sym cut) (Appends-trans a b c done (take n text) first then_some.2))

-- a text is a beginning of the whole
pub some_done : (a b : Option (List ℕ)) (done more whole : List ℕ) → whole ≡ done ++ more → Appends a b done → AppendsSome a b whole
some_done a b done more whole is first =
    let P : List ℕ → Type 0 = Appends a b in
    let cut : take (length done) whole ≡ done = ap (take (length done)) is ∙ take-append-le (length done) done more (omega arith) ∙ take_all (length done) done (omega arith) in
    (length done, omega (arith, ap length is, length-append done more), subst P (sym cut) first)
