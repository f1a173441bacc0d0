-- Bytes that spell a document without a fault show none.
use Rattle.std.proofs.Common.{◌≡◌, ℕ, ◌+◌, ◌<◌, true, List, [], length, Some, refl, sym, ◌∙◌, ap, subst, arith, inl, inr}
use Rattle.std.proofs.lemmas.List.{append-nil}
use Rattle.std.proofs.Math.Seq.{take-length}
use Rattle.std.specs.Str.{IsUtf8}
use Rattle.ground_num.specs.FirstFault.{IsFirstFault}
use Rattle.landxml_read.specs.declared.fault.ReadFault.{ReadFault}
use Rattle.landxml_read.specs.declared.fault.ReadFault.TheVariants.{Doc, Memory}
use Rattle.landxml_read.specs.declared.level.Level.TheVariants.{After}
use Rattle.landxml_read.specs.declared.scan.Part.TheVariants.{Text}
use Rattle.landxml_read.specs.Markup.{Document, IsDocumentText, document_text}
use Rattle.landxml_read.specs.Faults.{Fault, fault}
use Rattle.landxml_read.specs.Answer.{Shows, ShowsOutline, IsOfTree, IsTreeOf}
use Rattle.landxml_read.specs.Events.{event_faults, document_events}
use Rattle.landxml_read.specs.Tokens.{Reading, reads, at_start, pushed}
use Rattle.landxml_read.specs.Reader.{IsEndOf}
use Rattle.landxml_read.proofs.Running.{reading}
use Rattle.landxml_read.proofs.Accepted.{document_read}
use Rattle.landxml_read.proofs.FirstFaults.{begins_take}
use Rattle.landxml_read.proofs.Outlines.{outline_cases}
use Rattle.landxml_read.proofs.Totals.{total, total_flat}
use Rattle.landxml_read.proofs.Shown.{shown_total}
use Rattle.landxml_read.proofs.Telling.{pushed_totals}
use Rattle.landxml_read.proofs.Faulted.{IsQuiet, tree_later, kinds_of}

module _ (bytes : List ℕ) (d : Document) (tree : IsTreeOf bytes d) where
  is_text : IsDocumentText bytes
  is_text = (d, tree.shaped, tree.text)

  -- no byte is stray
  none_stray : (n : ℕ) → IsFirstFault IsDocumentText bytes n → n < length bytes → ⊥
  none_stray n f less = let P : List ℕ → Type 0 = IsDocumentText in f.not_allowed less (begins_take IsDocumentText bytes (n + 1) ([], subst P (sym (append-nil bytes)) is_text))

  none_outline : (f : Fault) → ShowsOutline bytes f → ⊥
  none_outline f h =
      outline_cases bytes f (λ _. ⊥) h
      (λ k. let P : List ℕ → Type 0 = IsUtf8 in k.1.last (length bytes) k.2 (omega arith) (subst P (sym (take-length bytes)) tree.utf8))
      (λ k. none_stray f.show k.0.0 k.0.1)
      (λ k. none_stray f.show k.0.0 k.0.1)
      (λ k. k.0.1 is_text)

  -- the reading of all bytes
  whole : (r : Reading) × (reads (Some at_start) bytes ≡ Some r) × IsQuiet r
  whole =
      let read = document_read d tree.shaped in
      let a = pushed_totals (λ f. true) (document_events d) [] in
      let b = total_flat (λ f. true) event_faults (document_events d) in
      let c = shown_total (λ f. true) d in
      let e = ap (total (λ f. true)) tree.faultless in
      (reading Text After (length (document_text d)) read.tokens (pushed (document_events d) []), ap (reads (Some at_start)) tree.text ∙ read.runs, omega (arith, a, b, c, e))

  none_of_tree : (f : Fault) → IsOfTree bytes f → ⊥
  none_of_tree f h =
      let P : List ℕ → Type 0 = λ w. IsOfTree w f in
      let w = whole in
      let late = tree_later bytes [] w.0 f w.1 w.2 (subst P (sym (append-nil bytes)) h) in
      let less = h.0 in
      absurd (omega (arith, late, less))

  none_shown : (f : Fault) → Shows bytes f → ⊥
  none_shown f h = elim (kinds_of bytes f h) [ inl x ↦ none_outline f x.0 | inr x ↦ none_of_tree f x.0 ]

  -- so such bytes are answered, if memory is there
  pub only_memory : (e : ReadFault) → IsEndOf bytes e → e ≡ Memory
  only_memory (Doc f) h = absurd (none_shown (fault h.0 f.cause f.at) h.1.shown)
  only_memory Memory h = refl
