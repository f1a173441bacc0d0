-- Edits that are made one after the other, and the first that is refused.
use Rattle.std.proofs.Common.{◌≡◌, ℕ, ◌+◌, ◌-◌, ◌<◌, List, [], ◌∷◌, ◌++◌, length, Option, None, Some, refl, sym, ap, subst, ◌∙◌, get_or}
use Rattle.std.specs.Prelude.{map, take, drop, IfOk}
use Rattle.std.specs.declared.result.Result.{Result}
use Rattle.std.specs.declared.result.Result.TheVariants.{Ok, Err}
use Rattle.std.proofs.lemmas.List.{map-append, take_more, take-append-drop}
use Rattle.ground_model.specs.declared.edit.Edit.{Edit}
use Rattle.ground_model.specs.declared.entry.Entry.{Entry}
use Rattle.ground_model.specs.declared.line.LineId.{LineId}
use Rattle.ground_model.specs.declared.refusal.Refusal.{Refusal}
use Rattle.ground_model.specs.Answer as answers
use Rattle.ground_model.specs.Answer.{Answer, by_refusal}
use Rattle.ground_model.proofs.Newest.{answer-newest}
use Rattle.turn_lock.specs.declared.journal.Journal.{Journal}
use Rattle.store.specs.Versions.{newest_refusal, with_next}
use Rattle.store.specs.Answers.{answer_at}
use Rattle.draft_load.specs.Loads.{with_edits, refused_by, first_refused, Loads, Refuses, Ends}

-- ---- what an answer at the front says

from_done : (h : List Entry) (edit : Edit) (cause : Option Refusal) (f : ℕ) (l : Option LineId) → by_refusal h edit cause ≡ answers.Done f l → cause ≡ None
from_done h edit None f l e = refl
from_done h edit (Some cause) f l e = cc

from_refused : (h : List Entry) (edit : Edit) (cause : Option Refusal) (f : ℕ) (c : Refusal) → by_refusal h edit cause ≡ answers.Refused f c → cause ≡ Some c
from_refused h edit None f c e = cc
from_refused h edit (Some cause) f c e = cc

pub done-lawful : (j : Journal) (edit : Edit) (f : ℕ) (l : Option LineId) → answer_at j (length j.entries) edit ≡ answers.Done f l → newest_refusal j edit ≡ None
done-lawful j edit f l e = from_done j.entries edit (newest_refusal j edit) f l (sym (answer-newest j.limits j.entries edit) ∙ e)

pub refused-cause : (j : Journal) (edit : Edit) (f : ℕ) (c : Refusal) → answer_at j (length j.entries) edit ≡ answers.Refused f c → newest_refusal j edit ≡ Some c
refused-cause j edit f c e = from_refused j.entries edit (newest_refusal j edit) f c (sym (answer-newest j.limits j.entries edit) ∙ e)

-- ---- one list of edits after another

with-both : (j : Journal) (es fs : List Edit) → with_edits j (es ++ fs) ≡ with_edits (with_edits j es) fs
with-both j [] fs = refl
with-both j (e ∷ es) fs = with-both (with_next 0 j e) es fs

none_by : (front : ℕ) (cause : Option Refusal) (later : Option (ℕ × Refusal)) → refused_by front cause later ≡ None → (cause ≡ None) × (later ≡ None)
none_by front None later h = (refl, h)
none_by front (Some cause) later h = cc

refused-both : (j : Journal) (es fs : List Edit) → first_refused j es ≡ None → first_refused j (es ++ fs) ≡ first_refused (with_edits j es) fs
refused-both j [] fs h = refl
refused-both j (e ∷ es) fs h =
    let both = none_by (length j.entries) (newest_refusal j e) (first_refused (with_next 0 j e) es) h in
    ap (λ cause. refused_by (length j.entries) cause (first_refused (with_next 0 j e) (es ++ fs))) both.0 ∙ refused-both (with_next 0 j e) es fs both.1

refused-first : (j : Journal) (es fs : List Edit) (r : ℕ × Refusal) → first_refused j es ≡ Some r → first_refused j (es ++ fs) ≡ Some r
refused-first j [] fs r h = cc
refused-first j (e ∷ es) fs r h = by (newest_refusal j e) h (λ rest. refused-first (with_next 0 j e) es fs r rest)
  where
    by : (cause : Option Refusal) → refused_by (length j.entries) cause (first_refused (with_next 0 j e) es) ≡ Some r → (first_refused (with_next 0 j e) es ≡ Some r → first_refused (with_next 0 j e) (es ++ fs) ≡ Some r)
        → refused_by (length j.entries) cause (first_refused (with_next 0 j e) (es ++ fs)) ≡ Some r
    by None k rest = rest k
    by (Some cause) k rest = k

pub loads-none : (j : Journal) → Loads j j []
loads-none j = record { lawful = refl; journal = refl }

pub loads-both : (j k l : Journal) (es fs : List Edit) → Loads j k es → Loads k l fs → Loads j l (es ++ fs)
loads-both j k l es fs a b = record {
  lawful = refused-both j es fs a.lawful ∙ ap (λ i. first_refused i fs) (sym a.journal) ∙ b.lawful;
  journal = b.journal ∙ ap (λ i. with_edits i fs) a.journal ∙ sym (with-both j es fs);
}

pub loads-one : (j k : Journal) (e : Edit) → newest_refusal j e ≡ None → k ≡ with_next 0 j e → Loads j k (e ∷ [])
loads-one j k e lawful made = record { lawful = ap (λ cause. refused_by (length j.entries) cause None) lawful; journal = made }

pub refuses-one : (j : Journal) (e : Edit) (es : List Edit) (points line : ℕ) (cause : Refusal) → newest_refusal j e ≡ Some cause → line ≡ length j.entries + 1 - points → Refuses j (e ∷ es) points line cause
refuses-one j e es points line cause refused number = record { front = length j.entries; first = ap (λ c. refused_by (length j.entries) c (first_refused (with_next 0 j e) es)) refused; number = number }

pub refuses-later : (j k : Journal) (es fs : List Edit) (points line : ℕ) (cause : Refusal) → Loads j k es → Refuses k fs points line cause → Refuses j (es ++ fs) points line cause
refuses-later j k es fs points line cause a b = record {
  front = b.front;
  first = refused-both j es fs a.lawful ∙ ap (λ i. first_refused i fs) (sym a.journal) ∙ b.first;
  number = b.number;
}

pub refuses-first : (j : Journal) (es fs : List Edit) (points line : ℕ) (cause : Refusal) → Refuses j es points line cause → Refuses j (es ++ fs) points line cause
refuses-first j es fs points line cause a = record { front = a.front; first = refused-first j es fs (a.front, cause) a.first; number = a.number }

-- the first edits were made, and the later ones end so
pub ends-both : {E : Type 0} (j s t : Journal) (es fs : List Edit) (points : ℕ) (r : Result (Option (ℕ × Refusal)) E) → Loads j s es → IfOk r (Ends points s t fs) → IfOk r (Ends points j t (es ++ fs))
ends-both j s t es fs points (Ok None) a b = loads-both j s t es fs a b
ends-both j s t es fs points (Ok (Some x)) a b = refuses-later j s es fs points x.0 x.1 a b
ends-both j s t es fs points (Err e) a b = tt

-- ---- the edits of a list, up to a place

module _ {X : Type 0} (edit : X → Edit) (xs : List X) (k : ℕ) (d : X) (less : k < length xs) where
  upto : map edit (take (k + 1) xs) ≡ map edit (take k xs) ++ edit (get_or xs k d) ∷ []
  upto = ap (map edit) (take_more xs k d less) ∙ map-append edit (take k xs) (get_or xs k d ∷ [])

  pub loads-more : (j s t : Journal) → Loads j s (map edit (take k xs)) → Loads s t (edit (get_or xs k d) ∷ []) → Loads j t (map edit (take (k + 1) xs))
  loads-more j s t a b = subst (Loads j t) (sym upto) (loads-both j s t (map edit (take k xs)) (edit (get_or xs k d) ∷ []) a b)

  pub refuses-more : (j s : Journal) (points line : ℕ) (cause : Refusal) → Loads j s (map edit (take k xs)) → Refuses s (edit (get_or xs k d) ∷ []) points line cause → Refuses j (map edit xs) points line cause
  refuses-more j s points line cause a b =
      subst (λ es. Refuses j es points line cause) (sym (map-append edit (take (k + 1) xs) (drop (k + 1) xs)) ∙ ap (map edit) (take-append-drop (k + 1) xs))
      (refuses-first j (map edit (take (k + 1) xs)) (map edit (drop (k + 1) xs)) points line cause
      (subst (λ es. Refuses j es points line cause) (sym upto) (refuses-later j s (map edit (take k xs)) (edit (get_or xs k d) ∷ []) points line cause a b)))
