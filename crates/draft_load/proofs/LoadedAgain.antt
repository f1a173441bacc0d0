-- The edits of a draft as a history, and the law of what is loaded again.
use Rattle.std.proofs.Common.{◌≡◌, ℕ, List, [], ◌∷◌, ◌++◌, length, take, None, Some, refl, sym, ap, subst, ◌∙◌, append_assoc, append-nil}
use Rattle.std.specs.Prelude.{All, slice_get}
use Rattle.std.specs.FinMap as finmap
use Rattle.std.proofs.Math.Seq.{take-append_seam}
use Rattle.ground_model.specs.declared.edit.Edit.{Edit}
use Rattle.ground_model.specs.declared.entry.Entry.{Entry}
use Rattle.ground_model.specs.Answer.{next_entry}
use Rattle.ground_model.specs.Content.{lines_of}
use Rattle.ground_model.specs.History.{content_of, IsLegal, IsNext}
use Rattle.landxml_surface.specs.declared.draft.Draft.{Draft}
use Rattle.turn_lock.specs.declared.journal.Journal.{Journal}
use Rattle.store.specs.Shown.{faces_of, shown_by}
use Rattle.store.specs.Versions.{newest_refusal, with_next}
use Rattle.document_law.specs.Reloaded.{edits_of, logged}
use Rattle.document_law.proofs.Reload.{reload_law}
use Rattle.document_law.proofs.Histories.{version_law}
use Rattle.draft_load.specs.Law.{IsLoadedAgain, LoadLaw}
use Rattle.draft_load.specs.Loads.{ground_of, with_edits, refused_by, first_refused}

-- ---- the journal

entries_are : (j : Journal) (es : List Edit) → (with_edits j es).entries ≡ logged j.entries es
entries_are j [] = refl
entries_are j (e ∷ es) = entries_are (with_next 0 j e) es

head_stays : (j : Journal) (es : List Edit) → (with_edits j es).head ≡ j.head
head_stays j [] = refl
head_stays j (e ∷ es) = head_stays (with_next 0 j e) es

-- ---- the refusals

-- what was logged before stays in front
begins : (past : List Entry) (es : List Edit) → (rest : List Entry) × (logged past es ≡ past ++ rest)
begins past [] = ([], sym (append-nil past))
begins past (e ∷ es) =
    let more = begins (past ++ next_entry 0 past e ∷ []) es in
    (next_entry 0 past e ∷ more.0, more.1 ∙ append_assoc past (next_entry 0 past e ∷ []) more.0)

at_seam : {X : Type 0} (xs : List X) (y : X) (zs : List X) → slice_get (xs ++ y ∷ zs) (length xs) ≡ Some y
at_seam [] y zs = refl
at_seam (x ∷ xs) y zs = at_seam xs y zs

none_refused : (j : Journal) (es : List Edit) → IsLegal j.limits (logged j.entries es) → first_refused j es ≡ None
none_refused j [] legal = refl
none_refused j (e ∷ es) legal =
    let x = next_entry 0 j.entries e in
    let tail = begins (j.entries ++ x ∷ []) es in
    let whole : logged j.entries (e ∷ es) ≡ j.entries ++ x ∷ tail.0 = tail.1 ∙ append_assoc j.entries (x ∷ []) tail.0 in
    let next : IsNext j.limits (take (length j.entries) (j.entries ++ x ∷ tail.0)) x = subst (λ h. IsLegal j.limits h) whole legal (length j.entries) x (at_seam j.entries x tail.0) in
    let lawful : newest_refusal j e ≡ None = (subst (λ past. IsNext j.limits past x) (take-append_seam j.entries (x ∷ tail.0)) next).0 in
    ap (λ cause. refused_by (length j.entries) cause (first_refused (with_next 0 j e) es)) lawful ∙ none_refused (with_next 0 j e) es legal

-- ---- the law

pub load_law : LoadLaw
load_law j limits draft less shown numbers are =
    let e = shown_by j in
    let edits = edits_of draft in
    let ground = ground_of draft limits in
    let again = reload_law j.limits limits j.entries e draft less shown refl numbers are in
    let back = version_law j.limits j.entries e shown numbers in
    let one : draft ≡ back.draft = first draft back.draft (back.only (draft ∷ []) are) in
    record {
      lawful = none_refused ground edits again.legal;
      text = again.text (shown_by (with_edits ground edits)) (record {
        head_is = head_stays ground edits ∙ ap (λ (d : Draft). d.head) one ∙ back.same.head;
        points = ap (λ h. finmap.entries (content_of h).points) (entries_are ground edits);
        lines = ap (λ h. lines_of (content_of h)) (entries_are ground edits);
        faces = ap (λ h. faces_of (content_of h)) (entries_are ground edits);
      });
    }
  where
    first : (x y : Draft) → ◌≡◌ {A = List Draft} (x ∷ []) (y ∷ []) → x ≡ y
    first x y e = cc
