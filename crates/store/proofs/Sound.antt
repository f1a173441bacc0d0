-- What is true of a version, one entry more.
use Rattle.std.proofs.Common.{◌≡◌, ℕ, ◌+◌, ◌<◌, ◌^◌, List, [], ◌∷◌, ◌++◌, length, length-append, Bool, true, false, None, Some, refl, sym, ◌∙◌, arith}
use Rattle.std.proofs.lemmas.Bool.{leb-false}
use Rattle.std.specs.Prelude.{ℤ, Option, nat_le}
use Rattle.std.specs.FinMap as finmap
use Rattle.ground_num.specs.declared.head.Head.{Head}
use Rattle.ground_num.specs.Head.{IsOrigin}
use Rattle.ground_model.specs.declared.edit.Edit.{Edit}
use Rattle.ground_model.specs.declared.limits.Limits.{Limits}
use Rattle.ground_model.specs.declared.mark.Mark.{Mark}
use Rattle.ground_model.specs.Place.{place_cmp}
use Rattle.ground_model.specs.Content.{empty, after}
use Rattle.ground_model.specs.History.{content_of, born}
use Rattle.ground_model.specs.declared.refusal.Refusal.{Refusal}
use Rattle.ground_model.specs.declared.refusal.Refusal.TheVariants.{LogFull}
use Rattle.ground_model.specs.Refusal.{refusal, edit_refusal, first_of, when}
use Rattle.ground_model.specs.Answer.{next_entry}
use Rattle.turn_lock.specs.declared.journal.Journal.{Journal}
use Rattle.store.specs.declared.state.Made.{Made}
use Rattle.store.specs.Births.{AreBirths, AreCounts}
use Rattle.store.specs.Versions.{IsVersion, IsMadeBy, newest_refusal, with_next}
use Rattle.store.proofs.Born.{births-push}
use Rattle.store.proofs.Journals.{content_of-push, legal_more, points-after, next-after}

pub version-more : (j : Journal) (counts now : List (ℕ × ℕ)) (old made : Made) (author : ℕ) (edit : Edit) → IsVersion j counts old → newest_refusal j edit ≡ None → length j.entries < 2 ^ 24 → IsMadeBy j edit made
    → AreCounts (j.entries ++ next_entry author j.entries edit ∷ []) now → IsVersion (with_next author j edit) now made
version-more j counts now old made author edit was lawful room makes counted =
    let content : content_of (j.entries ++ next_entry author j.entries edit ∷ []) ≡ after (content_of j.entries) edit = content_of-push j.entries (next_entry author j.entries edit) in
    let longer : length (j.entries ++ next_entry author j.entries edit ∷ []) ≡ length j.entries + 1 = length-append j.entries (next_entry author j.entries edit ∷ []) in
    record {
      origin = was.origin;
      legal = legal_more j.limits j.entries (next_entry author j.entries edit) was.legal (lawful, refl);
      short = rw longer (omega (arith, room));
      content = makes.surface ∙ sym content;
      births = births-push j.entries (next_entry author j.entries edit) made.births makes.births;
      numbers = counted;
      few_points = rw (longer, content) (omega (arith, was.few_points, points-after (content_of j.entries) edit));
      few_lines = rw (longer, content) (omega (arith, was.few_lines, next-after (content_of j.entries) edit));
    }

pub version-empty : (head : Head) (limits : Limits) (counts : List (ℕ × ℕ)) (made : Made) → IsOrigin head.origin → made.surface ≡ empty → ((birth : Mark → ℕ) → AreBirths empty birth made.births) → AreCounts [] counts → IsVersion (record { head = head; limits = limits; entries = [] }) counts made
unfolding content_of empty
version-empty head limits counts made origin surface births counted = record {
  origin = origin;
  legal = λ k x e. cc;
  short = omega arith;
  content = surface;
  births = births (born []);
  numbers = counted;
  few_points = omega (arith, finmap.len-empty place_cmp ℤ);
  few_lines = omega arith;
}

-- a journal on which an edit is lawful has room
pub room-left : (j : Journal) (edit : Edit) → newest_refusal j edit ≡ None → length j.entries < 2 ^ 24
unfolding refusal
room-left j edit lawful = room (edit_refusal (content_of j.entries) j.limits edit) (nat_le j.limits.log (length j.entries)) refl lawful
  where
    room : (own : Option Refusal) (full : Bool) → nat_le j.limits.log (length j.entries) ≡ full → first_of (own ∷ when full LogFull ∷ []) ≡ None → length j.entries < 2 ^ 24
    room (Some cause) full is e = cc
    room None true is e = cc
    room None false is e = omega (arith, leb-false j.limits.log (length j.entries) is, j.limits.log_in)
