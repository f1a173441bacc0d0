-- Edits that are planned on the newest content: nothing has changed since, so only a refusal stands against them.
use Rattle.std.proofs.Common.{◌≡◌, ℕ, arith, Bool, true, false, List, length, None, refl, ap}
use Rattle.std.specs.Prelude.{nat_lt, if◌then◌else◌, Option, find, take}
use Rattle.ground_model.specs.declared.limits.Limits.{Limits}
use Rattle.ground_model.specs.declared.entry.Entry.{Entry}
use Rattle.ground_model.specs.declared.edit.Edit.{Edit}
use Rattle.ground_model.specs.declared.mark.Mark.{Mark}
use Rattle.ground_model.specs.Zone.{zone}
use Rattle.ground_model.specs.History.{content_of}
use Rattle.ground_model.specs.Refusal.{refusal}
use Rattle.ground_model.specs.Answer.{has_changed, conflict, by_refusal, by_conflict, answer}

not_below : (n : ℕ) → nat_lt n n ≡ false
not_below n = grind arith

unmet : (test : Bool) (found : Option Mark) → test ≡ false → (if test then found else None) ≡ None
unmet true found e = cc
unmet false found e = refl

pub conflict-newest : (h : List Entry) (edit : Edit) → conflict h (length h) edit ≡ None
unfolding conflict
conflict-newest h edit = unmet (nat_lt (length h) (length h)) (find (has_changed h (length h)) (zone (content_of (take (length h) h)) edit)) (not_below (length h))

pub answer-newest : (limits : Limits) (h : List Entry) (edit : Edit) → answer limits h (length h) edit ≡ by_refusal h edit (refusal (content_of h) (length h) limits edit)
unfolding answer
answer-newest limits h edit = ap (λ found. by_conflict h edit found (refusal (content_of h) (length h) limits edit)) (conflict-newest h edit)
