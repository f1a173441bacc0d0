use Rattle.std.proofs.Common.{◌∙◌}
use Rattle.ground_model.specs.Refusal.{line_refusal}
use Rattle.store.proofs.Causes.{one_found, one_passed, two_found, two_passed}
use Rattle.store.proofs.Oks.{ok_as}
use Rattle.store.proofs.surface.Surface.line_refusal.Goals as goal

pub returns-in-Some-clause-value : goal.returns-in-Some-clause-value
unfolding line_refusal
returns-in-Some-clause-value c = two_found _ _ _ _ c.in-Some.ensures

pub returns-in-Some-place_refusal-clause-value : goal.returns-in-Some-place_refusal-clause-value
unfolding line_refusal
returns-in-Some-place_refusal-clause-value c = one_found _ _ _ c.in-Some-place_refusal.ensures.value ∙ two_passed _ _ _ c.in_default.ensures

pub returns-in-Some-room_refusal-clause-value : goal.returns-in-Some-room_refusal-clause-value
unfolding line_refusal
returns-in-Some-room_refusal-clause-value c = two_found _ _ _ _ c.in-Some-room_refusal.ensures.value ∙ one_passed _ _ c.in_default-place_refusal.ensures.value ∙ two_passed _ _ _ c.in_default.ensures

pub returns-clause-value : goal.returns-clause-value
unfolding line_refusal
returns-clause-value c = ok_as _ _ _ (two_passed _ _ _ c.in_default-room_refusal.ensures.value ∙ one_passed _ _ c.in_default-place_refusal.ensures.value ∙ two_passed _ _ _ c.in_default.ensures) c.crossing_refusal.ensures
