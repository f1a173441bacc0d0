-- No more is counted than there are edits.
use Rattle.std.proofs.Common.{◌≡◌, ℕ, zero, suc, ◌+◌, ◌*◌, ◌≤◌, arith, refl, sym, ap, ◌∙◌, Bool, true, false, cond, length, List}
use Rattle.std.specs.Prelude.{Option, None, Some, nat_eq, ◌%◌}
use Rattle.ground_model.specs.declared.edit.Edit.{Edit}
use Rattle.ground_model.specs.declared.refusal.Refusal.{Refusal}
use Rattle.ground_model.specs.Answer as answers
use Rattle.ground_model.specs.Answer.{Answer}
use Rattle.ground_model.specs.Place.{Coords}
use Rattle.store.specs.Versions.{newest_refusal}
use Rattle.store.specs.Answers.{answer_at}
use Rattle.turn_lock.specs.Setting.{Setting}
use Rattle.trial.specs.Draws.{state_after, point_edit, line_edit}
use Rattle.trial.specs.Trials.{Trial, clash, settle, applied, by_answer, by_plan, planned, keep, point_step, empty_trial, after_points, after_lines}

-- no more than one more of each
pub record Few (before after : Trial) : Type 0 where
  pub refused : after.refused ≤ before.refused + 1
  pub conflicts : after.conflicts ≤ before.conflicts + 1

settle_few : (cause : Option Refusal) (edit : Edit) (t : Trial) → Few t (settle cause edit t)
settle_few None edit t = record { refused = omega arith; conflicts = omega arith }
settle_few (Some cause) edit t = record { refused = omega arith; conflicts = omega arith }

-- and an edit that is applied is no conflict
settle_same : (cause : Option Refusal) (edit : Edit) (t : Trial) → (settle cause edit t).conflicts ≡ t.conflicts
settle_same None edit t = refl
settle_same (Some cause) edit t = refl

pub applied_few : (edit : Edit) (t : Trial) → Few t (applied edit t)
unfolding applied
applied_few edit t = settle_few (newest_refusal t.journal edit) edit t

clash_few : (edit : Edit) (t : Trial) → Few t (applied edit (clash t))
unfolding applied
clash_few edit t =
    let few = settle_few (newest_refusal t.journal edit) edit (clash t) in
    let same = settle_same (newest_refusal t.journal edit) edit (clash t) in
    record { refused = few.refused; conflicts = omega (arith, same) }

answer_few : (a : Answer) (edit : Edit) (t : Trial) → Few t (by_answer a edit t)
answer_few (answers.Conflict front mark) edit t = clash_few edit t
answer_few (answers.Refused front cause) edit t = record { refused = omega arith; conflicts = omega arith }
answer_few (answers.Done front line) edit t = record { refused = omega arith; conflicts = omega arith }

plan_few : (cause : Option Refusal) (edit : Edit) (t : Trial) → Few t (by_plan cause edit t)
plan_few None edit t = answer_few (answer_at t.journal (length t.kept.entries) edit) edit t
plan_few (Some cause) edit t = record { refused = omega arith; conflicts = omega arith }

planned_few : (edit : Edit) (t : Trial) → Few t (planned edit t)
unfolding planned
planned_few edit t = plan_few (newest_refusal t.kept edit) edit t

step_few : (k : ℕ) (edit : Edit) (t : Trial) → Few t (point_step k edit t)
unfolding point_step
step_few k edit t = kept (nat_eq (k % 8) 4) (cond (nat_eq (k % 8) 0) (planned edit t) (applied edit t)) (either (nat_eq (k % 8) 0))
  where
    either : (b : Bool) → Few t (cond b (planned edit t) (applied edit t))
    either true = planned_few edit t
    either false = applied_few edit t

    kept : (b : Bool) (u : Trial) → Few t u → Few t (cond b (keep u) u)
    kept true u few = record { refused = few.refused; conflicts = few.conflicts }
    kept false u few = few

-- after so many points no more are counted
pub record IsWithin (most : ℕ) (t : Trial) : Type 0 where
  pub refused : t.refused ≤ most
  pub conflicts : t.conflicts ≤ most

pub points_within : (set : Setting) (seed k : ℕ) → IsWithin k (after_points set seed k)
unfolding after_points
points_within set seed zero = record { refused = omega arith; conflicts = omega arith }
points_within set seed (suc k) =
    let rest = points_within set seed k in
    let few = step_few (suc k) (point_edit seed k) (after_points set seed k) in
    record { refused = omega (arith, rest.refused, few.refused); conflicts = omega (arith, rest.conflicts, few.conflicts) }

pub lines_within : (t : Trial) (seed before : ℕ) (places : List Coords) (k : ℕ) → (after_lines t seed before places k).refused ≤ t.refused + k
unfolding after_lines
lines_within t seed before places zero = omega arith
lines_within t seed before places (suc k) =
    let rest = lines_within t seed before places k in
    let few = applied_few (line_edit seed before places k) (after_lines t seed before places k) in
    omega (arith, rest, few.refused)

-- ---- one edit more
succ : (k : ℕ) → k + 1 ≡ suc k
succ k = omega arith

pub points_next : (set : Setting) (seed k : ℕ) → point_step (k + 1) (point_edit seed k) (after_points set seed k) ≡ after_points set seed (k + 1)
unfolding after_points
points_next set seed k = ap (λ n. point_step n (point_edit seed k) (after_points set seed k)) (succ k) ∙ ap (after_points set seed) (sym (succ k))

pub lines_next : (t : Trial) (seed before : ℕ) (places : List Coords) (k : ℕ) → applied (line_edit seed before places k) (after_lines t seed before places k) ≡ after_lines t seed before places (k + 1)
unfolding after_lines
lines_next t seed before places k = ap (after_lines t seed before places) (sym (succ k))

pub state_next : (seed before step k : ℕ) → state_after seed (before + step * suc k) ≡ state_after seed (before + step * (k + 1))
state_next seed before step k = ap (λ n. state_after seed (before + step * n)) (sym (succ k))

pub points_state : (seed k : ℕ) → state_after seed (3 * suc k) ≡ state_after seed (3 * (k + 1))
points_state seed k = ap (λ n. state_after seed (3 * n)) (sym (succ k))

pub points_begun : (set : Setting) (seed : ℕ) (t : Trial) → t ≡ empty_trial set → t ≡ after_points set seed 0
unfolding after_points
points_begun set seed t e = e

pub lines_begun : (t : Trial) (seed before : ℕ) (places : List Coords) → t ≡ after_lines t seed before places 0
unfolding after_lines
lines_begun t seed before places = refl

pub state_begun : (seed : ℕ) → seed ≡ state_after seed (3 * 0)
unfolding state_after
state_begun seed = refl

pub state_at : (seed before s : ℕ) → s ≡ state_after seed before → s ≡ state_after seed (before + 2 * 0)
state_at seed before s e = e ∙ ap (state_after seed) (more before)
  where
    more : (n : ℕ) → n ≡ n + 2 * 0
    more n = omega arith
