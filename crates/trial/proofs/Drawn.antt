-- The states of further draws, and the edits of them.
use Rattle.std.proofs.Common.{◌≡◌, ℕ, suc, ◌+◌, ◌*◌, ◌/◌, ◌%◌, ◌^◌, sym, ap, ◌∙◌, arith, List, [], ◌∷◌}
use Rattle.std.specs.Prelude.{pos}
use Rattle.ground_model.specs.declared.edit.Edit.TheVariants.{AddPoint, AddLine}
use Rattle.ground_model.specs.declared.line.LineKind.TheVariants.{Breakline}
use Rattle.ground_model.specs.Place.{Coords}
use Rattle.trial.specs.Draws.{next_state, state_after, picked, point_edit, line_edit}

pub next_after : (seed k : ℕ) → state_after seed (k + 1) ≡ next_state (state_after seed k)
unfolding state_after
next_after seed k = ap (state_after seed) (more k)
  where
    more : (k : ℕ) → k + 1 ≡ suc k
    more k = omega arith

pub two_after : (seed k : ℕ) → state_after seed (k + 2) ≡ next_state (next_state (state_after seed k))
unfolding state_after
two_after seed k = ap (state_after seed) (more k)
  where
    more : (k : ℕ) → k + 2 ≡ suc (suc k)
    more k = omega arith

pub three_after : (seed k : ℕ) → state_after seed (k + 3) ≡ next_state (next_state (next_state (state_after seed k)))
unfolding state_after
three_after seed k = ap (state_after seed) (more k)
  where
    more : (k : ℕ) → k + 3 ≡ suc (suc (suc k))
    more k = omega arith

pub points_after : (seed k s : ℕ) → s ≡ state_after seed (3 * k) → next_state (next_state (next_state s)) ≡ state_after seed (3 * suc k)
points_after seed k s is = ap (λ t. next_state (next_state (next_state t))) is ∙ sym (three_after seed (3 * k)) ∙ ap (state_after seed) (more k)
  where
    more : (k : ℕ) → 3 * k + 3 ≡ 3 * suc k
    more k = omega arith

pub point_drawn : (seed k s : ℕ) → s ≡ state_after seed (3 * k)
    → AddPoint (record { e = pos (next_state s / 2 ^ 32 % 100000); n = pos (next_state (next_state s) / 2 ^ 32 % 100000) }) (pos (next_state (next_state (next_state s)) / 2 ^ 32 % 10000)) ≡ point_edit seed k
point_drawn seed k s is =
    let one = ap next_state is ∙ sym (next_after seed (3 * k)) in
    let two = ap (λ t. next_state (next_state t)) is ∙ sym (two_after seed (3 * k)) in
    let three = ap (λ t. next_state (next_state (next_state t))) is ∙ sym (three_after seed (3 * k)) in
    (λ i. AddPoint (record { e = pos (one i / 2 ^ 32 % 100000); n = pos (two i / 2 ^ 32 % 100000) }) (pos (three i / 2 ^ 32 % 10000)))

pub lines_after : (seed before k s : ℕ) → s ≡ state_after seed (before + 2 * k) → next_state (next_state s) ≡ state_after seed (before + 2 * suc k)
lines_after seed before k s is = ap (λ t. next_state (next_state t)) is ∙ sym (two_after seed (before + 2 * k)) ∙ ap (state_after seed) (more before k)
  where
    more : (before k : ℕ) → before + 2 * k + 2 ≡ before + 2 * suc k
    more before k = omega arith

pub line_drawn : (seed before k s : ℕ) (places : List Coords) → s ≡ state_after seed (before + 2 * k)
    → AddLine Breakline (picked places (next_state s / 2 ^ 32) ∷ picked places (next_state (next_state s) / 2 ^ 32) ∷ []) ≡ line_edit seed before places k
line_drawn seed before k s places is =
    let one = ap next_state is ∙ sym (next_after seed (before + 2 * k)) in
    let two = ap (λ t. next_state (next_state t)) is ∙ sym (two_after seed (before + 2 * k)) in
    (λ i. AddLine Breakline (picked places (one i / 2 ^ 32) ∷ picked places (two i / 2 ^ 32) ∷ []))
