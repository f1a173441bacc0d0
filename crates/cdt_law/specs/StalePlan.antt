-- Why a stale plan is right: a plan made at the base of a history, at the history's front.
use Rattle.std.specs.Prelude.{ℕ, ◌≡◌, ◌≤◌, false, List, None, length, take}
use Rattle.ground_model.specs.declared.limits.Limits.{Limits}
use Rattle.ground_model.specs.declared.entry.Entry.{Entry}
use Rattle.ground_model.specs.Content.{Content}
use Rattle.ground_model.specs.History.{content_of, IsLegal}
use Rattle.ground_model.specs.Refusal.{IsLawful}
use Rattle.ground_model.specs.Answer.{Pending, conflict}
use Rattle.predicates.specs.Net.{Triangle}
use Rattle.cdt_law.specs.Plans.{Plan, HasMeshes, IsRight, is_hull_plan}

-- the content at a front
abbrev pub content_at : List Entry → ℕ → Content
content_at h front = content_of (take front h)

-- a history, the plan that was made at its base, and meshes of the base before and after the edit
pub record Stale : Type 0 where
  pub history : List Entry
  pub pending : Pending
  pub before : List Triangle
  pub planned : List Triangle

-- the plan at a front, with the mesh there
abbrev pub plan_at : Stale → ℕ → List Triangle → Plan
plan_at s front now =
    record { edit = s.pending.edit; base = content_at s.history s.pending.base; before = s.before; planned = s.planned; newest = content_at s.history front; now = now }

-- the history is legal, the edit lawful at the base, its plan no hull plan, and no mark of it has changed since
pub record IsFresh (limits : Limits) (s : Stale) : Type 0 where
  pub legal : IsLegal limits s.history
  pub within : s.pending.base ≤ length s.history
  pub lawful : IsLawful (content_at s.history s.pending.base) s.pending.base limits s.pending.edit
  pub inner : is_hull_plan (content_at s.history s.pending.base) s.pending.edit ≡ false
  pub unchanged : conflict s.history s.pending.base s.pending.edit ≡ None

-- a fresh plan whose edit is lawful at the history's front is right there
abbrev pub StaleLaw : Type 0
StaleLaw = (limits : Limits) (s : Stale) (now : List Triangle) → IsFresh limits s → IsLawful (content_at s.history (length s.history)) (length s.history) limits s.pending.edit
    → HasMeshes (plan_at s (length s.history) now) → IsRight (plan_at s (length s.history) now)
