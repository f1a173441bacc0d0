-- Why the edit of a fresh plan may still be refused at the history's front: for a limit alone.
use Rattle.std.specs.Prelude.{ℕ, ◌≡◌, ◌≤◌, Bool, true, false, List, Some, length}
use Rattle.ground_model.specs.declared.limits.Limits.{Limits}
use Rattle.ground_model.specs.declared.refusal.Refusal.{Refusal}
use Rattle.ground_model.specs.declared.refusal.Refusal.TheVariants.{Occupied, Absent, Held, Joint, TooShort, Repeated, NotPoint, Crosses, SelfCross, NoLine, PointsFull, LinesFull, VerticesFull, LogFull}
use Rattle.ground_model.specs.Refusal.{refusal}
use Rattle.predicates.specs.Net.{Triangle}
use Rattle.cdt_law.specs.Plans.{HasMeshes}
use Rattle.cdt_law.specs.StalePlan.{Stale, IsFresh, content_at, plan_at}

-- whether the cause is that there is no room: for a point, a line, the places of lines, or an entry
abbrev pub is_limit : Refusal → Bool
is_limit PointsFull = true
is_limit LinesFull = true
is_limit VerticesFull = true
is_limit LogFull = true
is_limit (Occupied z) = false
is_limit (Absent p) = false
is_limit (Held id) = false
is_limit (Joint id other) = false
is_limit TooShort = false
is_limit (Repeated k) = false
is_limit (NotPoint k) = false
is_limit (Crosses id) = false
is_limit (SelfCross k l) = false
is_limit (NoLine id) = false

-- at each front from the plan's base on there is a mesh
abbrev pub HaveMeshes : Stale → (ℕ → List Triangle) → Type 0
HaveMeshes s now = (front : ℕ) → s.pending.base ≤ front → front ≤ length s.history → HasMeshes (plan_at s front (now front))

-- if the edit of a fresh plan is refused at the history's front, then for a limit
abbrev pub LimitLaw : Type 0
LimitLaw = (limits : Limits) (s : Stale) (now : ℕ → List Triangle) → IsFresh limits s → HaveMeshes s now
    → (cause : Refusal) → refusal (content_at s.history (length s.history)) (length s.history) limits s.pending.edit ≡ Some cause → is_limit cause ≡ true
