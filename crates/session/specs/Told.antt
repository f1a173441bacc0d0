-- What a session knows by the replies so far. Each row is spelled out, so that none is forgotten.
use Rattle.std.specs.Prelude.{ℕ, List, [], ◌∷◌, ◌++◌, Option, Some, None, is_some, if◌then◌else◌}
use Rattle.std.specs.List.{flat_map}
use Rattle.ground_model.specs.declared.edit.Edit.{Edit}
use Rattle.ground_model.specs.declared.entry.Entry.{Entry}
use Rattle.ground_model.specs.Answer.{Pending, next_entry}
use Rattle.line_protocol.specs.declared.reply.Reply.{Reply}
use Rattle.line_protocol.specs.declared.reply.Reply.TheVariants.{Held, Planned, Done, Conflict, Refused, Level, Contour, Volume, Stat, Export, Bye, Syntax, Range, NoPlan, Memory}
use Rattle.line_protocol.specs.declared.request.Request.{Request}
use Rattle.line_protocol.specs.declared.request.Request.TheVariants as asks

-- the last front that a reply printed, and the plan that no commit has answered yet
pub record Told : Type 0 where
  pub shown : Option ℕ
  pub pending : Option Pending

-- no front was printed, and no plan is pending
abbrev pub told_nothing : Told
told_nothing = record { shown = None; pending = None }

-- the front that a reply prints
abbrev pub front_of : Reply → Option ℕ
front_of (Held f) = Some f
front_of (Planned f size) = Some f
front_of (Done f line) = Some f
front_of (Conflict f mark) = Some f
front_of (Refused f cause) = Some f
front_of (Level f z) = Some f
front_of (Contour f cuts) = Some f
front_of (Volume f v) = Some f
front_of (Stat f points lines) = Some f
front_of (Export f bytes) = Some f
front_of Bye = None
front_of (Syntax offset) = None
front_of Range = None
front_of NoPlan = None
front_of Memory = None

-- the front of a reply that an edit was made
abbrev pub done_front : Reply → Option ℕ
done_front (Done f line) = Some f
done_front (Held f) = None
done_front (Planned f size) = None
done_front (Conflict f mark) = None
done_front (Refused f cause) = None
done_front (Level f z) = None
done_front (Contour f cuts) = None
done_front (Volume f v) = None
done_front (Stat f points lines) = None
done_front (Export f bytes) = None
done_front Bye = None
done_front (Syntax offset) = None
done_front Range = None
done_front NoPlan = None
done_front Memory = None

-- the front whose document follows a reply: that of an export
abbrev pub export_front : Reply → Option ℕ
export_front (Export f bytes) = Some f
export_front (Held f) = None
export_front (Planned f size) = None
export_front (Done f line) = None
export_front (Conflict f mark) = None
export_front (Refused f cause) = None
export_front (Level f z) = None
export_front (Contour f cuts) = None
export_front (Volume f v) = None
export_front (Stat f points lines) = None
export_front Bye = None
export_front (Syntax offset) = None
export_front Range = None
export_front NoPlan = None
export_front Memory = None

-- the front that is shown after a reply, which is as before where the reply prints none
abbrev pub shown_after : Option ℕ → Option ℕ → Option ℕ
shown_after shown None = shown
shown_after shown (Some f) = Some f

-- the front of a reply that an edit was planned
abbrev pub planned_front : Reply → Option ℕ
planned_front (Planned f size) = Some f
planned_front (Held f) = None
planned_front (Done f line) = None
planned_front (Conflict f mark) = None
planned_front (Refused f cause) = None
planned_front (Level f z) = None
planned_front (Contour f cuts) = None
planned_front (Volume f v) = None
planned_front (Stat f points lines) = None
planned_front (Export f bytes) = None
planned_front Bye = None
planned_front (Syntax offset) = None
planned_front Range = None
planned_front NoPlan = None
planned_front Memory = None

-- the plan that is pending after a reply to `plan`, which is this edit's at the front of the reply where there is one
abbrev pub planned_at : Edit → Option ℕ → Option Pending → Option Pending
planned_at edit None pending = pending
planned_at edit (Some f) pending = Some (record { base = f; edit = edit })

-- a commit leaves no plan pending, but where the session was out of memory
abbrev pub committed_after : Reply → Option Pending → Option Pending
committed_after Memory pending = pending
committed_after (Held f) pending = None
committed_after (Planned f size) pending = None
committed_after (Done f line) pending = None
committed_after (Conflict f mark) pending = None
committed_after (Refused f cause) pending = None
committed_after (Level f z) pending = None
committed_after (Contour f cuts) pending = None
committed_after (Volume f v) pending = None
committed_after (Stat f points lines) pending = None
committed_after (Export f bytes) pending = None
committed_after Bye pending = None
committed_after (Syntax offset) pending = None
committed_after Range pending = None
committed_after NoPlan pending = None

-- the plan that is pending after the reply to a request
abbrev pub pending_after : Option Request → Reply → Option Pending → Option Pending
pending_after None reply pending = pending
pending_after (Some (asks.Plan edit)) reply pending = planned_at edit (planned_front reply) pending
pending_after (Some asks.Commit) reply pending = committed_after reply pending
pending_after (Some asks.Sync) reply pending = pending
pending_after (Some (asks.Apply edit)) reply pending = pending
pending_after (Some (asks.Level p)) reply pending = pending
pending_after (Some (asks.Contour z)) reply pending = pending
pending_after (Some (asks.Volume z)) reply pending = pending
pending_after (Some asks.Stat) reply pending = pending
pending_after (Some asks.Export) reply pending = pending
pending_after (Some asks.Quit) reply pending = pending

-- what is known after the reply to a request, if the line was one
abbrev pub told_after : Option Request → Reply → Told → Told
told_after request reply told = record { shown = shown_after told.shown (front_of reply); pending = pending_after request reply told.pending }

-- the edit of a plan
abbrev pub pending_edit : Option Pending → Option Edit
pending_edit None = None
pending_edit (Some plan) = Some plan.edit

-- the edit that a reply `done` to this request made, where this plan was pending
abbrev pub edit_made : Option Pending → Option Request → Option Edit
edit_made pending None = None
edit_made pending (Some (asks.Apply edit)) = Some edit
edit_made pending (Some asks.Commit) = pending_edit pending
edit_made pending (Some asks.Sync) = None
edit_made pending (Some (asks.Plan edit)) = None
edit_made pending (Some (asks.Level p)) = None
edit_made pending (Some (asks.Contour z)) = None
edit_made pending (Some (asks.Volume z)) = None
edit_made pending (Some asks.Stat) = None
edit_made pending (Some asks.Export) = None
edit_made pending (Some asks.Quit) = None

-- a list of that front, or of none
abbrev pub front_list : Option ℕ → List ℕ
front_list None = []
front_list (Some f) = f ∷ []

-- the fronts of the replies that an edit was made, in order
abbrev pub fronts_told : List Reply → List ℕ
fronts_told replies = flat_map (λ reply. front_list (done_front reply)) replies

-- the entries with the author's next one, where an edit was made
abbrev pub with_entry : ℕ → List Entry → Option Edit → List Entry
with_entry author h None = h
with_entry author h (Some edit) = h ++ next_entry author h edit ∷ []

-- the entries after a reply: with one more where it reports that the edit was made
abbrev pub entries_after : ℕ → List Entry → Option Edit → Reply → List Entry
entries_after author h edit reply = if is_some (done_front reply) then with_entry author h edit else h
