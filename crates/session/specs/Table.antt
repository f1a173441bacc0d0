-- The reply to each request, at the history that the reply speaks of.
use Rattle.std.specs.Prelude.{◌≡◌, List, length, Option, None, Some}
use Rattle.std.specs.FinMap as finmap
use Rattle.ground_model.specs.declared.edit.Edit.{Edit}
use Rattle.ground_model.specs.declared.entry.Entry.{Entry}
use Rattle.ground_model.specs.declared.refusal.Refusal.{Refusal}
use Rattle.ground_model.specs.Refusal.{refusal}
use Rattle.ground_model.specs.Zone.{zone}
use Rattle.ground_model.specs.History.{content_of}
use Rattle.ground_model.specs.Level.{level_at}
use Rattle.ground_model.specs.Contour.{contour_at}
use Rattle.ground_model.specs.Volume.{volume_over}
use Rattle.ground_model.specs.Slope.{relief}
use Rattle.ground_model.specs.Answer as answers
use Rattle.ground_model.specs.Answer.{Answer, Pending, answer}
use Rattle.line_protocol.specs.declared.reply.Reply.{Reply}
use Rattle.line_protocol.specs.declared.reply.Reply.TheVariants.{Held, Planned, Done, Conflict, Refused, Level, Contour, Volume, Stat, Bye, NoPlan, Export}
use Rattle.line_protocol.specs.declared.request.Request.{Request}
use Rattle.line_protocol.specs.declared.request.Request.TheVariants as asks
use Rattle.landxml_write.specs.Text.{document}
use Rattle.store.specs.Shown.{shown_of}
use Rattle.turn_lock.specs.Setting.{Setting}

-- the answer to an edit, as a reply
abbrev pub to_edit : Answer → Reply
to_edit (answers.Conflict front m) = Conflict front m
to_edit (answers.Refused front cause) = Refused front cause
to_edit (answers.Done front line) = Done front line

-- the reply to a plan, at the history that it is made on
abbrev pub to_plan : List Entry → Edit → Option Refusal → Reply
to_plan h edit (Some cause) = Refused (length h) cause
to_plan h edit None = Planned (length h) (length (zone (content_of h) edit))

-- the reply to a commit, where this plan is pending
abbrev pub to_commit : Setting → List Entry → Option Pending → Reply
to_commit set h None = NoPlan
to_commit set h (Some plan) = to_edit (answer set.limits h plan.base plan.edit)

-- the reply to each request, at a history that has the entries that the reply speaks of and no more, where this plan is pending
abbrev pub IsReply : Setting → List Entry → Option Pending → Request → Reply → Type 0
IsReply set h pending (asks.Apply edit) reply = reply ≡ to_edit (answer set.limits h (length h) edit)
IsReply set h pending asks.Stat reply = reply ≡ Stat (length h) (finmap.len (content_of h).points) (finmap.len (content_of h).table.lines)
IsReply set h pending (asks.Level p) reply = reply ≡ Level (length h) (level_at (relief (content_of h)) p)
IsReply set h pending asks.Quit reply = reply ≡ Bye
IsReply set h pending asks.Sync reply = reply ≡ Held (length h)
IsReply set h pending (asks.Plan edit) reply = reply ≡ to_plan h edit (refusal (content_of h) (length h) set.limits edit)
IsReply set h pending asks.Commit reply = reply ≡ to_commit set h pending
IsReply set h pending (asks.Contour z) reply = reply ≡ Contour (length h) (contour_at (relief (content_of h)) z)
IsReply set h pending (asks.Volume z) reply = reply ≡ Volume (length h) (volume_over (relief (content_of h)) z)
IsReply set h pending asks.Export reply = reply ≡ Export (length h) (length (document (shown_of set.head (content_of h))))
