-- What is written for replies.
use Rattle.std.specs.Prelude.{ℕ, List, [], ◌++◌, take, Option, None, Some}
use Rattle.std.specs.List.{flat_map}
use Rattle.ground_num.specs.declared.head.Head.{Head}
use Rattle.ground_model.specs.declared.entry.Entry.{Entry}
use Rattle.ground_model.specs.History.{content_of}
use Rattle.landxml_write.specs.Text.{document}
use Rattle.line_protocol.specs.declared.reply.Reply.{Reply}
use Rattle.line_protocol.specs.Replies.{reply_text}
use Rattle.store.specs.Shown.{shown_of, shown_by}
use Rattle.turn_lock.specs.Setting.{Setting}
use Rattle.turn_lock.specs.declared.journal.Journal.{Journal}
use Rattle.session.specs.Told.{export_front}

-- the document of a surface with this head, after so many entries of the history
abbrev pub document_at : Head → List Entry → ℕ → List ℕ
document_at head h front = document (shown_of head (content_of (take front h)))

-- the document of a front, where there is one
abbrev pub document_of : (ℕ → List ℕ) → Option ℕ → List ℕ
document_of text None = []
document_of text (Some front) = text front

-- what is written for a reply of a session over the history h: its text, and for an export the document of its front
unfoldable pub text_at : Setting → List Entry → Reply → List ℕ
text_at set h reply = reply_text set.head.origin reply ++ document_of (document_at set.head h) (export_front reply)

-- what is written for a reply by a session that holds a version with this journal: its text, and for an export the document of that version
unfoldable pub held_text : Journal → Reply → List ℕ
held_text j reply = reply_text j.head.origin reply ++ document_of (λ _. document (shown_by j)) (export_front reply)

-- what is written for some replies
abbrev pub texts : Setting → List Entry → List Reply → List ℕ
texts set h replies = flat_map (text_at set h) replies
