use Rattle.std.proofs.Common.{◌∙◌, sym}
use Rattle.landxml_read.proofs.Outlines.{utf8_at_end, cut_at_end, utf8_whole, document_whole}
use Rattle.landxml_read.proofs.standing.Standing.finish.Goals as goal

pub returns-then-not-is_ready-clause-fault : goal.returns-then-not-is_ready-clause-fault
returns-then-not-is_ready-clause-fault c seen at = rw c.from.ensures (utf8_at_end seen c.args.self at (sym c.is_ready.ensures ∙ c.if-not-is_ready.true))

pub returns-then-not-is_end-clause-fault : goal.returns-then-not-is_end-clause-fault
returns-then-not-is_end-clause-fault c seen at =
    rw c.from-then-not-is_end.ensures (cut_at_end seen c.args.self at (utf8_whole seen c.args.self at (sym c.is_ready.ensures ∙ c.if-not-is_ready.false)) (sym c.is_end.ensures ∙ c.if-not-is_end.true))

pub returns-clause-whole : goal.returns-clause-whole
returns-clause-whole c seen at =
    (utf8_whole seen c.args.self at (sym c.is_ready.ensures ∙ c.if-not-is_ready.false), document_whole seen c.args.self at (sym c.is_end.ensures ∙ c.if-not-is_end.false))
