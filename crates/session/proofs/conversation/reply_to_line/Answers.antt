use Rattle.std.proofs.Common.{[]}
use Rattle.session.proofs.LineReplies.{serves_line, range_line, fault_line, memory_line}
use Rattle.session.proofs.conversation.reply_to_line.Goals as goal

pub returns-in-Ok-clause-serves : goal.returns-in-Ok-clause-serves
returns-in-Ok-clause-serves g c =
    let s = c.reply_to_request.ensures.serves in
    (s.0, s.1, serves_line _ _ c.args.line.now _ c.reply_to_request.result s.0 c.requires.prefix (rw c.origin.ensures.value at c.in-Ok.ensures.reads) s.2)

pub returns-in-Err-Syntax-clause-serves : goal.returns-in-Err-Syntax-clause-serves
returns-in-Err-Syntax-clause-serves g c =
    let read = rw c.in-Err-Syntax.field-0-is at c.in-Err-Syntax.ensures.reads in
    ([], g.met.T.Turns.finds_none c.args.turns.now, rw c.in-Err-Syntax.offset-is (fault_line _ _ c.args.line.now c.in-Err-Syntax.offset read.0 read.1))

pub returns-in-Err-Range-clause-serves : goal.returns-in-Err-Range-clause-serves
returns-in-Err-Range-clause-serves g c =
    let read = rw (c.in-Err-Range.field-0-is, c.origin.ensures.value) at c.in-Err-Range.ensures.reads in
    ([], g.met.T.Turns.finds_none c.args.turns.now, range_line _ _ c.args.line.now read.0 read.1)

pub returns-in-Err-Memory-clause-serves : goal.returns-in-Err-Memory-clause-serves
returns-in-Err-Memory-clause-serves g c = ([], g.met.T.Turns.finds_none c.args.turns.now, memory_line _ _ c.args.line.now (rw (c.in-Err-Memory.field-0-is, c.origin.ensures.value) at c.in-Err-Memory.ensures.reads))
