use Rattle.std.proofs.lemmas.Result.{err_from_is_err_and}
use Rattle.ground_io.proofs.Ordering.{sends_none}
use Rattle.ground_io.proofs.Texts.{appends_none, appends_part, sends_part, written_last, sent_last}
use Rattle.session.specs.Texts.{held_text}
use Rattle.session.proofs.answer.put_answer.Goals as goal

pub returns-clause-text : goal.returns-clause-text
unfolding held_text
returns-clause-text g c =
    let origin = c.origin.ensures.value in
    written_last _ _ _ _ _ _ (rw origin at c.in_ok-put_reply.ensures.text) c.put_document.ensures.text

pub returns-clause-order : goal.returns-clause-order
unfolding held_text
returns-clause-order g c =
    let origin = c.origin.ensures.value in
    sent_last _ _ _ _ _ _ (rw origin at c.in_ok-put_reply.ensures.order) c.put_document.ensures.order

pub returns-in_err-put_reply-clause-text : goal.returns-in_err-put_reply-clause-text
unfolding held_text
returns-in_err-put_reply-clause-text g c =
    let origin = c.origin.ensures.value in
    let failed = err_from_is_err_and c.from_residual.result c.from_residual.ensures.1 in
    rw failed.1 (appends_part _ _ _ _ _ _ (appends_none (g.S.Sink.written c.args.sink.now)) (rw origin at c.in_err-put_reply.ensures.text))

pub returns-in_err-put_reply-clause-order : goal.returns-in_err-put_reply-clause-order
unfolding held_text
returns-in_err-put_reply-clause-order g c =
    let origin = c.origin.ensures.value in
    let failed = err_from_is_err_and c.from_residual.result c.from_residual.ensures.1 in
    rw failed.1 (sends_part _ _ _ _ _ _ (sends_none (g.S.Sink.write_order c.args.sink.now)) (rw origin at c.in_err-put_reply.ensures.order))
