use Rattle.std.proofs.Common.{◌∙◌, subst, sym, append-nil}
use Rattle.std.proofs.lemmas.Result.{err_from_is_err_and}
use Rattle.turn_lock.specs.declared.journal.Journal.{Journal}
use Rattle.session.specs.Talking.{ServesLine, position}
use Rattle.session.proofs.Quits.{bye_is}
use Rattle.session.proofs.conversation.answer_line.Goals as goal

pub returns-clause-answered : goal.returns-clause-answered
returns-clause-answered g c =
    let s = c.reply_to_line-reply.ensures.serves in
    let serves = subst (λ (j : Journal). ServesLine (g.T.Turns.number c.args.turns.now) (position (g.T.Turns.seen c.args.turns.now) c.args.session.now, position j c.reply_to_line-reply.new.session) c.args.line.now c.reply_to_line-reply.result s.0) (sym c.before_reply.ensures.seen) s.2 in (
      s.0,
      subst (g.T.Turns.Finds c.args.turns.now c.before_reply.new.self) (append-nil s.0) (g.met.T.Turns.finds_both _ _ _ _ _ s.1 c.before_reply.ensures.finds),
      record {
        reply = c.reply_to_line-reply.result;
        serves = serves;
        told = (c.is_farewell.ensures ∙ bye_is _ _ _ _ _ serves, record { appended = c.in_ok-put_answer.ensures.text; sent = c.in_ok-put_answer.ensures.order });
      },
    )

pub returns-in_err-put_answer-clause-answered : goal.returns-in_err-put_answer-clause-answered
returns-in_err-put_answer-clause-answered g c =
    let s = c.reply_to_line-reply.ensures.serves in
    let serves = subst (λ (j : Journal). ServesLine (g.T.Turns.number c.args.turns.now) (position (g.T.Turns.seen c.args.turns.now) c.args.session.now, position j c.reply_to_line-reply.new.session) c.args.line.now c.reply_to_line-reply.result s.0) (sym c.before_reply.ensures.seen) s.2 in
    let failed = err_from_is_err_and c.from_residual.result c.from_residual.ensures.1 in (
      s.0,
      subst (g.T.Turns.Finds c.args.turns.now c.before_reply.new.self) (append-nil s.0) (g.met.T.Turns.finds_both _ _ _ _ _ s.1 c.before_reply.ensures.finds),
      rw failed.1 (record {
        reply = c.reply_to_line-reply.result;
        serves = serves;
        told = record { appended = c.in_err-put_answer.ensures.text; sent = c.in_err-put_answer.ensures.order };
      }),
    )
