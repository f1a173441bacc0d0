use Rattle.std.proofs.Common.{refl}
use Rattle.store.proofs.Runs.{serves}
use Rattle.store.proofs.run.Run.step.Goals as goal

pub returns : goal.returns
returns g c =
    serves c.args.self.now c.take.new.self c.answer.new.self _ c.args.event.now c.in_ok-member.member c.answer.new.member c.in_ok-reply.reply
    _ c.session-session.ensures c.in_ok-member.ensures c.in_ok-reply.ensures.moves c.answer.ensures.first c.answer.ensures.members refl refl c.in_ok-insert.ensures.updates.0
