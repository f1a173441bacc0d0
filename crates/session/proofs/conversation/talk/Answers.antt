use Rattle.session.proofs.Alone.{talk_of}
use Rattle.session.proofs.conversation.talk.Goals as goal

pub returns-clause-session : goal.returns-clause-session
returns-clause-session g c = talk_of 1 c.args.store.now.journal c.converse-ended.new.turns.journal c.args.budget _ _ c.front-front.ensures.legal c.converse-ended.result c.converse-ended.ensures.session
