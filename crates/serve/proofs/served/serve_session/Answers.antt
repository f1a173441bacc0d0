use Rattle.serve.proofs.Sessions.{served-by}
use Rattle.serve.proofs.served.serve_session.Goals as goal

pub returns-clause-session : goal.returns-clause-session
returns-clause-session g c = (served-by _ _ _ _ c.args.pass c.into_pass.result c.args.budget _ c.converse-ended.result c.new-turns.ensures.pass c.into_pass.ensures c.converse-ended.ensures.session c.converse-ended.ensures.stays).0

pub returns-clause-pass : goal.returns-clause-pass
returns-clause-pass g c = (served-by _ _ _ _ c.args.pass c.into_pass.result c.args.budget _ c.converse-ended.result c.new-turns.ensures.pass c.into_pass.ensures c.converse-ended.ensures.session c.converse-ended.ensures.stays).1

pub returns-clause-goes_on : goal.returns-clause-goes_on
returns-clause-goes_on g c = (served-by _ _ _ _ c.args.pass c.into_pass.result c.args.budget _ c.converse-ended.result c.new-turns.ensures.pass c.into_pass.ensures c.converse-ended.ensures.session c.converse-ended.ensures.stays).2
