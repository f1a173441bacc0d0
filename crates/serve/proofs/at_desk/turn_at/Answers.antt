use Rattle.serve.proofs.Turns.{hold-at, commit-at, apply-at}
use Rattle.serve.proofs.at_desk.turn_at.Goals as goal

pub returns-in-Hold-clause-turn : goal.returns-in-Hold-clause-turn
returns-in-Hold-clause-turn g c = hold-at c.args.pass c.hold-pass.result.0 c.args.session.now c.begin_turn.new.session c.end_turn.new.session c.args.request c.end_turn.result c.hold-pass.ensures.legal c.hold-pass.result.1 c.in-Hold.ensures c.hold-pass.ensures.turn c.hold-pass.ensures.version c.end_turn.ensures.ends

pub returns-in-Commit-clause-turn : goal.returns-in-Commit-clause-turn
returns-in-Commit-clause-turn g c = commit-at c.args.pass c.commit-pass.result.0 c.args.session.now c.begin_turn.new.session c.end_turn-in-Commit.new.session c.args.request c.end_turn-in-Commit.result c.commit-pass.ensures.legal c.in-Commit.plan c.commit-pass.result.1 c.requires.author c.in-Commit.ensures c.commit-pass.ensures.turn c.end_turn-in-Commit.ensures.ends

pub returns-in-Apply-clause-turn : goal.returns-in-Apply-clause-turn
returns-in-Apply-clause-turn g c = apply-at c.args.pass c.apply-pass.result.0 c.args.session.now c.begin_turn.new.session c.end_turn-in-Apply.new.session c.args.request c.end_turn-in-Apply.result c.apply-pass.ensures.legal c.in-Apply.edit c.apply-pass.result.1 c.requires.author c.in-Apply.ensures c.apply-pass.ensures.turn c.end_turn-in-Apply.ensures.ends
