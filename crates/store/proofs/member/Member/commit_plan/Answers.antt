use Rattle.store.proofs.Moves.{done-made, conflict-made, refused-made}
use Rattle.store.proofs.member.Member.commit_plan.Goals as goal

pub returns-in-Done : goal.returns-in-Done
returns-in-Done g c =
    done-made c.args.author c.args.plan.edit c.args.store.now.journal c.commit.new.self.journal c.args.self.now c.holds.new.self c.in-Done.version.journal c.holds.result
    c.requires.none c.holds.ensures.holds c.in-Done.ensures.answer.2 c.holds.ensures.front _ c.in-Done.line c.in-Done.ensures.answer.0 c.in-Done.ensures.answer.1

pub returns-in-Conflict : goal.returns-in-Conflict
returns-in-Conflict g c =
    conflict-made c.args.author c.args.plan.edit c.args.store.now.journal c.commit.new.self.journal c.args.self.now c.holds-in-Conflict.new.self c.in-Conflict.version.journal c.holds-in-Conflict.result
    c.requires.none c.holds-in-Conflict.ensures.holds c.in-Conflict.ensures.answer.3 c.holds-in-Conflict.ensures.front _ c.in-Conflict.mark c.in-Conflict.ensures.answer.0 c.in-Conflict.ensures.answer.2

pub returns-in-Refused : goal.returns-in-Refused
returns-in-Refused g c =
    refused-made c.args.author c.args.plan.edit c.args.store.now.journal c.commit.new.self.journal c.args.self.now c.holds-in-Refused.new.self c.in-Refused.version.journal c.holds-in-Refused.result
    c.requires.none c.holds-in-Refused.ensures.holds c.in-Refused.ensures.answer.2 c.holds-in-Refused.ensures.front _ c.in-Refused.cause c.in-Refused.ensures.answer.0 c.in-Refused.ensures.answer.1
