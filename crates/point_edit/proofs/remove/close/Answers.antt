use Rattle.point_edit.proofs.Closed.{closes_three, closes_four, three_out, four_out}
use Rattle.point_edit.proofs.remove.close.Goals as goal

pub unsplit-requires-clause-unsplittable : goal.unsplit-requires-clause-unsplittable
unsplit-requires-clause-unsplittable c = closes_three c.args.mesh.now.slots c.requires.sheet c.args.point c.args.at.slot c.args.at.corner c.requires.corner c.requires.removable c.requires.none (c.has_three.ensures.yes c.if-has_three.true)

pub unsplit_edge-requires-clause-straight : goal.unsplit_edge-requires-clause-straight
unsplit_edge-requires-clause-straight c = closes_four c.args.mesh.now.slots c.requires.sheet c.args.point c.args.at.slot c.args.at.corner c.requires.corner c.requires.removable c.requires.none (c.has_three.ensures.no c.if-has_three.false)

pub returns-in_ok-unsplit-clause-content : goal.returns-in_ok-unsplit-clause-content
returns-in_ok-unsplit-clause-content c =
    three_out c.args.mesh.now.slots c.requires.sheet c.args.point c.args.at.slot c.args.at.corner c.requires.corner c.requires.removable c.requires.none
    c.unsplit.new.self.slots c.args.script.now c.unsplit.new.script c.in_ok-unsplit.ensures.sheet (c.has_three.ensures.yes c.if-has_three.true) c.in_ok-unsplit.ensures.unsplit

pub returns-in_ok-unsplit_edge-clause-content : goal.returns-in_ok-unsplit_edge-clause-content
returns-in_ok-unsplit_edge-clause-content c =
    four_out c.args.mesh.now.slots c.requires.sheet c.args.point c.args.at.slot c.args.at.corner c.requires.corner c.requires.removable c.requires.none
    c.unsplit_edge.new.self.slots c.args.script.now c.unsplit_edge.new.script c.in_ok-unsplit_edge.ensures.sheet (c.has_three.ensures.no c.if-has_three.false) c.in_ok-unsplit_edge.ensures.unsplit
