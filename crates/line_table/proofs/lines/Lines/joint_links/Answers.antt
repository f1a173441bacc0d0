use Rattle.std.proofs.Common.{ap, ◌∙◌}
use Rattle.std.specs.FinMap as finmap
use Rattle.line_table.proofs.Searches.{first_pair}
use Rattle.line_table.proofs.Joined.{joined, pair_found, pair_passed, no_pair}
use Rattle.line_table.proofs.lines.Lines.joint_links.Goals as goal

pub returns-in-Some-partner : goal.returns-in-Some-partner
returns-in-Some-partner c =
    pair_found c.args.place (finmap.entries c.args.self.now.lines) (c.in-Some.id.0, c.in-Some.line.now) c.next.new.self c.in-Some-partner.partner.0 c.in-Some-partner.ensures
    (c.loop-id.invariant.2 ∙ ap (first_pair (joined c.args.place) (finmap.entries c.args.self.now.lines)) c.in-Some.ensures.steps)

pub loop-id-preserved : goal.loop-id-preserved
loop-id-preserved c = (
  tt,
  tt,
  c.loop-id.invariant.2 ∙ ap (first_pair (joined c.args.place) (finmap.entries c.args.self.now.lines)) c.in-Some.ensures.steps
      ∙ pair_passed c.args.place (finmap.entries c.args.self.now.lines) (c.in-Some.id.0, c.in-Some.line.now) c.next.new.self c.in_default.ensures,
)

pub returns : goal.returns
returns c = no_pair c.args.place (finmap.entries c.args.self.now.lines) (c.loop-id.invariant.2 ∙ ap (first_pair (joined c.args.place) (finmap.entries c.args.self.now.lines)) c.in-None.ensures.steps.0)
