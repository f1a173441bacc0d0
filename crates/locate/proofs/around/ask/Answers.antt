use Rattle.std.proofs.Common.{sym, ◌∙◌}
use Rattle.mesh.specs.Net.{side}
use Rattle.locate.proofs.Angles.{one_facet}
use Rattle.locate.proofs.around.ask.Goals as goal

pub is_in_angle-requires-clause-turned : goal.is_in_angle-requires-clause-turned
is_in_angle-requires-clause-turned c = c.requires.sheet.turned c.args.slot c.in-Some.t (sym c.triangle.ensures ∙ c.in-Some.is)

pub returns-else-is_facet_at : goal.returns-else-is_facet_at
returns-else-is_facet_at c = λ s h.
    let here = sym c.triangle.ensures ∙ c.in-Some.is in
    c.is_facet_at.ensures.no c.if-is_facet_at.false (one_facet c.args.mesh.now.slots c.requires.sheet c.args.slot (side c.args.corner) c.in-Some.t c.args.facet.now here (c.requires.corner.at c.in-Some.t here) (c.is_in_angle.ensures c.if-not-is_in_angle.false) s h)
