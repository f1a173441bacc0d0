use Rattle.std.proofs.Common.{sym, ap, ◌∙◌, Some, ℕ}
use Rattle.std.specs.Prelude.{option_map}
use Rattle.point_table.specs.Vertices.{Levelled}
use Rattle.point_table.proofs.Vertices.{at_is}
use Rattle.point_table.proofs.points.Points.at.Goals as goal

pub returns-in-Some : goal.returns-in-Some
returns-in-Some c = rw (← c.self.view_is) (ap Some c.vertex.view_is ∙ ap (option_map (λ (x : ℕ × Levelled). x.1)) c.in-Some.ensures.pair ∙ sym (at_is c.self.inside.index c.args.k c.self.invariant))

pub returns-in-None : goal.returns-in-None
returns-in-None c = rw (← c.self.view_is) (ap (option_map (λ (x : ℕ × Levelled). x.1)) c.in-None.ensures.pair ∙ sym (at_is c.self.inside.index c.args.k c.self.invariant))
