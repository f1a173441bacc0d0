use Rattle.std.proofs.Common.{sym, ap, ◌∙◌, Some}
use Rattle.std.specs.Prelude.{option_map}
use Rattle.page_index.specs.Pairs.{value_of}
use Rattle.point_table.specs.Vertices.{Levelled}
use Rattle.point_table.proofs.Vertices.{level_at}
use Rattle.point_table.proofs.points.Points.level_of.Goals as goal

pub returns-in-Some : goal.returns-in-Some
returns-in-Some c =
    rw (← c.self.view_is) (ap (λ (v : Levelled). Some v.1) c.vertex.view_is ∙ ap (option_map (λ (v : Levelled). v.1)) c.in-Some.ensures.value
    ∙ ap (λ k. option_map (λ (v : Levelled). v.1) (value_of k c.self.inside.index)) c.key_of.ensures.key ∙ sym (level_at c.args.place c.self.inside.index c.key_of.ensures.within c.self.invariant))

pub returns-in-None : goal.returns-in-None
returns-in-None c =
    rw (← c.self.view_is) (ap (option_map (λ (v : Levelled). v.1)) c.in-None.ensures.value
    ∙ ap (λ k. option_map (λ (v : Levelled). v.1) (value_of k c.self.inside.index)) c.key_of.ensures.key ∙ sym (level_at c.args.place c.self.inside.index c.key_of.ensures.within c.self.invariant))
