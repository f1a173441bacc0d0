use Rattle.std.proofs.Common.{sym, ap, ◌∙◌, subst, refl}
use Rattle.std.specs.Prelude.{option_map, IsSome}
use Rattle.page_index.specs.Pairs.{value_of}
use Rattle.point_table.specs.Vertices.{Levelled}
use Rattle.point_table.proofs.Vertices.{level_at}
use Rattle.point_table.proofs.points.Points.near.Goals as goal

pub returns-in-Some : goal.returns-in-Some
returns-in-Some c =
    rw (← c.self.view_is) (
      λ _. subst IsSome (ap (option_map (λ (v : Levelled). v.1)) c.in-Some.ensures.value
          ∙ ap (λ k. option_map (λ (v : Levelled). v.1) (value_of k c.self.inside.index)) c.key_of.ensures.key ∙ sym (level_at c.args.place c.self.inside.index c.key_of.ensures.within c.self.invariant)) refl,
      λ _. refl,
    )

pub returns-in-None : goal.returns-in-None
returns-in-None c =
    rw (← c.self.view_is) (
      λ e. cc,
      λ some. subst IsSome (sym (ap (option_map (λ (v : Levelled). v.1)) c.in-None.ensures.value
          ∙ ap (λ k. option_map (λ (v : Levelled). v.1) (value_of k c.self.inside.index)) c.key_of.ensures.key ∙ sym (level_at c.args.place c.self.inside.index c.key_of.ensures.within c.self.invariant))) some,
    )
