use Rattle.std.proofs.Common.{sym, ap, ◌∙◌, subst, inl, inr, ◌⊎◌, ◌<◌, ◌^◌, arith}
use Rattle.std.specs.Prelude.{length, option_map, IsSome, Option, None, Some}
use Rattle.std.specs.FinMap as finmap
use Rattle.ground_model.specs.Height.{code}
use Rattle.page_index.specs.Pairs.{Pairs, put, value_of}
use Rattle.point_table.specs.Vertices.{Levelled, AreVertices, levels_by}
use Rattle.point_table.proofs.Vertices.{len_is, level_at, put_is, vertices_put}
use Rattle.point_table.proofs.points.Points.set.Goals as goal

some_under : (o : Option Levelled) → IsSome (option_map (λ v. v.1) o) → IsSome o
some_under None h = h
some_under (Some v) h = h

pub set-requires-clause-room : goal.set-requires-clause-room
set-requires-clause-room c = elim c.requires.room as (λ _. (length c.self.inside.index < 2 ^ 24) ⊎ IsSome (value_of c.key_of.result c.self.inside.index)) [
  | inl few ↦ inl (omega (arith, few, len_is c.self.inside.index c.self.invariant, ap (λ m. finmap.len m) c.self.view_is))
  | inr there ↦ inr (some_under _ (subst IsSome (ap (λ m. finmap.get m c.args.place) (sym c.self.view_is) ∙ level_at c.args.place c.self.inside.index c.key_of.ensures.within c.self.invariant ∙ ap (λ k. option_map (λ (v : Levelled). v.1) (value_of k c.self.inside.index)) (sym c.key_of.ensures.key)) there))
]

pub invariant_of-self-2 : goal.invariant_of-self-2
invariant_of-self-2 c = subst AreVertices (sym (c.in_ok-set.ensures.ok ∙ ap (λ k. put k (c.args.place, c.args.level) c.self.inside.index) c.key_of.ensures.key)) (vertices_put c.self.inside.index c.args.place c.self.invariant c.key_of.ensures.within c.args.level)

pub returns-clause-ok : goal.returns-clause-ok
returns-clause-ok c =
    rw (← c.self.view_is) (ap levels_by (c.in_ok-set.ensures.ok ∙ ap (λ k. put k (c.args.place, c.args.level) c.self.inside.index) c.key_of.ensures.key) ∙ put_is c.self.inside.index c.args.place c.self.invariant c.key_of.ensures.within c.args.level)
