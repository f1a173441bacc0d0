use Rattle.std.proofs.Common.{◌≡◌, true, false, refl, sym, ap, ◌∙◌, subst}
use Rattle.std.specs.Prelude.{option_map, Option, None, Some, IsOk}
use Rattle.std.specs.FinMap as finmap
use Rattle.ground_model.specs.Height.{code}
use Rattle.page_index.specs.Pairs.{Pairs, value_of, without}
use Rattle.point_table.specs.Vertices.{Levelled, AreVertices, levels_by}
use Rattle.point_table.proofs.Vertices.{level_at, vertices_without, without_is}
use Rattle.point_table.proofs.points.Points.remove.Goals as goal

none_under : (o : Option Levelled) → option_map (λ v. v.1) o ≡ None → o ≡ None
none_under None h = refl
none_under (Some v) h = cc

pub returns-in_err-remove-clause-absent : goal.returns-in_err-remove-clause-absent
returns-in_err-remove-clause-absent c none =
    let gone = sym (level_at c.args.place c.self.inside.index c.key_of.ensures.within c.self.invariant) ∙ ap (λ m. finmap.get m c.args.place) c.self.view_is ∙ none in
    let ok : false ≡ true = subst IsOk c.in_err-remove.was (c.remove.ensures.absent (none_under _ (ap (λ k. option_map (λ (v : Levelled). v.1) (value_of k c.self.inside.index)) c.key_of.ensures.key ∙ gone))) in
    cc

pub invariant_of-self-2 : goal.invariant_of-self-2
invariant_of-self-2 c = subst AreVertices (sym (c.in_ok-remove.ensures.ok ∙ ap (λ k. without k c.self.inside.index) c.key_of.ensures.key)) (vertices_without c.self.inside.index c.args.place c.self.invariant c.key_of.ensures.within)

pub returns-clause-level : goal.returns-clause-level
returns-clause-level c =
    rw (← c.self.view_is) (c.level_in.ensures ∙ ap (option_map (λ (v : Levelled). v.1)) c.in_ok-remove.ensures.value
    ∙ ap (λ k. option_map (λ (v : Levelled). v.1) (value_of k c.self.inside.index)) c.key_of.ensures.key ∙ sym (level_at c.args.place c.self.inside.index c.key_of.ensures.within c.self.invariant))

pub returns-clause-ok : goal.returns-clause-ok
returns-clause-ok c =
    rw (← c.self.view_is) (ap levels_by (c.in_ok-remove.ensures.ok ∙ ap (λ k. without k c.self.inside.index) c.key_of.ensures.key) ∙ without_is c.self.inside.index c.args.place c.self.invariant c.key_of.ensures.within)
