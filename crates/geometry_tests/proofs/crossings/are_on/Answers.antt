use Rattle.std.proofs.Common.{ℕ, sym, ◌∙◌, rules, tests}
use Rattle.std.specs.Prelude.{IsTrue}
use Rattle.std.specs.FinMap as finmap
use Rattle.std.proofs.lemmas.Iterator.Consumers.{YieldsList-from_first}
use Rattle.std.proofs.lemmas.Iterator.Search.{all_from_yields_List}
use Rattle.std.proofs.lemmas.List.Elements.{All-map}
use Rattle.std.proofs.lemmas.List.Sums.{AllPass-from_list_all}
use Rattle.ground_model.specs.Line.{Line}
use Rattle.ground_model.specs.Crossings.{is_on_points}
use Rattle.geometry_tests.proofs.crossings.are_on.Goals as goal

pub returns : goal.returns
returns c = λ yes.
    All-map (λ line. IsTrue (is_on_points c.args.points.now line)) (λ (entry : ℕ × Line). entry.1) (finmap.entries c.args.lines.now.lines)
    (AllPass-from_list_all (λ (entry : ℕ × Line). is_on_points c.args.points.now entry.1) (finmap.entries c.args.lines.now.lines)
    (sym (all_from_yields_List (λ (entry : ℕ × Line). is_on_points c.args.points.now entry.1) _ _ c.all.result c.all.ensures.ran
    (YieldsList-from_first (λ item. (item.0.0, item.1.now)) (λ lines. lines) (finmap.entries c.args.lines.now.lines) c.iter.ensures) (λ x b q k. search (rules, tests)))
    ∙ yes))
