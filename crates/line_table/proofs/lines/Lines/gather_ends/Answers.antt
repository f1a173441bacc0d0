use Rattle.std.proofs.Common.{◌++◌, ℕ, List, sym, ap, ◌∙◌, append_assoc}
use Rattle.std.specs.Prelude.{map}
use Rattle.std.specs.List.{flat_map, filter_map}
use Rattle.ground_model.specs.Place.{Coords}
use Rattle.ground_model.specs.Line.{Line, Segment}
use Rattle.line_table.specs.Ends.{next_on, next_points}
use Rattle.line_table.proofs.lines.Lines.gather_ends.Goals as goal

pub loop-line-preserved : goal.loop-line-preserved
unfolding next_points
loop-line-preserved c =
    let rest : List Coords = flat_map (next_points c.args.later.now c.args.p) (map (λ (entry : ℕ × Line). entry.1) c.next.new.self) in (
      tt,
      tt,
      c.loop-line.invariant.2
          ∙ ap (λ (es : List (ℕ × Line)). c.loop-line.ends.items ++ flat_map (next_points c.args.later.now c.args.p) (map (λ entry. entry.1) es)) c.in-Some.ensures.steps
          ∙ sym (append_assoc c.loop-line.ends.items (next_points c.args.later.now c.args.p c.in-Some.line.now) rest)
          ∙ ap (λ xs. xs ++ rest) (sym (c.in_ok-add_ends.ensures ∙ ap (λ (ls : List Segment). c.loop-line.ends.items ++ filter_map (next_on c.args.later.now c.args.p) ls) c.links.ensures)),
    )
