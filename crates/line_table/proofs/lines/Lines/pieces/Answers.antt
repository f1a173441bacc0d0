use Rattle.std.proofs.Common.{◌++◌, List, sym, ap, ◌∙◌, append-nil}
use Rattle.std.specs.Prelude.{map}
use Rattle.std.specs.List.{flat_map}
use Rattle.std.proofs.lemmas.List.{nil_from_length}
use Rattle.ground_model.specs.Place.{Coords}
use Rattle.ground_model.specs.Table.{live}
use Rattle.line_table.specs.Ends.{count_over}
use Rattle.line_table.proofs.Rows.{all_row, all_rows, all_step}
use Rattle.line_table.proofs.lines.Lines.pieces.Goals as goal

pub points-preserved : goal.points-preserved
points-preserved c =
    all_step c.args.points.now c.requires.ordered (live c.args.self.now) c.points.found.items c.add_pieces.new.found.items (flat_map (all_row c.args.points.now (live c.args.self.now)) c.args.points.now)
    c.points.rest.now c.in-Some.p.now c.in-Some.later.now c.find_ends.new.ends.items c.in-Some.ensures.cases.0 c.points.invariant.1 c.in_ok-find_ends.ensures (c.in_ok-add_pieces.ensures ∙ ap (λ (es : List Coords). c.points.found.items ++ map (λ q. record { p = c.in-Some.p.now; q = q; count = count_over (live c.args.self.now) c.in-Some.p.now q }) es) c.as_slice.ensures.value) c.points.invariant.0

pub returns : goal.returns
returns c =
    sym (append-nil c.points.found.items) ∙ ap (λ (ps : List Coords). c.points.found.items ++ flat_map (all_row c.args.points.now (live c.args.self.now)) ps) (sym (nil_from_length c.points.rest.now c.in_default.ensures.cases)) ∙ c.points.invariant.0 ∙ all_rows c.args.points.now (live c.args.self.now)
