use Rattle.std.proofs.Common.{◌++◌, List, sym, ap, ◌∙◌, append-nil}
use Rattle.std.specs.Prelude.{map}
use Rattle.std.specs.List.{flat_map}
use Rattle.std.specs.FinMap as finmap
use Rattle.std.proofs.lemmas.List.{nil_from_length}
use Rattle.ground_model.specs.Place.{Coords}
use Rattle.ground_model.specs.Table.{live, counted_pieces}
use Rattle.line_table.specs.Ends.{count_over}
use Rattle.line_table.proofs.Rows.{line_row, line_rows, line_step, of_line}
use Rattle.line_table.proofs.EnoughPoints.{found-enough}
use Rattle.line_table.proofs.lines.Lines.pieces_of.Goals as goal

pub points-preserved : goal.points-preserved
points-preserved c =
    line_step c.args.points.now c.requires.ordered (live c.args.self.now) c.in-Some.line.now c.points.found.items c.add_pieces.new.found.items (flat_map (line_row c.args.points.now (live c.args.self.now) c.in-Some.line.now) c.args.points.now)
    c.points.rest.now c.in-Some-split_first.p.now c.in-Some-split_first.later.now c.find_ends_on.new.ends.items c.in-Some-split_first.ensures.cases.0 c.points.invariant.1 c.in_ok-find_ends_on.ensures (c.in_ok-add_pieces.ensures ∙ ap (λ (es : List Coords). c.points.found.items ++ map (λ q. record { p = c.in-Some-split_first.p.now; q = q; count = count_over (live c.args.self.now) c.in-Some-split_first.p.now q }) es) c.as_slice.ensures.value) c.points.invariant.0

pub returns-clause-pieces : goal.returns-clause-pieces
returns-clause-pieces c =
    of_line (finmap.get c.args.self.now.lines c.args.id.0) c.in-Some.line.now c.points.found.items (λ line. counted_pieces c.args.points.now (live c.args.self.now) line) c.in-Some.ensures
    (sym (append-nil c.points.found.items) ∙ ap (λ (ps : List Coords). c.points.found.items ++ flat_map (line_row c.args.points.now (live c.args.self.now) c.in-Some.line.now) ps) (sym (nil_from_length c.points.rest.now c.in_default-split_first.ensures.cases))
    ∙ c.points.invariant.0 ∙ line_rows c.args.points.now (live c.args.self.now) c.in-Some.line.now)

pub returns-clause-of_all : goal.returns-clause-of_all
returns-clause-of_all c = λ all sorted. found-enough (finmap.get c.args.self.now.lines c.args.id.0) c.points.found.items all c.args.points.now (live c.args.self.now) sorted c.requires.ordered (returns-clause-pieces c)
