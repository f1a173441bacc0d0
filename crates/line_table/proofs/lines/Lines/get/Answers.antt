use Rattle.std.proofs.Common.{sym, ap, ◌∙◌}
use Rattle.std.specs.Prelude.{Some}
use Rattle.std.specs.FinMap as finmap
use Rattle.ground_model.specs.Line.{Line}
use Rattle.ground_model.specs.Table.{Table}
use Rattle.line_table.proofs.Tables.{get_of, line-is}
use Rattle.line_table.proofs.lines.Lines.get.Goals as goal

pub returns-in-Some : goal.returns-in-Some
returns-in-Some c =
    ap Some (line-is c.get-in-Some.result.now c.in-Some.line.now _ _ (sym c.get-in-Some.ensures) c.kind.ensures (c.places.ensures ∙ ap (λ (l : Line). l.places) (c.get-in-Some-2.ensures ∙ sym c.get-in-Some.ensures)))
    ∙ c.in-Some.ensures.value ∙ sym (get_of _ c.args.id.0 c.self.invariant.sound.in_order) ∙ ap (λ (t : Table). finmap.get t.lines c.args.id.0) c.self.view_is

pub returns-in-None : goal.returns-in-None
returns-in-None c = c.in-None.ensures.value ∙ sym (get_of _ c.args.id.0 c.self.invariant.sound.in_order) ∙ ap (λ (t : Table). finmap.get t.lines c.args.id.0) c.self.view_is
