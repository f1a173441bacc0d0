use Rattle.std.proofs.Common.{sym, ap, ◌∙◌, subst, arith, ℕ, List, length, ◌+◌, ◌^◌, ◌<◌}
use Rattle.std.specs.Ordering.{nat_cmp}
use Rattle.std.specs.FinMap as finmap
use Rattle.ground_model.specs.Line.{Line}
use Rattle.ground_model.specs.Table.{Table, with_line}
use Rattle.page_index.specs.Pairs.{put}
use Rattle.std.specs.List.{list_any}
use Rattle.ground_model.specs.Place.{Coords, is_same}
use Rattle.line_table.specs.ByPlace.{IsByPlace, IsChangedAt, with_number}
use Rattle.line_table.specs.Sound.{IsSound}
use Rattle.line_table.proofs.Places.{by_place-added}
use Rattle.line_table.proofs.Tables.{added, sound-added, places-small, len_of}
use Rattle.line_table.proofs.lines.Lines.add.Goals as goal

pub overflow_add-self-in-Ok-set : goal.overflow_add-self-in-Ok-set
overflow_add-self-in-Ok-set c = omega (arith, places-small _ _ _ c.self.invariant.sound)

room : (c : goal.After-drop-places-inside) → length c.self.inside.lines < 65535
room c = omega (arith, c.requires.few, len_of c.self.inside.lines c.self.invariant.sound.in_order, ap (λ (t : Table). finmap.len t.lines) c.self.view_is)

short : (c : goal.After-drop-places-inside) → length c.in-Ok.line.places < 2 ^ 32
short c = omega (arith, c.requires.short, ap (λ (l : Line). length l.places) c.in-Ok.ensures)

more : (c : goal.After-drop-places-inside) → c.self.inside.next + 1 < 2 ^ 32
more c = omega (arith, c.requires.numbers, ap (λ (t : Table). t.next) c.self.view_is)

pub invariant_of-self : goal.invariant_of-self
invariant_of-self c =
    let h = sound-added c.self.inside.lines c.self.inside.next c.self.inside.places c.in-Ok.line c.self.invariant.sound (more c) (room c) (short c) in
    let sized = subst (λ n. IsSound (put c.self.inside.next c.in-Ok.line c.self.inside.lines) (c.self.inside.next + 1) (c.self.inside.places + n)) (ap (λ (l : Line). length l.places) c.in-Ok.ensures ∙ sym c.len.ensures) h in
    let changed = subst (λ (ps : List Coords). IsChangedAt (λ p. list_any (is_same p) ps) (with_number c.self.inside.next) c.self.inside.by_place c.in-Ok-with_line.more) (c.as_slice.ensures ∙ sym (ap (λ (l : Line). l.places) c.in-Ok.ensures)) c.in-Ok-with_line.ensures in record {
      sound = subst (λ (es : List (ℕ × Line)). IsSound es (c.self.inside.next + 1) (c.self.inside.places + c.len.result)) (sym c.in-Ok-set.ensures.ok) sized;
      by_place = subst (λ (es : List (ℕ × Line)). IsByPlace es c.in-Ok-with_line.more) (sym c.in-Ok-set.ensures.ok) (by_place-added c.self.inside.lines c.self.inside.by_place c.in-Ok-with_line.more c.self.inside.next c.in-Ok.line c.self.invariant.sound.fresh c.self.invariant.by_place changed);
    }

pub returns-in-Ok-set-clause-ok : goal.returns-in-Ok-set-clause-ok
returns-in-Ok-set-clause-ok c =
    ap (λ m. record { lines = m; next = c.self.inside.next + 1 }) (ap (λ (es : List (ℕ × Line)). finmap.from_sorted {R = nat_cmp} es) c.in-Ok-set.ensures.ok ∙ added c.self.inside.lines c.self.inside.next c.in-Ok.line c.self.invariant.sound.in_order)
    ∙ ap (with_line (record { lines = finmap.from_sorted c.self.inside.lines; next = c.self.inside.next })) c.in-Ok.ensures
    ∙ ap (λ t. with_line t (record { kind = c.args.kind; places = c.args.places })) c.self.view_is
