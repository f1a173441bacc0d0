use Rattle.std.proofs.Common.{◌≡◌, sym, ap, ◌∙◌, subst, arith, ℕ, List, length, ◌-◌}
use Rattle.std.specs.Prelude.{Option, None, Some}
use Rattle.std.specs.Ordering.{nat_cmp}
use Rattle.std.specs.FinMap as finmap
use Rattle.ground_model.specs.Line.{Line}
use Rattle.ground_model.specs.Table.{Table, without_line}
use Rattle.page_index.specs.Pairs.{without}
use Rattle.std.specs.List.{list_any}
use Rattle.ground_model.specs.Place.{Coords, is_same}
use Rattle.line_table.specs.ByPlace.{IsByPlace, IsChangedAt, without_number}
use Rattle.line_table.specs.Sound.{IsSound}
use Rattle.line_table.proofs.Places.{by_place-removed}
use Rattle.line_table.proofs.Tables.{in_order, get_of, line-is, absent, removed, sound-removed, places-enough}
use Rattle.line_table.proofs.lines.Lines.take.Goals as goal

pub returns-in_default-clause-line : goal.returns-in_default-clause-line
returns-in_default-clause-line c = c.in_default.ensures.value ∙ sym (get_of _ c.args.id.0 c.self.invariant.sound.in_order) ∙ ap (λ (t : Table). finmap.get t.lines c.args.id.0) c.self.view_is

pub returns-in_default-clause-ok : goal.returns-in_default-clause-ok
returns-in_default-clause-ok c =
    sym c.self.view_is ∙ ap (λ m. record { lines = m; next = c.self.inside.next }) (absent c.self.inside.lines c.args.id.0 c.self.invariant.sound.in_order (sym c.in_default.ensures.value)) ∙ ap (λ t. without_line t c.args.id.0) c.self.view_is

copied : (c : goal.After-self-2-1) → c.in_ok-places.places ≡ c.in-Some.line.now.places
copied c = c.in_ok-places.ensures ∙ c.as_slice.ensures ∙ c.places.ensures ∙ ap (λ (l : Line). l.places) c.get-3.ensures

pub overflow_sub-self : goal.overflow_sub-self
overflow_sub-self c = omega (arith, places-enough c.self.inside.lines c.self.inside.next c.self.inside.places c.args.id.0 c.in-Some.line.now c.self.invariant.sound (sym c.in-Some.ensures.value), c.len.ensures, ap length (c.in_ok-places.ensures ∙ c.as_slice.ensures ∙ c.places.ensures ∙ ap (λ (l : Line). l.places) c.get-3.ensures))

pub invariant_of-self-2 : goal.invariant_of-self-2
invariant_of-self-2 c =
    let h = sound-removed c.self.inside.lines c.self.inside.next c.self.inside.places c.args.id.0 c.in-Some.line.now c.self.invariant.sound (sym c.in-Some.ensures.value) in
    let sized = subst (λ n. IsSound (without c.args.id.0 c.self.inside.lines) c.self.inside.next (c.self.inside.places - n)) (sym (c.len.ensures ∙ ap length (copied c))) h in
    let changed = subst (λ (ps : List Coords). IsChangedAt (λ p. list_any (is_same p) ps) (without_number c.args.id.0) c.self.inside.by_place c.in_ok-rest.rest) (c.as_slice-2.ensures ∙ copied c) c.in_ok-rest.ensures in record {
      sound = subst (λ (es : List (ℕ × Line)). IsSound es c.self.inside.next (c.self.inside.places - c.len.result)) (sym c.in_ok-remove.ensures.ok) sized;
      by_place = subst (λ (es : List (ℕ × Line)). IsByPlace es c.in_ok-rest.rest) (sym c.in_ok-remove.ensures.ok) (by_place-removed c.self.inside.lines c.self.inside.by_place c.in_ok-rest.rest c.args.id.0 c.in-Some.line.now (in_order c.self.inside.lines c.self.invariant.sound.in_order) (sym c.in-Some.ensures.value) c.self.invariant.by_place changed);
    }

pub returns-clause-line : goal.returns-clause-line
returns-clause-line c =
    ap Some (line-is c.get-2.result.now c.in-Some.line.now _ _ (sym c.get-2.ensures) c.kind-kind.ensures (copied c ∙ ap (λ (l : Line). l.places) (sym c.get-2.ensures)))
    ∙ c.in-Some.ensures.value ∙ sym (get_of _ c.args.id.0 c.self.invariant.sound.in_order) ∙ ap (λ (t : Table). finmap.get t.lines c.args.id.0) c.self.view_is

pub returns-clause-ok : goal.returns-clause-ok
returns-clause-ok c =
    ap (λ m. record { lines = m; next = c.self.inside.next }) (ap (λ (es : List (ℕ × Line)). finmap.from_sorted {R = nat_cmp} es) c.in_ok-remove.ensures.ok ∙ removed c.self.inside.lines c.args.id.0 c.self.invariant.sound.in_order)
    ∙ ap (λ t. without_line t c.args.id.0) c.self.view_is

-- no copy is made where there is no line
some_or_none : {X : Type 0} (x : X) (found : Option X) → Some x ≡ found → found ≡ None → ⊥
some_or_none x found some none = cc

pub returns-in_err-places-clause-absent : goal.returns-in_err-places-clause-absent
returns-in_err-places-clause-absent c = λ none. absurd (some_or_none c.in-Some.line.now _ (c.in-Some.ensures.value ∙ sym (get_of _ c.args.id.0 c.self.invariant.sound.in_order) ∙ ap (λ (t : Table). finmap.get t.lines c.args.id.0) c.self.view_is) none)

pub returns-in_err-remove-clause-absent : goal.returns-in_err-remove-clause-absent
returns-in_err-remove-clause-absent c = λ none. absurd (some_or_none c.in-Some.line.now _ (c.in-Some.ensures.value ∙ sym (get_of _ c.args.id.0 c.self.invariant.sound.in_order) ∙ ap (λ (t : Table). finmap.get t.lines c.args.id.0) c.self.view_is) none)

pub returns-in_err-rest-clause-absent : goal.returns-in_err-rest-clause-absent
returns-in_err-rest-clause-absent c = λ none. absurd (some_or_none c.in-Some.line.now _ (c.in-Some.ensures.value ∙ sym (get_of _ c.args.id.0 c.self.invariant.sound.in_order) ∙ ap (λ (t : Table). finmap.get t.lines c.args.id.0) c.self.view_is) none)
