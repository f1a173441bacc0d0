use Rattle.std.proofs.Common.{◌≡◌, ◌∷◌, ◌++◌, [], List, Option, refl, sym, ap, ◌∙◌, subst, arith, Some}
use Rattle.atomic_table.specs.Table.{opening}
use Rattle.turn_lock.specs.Rule.{InTurn}
use Rattle.turn_lock.specs.Steps.{opener}
use Rattle.turn_lock.proofs.Seats.{starts}
use Rattle.turn_lock.proofs.open.open_board.Goals as goal

pub new-requires : goal.new-requires
new-requires g c =
    let journal = g.S.Filed.journal in
    let front = c.from.result in
    let fits = c.ranges.seats.fits in
    let slots : c.push.new.self.items ≡ Some c.args.value ∷ [] = c.in_default.ensures.items ∙ ap (λ xs. xs ++ Some c.args.value ∷ []) c.new-slots.ensures.items in
    subst (λ (p : List (Option g.row.S.Denot) × g.row.S.Denot). InTurn journal c.args.seats (journal p.1) (opening (front ∷ 0 ∷ 0 ∷ []) p.0 (opener (journal p.1)))) (λ i. (sym slots i, sym c.of.ensures i))
    (starts journal c.args.seats (journal c.args.value) c.args.value front (c.from.ensures ∙ c.requires.1) c.requires.0 (omega arith) refl)
