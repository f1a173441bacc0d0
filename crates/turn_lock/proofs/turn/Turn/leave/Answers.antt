use Rattle.std.proofs.Common.{rules, refl, ◌%◌, ◌^◌, ◌∙◌, ◌∷◌, ap, sym, Some}
use Rattle.atomic_table.specs.Table.{rest}
use Rattle.turn_lock.specs.Rule.{ticket}
use Rattle.turn_lock.specs.Seat.{Seat, Lock}
use Rattle.turn_lock.specs.declared.view.Stage.TheVariants.{Holds}
use Rattle.turn_lock.proofs.Moves.{passes}
use Rattle.turn_lock.proofs.turn.Turn.leave.Goals as goal

pub store-requires : goal.store-requires
store-requires g c =
    let now = c.exchange-old.ensures.3 in
    let turn = c.self.invariant in
    let table = c.exchange-old.ensures.0 ∙ (turn.seated ∙ sym (ap (λ (l : Lock). l.table) c.lock.view_is)) in
    let carries = ap (λ m. m.1) now ∙ ap (λ cs. (0, Some c.args.value) ∷ rest cs) turn.carries in
    let is = ap (λ m. m.0.stage) now ∙ (turn.holds ∙ ap (λ m. Holds (ticket m.0.stage)) (sym now)) in
    let same = c.requires ∙ (sym (ap (λ (s : Seat). s.seen) c.self.view_is) ∙ ap (λ m. m.0.seen) (sym now)) in
    let size = turn.turn_is ∙ ap (λ m. ticket m.0.stage % 2 ^ 64) (sym now) in
    (table, search rules, passes g.S.Filed.journal _ _ _ _ _ _ c.args.value c.self.inside.ticket _ carries is same size refl)
