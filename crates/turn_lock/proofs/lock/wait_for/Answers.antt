use Rattle.std.proofs.Common.{rules, ◌≡◌, ◌%◌, ◌^◌, ◌∙◌, ◌∷◌, ap, sym, subst, Some}
use Rattle.atomic_table.specs.Table.{rest}
use Rattle.turn_lock.specs.Rule.{ticket}
use Rattle.turn_lock.specs.declared.view.Stage.TheVariants.{Waits}
use Rattle.turn_lock.proofs.Moves.{serves}
use Rattle.turn_lock.proofs.lock.wait_for.Goals as goal

pub load-now-requires : goal.load-now-requires
load-now-requires g c =
    let is = subst (λ m. m.0.stage ≡ Waits (ticket m.0.stage)) (sym c.loop.invariant.1) c.requires.seat.1 in
    (search rules, search rules, serves g.S.Filed.journal _ _ _ _ _ _ is)

pub exchange-requires : goal.exchange-requires
exchange-requires g c =
    let same = c.loop.invariant.1 in
    let mine : c.load-now.result ≡ ticket c.loop.table_seat.me.0.stage % 2 ^ 64 = c.if-now-mine.true ∙ (c.requires.seat.2 ∙ ap (λ m. ticket m.0.stage % 2 ^ 64) (sym same)) in
    let took = c.load-now.ensures.2.0 mine in
    let bare = ap (λ m. m.1) took.2 ∙ ap (λ cs. (0, Some took.0) ∷ cs) (ap (λ m. m.1) same ∙ c.requires.seat.0) in
    (search rules, (_, bare ∙ ap (λ cs. (0, Some took.0) ∷ rest cs) (sym bare)))
