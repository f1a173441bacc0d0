use Rattle.std.proofs.Common.{◌≡◌, refl, subst, sym}
use Rattle.store.specs.Versions.{StoreView}
use Rattle.session.specs.Sessions.{TurnStep, Begins, Ends}
use Rattle.session.proofs.Stepped.{turn-hold, turn-commit, turn-apply}
use Rattle.session.proofs.session.turn_step.Goals.{in-Hold, in-Commit, in-Apply}
use Rattle.session.proofs.session.turn_step.Goals as goal

pub returns-clause-step : goal.returns-clause-step
returns-clause-step g c =
    let own : c.args.session.now.author ≡ c.session.inside.author = rw (← c.session.view_is) refl in
    elim c.match-begin_turn.branch [
      | in-Hold w ↦ subst (λ (s : StoreView). TurnStep (c.args.store.now.journal, s.journal) c.args.session.now c.end_turn.new.session c.args.request c.end_turn.result) (sym w.store-is)
          (turn-hold c.args.session.now c.begin_turn.new.session c.end_turn.new.session c.args.store.now.journal c.args.request _ c.end_turn.result
          (subst (Begins c.args.session.now c.begin_turn.new.session c.args.request) w.in-Hold.is c.begin_turn.ensures) w.newest.ensures
          (subst (λ d. Ends c.begin_turn.new.session c.end_turn.new.session d c.end_turn.result) w.done-is c.end_turn.ensures.ends))
      | in-Commit w ↦ subst (λ (s : StoreView). TurnStep (c.args.store.now.journal, s.journal) c.args.session.now c.end_turn.new.session c.args.request c.end_turn.result) (sym w.store-is)
          (turn-commit c.session.inside.author c.args.session.now c.begin_turn.new.session c.end_turn.new.session c.args.store.now.journal _ c.args.request w.in-Commit.plan _ c.end_turn.result own
          (subst (Begins c.args.session.now c.begin_turn.new.session c.args.request) w.in-Commit.is c.begin_turn.ensures) w.commit.ensures.answer
          (subst (λ d. Ends c.begin_turn.new.session c.end_turn.new.session d c.end_turn.result) w.done-is c.end_turn.ensures.ends))
      | in-Apply w ↦ subst (λ (s : StoreView). TurnStep (c.args.store.now.journal, s.journal) c.args.session.now c.end_turn.new.session c.args.request c.end_turn.result) (sym w.store-is)
          (turn-apply c.session.inside.author c.args.session.now c.begin_turn.new.session c.end_turn.new.session c.args.store.now.journal _ c.args.request w.in-Apply.edit _ c.end_turn.result own
          (subst (Begins c.args.session.now c.begin_turn.new.session c.args.request) w.in-Apply.is c.begin_turn.ensures) w.apply.ensures.answer
          (subst (λ d. Ends c.begin_turn.new.session c.end_turn.new.session d c.end_turn.result) w.done-is c.end_turn.ensures.ends))
    ]
