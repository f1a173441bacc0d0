use Rattle.std.proofs.Common.{arith, ◌∷◌, [], length, refl, sym, ap, subst, ◌∙◌}
use Rattle.ground_model.specs.History.{IsLegal}
use Rattle.turn_lock.specs.declared.journal.Journal.{Journal}
use Rattle.turn_lock.proofs.Prefix.{prefix_refl}
use Rattle.session.specs.Sessions.{SessionView}
use Rattle.session.proofs.Alone.{conversed_by}
use Rattle.session.proofs.Exchanges.{prefix_setting}
use Rattle.session.proofs.conversation.converse.Goals as goal

pub returns-in_default-clause-session : goal.returns-in_default-clause-session
returns-in_default-clause-session g c = record {
  fronts = [];
  few = omega arith;
  finds = g.met.T.Turns.finds_none c.args.turns.now;
  added = record { prefix = prefix_refl (g.T.Turns.seen c.args.turns.now); own = λ a is. refl };
  same = refl;
}

pub returns-in_default-hold-clause-session : goal.returns-in_default-hold-clause-session
returns-in_default-hold-clause-session g c = record {
  fronts = length (g.T.Turns.seen c.hold.new.self).entries ∷ [];
  few = omega arith;
  finds = c.hold.ensures.finds;
  added = c.hold.ensures.added;
  same = refl;
}

pub returns-in_default-hold-clause-stays : goal.returns-in_default-hold-clause-stays
returns-in_default-hold-clause-stays g c = sym (prefix_setting _ _ c.hold.ensures.added.prefix)

pub returns-clause-session : goal.returns-clause-session
returns-clause-session g c =
    let s = rw c.in-Ok-hold.ensures.author at c.answer_reads.ensures.session in
    conversed_by _ _ _ _ _ _ c.answer_reads.ensures.ending (record {
      front = length (g.T.Turns.seen c.hold.new.self).entries;
      own = s.0;
      finds = g.met.T.Turns.finds_both _ _ _ _ _ c.in-Ok-hold.ensures.finds s.1;
      visit = s.2 (g.T.Turns.seen c.args.turns.now) c.in-Ok-hold.ensures.added;
    })

pub returns-clause-stays : goal.returns-clause-stays
returns-clause-stays g c = c.answer_reads.ensures.stays ∙ sym (prefix_setting _ _ c.in-Ok-hold.ensures.added.prefix)

pub answer_reads-requires-clause-legal : goal.answer_reads-requires-clause-legal
answer_reads-requires-clause-legal g c = subst (λ (j : Journal). IsLegal j.limits j.entries) (ap (λ (s : SessionView). s.journal) c.start-session.ensures ∙ c.in-Ok-hold.ensures.version) c.front-front.ensures.legal
