use Rattle.std.proofs.Common.{arith, ◌≡◌, length, take, get_or, Ok, ◌∙◌, sym, ap, refl, true, false, ◌++◌, ◌∷◌, [], length-append, append_assoc, append-nil}
use Rattle.std.proofs.lemmas.List.{take_all}
use Rattle.turn_lock.specs.Setting.{setting}
use Rattle.session.specs.Sessions.{SessionView}
use Rattle.session.specs.Lines.{text_of}
use Rattle.session.specs.Talking.{start_at}
use Rattle.session.proofs.Served.{answered_setting, answered_holds}
use Rattle.session.proofs.Streams.{unfinished_ended, unfinished_more}
use Rattle.session.proofs.Sessions.{byte_goes, line_goes, line_quits, line_fails, split_here, take_here, answered_at, no_line_end}
use Rattle.session.proofs.conversation.answer_bytes.Goals as goal
use Rattle.session.proofs.conversation.answer_bytes.Goals.{then-b-eq10+in-Ok-false, else-b-eq10}

pub loop-b-init : goal.loop-b-init
loop-b-init g c = record {
  room = omega (arith, c.requires.fits);
  goes = ([], g.met.T.Turns.finds_none c.args.turns.now, λ first front seen fronts at_first t e. rw (append-nil fronts, append-nil seen) (t, e));
  ready = c.requires.ready;
  number = refl;
  author = refl;
  mine = c.requires.author;
  holds = c.requires.prefix;
  stays = refl;
  faults = refl;
  rest = refl;
}

pub returns-clause-goes : goal.returns-clause-goes
returns-clause-goes g c =
    let goes = c.loop-b.invariant.goes in (
      goes.0,
      goes.1,
      λ first front seen fronts at_first t e.
          let all : take c.loop-b.b-index c.args.bytes.now ≡ c.args.bytes.now = take_all c.loop-b.b-index c.args.bytes.now (omega arith) in
          rw all at (goes.2 first front seen fronts at_first t e),
    )

pub returns-in-Ok-true-clause-goes : goal.returns-in-Ok-true-clause-goes
returns-in-Ok-true-clause-goes g c =
    let goes = c.loop-b.invariant.goes in
    let made = rw c.loop-b.invariant.number at c.in-Ok-true.ensures.answered in (
      goes.0 ++ made.0,
      g.met.T.Turns.finds_both _ _ _ _ _ goes.1 made.1,
      λ first front seen fronts at_first t e.
          let now = goes.2 first front seen fronts at_first t e in
          let a = answered_at _ _ _ _ _ made.0 _ (Ok true) (c.text.ensures ∙ ap text_of (sym now.1)) (ap Ok c.in-Ok-true.field-0-test) made.2 in
          let here = split_here seen c.args.bytes.now c.loop-b.b-index 10 (omega arith) c.if-b-eq10.true in
          rw (here, ← append_assoc fronts goes.0 made.0) (line_quits (start_at (g.T.Turns.number c.args.turns.now) (g.T.Turns.seen c.args.turns.now) first front at_first) _ c.loop-b.invariant.stays c.loop-b.invariant.holds _ (fronts ++ goes.0) _ _ now.0 made.0 _ here a),
    )

pub returns-in-Err-clause-goes : goal.returns-in-Err-clause-goes
returns-in-Err-clause-goes g c =
    let goes = c.loop-b.invariant.goes in
    let made = rw c.loop-b.invariant.number at c.in-Err.ensures.answered in (
      goes.0 ++ made.0,
      g.met.T.Turns.finds_both _ _ _ _ _ goes.1 made.1,
      λ first front seen fronts at_first t e.
          let now = goes.2 first front seen fronts at_first t e in
          let a = answered_at _ _ _ _ _ made.0 _ _ (c.text.ensures ∙ ap text_of (sym now.1)) refl made.2 in
          let here = split_here seen c.args.bytes.now c.loop-b.b-index 10 (omega arith) c.if-b-eq10.true in
          rw (here, ← append_assoc fronts goes.0 made.0) (line_fails (start_at (g.T.Turns.number c.args.turns.now) (g.T.Turns.seen c.args.turns.now) first front at_first) _ c.loop-b.invariant.stays c.loop-b.invariant.holds _ (fronts ++ goes.0) _ _ now.0 made.0 _ _ here a),
    )

pub loop-b-preserved : goal.loop-b-preserved
loop-b-preserved g c =
    elim c.if-b-eq10.branch [
      | then-b-eq10+in-Ok-false w ↦
          let goes = c.loop-b.invariant.goes in
          let made = rw c.loop-b.invariant.number at w.in-Ok-false.ensures.answered in
          record {
            room = omega (arith, ap length (w.line-is ∙ w.clear.ensures));
            goes = (
              goes.0 ++ made.0,
              rw w.turns-is (g.met.T.Turns.finds_both _ _ _ _ _ goes.1 made.1),
              λ first front seen fronts at_first t e.
                  let now = goes.2 first front seen fronts at_first t e in
                  let a = answered_at _ _ _ _ _ made.0 _ (Ok false) (w.text.ensures ∙ ap text_of (sym now.1)) (ap Ok w.in-Ok-false.field-0-test) made.2 in
                  let bytes = take_here seen c.args.bytes.now c.loop-b.b-index 10 (omega arith) w.if-b-eq10.true in
                  rw (w.turns-is, w.session-is, w.link-is, bytes, ← append_assoc fronts goes.0 made.0) (
                    line_goes (start_at (g.T.Turns.number c.args.turns.now) (g.T.Turns.seen c.args.turns.now) first front at_first) _ c.loop-b.invariant.stays c.loop-b.invariant.holds _ (fronts ++ goes.0) _ _ now.0 made.0 a,
                    unfinished_ended (seen ++ take c.loop-b.b-index c.args.bytes.now) 10 refl ∙ sym (w.line-is ∙ w.clear.ensures),
                  ),
            );
            ready = rw w.turns-is w.answer_line.ensures.ready;
            number = ap g.T.Turns.number w.turns-is ∙ w.answer_line.ensures.number ∙ c.loop-b.invariant.number;
            author = ap (λ (s : SessionView). s.author) w.session-is ∙ w.answer_line.ensures.author ∙ c.loop-b.invariant.author;
            mine = ap (λ (s : SessionView). s.author) w.session-is ∙ w.answer_line.ensures.author ∙ c.loop-b.invariant.mine ∙ sym (ap g.T.Turns.number w.turns-is ∙ w.answer_line.ensures.number);
            holds = rw (w.session-is, w.turns-is) (answered_holds _ _ _ _ made.0 _ c.loop-b.invariant.holds made.2);
            stays = ap (λ t. setting (g.T.Turns.seen t)) w.turns-is ∙ answered_setting _ _ _ _ made.0 _ made.2 ∙ c.loop-b.invariant.stays;
            faults = ap g.L.Sink.write_faults w.link-is ∙ w.in-Ok-false.ensures.cause.kept ∙ c.loop-b.invariant.faults;
            rest = ap g.L.Sink.beside_writes w.link-is ∙ w.answer_line.ensures.rest ∙ c.loop-b.invariant.rest;
          }
      | else-b-eq10 w ↦
          let goes = c.loop-b.invariant.goes in
          record {
            room = omega (arith, simp length-append at (ap length (w.line-is ∙ w.push.ensures)));
            goes = (
              goes.0,
              rw w.turns-is goes.1,
              λ first front seen fronts at_first t e.
                  let now = goes.2 first front seen fronts at_first t e in
                  let bytes = take_here seen c.args.bytes.now c.loop-b.b-index (get_or c.args.bytes.now c.loop-b.b-index 0) (omega arith) refl in
                  rw (w.turns-is, w.session-is, w.link-is, bytes) (
                    byte_goes (start_at (g.T.Turns.number c.args.turns.now) (g.T.Turns.seen c.args.turns.now) first front at_first) _ _ _ _ _ _ _ (get_or c.args.bytes.now c.loop-b.b-index 0) w.if-b-eq10.false now.0,
                    unfinished_more (seen ++ take c.loop-b.b-index c.args.bytes.now) (get_or c.args.bytes.now c.loop-b.b-index 0) (no_line_end _ w.if-b-eq10.false) ∙ ap (λ xs. xs ++ get_or c.args.bytes.now c.loop-b.b-index 0 ∷ []) now.1 ∙ sym (w.line-is ∙ w.push.ensures),
                  ),
            );
            ready = rw w.turns-is c.loop-b.invariant.ready;
            number = ap g.T.Turns.number w.turns-is ∙ c.loop-b.invariant.number;
            author = ap (λ (s : SessionView). s.author) w.session-is ∙ c.loop-b.invariant.author;
            mine = ap (λ (s : SessionView). s.author) w.session-is ∙ c.loop-b.invariant.mine ∙ sym (ap g.T.Turns.number w.turns-is);
            holds = rw (w.session-is, w.turns-is) c.loop-b.invariant.holds;
            stays = ap (λ t. setting (g.T.Turns.seen t)) w.turns-is ∙ c.loop-b.invariant.stays;
            faults = ap g.L.Sink.write_faults w.link-is ∙ c.loop-b.invariant.faults;
            rest = ap g.L.Sink.beside_writes w.link-is ∙ c.loop-b.invariant.rest;
          }
    ]

pub returns-in-Ok-true-clause-prefix : goal.returns-in-Ok-true-clause-prefix
returns-in-Ok-true-clause-prefix g c =
    let made = c.in-Ok-true.ensures.answered in
    answered_holds _ _ _ _ made.0 _ c.loop-b.invariant.holds made.2

pub returns-in-Err-clause-prefix : goal.returns-in-Err-clause-prefix
returns-in-Err-clause-prefix g c =
    let made = c.in-Err.ensures.answered in
    answered_holds _ _ _ _ made.0 _ c.loop-b.invariant.holds made.2
