use Rattle.std.proofs.Common.{arith, ◌≡◌, None, Some, ◌<◌, List, ℕ, [], ◌∷◌, ◌++◌, length, length-append, take, ◌∙◌, sym, ap, refl}
use Rattle.std.proofs.lemmas.List.Elements.{All-nil}
use Rattle.turn_lock.specs.declared.journal.Journal.{Journal}
use Rattle.turn_lock.specs.Journal.{OthersAdded}
use Rattle.turn_lock.specs.Setting.{setting}
use Rattle.turn_lock.proofs.Prefix.{prefix_refl}
use Rattle.session.specs.Talk.{line_limit}
use Rattle.session.specs.Talking.{Output, start_at}
use Rattle.session.proofs.Consumed.{consumes_none, consumes_both, consumes_keeps, consumes_nothing}
use Rattle.session.proofs.Lengths.{empty_from, short_more, unfinished_short}
use Rattle.session.proofs.Exchanges.{prefix_setting}
use Rattle.session.proofs.Sessions.{starts_after, piece_goes, end_goes, fault_goes, in_setting, stops_in}
use Rattle.session.proofs.Ends.{visit_in, ends_fault, ends_end, ends_cut, ends_long, ends_spent, ends_stopped, stops_by_line, stops_with_memory}
use Rattle.session.proofs.conversation.answer_reads.Goals as goal

none_is_some : {X : Type 0} (x : X) → None ≡ Some x → ⊥
none_is_some x e = cc

pub reading-init : goal.reading-init
reading-init g c = record {
  so_far = (
    [],
    g.met.T.Turns.finds_none c.args.turns.now,
    [],
    λ first added.
        rw (c.requires.fresh, c.requires.held) (starts_after (g.T.Turns.number c.args.turns.now) (g.T.Turns.seen c.args.turns.now) first _ c.requires.legal added),
    consumes_none (g.L.Source.left c.args.link.now),
    sym c.requires.empty,
    omega arith,
    All-nil (λ (line : List ℕ). length line < line_limit),
  );
  fits = omega (arith, ap length c.requires.empty);
  ready = c.requires.ready;
  number = refl;
  author = c.requires.author;
  holds = rw c.requires.held (prefix_refl (g.T.Turns.seen c.args.turns.now));
  stays = refl;
  reads = refl;
  names = refl;
  writes = refl;
}

pub returns-in-Err-clause-session : goal.returns-in-Err-clause-session
returns-in-Err-clause-session g c =
    let so = c.reading.invariant.so_far in
    let n = g.T.Turns.number c.args.turns.now in
    let j = g.T.Turns.seen c.args.turns.now in (
      so.0,
      so.1,
      λ first added.
          visit_in _ _ n _ _ _ _ _ _ _ (sym (prefix_setting first j added.prefix))
          (ends_fault (setting j) n (length j.entries) c.args.budget _ _ so.0 so.2 (consumes_keeps _ _ _ _ so.4 c.in-Err.ensures.bytes) (omega (arith, so.6)) so.7
          (fault_goes _ _ _ _ _ _ _ so.2 c.read_piece.ensures.written c.in-Err.ensures.order (so.3 first added)) (omega (arith, ap length so.5)) (omega (arith, so.6))),
    )

pub returns-in-Ok-eq0-clause-session : goal.returns-in-Ok-eq0-clause-session
returns-in-Ok-eq0-clause-session g c =
    let so = c.reading.invariant.so_far in
    let n = g.T.Turns.number c.args.turns.now in
    let j = g.T.Turns.seen c.args.turns.now in (
      so.0,
      so.1,
      λ first added.
          visit_in _ _ n _ _ _ _ _ _ _ (sym (prefix_setting first j added.prefix))
          (ends_end (setting j) n (length j.entries) c.args.budget _ _ so.0 so.2 (consumes_nothing _ _ _ _ _ _ c.in-Ok-eq0.field-0-test so.4 c.in-Ok-eq0.ensures.bytes.0) (omega (arith, so.6)) so.7
          (end_goes _ _ _ _ _ _ _ so.2 _ (ap (λ n. take n c.read_piece.new.piece) c.in-Ok-eq0.field-0-test) c.read_piece.ensures.written c.in-Ok-eq0.ensures.order (so.3 first added)) (omega (arith, ap length so.5))
          (empty_from _ (omega (arith, ap length so.5))) (omega (arith, so.6)) (c.in-Ok-eq0.ensures.bytes.1 c.in-Ok-eq0.field-0-test)),
    )

pub returns-in-Ok-eq0-2-clause-session : goal.returns-in-Ok-eq0-2-clause-session
returns-in-Ok-eq0-2-clause-session g c =
    let so = c.reading.invariant.so_far in
    let n = g.T.Turns.number c.args.turns.now in
    let j = g.T.Turns.seen c.args.turns.now in (
      so.0,
      so.1,
      λ first added.
          visit_in _ _ n _ _ _ _ _ _ _ (sym (prefix_setting first j added.prefix))
          (ends_cut (setting j) n (length j.entries) c.args.budget _ _ so.0 so.2 (consumes_nothing _ _ _ _ _ _ c.in-Ok-eq0.field-0-test so.4 c.in-Ok-eq0.ensures.bytes.0) (omega (arith, so.6)) so.7
          (end_goes _ _ _ _ _ _ _ so.2 _ (ap (λ n. take n c.read_piece.new.piece) c.in-Ok-eq0.field-0-test) c.read_piece.ensures.written c.in-Ok-eq0.ensures.order (so.3 first added)) (omega (arith, ap length so.5))
          (λ e. absurd (omega (arith, ap length (sym so.5 ∙ e)))) (omega (arith, so.6)) (c.in-Ok-eq0.ensures.bytes.1 c.in-Ok-eq0.field-0-test)),
    )

pub returns-in-Some-clause-session : goal.returns-in-Some-clause-session
returns-in-Some-clause-session g c =
    let so = c.reading.invariant.so_far in
    let n = g.T.Turns.number c.args.turns.now in
    let j = g.T.Turns.seen c.args.turns.now in
    let now = g.T.Turns.seen c.reading.turns in
    let out : Output = record { written = g.L.Sink.written c.args.link.now; order = g.L.Sink.write_order c.args.link.now } in
    let piece = take c.in-Ok.count c.read_piece.new.piece in
    let made = rw c.reading.invariant.number at c.in-Some.ensures.goes in (
      so.0 ++ made.0,
      g.met.T.Turns.finds_both _ _ _ _ _ so.1 made.1,
      λ first added.
          let t = in_setting (setting j) (start_at n now first.entries (length j.entries) out) _ _ _ _ _ _ _ (sym c.reading.invariant.stays) (piece_goes _ _ _ _ _ _ _ so.2 piece c.read_piece.ensures.written c.in-Ok.ensures.order (so.3 first added)) in
          let stop = made.2 first.entries (length j.entries) so.2 so.0 out t so.5 in
          visit_in _ _ n _ _ _ _ _ _ _ (sym (prefix_setting first j added.prefix))
          (rw c.answer_bytes.ensures.left (ends_stopped (setting j) n (length j.entries) c.args.budget _ _ (so.0 ++ made.0) (so.2 ++ piece) (consumes_both _ _ _ _ _ so.4 c.in-Ok.ensures.bytes.0)
          (simp length-append (omega (arith, so.6, c.in-Ok.ensures.bound.0, c.in-Ok.ensures.bound.1))) (short_more line_limit so.2 piece so.7 (omega (arith, ap length so.5, c.in-Ok.ensures.bound.0, c.in-Ok.ensures.bound.1)))
          c.in-Some.ended (stops_in (setting now) (start_at n j first.entries (length j.entries) out) _ _ _ _ _ c.reading.invariant.stays stop))),
    )

pub reading-preserved : goal.reading-preserved
reading-preserved g c =
    let so = c.reading.invariant.so_far in
    let n = g.T.Turns.number c.args.turns.now in
    let j = g.T.Turns.seen c.args.turns.now in
    let now = g.T.Turns.seen c.reading.turns in
    let out : Output = record { written = g.L.Sink.written c.args.link.now; order = g.L.Sink.write_order c.args.link.now } in
    let piece = take c.in-Ok.count c.read_piece.new.piece in
    let made = rw c.reading.invariant.number at c.in_default.ensures.goes in
    let start : OthersAdded (n ∷ []) j j = record { prefix = prefix_refl j; own = λ a is. refl } in
    let more = λ (first : Journal) (added : OthersAdded (n ∷ []) first j).
    let t = in_setting (setting j) (start_at n now first.entries (length j.entries) out) _ _ _ _ _ _ _ (sym c.reading.invariant.stays) (piece_goes _ _ _ _ _ _ _ so.2 piece c.read_piece.ensures.written c.in-Ok.ensures.order (so.3 first added)) in
    made.2 first.entries (length j.entries) so.2 so.0 out t so.5 in
    let rest = (more j start).1 in
    record {
      so_far = (
        so.0 ++ made.0,
        g.met.T.Turns.finds_both _ _ _ _ _ so.1 made.1,
        so.2 ++ piece,
        λ first added. in_setting (setting now) (start_at n j first.entries (length j.entries) out) _ _ _ _ _ _ _ c.reading.invariant.stays (more first added).0,
        rw c.answer_bytes.ensures.left (consumes_both _ _ _ _ _ so.4 c.in-Ok.ensures.bytes.0),
        rest,
        simp length-append (omega (arith, so.6, c.in-Ok.ensures.bound.0, c.in-Ok.ensures.bound.1)),
        short_more line_limit so.2 piece so.7 (omega (arith, ap length so.5, c.in-Ok.ensures.bound.0, c.in-Ok.ensures.bound.1)),
      );
      fits = omega (arith, ap length rest, unfinished_short so.2 piece, ap length so.5, c.in-Ok.ensures.bound.0, c.in-Ok.ensures.bound.1);
      ready = c.answer_bytes.ensures.ready;
      number = c.answer_bytes.ensures.number ∙ c.reading.invariant.number;
      author = c.answer_bytes.ensures.author ∙ c.reading.invariant.author;
      holds = c.answer_bytes.ensures.prefix;
      stays = c.answer_bytes.ensures.stays ∙ c.reading.invariant.stays;
      reads = c.answer_bytes.ensures.read_faults ∙ c.in-Ok.ensures.cause.kept ∙ c.reading.invariant.reads;
      names = c.answer_bytes.ensures.names ∙ c.read_piece.ensures.names ∙ c.reading.invariant.names;
      writes = c.in_default.ensures.no_fault (λ e. none_is_some _ e) ∙ c.read_piece.ensures.write_faults ∙ c.reading.invariant.writes;
    }

pub returns-then-len-lt-LINE_LIMIT-clause-session : goal.returns-then-len-lt-LINE_LIMIT-clause-session
returns-then-len-lt-LINE_LIMIT-clause-session g c =
    let so = c.reading.invariant.so_far in
    let n = g.T.Turns.number c.args.turns.now in
    let j = g.T.Turns.seen c.args.turns.now in (
      so.0,
      so.1,
      λ first added.
          visit_in _ _ n _ _ _ _ _ _ _ (sym (prefix_setting first j added.prefix))
          (ends_spent (setting j) n (length j.entries) c.args.budget _ _ so.0 so.2 so.4 (omega (arith, so.6)) so.7 (so.3 first added) (omega (arith, ap length so.5)) (omega (arith, so.6))),
    )

pub returns-else-len-lt-LINE_LIMIT-clause-session : goal.returns-else-len-lt-LINE_LIMIT-clause-session
returns-else-len-lt-LINE_LIMIT-clause-session g c =
    let so = c.reading.invariant.so_far in
    let n = g.T.Turns.number c.args.turns.now in
    let j = g.T.Turns.seen c.args.turns.now in (
      so.0,
      so.1,
      λ first added.
          visit_in _ _ n _ _ _ _ _ _ _ (sym (prefix_setting first j added.prefix))
          (ends_long (setting j) n (length j.entries) c.args.budget _ _ so.0 so.2 so.4 (omega (arith, so.6)) so.7 (so.3 first added) (omega (arith, ap length so.5))),
    )

pub returns-in-Some-clause-read_fault : goal.returns-in-Some-clause-read_fault
returns-in-Some-clause-read_fault g c is =
    let so = c.reading.invariant.so_far in
    let n = g.T.Turns.number c.args.turns.now in
    let j = g.T.Turns.seen c.args.turns.now in
    let now = g.T.Turns.seen c.reading.turns in
    let out : Output = record { written = g.L.Sink.written c.args.link.now; order = g.L.Sink.write_order c.args.link.now } in
    let piece = take c.in-Ok.count c.read_piece.new.piece in
    let made = rw c.reading.invariant.number at c.in-Some.ensures.goes in
    let start : OthersAdded (n ∷ []) j j = record { prefix = prefix_refl j; own = λ a is. refl } in
    let t = in_setting (setting j) (start_at n now j.entries (length j.entries) out) _ _ _ _ _ _ _ (sym c.reading.invariant.stays) (piece_goes _ _ _ _ _ _ _ so.2 piece c.read_piece.ensures.written c.in-Ok.ensures.order (so.3 j start)) in
    absurd (stops_by_line _ _ _ _ _ _ (made.2 j.entries (length j.entries) so.2 so.0 out t so.5) is)

pub returns-in-Some-clause-ending : goal.returns-in-Some-clause-ending
returns-in-Some-clause-ending g c is =
    let so = c.reading.invariant.so_far in
    let n = g.T.Turns.number c.args.turns.now in
    let j = g.T.Turns.seen c.args.turns.now in
    let now = g.T.Turns.seen c.reading.turns in
    let out : Output = record { written = g.L.Sink.written c.args.link.now; order = g.L.Sink.write_order c.args.link.now } in
    let piece = take c.in-Ok.count c.read_piece.new.piece in
    let made = rw c.reading.invariant.number at c.in-Some.ensures.goes in
    let start : OthersAdded (n ∷ []) j j = record { prefix = prefix_refl j; own = λ a is. refl } in
    let t = in_setting (setting j) (start_at n now j.entries (length j.entries) out) _ _ _ _ _ _ _ (sym c.reading.invariant.stays) (piece_goes _ _ _ _ _ _ _ so.2 piece c.read_piece.ensures.written c.in-Ok.ensures.order (so.3 j start)) in
    absurd (stops_with_memory _ _ _ _ _ _ (made.2 j.entries (length j.entries) so.2 so.0 out t so.5) is)
