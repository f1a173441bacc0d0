use Rattle.std.proofs.Common.{arith, ◌≡◌, ℕ, List, ◌++◌, ◌∷◌, [], take, ◌∙◌, sym, ap, subst, append_assoc}
use Rattle.std.proofs.lemmas.List.{take_all, append_cancel_right}
use Rattle.std.proofs.lemmas.Result.{err_from_is_err_and}
use Rattle.ground_num.specs.declared.head.Origin.{Origin}
use Rattle.ground_io.specs.Order.{SendsAll}
use Rattle.ground_io.proofs.Ordering.{sends_both}
use Rattle.ground_model.specs.declared.cut.Cut.{Cut}
use Rattle.line_protocol.specs.Replies.{lines_text, cut_text}
use Rattle.ground_io.proofs.Texts.{appends_both, appends_part, sends_part, sent_last, lines_parted, lines_more, handed_on, written_last}
use Rattle.line_protocol.proofs.put.put_cuts.Goals as goal

pub returns-in_err-make_room-clause-text : goal.returns-in_err-make_room-clause-text
returns-in_err-make_room-clause-text g c =
    let so = c.loop-cut.invariant.so_far in
    let failed = err_from_is_err_and c.from_residual.result c.from_residual.ensures.1 in
    rw (failed.1, lines_parted (λ x. 10 ∷ cut_text c.args.origin.now x) c.args.text c.args.cuts.now c.loop-cut.cut-index, ← so.1)
    (appends_part _ _ _ so.0 c.loop-cut.text _ so.2 c.in_err-make_room.ensures.bytes)

pub returns-in_err-make_room-clause-order : goal.returns-in_err-make_room-clause-order
returns-in_err-make_room-clause-order g c =
    let so = c.loop-cut.invariant.so_far in
    let failed = err_from_is_err_and c.from_residual.result c.from_residual.ensures.1 in
    rw (failed.1, lines_parted (λ x. 10 ∷ cut_text c.args.origin.now x) c.args.text c.args.cuts.now c.loop-cut.cut-index, ← so.1)
    (sends_part _ _ _ so.0 c.loop-cut.text _ so.3 c.in_err-make_room.ensures.order)

pub loop-cut-preserved : goal.loop-cut-preserved
loop-cut-preserved g c =
    let so = c.loop-cut.invariant.so_far in
    let handed = c.in_ok-make_room.ensures.bytes in
    let sent = c.in_ok-make_room.ensures.order in
    let same : sent.0 ≡ handed.0 = append_cancel_right sent.0 handed.0 c.make_room.new.text (sent.1 ∙ sym handed.1) in
    record {
      room = omega (arith, c.in_ok-make_room.ensures.room);
      so_far = (
        so.0 ++ handed.0,
        ap (λ t. (so.0 ++ handed.0) ++ t) c.add_cut.ensures.text
            ∙ handed_on so.0 handed.0 c.make_room.new.text c.loop-cut.text (10 ∷ cut_text c.args.origin.now c.cut-item.result) _ so.1 handed.1
            ∙ sym (lines_more (λ x. 10 ∷ cut_text c.args.origin.now x) c.args.text c.args.cuts.now c.loop-cut.cut-index c.cut-item.result (omega arith) c.cut-item.is),
        appends_both _ _ _ so.0 handed.0 so.2 handed.2,
        sends_both _ _ _ so.0 handed.0 so.3 (subst (SendsAll (g.S.Sink.write_order c.loop-cut.sink) (g.S.Sink.write_order c.make_room.new.sink)) same sent.2),
      );
      faults = c.in_ok-make_room.ensures.cause.kept ∙ c.loop-cut.invariant.faults;
      rest = c.make_room.ensures.rest ∙ c.loop-cut.invariant.rest;
    }

-- all that was sent and the text that is left, as the whole text
whole : (origin : Origin) (sent text all : List ℕ) (cuts : List Cut) (n : ℕ) (bytes : List ℕ) → sent ++ text ≡ all ++ lines_text (cut_text origin) (take n cuts) → take n cuts ≡ cuts → bytes ≡ text ++ 10 ∷ []
    → sent ++ bytes ≡ (all ++ lines_text (cut_text origin) cuts) ++ 10 ∷ []
whole origin sent text all cuts n bytes so taken last =
    ap (λ t. sent ++ t) last ∙ sym (append_assoc sent text (10 ∷ [])) ∙ ap (λ t. t ++ 10 ∷ []) (so ∙ ap (λ xs. all ++ lines_text (cut_text origin) xs) taken)

pub returns-clause-text : goal.returns-clause-text
returns-clause-text g c =
    let so = c.loop-cut.invariant.so_far in
    rw (← whole c.args.origin.now so.0 c.loop-cut.text c.args.text c.args.cuts.now c.loop-cut.cut-index c.as_bytes.result.now so.1 (take_all c.loop-cut.cut-index c.args.cuts.now (omega arith)) (c.as_bytes.ensures ∙ c.add.ensures))
    (written_last _ _ _ _ so.0 c.as_bytes.result.now so.2 c.write_all.ensures.bytes)

pub returns-clause-order : goal.returns-clause-order
returns-clause-order g c =
    let so = c.loop-cut.invariant.so_far in
    rw (← whole c.args.origin.now so.0 c.loop-cut.text c.args.text c.args.cuts.now c.loop-cut.cut-index c.as_bytes.result.now so.1 (take_all c.loop-cut.cut-index c.args.cuts.now (omega arith)) (c.as_bytes.ensures ∙ c.add.ensures))
    (sent_last _ _ _ _ so.0 c.as_bytes.result.now so.3 c.write_all.ensures.order)
