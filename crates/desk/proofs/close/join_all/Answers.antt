use Rattle.std.proofs.Common.{◌≡◌, ◌<◌, ◌++◌, ◌∷◌, [], List, length, sym, ap, ◌∙◌, subst, arith}
use Rattle.std.specs.List.{All, slice_index_or}
use Rattle.turn_lock.specs.Seat.{Seat}
use Rattle.turn_lock.proofs.Gathers.{remove_of_lock}
use Rattle.desk.specs.Closing.{Gathers}
use Rattle.desk.proofs.Joining.{headed, gathers-one, gathers-more, moved, none-left}
use Rattle.desk.proofs.close.join_all.Goals as goal

pub loop-left-init : goal.loop-left-init
loop-left-init c =
    let len = c.remove.ensures.len in
    let count = c.len-left.ensures in
    let low : 0 < length c.args.passes.items = subst (λ n. 0 < n) c.args.passes.ok.0 c.requires.some in
    let is = c.remove.ensures.value in
    let items = c.remove.ensures.items in
    record {
      left = omega arith;
      table = ap (λ (s : Seat). s.table) (c.all.view_is ∙ is) ∙ c.requires.lock 0 c.remove.result low;
      of_lock = subst (All (λ (s : Seat). s.table ≡ c.args.lock.now.table)) (sym items) (remove_of_lock c.args.lock.now c.args.passes.items 0 c.requires.lock);
      joined = (
        c.remove.result ∷ [],
        ap (λ (ps : List Seat). c.remove.result ∷ ps) items ∙ sym (headed c.args.passes.items c.remove.result low is),
        subst (Gathers (c.remove.result ∷ [])) (sym c.all.view_is) (gathers-one c.remove.result),
      );
    }

pub loop-left-preserved : goal.loop-left-preserved
loop-left-preserved c =
    let kept = c.loop-left.invariant in
    let count = kept.left in
    let size = c.loop-left.passes.ok.0 in
    let more = c.loop-left-test.true in
    let len = c.remove-next.ensures.len in
    let low : 0 < length c.loop-left.passes.items = omega arith in
    let items = c.remove-next.ensures.items in
    let p : Seat = c.next.inside.seat in
    let is : p ≡ slice_index_or c.loop-left.passes.items 0 p = subst (λ (s : Seat). s ≡ slice_index_or c.loop-left.passes.items 0 s) (sym c.next.view_is) c.remove-next.ensures.value in
    let before = kept.joined.0 in
    record {
      left = omega arith;
      table = ap (λ (s : Seat). s.table) c.join-all.ensures.seat ∙ kept.table;
      of_lock = subst (All (λ (s : Seat). s.table ≡ c.args.lock.now.table)) (sym items) (remove_of_lock c.args.lock.now c.loop-left.passes.items 0 kept.of_lock);
      joined = (
        before ++ p ∷ [],
        ap (λ (ps : List Seat). (before ++ p ∷ []) ++ ps) items ∙ moved before c.loop-left.passes.items c.args.passes.items p low is kept.joined.1,
        gathers-more before c.loop-left.all p c.join-all.result kept.joined.2 c.join-all.ensures.seat c.join-all.ensures.a c.join-all.ensures.b,
      );
    }

pub returns-clause-all : goal.returns-clause-all
returns-clause-all c =
    let kept = c.loop-left.invariant in
    let count = kept.left in
    let size = c.loop-left.passes.ok.0 in
    let done = c.loop-left-test.false in
    subst (λ ps. Gathers ps c.loop-left.all) (none-left kept.joined.0 c.loop-left.passes.items c.args.passes.items (omega arith) kept.joined.1) kept.joined.2
