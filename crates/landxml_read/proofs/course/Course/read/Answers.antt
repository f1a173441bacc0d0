use Rattle.std.proofs.Common.{◌≡◌, ◌∙◌, ◌++◌, ℕ, List, length, take, sym, ap, subst, arith}
use Rattle.std.proofs.Math.Seq.{take-length}
use Rattle.landxml_read.specs.Course.{HasTaken}
use Rattle.landxml_read.proofs.Outlines.{piece_step}
use Rattle.landxml_read.proofs.Readers.{piece_ended}
use Rattle.landxml_read.proofs.course.Course.read.Goals as goal

pub returns-in-Err-clause-taken : goal.returns-in-Err-clause-taken
returns-in-Err-clause-taken c seen r =
    piece_ended seen c.args.piece.now c.loop-b.b-index c.in-Err.fault (omega arith) (c.in-Err.ensures.taken (seen ++ take c.loop-b.b-index c.args.piece.now) (c.loop-b.invariant.taken seen r))

pub loop-b-preserved : goal.loop-b-preserved
loop-b-preserved c = record {
  taken = λ seen r. let P : List ℕ → Type 0 = λ w. HasTaken w c.after.new.self in
      subst P (sym (piece_step seen c.args.piece.now c.loop-b.b-index (omega arith))) (c.in-Ok.ensures.taken (seen ++ take c.loop-b.b-index c.args.piece.now) (c.loop-b.invariant.taken seen r));
  known = c.in-Ok.ensures.known;
  offset = omega (arith, c.in-Ok.ensures.offset, c.loop-b.invariant.offset);
}

pub returns-clause-taken : goal.returns-clause-taken
returns-clause-taken c seen r =
    let full : c.loop-b.b-index ≡ length c.args.piece.now = omega arith in
    let P : List ℕ → Type 0 = λ w. HasTaken w c.loop-b.self in
    subst P (ap (λ n. seen ++ take n c.args.piece.now) full ∙ ap (λ w. seen ++ w) (take-length c.args.piece.now)) (c.loop-b.invariant.taken seen r)
