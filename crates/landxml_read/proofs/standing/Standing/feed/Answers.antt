use Rattle.std.proofs.Common.{◌≡◌, ◌∙◌, ◌++◌, ◌+◌, ℕ, List, length, take, drop, sym, ap, subst, arith}
use Rattle.std.proofs.lemmas.List.{append-nil}
use Rattle.std.proofs.Math.Seq.{take-length}
use Rattle.landxml_read.specs.Outline.{StandsAt, IsShownAt}
use Rattle.landxml_read.proofs.Outlines.{piece_step, piece_cut}
use Rattle.landxml_read.proofs.standing.Standing.feed.Goals as goal

pub loop-b-init : goal.loop-b-init
loop-b-init c = record {
  stands = λ seen at. let P : List ℕ → Type 0 = λ w. StandsAt w c.args.self in subst P (sym (append-nil seen)) at;
  offset = omega arith;
}

pub returns-in-Err-clause-stands : goal.returns-in-Err-clause-stands
returns-in-Err-clause-stands c seen at more =
    let P : List ℕ → Type 0 = λ w. IsShownAt (length (seen ++ take c.loop-b.b-index c.args.piece.now)) w c.in-Err.fault in
    (length (seen ++ take c.loop-b.b-index c.args.piece.now), subst P (sym (piece_cut seen c.args.piece.now more c.loop-b.b-index (omega arith))) (c.in-Err.ensures.stands _ (c.loop-b.invariant.stands seen at) (drop (c.loop-b.b-index + 1) c.args.piece.now ++ more)))

pub loop-b-preserved : goal.loop-b-preserved
loop-b-preserved c = record {
  stands = λ seen at. let P : List ℕ → Type 0 = λ w. StandsAt w c.in-Ok.next in
      subst P (sym (piece_step seen c.args.piece.now c.loop-b.b-index (omega arith))) (c.in-Ok.ensures.stands _ (c.loop-b.invariant.stands seen at));
  offset = omega (arith, c.in-Ok.ensures.offset, c.loop-b.invariant.offset);
}

pub returns-clause-stands : goal.returns-clause-stands
returns-clause-stands c seen at =
    let full : c.loop-b.b-index ≡ length c.args.piece.now = omega arith in
    let P : List ℕ → Type 0 = λ w. StandsAt w c.loop-b.standing in
    subst P (ap (λ n. seen ++ take n c.args.piece.now) full ∙ ap (λ w. seen ++ w) (take-length c.args.piece.now)) (c.loop-b.invariant.stands seen at)
