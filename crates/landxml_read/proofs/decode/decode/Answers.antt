use Rattle.std.proofs.Common.{◌≡◌, ◌∙◌, ◌+◌, length, take, cond, Some, None, sym, ap, arith}
use Rattle.std.proofs.Math.Seq.{take-length}
use Rattle.landxml_read.specs.Decoding.{no_decoding, decoding_run}
use Rattle.landxml_read.proofs.Decodings.{decoding_step, decoding_stops, decoding_ends}
use Rattle.landxml_read.proofs.decode.decode.Goals as goal

pub returns-then-not-branch : goal.returns-then-not-branch
returns-then-not-branch c =
    sym (decoding_stops c.args.value.now (c.loop-b.b-index + 1)
    (decoding_step c.args.value.now c.loop-b.b-index c.loop-b.decoding (omega arith) c.loop-b.invariant ∙ c.in_ok-after.ensures ∙ ap (λ t. cond t (Some c.after.new.self) None) c.if-not-branch.true))

pub loop-b-preserved : goal.loop-b-preserved
loop-b-preserved c =
    decoding_step c.args.value.now c.loop-b.b-index c.loop-b.decoding (omega arith) c.loop-b.invariant ∙ c.in_ok-after.ensures ∙ ap (λ t. cond t (Some c.after.new.self) None) c.if-not-branch.false

pub returns-then-decoding : goal.returns-then-decoding
returns-then-decoding c =
    let full : c.loop-b.b-index ≡ length c.args.value.now = omega arith in
    let e : decoding_run (Some no_decoding) c.args.value.now ≡ Some c.loop-b.decoding = ap (decoding_run (Some no_decoding)) (sym (ap (λ n. take n c.args.value.now) full ∙ take-length c.args.value.now)) ∙ c.loop-b.invariant in
    sym (decoding_ends c.args.value.now c.loop-b.decoding e ∙ ap (λ t. cond t None (Some c.loop-b.decoding.out)) c.if-decoding.true)

pub returns-else-decoding : goal.returns-else-decoding
returns-else-decoding c =
    let full : c.loop-b.b-index ≡ length c.args.value.now = omega arith in
    let e : decoding_run (Some no_decoding) c.args.value.now ≡ Some c.loop-b.decoding = ap (decoding_run (Some no_decoding)) (sym (ap (λ n. take n c.args.value.now) full ∙ take-length c.args.value.now)) ∙ c.loop-b.invariant in
    sym (decoding_ends c.args.value.now c.loop-b.decoding e ∙ ap (λ t. cond t None (Some c.loop-b.decoding.out)) c.if-decoding.false)
