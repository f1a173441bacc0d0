use Rattle.std.proofs.Common.{arith}
use Rattle.mesh.specs.Laying.{layout}
use Rattle.mesh.proofs.Laying.{one_more_laid, still_taken}
use Rattle.mesh.proofs.lay.lay.Goals as goal

pub write-requires : goal.write-requires
write-requires g c =
    let lay = layout c.args.news.now c.args.slots.now c.args.was.now in
    let s = c.slot_at.result in
    let here = c.slot_at.ensures in
    still_taken c.args.pages.now c.loop-index.pages lay c.args.front c.loop-index.index s c.loop-index.invariant.0 c.requires.apart here (c.requires.taken c.loop-index.index s here)

pub loop-index-preserved : goal.loop-index-preserved
loop-index-preserved g c =
    let lay = layout c.args.news.now c.args.slots.now c.args.was.now in
    let old = c.args.pages.now in
    let mid = c.loop-index.pages in
    let s = c.slot_at.result in
    let n = c.loop-index.index in
    let here = c.slot_at.ensures in (
      one_more_laid old mid c.write.new.self lay c.args.front n s c.tri_at.result c.with_leads-value.result c.loop-index.invariant.0 c.requires.apart here c.tri_at.ensures c.with_leads-value.ensures
          (still_taken old mid lay c.args.front n s c.loop-index.invariant.0 c.requires.apart here (c.requires.taken n s here)) c.in_ok-write.ensures.ok,
      omega (arith, c.loop-index.invariant.1),
    )
