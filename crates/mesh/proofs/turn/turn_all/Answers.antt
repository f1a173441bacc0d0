use Rattle.std.proofs.Common.{arith}
use Rattle.mesh.specs.Laying.{layout}
use Rattle.mesh.specs.Net.{edges_of, slots_of}
use Rattle.mesh.proofs.Turned.{led_then, one_more_turned, faces_then}
use Rattle.std.proofs.lemmas.Option.{slice_get_within}
use Rattle.mesh.proofs.turn.turn_all.Goals as goal

pub loop-index-preserved : goal.loop-index-preserved
loop-index-preserved g c =
    let lay = layout c.args.news.now c.args.slots.now c.args.was.now in
    let before = c.loop-index.invariant in
    let e0 = edges_of (slots_of c.args.pages.now) in
    let e1 = edges_of (slots_of c.loop-index.pages) in
    let e2 = edges_of (slots_of c.turn_round.new.pages) in
    let now = c.in_ok-turn_round.ensures in (
      led_then lay e0 e1 e2 before.0 now.led,
      faces_then c.args.pages.now c.loop-index.pages c.turn_round.new.pages before.1 now.kept,
      one_more_turned lay e1 e2 c.args.over.now c.loop-index.index c.tri_at-t.result now.led c.tri_at-t.ensures now.turned before.2,
      omega (arith, before.3, now.cost),
    )

pub returns-clause-turned : goal.returns-clause-turned
returns-clause-turned g c = λ i t e. c.loop-index.invariant.2 i t (omega (arith, slice_get_within c.args.over.now i t e, c.loop-index-test.false)) e
