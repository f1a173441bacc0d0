use Rattle.std.proofs.Common.{arith, rules, ◌<◌, subst}
use Rattle.mesh.proofs.DelaunayNets.{legal_delaunay}
use Rattle.mesh.proofs.LegalRuns.{no_flips, run_then, less_left}
use Rattle.mesh.proofs.Legality.{all_legal}
use Rattle.mesh.proofs.mesh.Mesh.legalize.Goals as goal

pub loop-index-init : goal.loop-index-init
loop-index-init c = (c.requires.sheet, c.requires.suspects, no_flips c.args.self.now c.args.script.now (search rules))

pub loop-index-preserved : goal.loop-index-preserved
loop-index-preserved c =
    let done = c.in_ok-legalize_at.ensures in
    (done.sheet, done.suspects, run_then c.args.self.now c.loop-index.self c.legalize_at.new.self c.args.script.now c.loop-index.script c.legalize_at.new.script c.loop-index.invariant.2 done.flip)

pub returns-clause-delaunay : goal.returns-clause-delaunay
returns-clause-delaunay c =
    let x = c.loop-index.invariant in
    legal_delaunay c.loop-index.self.slots x.0 (all_legal c.loop-index.self.slots c.loop-index.script c.loop-index.index (omega (arith, c.loop-index-test.false, c.len.ensures)) x.1)

pub loop-index-smaller : goal.loop-index-smaller
loop-index-smaller c = less_left c.loop-index.self c.legalize_at.new.self c.loop-index.script c.legalize_at.new.script c.loop-index.index c.in_ok-legalize_at.ensures.flip (subst (λ n. c.loop-index.index < n) c.len.ensures c.loop-index-test.true)
