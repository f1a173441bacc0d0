use Rattle.std.proofs.Common.{rules, arith, sym, ap, ◌∙◌, ◌≡◌}
use Rattle.std.specs.List.{slice_index_or}
use Rattle.std.proofs.lemmas.List.{get_or-set_other}
use Rattle.serve.specs.declared.worker.Worker.{Worker}
use Rattle.serve.proofs.Surfaces.{had-more, left-more}
use Rattle.serve.proofs.surface.take_passes.Goals as goal

pub loop-worker-preserved : goal.loop-worker-preserved
loop-worker-preserved g c =
    let k = c.loop-worker.worker-index in
    let w = c.worker-item.result in
    let same = c.loop-worker.invariant.kept k w (omega arith) in
    record {
      count = search rules;
      room = search rules;
      had = had-more c.args.workers.now c.loop-worker.passes.items c.push_reserved.new.self.items k w c.in-Some.pass (search rules) (search rules)
          (ap (λ (x : Worker g.row.D.Denot). x.pass) (sym same) ∙ sym c.take.ensures.value ∙ c.in-Some.is) c.push_reserved.ensures.items c.loop-worker.invariant.had;
      left = left-more c.args.workers.now c.loop-worker.workers k w _ (search rules) (search rules) same
          (ap (λ p. record (slice_index_or c.loop-worker.workers k w) { pass = p }) c.take.ensures.after) c.loop-worker.invariant.left;
      kept = λ i d low. get_or-set_other c.loop-worker.workers k i _ d (λ (e : i ≡ k). omega (arith, e, low)) ∙ c.loop-worker.invariant.kept i d (omega (arith, low));
    }
