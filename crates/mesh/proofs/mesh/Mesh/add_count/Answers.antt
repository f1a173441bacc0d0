use Rattle.std.proofs.Common.{◌+◌, ap, subst, arith}
use Rattle.tri_pages.specs.Slots.{triangle_at}
use Rattle.mesh.specs.Net.{side}
use Rattle.mesh.specs.Steps.{CountStep}
use Rattle.mesh.proofs.Slots.{some_is}
use Rattle.mesh.proofs.mesh.Mesh.add_count.Goals as goal

pub overflow_add-count : goal.overflow_add-count
overflow_add-count c =
    let t = some_is (triangle_at c.args.self.now.slots c.args.slot) c.requires.live in
    let e = c.count_at-count.ensures t.tri t.is in
    let h = c.requires.room t.tri t.is in
    omega (arith, e, h)

pub returns-clause-count : goal.returns-clause-count
returns-clause-count c =
    let t = some_is (triangle_at c.args.self.now.slots c.args.slot) c.requires.live in
    record {
      tri = t.tri;
      here = t.is;
      is = subst (λ m. CountStep c.args.self.now.slots c.recount.new.self.slots c.args.slot (side c.args.edge) m c.args.script.now c.recount.new.script)
          (ap (λ m. m + 1) (c.count_at-count.ensures t.tri t.is)) c.in_ok-recount.ensures.count;
    }
