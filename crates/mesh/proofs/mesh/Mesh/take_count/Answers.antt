use Rattle.std.proofs.Common.{◌-◌, arith}
use Rattle.tri_pages.specs.Slots.{triangle_at}
use Rattle.mesh.specs.Net.{side, after, corner_at}
use Rattle.mesh.proofs.Slots.{some_is}
use Rattle.mesh.proofs.StepSheets.{counted_places, places_joined}
use Rattle.mesh.proofs.mesh.Mesh.take_count.Goals as goal

pub overflow_sub-count : goal.overflow_sub-count
overflow_sub-count c =
    let t = some_is (triangle_at c.args.self.now.slots c.args.slot) c.requires.live in
    let e = c.count_at-count.ensures t.tri t.is in
    let h = c.requires.counted t.tri t.is in
    omega (arith, e, h)

pub returns-clause-count : goal.returns-clause-count
returns-clause-count c =
    let t = some_is (triangle_at c.args.self.now.slots c.args.slot) c.requires.live in
    let e = c.count_at-count.ensures t.tri t.is in
    let h = c.requires.counted t.tri t.is in
    record {
      tri = t.tri;
      here = t.is;
      count = c.count_at-count.result - 1;
      one_less = omega (arith, e, h);
      is = c.in_ok-recount.ensures.count;
    }

pub recount-requires-clause-places : goal.recount-requires-clause-places
recount-requires-clause-places c = λ t e.
    let k = side c.args.edge in
    places_joined (corner_at t k) (corner_at t (after k)) (counted_places t k (c.requires.sheet.turned c.args.slot t e) (c.requires.counted t e))
