use Rattle.std.proofs.Common.{◌≡◌, Some}
use Rattle.tri_pages.specs.Slots.{triangle_at}
use Rattle.mesh.specs.Acrosses.{IsAcross}
use Rattle.mesh.specs.Recounts.{recounted}
use Rattle.mesh.specs.Net.{side}
use Rattle.mesh.proofs.Acrosses.{across_apart}
use Rattle.mesh.proofs.Recounts.{CountRun, count_mesh, count_is}
use Rattle.mesh.proofs.Slots.{live_real, holds_taken, is_some}
use Rattle.mesh.proofs.WrittenSlots.{wrote_two}
use Rattle.mesh.proofs.count.set_count.Goals as goal

pub returns : goal.returns
returns g c =
    let r = c.requires in
    let old = c.args.pages.now in
    let new = c.write_two.new.pages in
    let s = c.args.slot in
    let k = side c.args.edge in
    let m = c.args.count in
    let t = c.read_live-here.result in
    let n = c.read_across-beyond.result.slot in
    let u = c.read_across-beyond.result.tri in
    let j = side c.read_across-beyond.result.edge in
    let here : triangle_at old s ≡ Some t = c.read_live-here.ensures.is in
    let across : IsAcross old t k n u j = c.read_across-beyond.ensures.across in
    let real = live_real old s r.mesh.few r.live in
    let inner = live_real old n r.mesh.few (is_some (triangle_at old n) u across.there) in
    let run : CountRun old new s n k j t u m = record {
      mesh = r.mesh;
      here = here;
      real = real;
      inner = inner;
      across = across;
      two = r.two t n u j here across;
      wrote = wrote_two old new s n c.with_count-one.result c.with_count-two.result (recounted t k m n) (recounted u j m s)
          c.in_ok-write_two.ensures.ok c.with_count-one.ensures c.with_count-two.ensures
          real inner (across_apart old s n k j t u r.mesh here real across) (holds_taken old s t here) (holds_taken old n u across.there);
    } in
    record {
      mesh = count_mesh old new s n k j t u m run;
      recounted = count_is old new s n k j t u m run;
    }
