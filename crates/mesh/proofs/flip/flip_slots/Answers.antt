use Rattle.std.proofs.Common.{◌≡◌, Some, subst}
use Rattle.tri_pages.specs.Slots.{triangle_at}
use Rattle.mesh.specs.Acrosses.{IsAcross}
use Rattle.mesh.specs.Flips.{flip_one, flip_two}
use Rattle.mesh.specs.Net.{edges_of, slots_of, side}
use Rattle.mesh.specs.Redirects.{IsRedirected}
use Rattle.mesh.proofs.Acrosses.{across_apart}
use Rattle.mesh.proofs.Flips.{FlipRun, flip_mesh, flip_is}
use Rattle.mesh.proofs.Slots.{live_real, holds_taken, is_some}
use Rattle.mesh.proofs.WrittenSlots.{wrote_two}
use Rattle.mesh.proofs.flip.flip_slots.Goals as goal

pub returns : goal.returns
returns g c =
    let r = c.requires in
    let q = r.flippable in
    let old = c.args.pages.now in
    let p1 = c.write_two.new.pages in
    let p2 = c.redirect.new.pages in
    let new = c.redirect-2.new.pages in
    let s = c.args.slot in
    let k = side c.args.edge in
    let t = c.read_live-here.result in
    let n = c.read_across-beyond.result.slot in
    let u = c.read_across-beyond.result.tri in
    let j = side c.read_across-beyond.result.edge in
    let here : triangle_at old s ≡ Some t = c.read_live-here.ensures.is in
    let across : IsAcross old t k n u j = c.read_across-beyond.ensures.across in
    let real = live_real old s r.mesh.few (is_some (triangle_at old s) t here) in
    let inner = live_real old n r.mesh.few (is_some (triangle_at old n) u across.there) in
    let a = c.seen_from-t.ensures in
    let b = c.seen_from-u.ensures in
    let run : FlipRun old p1 p2 new s n k j t u = record {
      mesh = r.mesh;
      here = here;
      real = real;
      inner = inner;
      across = across;
      two = q.two t n u j here across;
      unjoined = q.unjoined t n u j here across;
      wrote = wrote_two old p1 s n c.first_half-one.result c.second_half-two.result (flip_one t k u j n) (flip_two t k u j s)
          c.in_ok-write_two.ensures.ok c.first_half-one.ensures c.second_half-two.ensures
          real inner (across_apart old s n k j t u r.mesh here real across) (holds_taken old s t here) (holds_taken old n u across.there);
      turn1 = subst (λ x. x) (λ i. IsRedirected (b.beyond_bc i) s (b.c i) (a.a i) (edges_of (slots_of p1)) (edges_of (slots_of p2))) c.in_ok-redirect.ensures.turned;
      kept1 = c.in_ok-redirect.ensures.kept;
      turn2 = subst (λ x. x) (λ i. IsRedirected (a.beyond_bc i) n (a.c i) (a.b i) (edges_of (slots_of p2)) (edges_of (slots_of new))) c.in_ok-redirect-2.ensures.turned;
      kept2 = c.in_ok-redirect-2.ensures.kept;
    } in
    record {
      mesh = flip_mesh old p1 p2 new s n k j t u run;
      flipped = flip_is old p1 p2 new s n k j t u run;
    }
