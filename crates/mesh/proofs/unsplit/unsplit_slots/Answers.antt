use Rattle.std.proofs.Common.{◌≡◌, Some, subst}
use Rattle.tri_pages.specs.Slots.{triangle_at}
use Rattle.mesh.specs.Net.{edges_of, slots_of, side, after}
use Rattle.mesh.specs.Redirects.{IsRedirected}
use Rattle.mesh.specs.Unsplits.{whole, AreAround}
use Rattle.mesh.proofs.Acrosses.{across_apart}
use Rattle.mesh.proofs.FreedSlots.{wrote_one, freed}
use Rattle.mesh.proofs.Slots.{live_real, holds_taken, is_some}
use Rattle.mesh.proofs.Unsplits.{UnsplitRun, around_of, freed_apart, three_round, unsplit_mesh, unsplit_is}
use Rattle.mesh.proofs.unsplit.unsplit_slots.Goals as goal

pub give_two-requires : goal.give_two-requires
give_two-requires gg c =
    let r = c.requires in
    let old = c.args.pages.now in
    let s = c.args.slot in
    let k = side c.args.edge in
    let t = c.read_live-here.result in
    let x = c.read_across-ahead.result in
    let y = c.read_across-before.result in
    let here : triangle_at old s ≡ Some t = c.read_live-here.ensures.is in
    let real = live_real old s r.mesh.few r.unsplittable.live in
    let around : AreAround old t k x.slot x.tri (side x.edge) y.slot y.tri (side y.edge) =
    around_of old t k (side c.edge_after-next.result) (side c.edge_after.result) x.slot x.tri (side x.edge) y.slot y.tri (side y.edge) c.edge_after-next.ensures.after c.edge_after.ensures.after c.read_across-ahead.ensures.across c.read_across-before.ensures.across in
    let wrote = wrote_one old c.write.new.self s c.joined-value.result (whole t k x.tri (side x.edge) y.tri (side y.edge)) c.in_ok-write.ensures.ok c.joined-value.ensures real (holds_taken old s t here) in
    record {
      f = wrote.taken x.slot (holds_taken old x.slot x.tri around.ahead.there);
      g = wrote.taken y.slot (holds_taken old y.slot y.tri around.before.there);
      apart = freed_apart old s x.slot y.slot k (side x.edge) (side y.edge) t x.tri y.tri r.mesh here around (r.unsplittable.three t x.slot x.tri (side x.edge) y.slot y.tri (side y.edge) here around);
    }

pub returns : goal.returns
returns gg c =
    let r = c.requires in
    let old = c.args.pages.now in
    let p1 = c.write.new.self in
    let p2 = c.give_two.new.pages in
    let p3 = c.redirect.new.pages in
    let new = c.redirect-2.new.pages in
    let s = c.args.slot in
    let k = side c.args.edge in
    let t = c.read_live-here.result in
    let f = c.read_across-ahead.result.slot in
    let u = c.read_across-ahead.result.tri in
    let j = side c.read_across-ahead.result.edge in
    let g = c.read_across-before.result.slot in
    let v = c.read_across-before.result.tri in
    let l = side c.read_across-before.result.edge in
    let here : triangle_at old s ≡ Some t = c.read_live-here.ensures.is in
    let around : AreAround old t k f u j g v l =
    around_of old t k (side c.edge_after-next.result) (side c.edge_after.result) f u j g v l c.edge_after-next.ensures.after c.edge_after.ensures.after c.read_across-ahead.ensures.across c.read_across-before.ensures.across in
    let three = r.unsplittable.three t f u j g v l here around in
    let real = live_real old s r.mesh.few r.unsplittable.live in
    let f_real = live_real old f r.mesh.few (is_some (triangle_at old f) u around.ahead.there) in
    let g_real = live_real old g r.mesh.few (is_some (triangle_at old g) v around.before.there) in
    let wrote = wrote_one old p1 s c.joined-value.result (whole t k u j v l) c.in_ok-write.ensures.ok c.joined-value.ensures real (holds_taken old s t here) in
    let a = c.seen_from-t.ensures in
    let b = c.seen_from-u.ensures in
    let e = c.seen_from-v.ensures in
    let run : UnsplitRun old p1 p2 p3 new s f g k j l t u v = record {
      mesh = r.mesh;
      here = here;
      s_real = real;
      f_real = f_real;
      g_real = g_real;
      s_f = across_apart old s f (after k) j t u r.mesh here real around.ahead;
      s_g = across_apart old s g (after (after k)) l t v r.mesh here real around.before;
      around = around;
      round = three_round old t u v k j l f g around three;
      wrote = wrote;
      freed = freed p1 p2 f g c.in_ok-give_two.ensures.ok f_real g_real (freed_apart old s f g k j l t u v r.mesh here around three)
          (wrote.taken f (holds_taken old f u around.ahead.there)) (wrote.taken g (holds_taken old g v around.before.there));
      turn1 = subst (λ x. x) (λ i. IsRedirected (b.beyond_bc i) s (b.c i) (a.b i) (edges_of (slots_of p2)) (edges_of (slots_of p3))) c.in_ok-redirect.ensures.turned;
      kept1 = c.in_ok-redirect.ensures.kept;
      turn2 = subst (λ x. x) (λ i. IsRedirected (e.beyond_ca i) s (a.a i) (b.c i) (edges_of (slots_of p3)) (edges_of (slots_of new))) c.in_ok-redirect-2.ensures.turned;
      kept2 = c.in_ok-redirect-2.ensures.kept;
    } in
    record {
      mesh = unsplit_mesh old p1 p2 p3 new s f g k j l t u v run;
      unsplit = unsplit_is old p1 p2 p3 new s f g k j l t u v run;
    }
