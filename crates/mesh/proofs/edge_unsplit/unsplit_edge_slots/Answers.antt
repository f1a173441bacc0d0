use Rattle.std.proofs.Common.{◌≡◌, Some, subst}
use Rattle.tri_pages.specs.Slots.{triangle_at}
use Rattle.mesh.specs.EdgeUnsplits.{AreFour, IsLine, upper}
use Rattle.mesh.specs.Net.{edges_of, slots_of, side}
use Rattle.mesh.specs.Redirects.{IsRedirected}
use Rattle.mesh.proofs.EdgeUnsplits.{EdgeUnsplitRun, four_slots, edge_unsplit_mesh, edge_unsplit_is}
use Rattle.mesh.proofs.FreedSlots.{freed}
use Rattle.mesh.proofs.Slots.{live_real, holds_taken, is_some}
use Rattle.mesh.proofs.WrittenSlots.{wrote_two}
use Rattle.mesh.proofs.edge_unsplit.unsplit_edge_slots.Goals as goal

pub give_two-requires : goal.give_two-requires
give_two-requires gg c =
    let r = c.requires in
    let old = c.args.pages.now in
    let s = c.args.slot in
    let k = side c.args.edge in
    let t = c.read_live-here.result in
    let x = c.read_round-round.result.ahead in
    let y = c.read_round-round.result.below in
    let z = c.read_round-round.result.under in
    let four = c.read_round-round.ensures.four in
    let here : triangle_at old s ≡ Some t = c.read_live-here.ensures.is in
    let real = live_real old s r.mesh.few r.unsplittable.live in
    let n_real = live_real old y.slot r.mesh.few (is_some (triangle_at old y.slot) y.tri four.below.there) in
    let line = r.unsplittable.four t x.slot x.tri (side x.edge) y.slot y.tri (side y.edge) z.slot z.tri (side z.edge) here four in
    let slots = four_slots old t k s x.slot x.tri (side x.edge) y.slot y.tri (side y.edge) z.slot z.tri (side z.edge) r.mesh here four line in
    let wrote = wrote_two old c.write_two.new.pages s y.slot c.united-one.result c.united-two.result (upper t k x.tri (side x.edge) y.slot) (upper y.tri (side y.edge) z.tri (side z.edge) s)
    c.in_ok-write_two.ensures.ok c.united-one.ensures c.united-two.ensures real n_real slots.s_n (holds_taken old s t here) (holds_taken old y.slot y.tri four.below.there) in
    record {
      f = wrote.taken x.slot (holds_taken old x.slot x.tri four.ahead.there);
      g = wrote.taken z.slot (holds_taken old z.slot z.tri four.under.there);
      apart = slots.f_g;
    }

pub returns : goal.returns
returns gg c =
    let r = c.requires in
    let old = c.args.pages.now in
    let p1 = c.write_two.new.pages in
    let p2 = c.give_two.new.pages in
    let p3 = c.redirect.new.pages in
    let new = c.redirect-2.new.pages in
    let s = c.args.slot in
    let k = side c.args.edge in
    let t = c.read_live-here.result in
    let f = c.read_round-round.result.ahead.slot in
    let u = c.read_round-round.result.ahead.tri in
    let j = side c.read_round-round.result.ahead.edge in
    let n = c.read_round-round.result.below.slot in
    let w = c.read_round-round.result.below.tri in
    let i = side c.read_round-round.result.below.edge in
    let g = c.read_round-round.result.under.slot in
    let v = c.read_round-round.result.under.tri in
    let l = side c.read_round-round.result.under.edge in
    let here : triangle_at old s ≡ Some t = c.read_live-here.ensures.is in
    let four : AreFour old t k f u j n w i g v l = c.read_round-round.ensures.four in
    let line : IsLine old t k u j w i v l = r.unsplittable.four t f u j n w i g v l here four in
    let slots = four_slots old t k s f u j n w i g v l r.mesh here four line in
    let real = live_real old s r.mesh.few r.unsplittable.live in
    let f_real = live_real old f r.mesh.few (is_some (triangle_at old f) u four.ahead.there) in
    let n_real = live_real old n r.mesh.few (is_some (triangle_at old n) w four.below.there) in
    let g_real = live_real old g r.mesh.few (is_some (triangle_at old g) v four.under.there) in
    let wrote = wrote_two old p1 s n c.united-one.result c.united-two.result (upper t k u j n) (upper w i v l s)
    c.in_ok-write_two.ensures.ok c.united-one.ensures c.united-two.ensures real n_real slots.s_n (holds_taken old s t here) (holds_taken old n w four.below.there) in
    let a = c.seen_from-t.ensures in
    let b = c.seen_from-u.ensures in
    let d = c.seen_from-w.ensures in
    let e = c.seen_from-v.ensures in
    let run : EdgeUnsplitRun old p1 p2 p3 new s f n g k j i l t u w v = record {
      mesh = r.mesh;
      here = here;
      four = four;
      line = line;
      s_real = real;
      f_real = f_real;
      n_real = n_real;
      g_real = g_real;
      wrote = wrote;
      freed = freed p1 p2 f g c.in_ok-give_two.ensures.ok f_real g_real slots.f_g (wrote.taken f (holds_taken old f u four.ahead.there)) (wrote.taken g (holds_taken old g v four.under.there));
      turn1 = subst (λ x. x) (λ m. IsRedirected (b.beyond_bc m) s (a.c m) (d.a m) (edges_of (slots_of p2)) (edges_of (slots_of p3))) c.in_ok-redirect.ensures.turned;
      kept1 = c.in_ok-redirect.ensures.kept;
      turn2 = subst (λ x. x) (λ m. IsRedirected (e.beyond_bc m) n (d.c m) (a.a m) (edges_of (slots_of p3)) (edges_of (slots_of new))) c.in_ok-redirect-2.ensures.turned;
      kept2 = c.in_ok-redirect-2.ensures.kept;
    } in
    record {
      mesh = edge_unsplit_mesh old p1 p2 p3 new s f n g k j i l t u w v run;
      unsplit = edge_unsplit_is old p1 p2 p3 new s f n g k j i l t u w v run;
    }
