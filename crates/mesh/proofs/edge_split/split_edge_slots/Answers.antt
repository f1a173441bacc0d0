use Rattle.std.proofs.Common.{◌≡◌, ◌∙◌, Some, subst}
use Rattle.tri_pages.specs.Slots.{triangle_at}
use Rattle.mesh.specs.Acrosses.{IsAcross}
use Rattle.mesh.specs.EdgeSplits.{start_part, end_part}
use Rattle.mesh.specs.Net.{edges_of, slots_of, side}
use Rattle.mesh.specs.Redirects.{IsRedirected}
use Rattle.mesh.proofs.Acrosses.{across_apart}
use Rattle.mesh.proofs.EdgeSplits.{EdgeSplitRun, edge_split_mesh, edge_split_is}
use Rattle.mesh.proofs.Slots.{live_real, holds_taken, is_some}
use Rattle.mesh.proofs.Takes.{blank_taken, full_apart, same_triangle}
use Rattle.mesh.proofs.WrittenSlots.{wrote_four}
use Rattle.mesh.proofs.edge_split.split_edge_slots.Goals as goal

pub returns : goal.returns
returns gg c =
    let r = c.requires in
    let old = c.args.pages.now in
    let p1 = c.take_two.new.pages in
    let p2 = c.write_four.new.pages in
    let p3 = c.redirect.new.pages in
    let new = c.redirect-2.new.pages in
    let s = c.args.slot in
    let k = side c.args.edge in
    let p = c.args.place in
    let t = c.read_live-here.result in
    let n = c.read_across-beyond.result.slot in
    let u = c.read_across-beyond.result.tri in
    let j = side c.read_across-beyond.result.edge in
    let f = c.in_ok-second.second in
    let g = c.in_ok-second.third in
    let taking = c.in_ok-second.ensures.taking in
    let here : triangle_at old s ≡ Some t = c.read_live-here.ensures.is in
    let across : IsAcross old t k n u j = c.read_across-beyond.ensures.across in
    let real = live_real old s r.mesh.few r.live in
    let inner = live_real old n r.mesh.few (is_some (triangle_at old n) u across.there) in
    let t_in = same_triangle old p1 f g s taking ∙ here in
    let u_in = same_triangle old p1 f g n taking ∙ across.there in
    let a = c.seen_from-t.ensures in
    let b = c.seen_from-u.ensures in
    let run : EdgeSplitRun old p1 p2 p3 new s n f g k j t u p = record {
      mesh = r.mesh;
      no_corner = r.no_corner;
      here = here;
      real = real;
      inner = inner;
      across = across;
      two = r.two t n u j here across;
      taking = taking;
      wrote = wrote_four p1 p2 s n f g c.start_of-one.result c.start_of-two.result c.end_of-three.result c.end_of-four.result (start_part t k p g f) (start_part u j p f g) (end_part t k p n s) (end_part u j p s n)
          c.in_ok-write_four.ensures.ok c.start_of-one.ensures c.start_of-two.ensures c.end_of-three.ensures c.end_of-four.ensures
          real inner taking.f_live taking.g_live (across_apart old s n k j t u r.mesh here real across)
          (full_apart p1 s f t t_in taking.f_blank) (full_apart p1 s g t t_in taking.g_blank) (full_apart p1 n f u u_in taking.f_blank) (full_apart p1 n g u u_in taking.g_blank) taking.apart
          (holds_taken p1 s t t_in) (holds_taken p1 n u u_in) (blank_taken p1 f taking.f_blank) (blank_taken p1 g taking.g_blank);
      turn1 = subst (λ x. x) (λ i. IsRedirected (a.beyond_bc i) f (a.c i) (a.b i) (edges_of (slots_of p2)) (edges_of (slots_of p3))) c.in_ok-redirect.ensures.turned;
      kept1 = c.in_ok-redirect.ensures.kept;
      turn2 = subst (λ x. x) (λ i. IsRedirected (b.beyond_bc i) g (b.c i) (a.a i) (edges_of (slots_of p3)) (edges_of (slots_of new))) c.in_ok-redirect-2.ensures.turned;
      kept2 = c.in_ok-redirect-2.ensures.kept;
    } in
    record {
      mesh = edge_split_mesh old p1 p2 p3 new s n f g k j t u p run;
      split = edge_split_is old p1 p2 p3 new s n f g k j t u p run;
    }

pub write_four-requires-clause-n : goal.write_four-requires-clause-n
write_four-requires-clause-n gg c =
    let p1 = c.take_two.new.pages in
    let n = c.read_across-beyond.result.slot in
    holds_taken p1 n c.read_across-beyond.result.tri
    (same_triangle c.args.pages.now p1 c.in_ok-second.second c.in_ok-second.third n c.in_ok-second.ensures.taking ∙ c.read_across-beyond.ensures.across.there)
