use Rattle.std.proofs.Common.{◌≡◌, ◌∙◌, Some, subst}
use Rattle.tri_pages.specs.Slots.{triangle_at}
use Rattle.mesh.specs.Net.{edges_of, slots_of, first, second, third}
use Rattle.mesh.specs.Redirects.{IsRedirected}
use Rattle.mesh.specs.Splits.{split_part}
use Rattle.mesh.proofs.Slots.{slot_in, live_real, holds_taken}
use Rattle.mesh.proofs.Splits.{SplitRun, split_mesh, split_is}
use Rattle.mesh.proofs.Takes.{blank_taken, full_apart}
use Rattle.mesh.proofs.WrittenSlots.{wrote_three}
use Rattle.mesh.proofs.split.split_slots.Goals as goal

pub returns : goal.returns
returns g c =
    let old = c.args.pages.now in
    let p1 = c.take_two.new.pages in
    let p2 = c.write_three.new.pages in
    let p3 = c.redirect.new.pages in
    let new = c.redirect-2.new.pages in
    let s = c.args.slot in
    let f = c.in_ok-second.second in
    let h = c.in_ok-second.third in
    let p = c.args.place in
    let t = c.read_live-t.result in
    let taking = c.in_ok-second.ensures.taking in
    let there : triangle_at p1 s ≡ Some t = c.read_live-t.ensures.is in
    let real = live_real old s c.requires.mesh.few c.requires.live in
    let e = c.seen_from-seen.ensures in
    let run : SplitRun old p1 p2 p3 new s f h t p = record {
      mesh = c.requires.mesh;
      no_corner = c.requires.no_corner;
      taking = taking;
      here = slot_in p1 s real ∙ there;
      live = real;
      wrote = wrote_three p1 p2 s f h c.part-one.result c.part-two.result c.part-three.result (split_part t first p f h) (split_part t second p h s) (split_part t third p s f)
          c.in_ok-write_three.ensures.ok c.part-one.ensures c.part-two.ensures c.part-three.ensures
          real taking.f_live taking.g_live (full_apart p1 s f t there taking.f_blank) (full_apart p1 s h t there taking.g_blank) taking.apart
          (holds_taken p1 s t there) (blank_taken p1 f taking.f_blank) (blank_taken p1 h taking.g_blank);
      turn1 = subst (λ x. x) (λ i. IsRedirected (e.beyond_bc i) f (e.c i) (e.b i) (edges_of (slots_of p2)) (edges_of (slots_of p3))) c.in_ok-redirect.ensures.turned;
      kept1 = c.in_ok-redirect.ensures.kept;
      turn2 = subst (λ x. x) (λ i. IsRedirected (e.beyond_ca i) h (e.a i) (e.c i) (edges_of (slots_of p3)) (edges_of (slots_of new))) c.in_ok-redirect-2.ensures.turned;
      kept2 = c.in_ok-redirect-2.ensures.kept;
    } in
    record {
      mesh = split_mesh old p1 p2 p3 new s f h t p run;
      split = split_is old p1 p2 p3 new s f h t p run;
    }
