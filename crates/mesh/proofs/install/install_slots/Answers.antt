use Rattle.std.proofs.Common.{length, sym, ap, ◌∙◌, subst, arith}
use Rattle.std.proofs.lemmas.List.{length-map}
use Rattle.mesh.specs.Installs.{bare}
use Rattle.mesh.specs.Laying.{layout, IsLaying}
use Rattle.mesh.specs.Net.{edges_of, slots_of}
use Rattle.mesh.specs.Turning.{AreLedOn, AreOnce, IsTurnedAt}
use Rattle.ground_model.specs.declared.corner.Corner.{Corner}
use Rattle.mesh.proofs.InstallRuns.{InstallRun, install_mesh, install_is}
use Rattle.mesh.proofs.OldTriangles.{once_was}
use Rattle.mesh.proofs.install.install_slots.Goals as goal

pub turn_neighbours-requires-clause-once : goal.turn_neighbours-requires-clause-once
turn_neighbours-requires-clause-once g c =
    subst (λ xs. AreOnce xs) (sym c.deref-6.ensures.value)
    (once_was c.args.pages.now c.give_many.new.pages c.args.old.now c.args.patch.now c.in_ok-gone.gone.items c.requires.mesh c.requires.fits c.in_ok-gone.ensures.given)

pub returns : goal.returns
returns g c =
    let r = c.requires in
    let old = c.args.pages.now in
    let p1 = c.give_many.new.pages in
    let p2 = c.take_many.new.pages in
    let p3 = c.lay.new.pages in
    let new = c.turn_neighbours.new.pages in
    let olds = c.args.old.now in
    let patch = c.args.patch.now in
    let front = c.args.front in
    let lay = layout c.in_ok-news.news.items c.in_ok-slots.slots.items c.in_ok-gone.gone.items in
    let a = c.deref.ensures.value in
    let b = c.deref-2.ensures.value in
    let d = c.deref-3.ensures.value in
    let e = c.deref-4.ensures.value in
    let f = c.deref-5.ensures.value in
    let h = c.deref-6.ensures.value in
    let now = c.in_ok-turn_neighbours.ensures in
    let run : InstallRun old p1 p2 p3 new olds patch lay front = record {
      mesh = r.mesh;
      fits = r.fits;
      bare_is = c.in_ok-news.ensures;
      given = c.in_ok-gone.ensures.given;
      taking = c.in_ok-slots.ensures.taking;
      many = c.in_ok-slots.ensures.many;
      laying = subst (λ x. x) (λ i. IsLaying p2 p3 (layout (a i) (b i) (d i)) front (length (a i))) c.in_ok-lay.ensures.laying;
      led = subst (λ x. x) (λ i. AreLedOn (layout (e i) (f i) (h i)) (edges_of (slots_of p3)) (edges_of (slots_of new))) now.led;
      turned = subst (λ x. x) (λ i. (u v : Corner) → IsTurnedAt (layout (e i) (f i) (h i)) (edges_of (slots_of new)) u v) now.turned;
      kept = now.kept;
    } in
    record {
      mesh = install_mesh old p1 p2 p3 new olds patch lay front run;
      installed = install_is old p1 p2 p3 new olds patch lay front run;
      cost = omega (
        arith,
        c.give_many.ensures.cost,
        c.take_many.ensures.cost,
        c.lay.ensures.cost,
        c.turn_neighbours.ensures.cost,
        ap length a,
        ap length e,
        ap length h,
        ap length c.in_ok-news.ensures ∙ length-map patch bare,
        c.in_ok-gone.ensures.given.as_many,
      );
    }
