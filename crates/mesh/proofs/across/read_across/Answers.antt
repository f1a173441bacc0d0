use Rattle.std.proofs.Common.{◌≡◌, ◌∙◌, Some, sym, ap, subst}
use Rattle.tri_pages.specs.Slots.{triangle_at}
use Rattle.mesh.specs.Acrosses.{IsAcross}
use Rattle.mesh.specs.Meshes.{IsLive}
use Rattle.mesh.specs.Net.{side, next_at}
use Rattle.mesh.proofs.Acrosses.{across_live, across_read}
use Rattle.mesh.proofs.across.read_across.Goals as goal

pub read_live-tri-requires : goal.read_live-tri-requires
read_live-tri-requires g c =
    let r = c.requires in
    record { live = subst (IsLive c.args.pages.now) (sym c.seen_from-seen.ensures.beyond_ab) (across_live c.args.pages.now r.here.0 (side c.args.edge) c.args.t.now r.mesh r.here.1 r.inner) }

pub returns-clause-across : goal.returns-clause-across
returns-clause-across g c =
    let r = c.requires in
    let e = c.seen_from-seen.ensures in
    let pages = c.args.pages.now in
    let t = c.args.t.now in
    let k = side c.args.edge in
    let u = c.read_live-tri.result in
    let j = side c.edge_from-back.result in
    let there : triangle_at pages (next_at t k) ≡ Some u = ap (triangle_at pages) (sym e.beyond_ab) ∙ c.read_live-tri.ensures.is in
    subst (λ n. IsAcross pages t k n u j) (sym e.beyond_ab)
    (across_read pages r.here.0 k j t u r.mesh r.here.1 r.inner there (λ y h. c.edge_from-back.ensures.starts y (h ∙ sym e.b) ∙ e.b))
