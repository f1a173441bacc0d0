use Rattle.std.proofs.Common.{◌≡◌, ◌∙◌, Some, sym, subst}
use Rattle.tri_pages.specs.Slots.{triangle_at}
use Rattle.mesh.specs.Net.{edges_of, slots_of}
use Rattle.mesh.specs.Redirects.{IsRedirected}
use Rattle.mesh.specs.Faces.{KeepsFaces}
use Rattle.mesh.proofs.TurnedSlots.{redirected_by, kept_by}
use Rattle.mesh.proofs.redirect.redirect.Goals as goal

pub returns-in_ok-write-in-Some-clause-turned : goal.returns-in_ok-write-in-Some-clause-turned
returns-in_ok-write-in-Some-clause-turned g c =
    let here : triangle_at c.args.pages.now c.args.slot ≡ Some c.in-Some.t = sym c.read.ensures.triangle ∙ sym c.copied.ensures ∙ c.in-Some.is in
    subst (λ ps. IsRedirected c.args.slot c.args.next c.args.from c.args.to (edges_of (slots_of c.args.pages.now)) (edges_of (slots_of ps))) (sym c.in_ok-write-in-Some.ensures.ok)
    (redirected_by c.args.pages.now c.args.slot c.args.next c.args.from c.args.to c.in-Some.t c.turned-value.result c.if-slot-eq-OUTSIDE.false here c.turned-value.ensures)

pub returns-in_ok-write-in-Some-clause-kept : goal.returns-in_ok-write-in-Some-clause-kept
returns-in_ok-write-in-Some-clause-kept g c =
    let here : triangle_at c.args.pages.now c.args.slot ≡ Some c.in-Some.t = sym c.read.ensures.triangle ∙ sym c.copied.ensures ∙ c.in-Some.is in
    subst (λ ps. KeepsFaces c.args.pages.now ps) (sym c.in_ok-write-in-Some.ensures.ok)
    (kept_by c.args.pages.now c.args.slot c.args.next c.args.from c.args.to c.in-Some.t c.turned-value.result c.if-slot-eq-OUTSIDE.false here c.turned-value.ensures)
