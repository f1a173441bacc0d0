use Rattle.std.proofs.Common.{◌≡◌, ap, refl, ◌∙◌}
use Rattle.store.specs.Surfaces.{content_by}
use Rattle.store.proofs.Oks.{ok_as}
use Rattle.store.proofs.surface.Surface.without_point.Goals as goal

pub returns : goal.returns
returns c =
    let lines : c.in_ok-share.field-0 ≡ c.args.self.now.table = c.in_ok-share.ensures ∙ rw (← c.self.view_is) refl in
    ok_as _ _ _ (ap (content_by c.in_ok-points_without.field-0.entries) lines ∙ c.in_ok-points_without.ensures.content) c.of.ensures
