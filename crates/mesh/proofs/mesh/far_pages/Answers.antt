use Rattle.std.proofs.Common.{◌∙◌, ap}
use Rattle.tri_pages.specs.Slots.{put, blank}
use Rattle.mesh.proofs.FarTriangle.{far_alone_is}
use Rattle.mesh.proofs.mesh.far_pages.Goals as goal

pub returns : goal.returns
returns g c =
    let s = c.in_ok-slot.slot in
    far_alone_is s c.take_free.new.self c.write.new.self (c.in_ok-slot.ensures.ok ∙ ap (λ ps. put ps s blank) c.empty-pages.ensures.empty) c.in_ok-slot.ensures.taken c.in_ok-write.ensures.ok
