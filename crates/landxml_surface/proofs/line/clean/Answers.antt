use Rattle.std.proofs.Common.{◌∙◌, sym, ap}
use Rattle.std.specs.Prelude.{if◌then◌else◌}
use Rattle.std.specs.List.{dedup}
use Rattle.std.proofs.lemmas.List.Filters.{dedup_is}
use Rattle.ground_model.specs.Place.{is_same}
use Rattle.landxml_surface.specs.Drafts.{opened}
use Rattle.landxml_surface.proofs.line.clean.Goals as goal

pub returns-then-is_ring : goal.returns-then-is_ring
returns-then-is_ring c =
    let kept = dedup_is is_same c.args.places.now.items c.dedup.new.self.items c.dedup.ensures.filtered in
    c.open.ensures ∙ ap opened kept ∙ ap (λ b. if b then opened (dedup is_same c.args.places.now.items) else dedup is_same c.args.places.now.items) (sym c.if-is_ring.true ∙ c.is_ring.ensures)

pub returns-else-is_ring : goal.returns-else-is_ring
returns-else-is_ring c =
    let kept = dedup_is is_same c.args.places.now.items c.dedup.new.self.items c.dedup.ensures.filtered in
    kept ∙ ap (λ b. if b then opened (dedup is_same c.args.places.now.items) else dedup is_same c.args.places.now.items) (sym c.if-is_ring.false ∙ c.is_ring.ensures)
