use Rattle.std.proofs.Common.{◌≡◌, arith, ap, ◌∙◌}
use Rattle.ground_model.specs.Content.{Content, lines_of}
use Rattle.ground_model.specs.History.{content_of}
use Rattle.ground_model.specs.Table.{Table, places_together}
use Rattle.landxml_write.specs.Sizes.{places_in}
use Rattle.store.proofs.version.Version.document_len.Goals as goal

pub returns : goal.returns
returns c =
    let table : c.lines.result.now ≡ (content_of c.get.result.now.journal.entries).table = c.lines.ensures ∙ ap (λ (x : Content). x.table) c.surface.ensures.content in
    let few : c.places-places.result ≡ places_in (lines_of (content_of c.args.self.now.journal.entries)) = rw (← c.self.view_is) (rw (← c.get.ensures) (c.places-places.ensures.value ∙ ap places_together table)) in
    c.surface_len.ensures.value (omega (arith, c.surface_len.ensures.bound, few, c.places-places.ensures.small))
