use Rattle.std.proofs.Common.{◌≡◌, ◌∙◌, sym, ap, cond, None, Some, List, ℕ}
use Rattle.std.specs.Prelude.{bytes_eq}
use Rattle.std.specs.Map.{lookup}
use Rattle.std.specs.Option.{option_or}
use Rattle.indexmap.specs.IndexMap.{get_by}
use Rattle.indexmap.proofs.CallerLemmas.{insert_entry-new}
use Rattle.landxml_surface.proofs.Named.{again, fresh, lookup-more}
use Rattle.landxml_surface.proofs.ids.Ids.note.Goals as goal

pub returns-in-Some : goal.returns-in-Some
returns-in-Some c ids are = again ids c.args.id.now _ are c.in-Some.field-0 (ap (λ (name : List ℕ). get_by (λ k. bytes_eq name k.now) c.args.self.now.triples) (sym c.as_bytes-name.ensures.bytes) ∙ sym c.triple.ensures ∙ c.in-Some.is)

pub returns-in-Ok : goal.returns-in-Ok
returns-in-Ok c ids are =
    let made = c.in-Ok.ensures in
    let none : get_by (λ k. bytes_eq c.as_bytes-name.result.now k.now) c.args.self.now.triples ≡ None = sym c.triple.ensures ∙ c.in-None.is in
    let entries = made.entries ∙ insert_entry-new (λ j k. bytes_eq j.now k.now) c.args.self.now.triples c.as_bytes-name.result c.args.id.now.triple none in
    fresh ids c.args.id.now _ are (λ name. get_by (λ k. bytes_eq name k.now) c.insert.new.self) (ap (λ (name : List ℕ). get_by (λ k. bytes_eq name k.now) c.args.self.now.triples) (sym c.as_bytes-name.ensures.bytes) ∙ none)
    (λ name. ap (lookup (λ k. bytes_eq name k.now)) entries ∙ lookup-more (λ k. bytes_eq name k.now) c.args.self.now.triples.entries c.as_bytes-name.result c.args.id.now.triple
    ∙ ap (λ (bs : List ℕ). option_or (get_by (λ k. bytes_eq name k.now) c.args.self.now.triples) (cond (bytes_eq name bs) (Some c.args.id.now.triple) None)) c.as_bytes-name.ensures.bytes)
