use Rattle.std.proofs.Common.{sym, List, subst}
use Rattle.std.specs.List.Sorted.{IsStrictlySortedBy}
use Rattle.std.proofs.lemmas.List.Filters.{dedup_is}
use Rattle.std.proofs.lemmas.List.Kept.{IsStrictlySortedBy-dedup}
use Rattle.ground_model.specs.Place.{Coords, place_cmp, is_same}
use Rattle.ground_model.proofs.Contents.{places_total}
use Rattle.line_table.proofs.Rows.{ties}
use Rattle.geometry_tests.proofs.line_fixtures.order.Goals as goal

pub returns : goal.returns
returns c =
    subst (λ (xs : List Coords). IsStrictlySortedBy place_cmp xs) (sym (dedup_is is_same c.sort_unstable.new.self.items c.dedup.new.self.items c.dedup.ensures.filtered))
    (IsStrictlySortedBy-dedup places_total ties c.sort_unstable.new.self.items c.sort_unstable.ensures.sorted)
