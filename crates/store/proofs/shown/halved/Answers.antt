use Rattle.std.proofs.Common.{rules, of_calls, not}
use Rattle.std.specs.Ordering.{is_lt}
use Rattle.std.proofs.lemmas.List.Sorted.{IsPartitionPoint-from_clause}
use Rattle.landxml_write.specs.Exports.{corners_cmp}
use Rattle.store.proofs.Exported.{parted, point-position}
use Rattle.store.proofs.shown.halved.Goals as goal

pub returns : goal.returns
returns c =
    let point = IsPartitionPoint-from_clause (λ g. not (is_lt (corners_cmp c.args.facet.now g))) c.args.facets.now _ c.partition_point.ensures.partitioned (parted c.args.facets.now c.requires c.args.facet.now) (λ a r q k. search (rules, of_calls)) in
    point-position c.args.facets.now c.args.facet.now c.partition_point.result c.partition_point.ensures.bound point
