use Rattle.std.proofs.Common.{sym, subst, ◌∙◌}
use Rattle.std.specs.BTreeMap.{get}
use Rattle.ground_model.specs.Place.{place_cmp}
use Rattle.measures.specs.SlopeList.{IsRelief}
use Rattle.store.proofs.Reliefs.{releveled-relief}
use Rattle.store.proofs.slopes.releveled.Goals as goal

pub new-requires : goal.new-requires
new-requires c = subst IsRelief (sym (c.from_vec.ensures ∙ c.in_ok-slopes.ensures)) (releveled-relief (get place_cmp c.args.points.now) c.as_slice.result.now c.as_slice.ensures.relief)
