use Rattle.std.proofs.Common.{sym, ◌∙◌}
use Rattle.store.proofs.Removals.{level-there}
use Rattle.store.proofs.state.State.level_set.Goals as goal

pub with_level-requires : goal.with_level-requires
with_level-requires c = level-there c.get.result.now.surface c.self.inside.limits c.args.place c.args.level (sym (c.level_refusal.ensures c.self.inside.limits c.args.level) ∙ c.in_default.ensures.own)
