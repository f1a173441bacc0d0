use Rattle.std.proofs.Common.{refl, sym, ap, subst, ◌∙◌}
use Rattle.std.specs.BTreeMap.{is_at}
use Rattle.std.specs.Map.{lookup}
use Rattle.std.specs.Ordering.{nat_cmp}
use Rattle.store.specs.Members.{holding_at}
use Rattle.store.specs.Runs.{HoldsPrefix}
use Rattle.store.proofs.Runs.{first-held, first-holding}
use Rattle.store.proofs.run.Run.take.Goals as goal

pub returns-in_ok-share-in-None : goal.returns-in_ok-share-in-None
returns-in_ok-share-in-None c =
    let empty = c.in_ok-share-in-None.ensures.journal ∙ c.requires.first in
    record {
      run = record {
        first = c.requires.first;
        held = λ s. subst (λ es. HoldsPrefix c.args.self.now.store.journal (lookup (is_at (nat_cmp s)) es)) (sym c.in-None.ensures.unchanged) (c.requires.held s);
      };
      store = refl;
      holding = first-holding c.args.self.now.store.journal _ _ empty c.start.ensures ∙ ap holding_at c.in-None.ensures.value;
      held = first-held c.args.self.now.store.journal _ _ empty c.start.ensures;
      others = λ t other. ap (λ es. lookup (is_at (nat_cmp t)) es) c.in-None.ensures.unchanged;
    }
