use Rattle.std.proofs.Common.{◌∙◌, None, set, map, sym, ap, subst}
use Rattle.std.specs.Option.{IsSome}
use Rattle.std.proofs.lemmas.List.{map-set}
use Rattle.tri_pages.specs.declared.entry.Entry.TheVariants.{Free}
use Rattle.tri_pages.specs.Slots.{state_at}
use Rattle.tri_pages.specs.FreeChain.{state, HasChain}
use Rattle.tri_pages.proofs.Chains.{gave, not_free_at}
use Rattle.tri_pages.proofs.pages.TriPages.give_back.Goals as goal

pub invariant_of-self-2 : goal.invariant_of-self-2
invariant_of-self-2 g c =
    let there = not_free_at c.self.inside.entries c.args.slot (subst (λ l. IsSome (state_at l c.args.slot)) (sym c.self.view_is) c.requires) in
    subst (λ es. HasChain es c.args.slot) (sym c.in_ok-set.ensures.ok) (gave c.self.inside.entries c.self.inside.head c.args.slot there.0 c.self.invariant there.1)

pub returns-clause-ok : goal.returns-clause-ok
returns-clause-ok g c =
    ap (map state) c.in_ok-set.ensures.ok ∙ map-set state c.self.inside.entries c.args.slot (Free c.self.inside.head) ∙ ap (λ l. set l c.args.slot None) c.self.view_is
