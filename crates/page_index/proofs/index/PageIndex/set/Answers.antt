use Rattle.std.proofs.Common.{◌<◌, ◌≤◌, ◌^◌, ◌⊎◌, length, IsSome, sym, subst, ap, ◌∙◌}
use Rattle.page_index.specs.Pairs.{IsInOrder, value_of}
use Rattle.page_index.specs.Parts.{held}
use Rattle.page_index.proofs.Order.{put_fits, put_in_order}
use Rattle.page_index.proofs.index.PageIndex.set.Goals as goal

pub set-requires : goal.set-requires
set-requires g c =
    let top = ap held c.in-Some.is in
    let room = subst (λ xs. (length xs < 2 ^ 24) ⊎ IsSome (value_of c.args.key xs)) (sym c.self.view_is ∙ top) c.requires.room in
    record { clones = c.requires.clones; fits = put_fits (2 ^ 24) c.args.key c.args.value c.in-Some.kid room (subst (λ xs. length xs ≤ 2 ^ 24) top c.self.invariant.1) }

pub invariant_of-self-in-Some : goal.invariant_of-self-in-Some
invariant_of-self-in-Some g c =
    let top = ap held c.in-Some.is in
    let room = subst (λ xs. (length xs < 2 ^ 24) ⊎ IsSome (value_of c.args.key xs)) (sym c.self.view_is ∙ top) c.requires.room in (
      subst IsInOrder (sym c.in_ok-set-in-Some.ensures.ok) (put_in_order c.args.key c.args.value c.in-Some.kid (subst IsInOrder top c.self.invariant.0)),
      subst (λ xs. length xs ≤ 2 ^ 24) (sym c.in_ok-set-in-Some.ensures.ok) (put_fits (2 ^ 24) c.args.key c.args.value c.in-Some.kid room (subst (λ xs. length xs ≤ 2 ^ 24) top c.self.invariant.1)),
    )
