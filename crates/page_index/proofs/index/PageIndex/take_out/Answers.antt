use Rattle.std.proofs.Common.{◌≤◌, ◌^◌, length, IsSome, sym, subst, ap, ◌∙◌, arith}
use Rattle.page_index.specs.Pairs.{IsInOrder, value_of}
use Rattle.page_index.specs.Parts.{held}
use Rattle.page_index.proofs.Order.{without_fits, without_in_order, kept_less}
use Rattle.page_index.proofs.Kids.{some_left}
use Rattle.page_index.proofs.index.PageIndex.take_out.Goals as goal
use Rattle.page_index.proofs.index.PageIndex.take_out.Goals.{in-Some+in_ok-remove-in-Some, in-None}

pub remove-requires-clause-more : goal.remove-requires-clause-more
remove-requires-clause-more g c =
    let top = ap held c.in-Some.is in
    let same = sym c.self.view_is ∙ top in
    let found = subst (λ xs. IsSome (value_of c.args.key xs)) same c.requires.there in
    some_left c.args.key c.in-Some.kid (subst IsInOrder top c.self.invariant.0) (omega (arith, c.if-count-eq1.false, c.len-count.ensures.len, ap length same, kept_less c.args.key c.in-Some.kid found))

pub invariant_of-self-2 : goal.invariant_of-self-2
invariant_of-self-2 g c = elim c.match-self-2.branch [
  | in-Some+in_ok-remove-in-Some w ↦
      let top = ap held w.in-Some.is in
      let now = ap (λ x. held x.top) w.self-inside-is ∙ w.in_ok-remove-in-Some.ensures.ok in
      let fits = without_fits (2 ^ 24) c.args.key w.in-Some.kid (subst (λ xs. length xs ≤ 2 ^ 24) top c.self.invariant.1) in
      (subst IsInOrder (sym now) (without_in_order c.args.key w.in-Some.kid (subst IsInOrder top c.self.invariant.0)), subst (λ xs. length xs ≤ 2 ^ 24) (sym now) fits)
  | in-None w ↦
      let now = ap (λ x. held x.top) w.self-inside-is in
      (subst IsInOrder (sym now) c.self.invariant.0, subst (λ xs. length xs ≤ 2 ^ 24) (sym now) c.self.invariant.1)
]
