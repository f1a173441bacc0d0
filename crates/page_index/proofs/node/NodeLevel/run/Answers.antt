use Rattle.std.proofs.Common.{◌≡◌, ◌+◌, ◌<◌, length, sym, subst, ◌∙◌, arith}
use Rattle.page_index.specs.Pairs.{from_on}
use Rattle.page_index.specs.Parts.{IsFront}
use Rattle.page_index.proofs.Kids.{there, run_here, run_end, run_next, some_of, none_of}
use Rattle.page_index.proofs.node.NodeLevel.run.Goals as goal

pub returns-then-not-is_empty : goal.returns-then-not-is_empty
returns-then-not-is_empty g c =
    let front = subst (λ r. IsFront c.run-found.result.now (from_on c.args.from r)) c.page.ensures c.run-found.ensures in
    subst (λ r. IsFront c.run-found.result.now (from_on c.args.from r)) c.self.view_is
    (run_here c.args.from c.self.inside.kids.items c.place_of-k.result c.self.invariant.0 c.place_of-k.ensures c.index.result.now c.index.ensures c.run-found.result.now front (some_of (length c.run-found.result.now) (sym c.if-not-is_empty.true ∙ c.is_empty-2.ensures)))

pub returns-then-k-len : goal.returns-then-k-len
returns-then-k-len g c =
    let front = subst (λ r. IsFront c.run-found.result.now (from_on c.args.from r)) c.page.ensures c.run-found.ensures in
    let last : length c.self.inside.kids.items ≡ c.place_of-k.result + 1 = omega (arith, c.if-k-len.true, c.len.ensures, c.self.inside.kids.ok) in
    subst (λ r. IsFront c.run-found.result.now (from_on c.args.from r)) c.self.view_is
    (run_end c.args.from c.self.inside.kids.items c.place_of-k.result c.self.invariant.0 c.place_of-k.ensures c.index.result.now c.index.ensures c.run-found.result.now front (none_of (length c.run-found.result.now) (sym c.if-not-is_empty.false ∙ c.is_empty-2.ensures)) last)

pub returns : goal.returns
returns g c =
    let front = subst (λ r. IsFront c.run-found.result.now (from_on c.args.from r)) c.page.ensures c.run-found.ensures in
    let next = subst (λ r. IsFront c.run.result.now (from_on c.args.from r)) c.page-2.ensures c.run.ensures in
    let in_range = there c.args.from c.self.inside.kids.items c.place_of-k.result c.self.invariant.0 c.place_of-k.ensures in
    let more : c.place_of-k.result + 1 < length c.self.inside.kids.items = omega (arith, in_range, c.if-k-len.false, c.len.ensures, c.self.inside.kids.ok) in
    subst (λ r. IsFront c.run.result.now (from_on c.args.from r)) c.self.view_is
    (run_next c.args.from c.self.inside.kids.items c.place_of-k.result c.self.invariant.0 c.place_of-k.ensures c.index.result.now c.index.ensures c.run-found.result.now front (none_of (length c.run-found.result.now) (sym c.if-not-is_empty.false ∙ c.is_empty-2.ensures)) more c.index-2.result.now c.index-2.ensures c.run.result.now next)
