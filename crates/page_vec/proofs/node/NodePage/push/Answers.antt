use Rattle.std.proofs.Common.{rules, ◌≡◌, ◌+◌, ◌-◌, ◌<◌, length, sym, ap, ◌∙◌, arith}
use Rattle.std.proofs.lemmas.List.{length_push}
use Rattle.page_vec.proofs.Kids.{kept, packed, longer, packed_longer}
use Rattle.page_vec.proofs.node.NodePage.push.Goals as goal

pub invariant_of-self : goal.invariant_of-self
invariant_of-self g c =
    let open_end = rw c.if-has_open_end.true at c.has_open_end.ensures in
    let last : c.len-count.result - 1 < length c.self.inside.kids.items = omega (arith, open_end.some, c.len-count.ensures, c.self.inside.kids.ok) in
    let same = kept c.self.invariant.0 c.args.self.now (c.len-count.result - 1) c.index_mut.result.now c.push_kid.new.kid c.self.view_is last (search rules) c.in_err-push_kid.ensures.err in
    let whole = packed c.self.invariant.0 (c.len-count.result - 1) c.index_mut.result.now c.push_kid.new.kid last (search rules) (ap length c.in_err-push_kid.ensures.err) in
    (whole, c.self.invariant.1 ∙ ap length (c.self.view_is ∙ sym same), c.self.invariant.2)

pub returns-in_err-push_kid-clause-err : goal.returns-in_err-push_kid-clause-err
returns-in_err-push_kid-clause-err g c =
    let open_end = rw c.if-has_open_end.true at c.has_open_end.ensures in
    let last : c.len-count.result - 1 < length c.self.inside.kids.items = omega (arith, open_end.some, c.len-count.ensures, c.self.inside.kids.ok) in
    let same = kept c.self.invariant.0 c.args.self.now (c.len-count.result - 1) c.index_mut.result.now c.push_kid.new.kid c.self.view_is last (search rules) c.in_err-push_kid.ensures.err in
    search (rules, same)

pub invariant_of-self-then-has_open_end : goal.invariant_of-self-then-has_open_end
invariant_of-self-then-has_open_end g c =
    let open_end = rw c.if-has_open_end.true at c.has_open_end.ensures in
    let last : c.len-count.result - 1 + 1 ≡ length c.self.inside.kids.items = omega (arith, open_end.some, c.len-count.ensures, c.self.inside.kids.ok) in
    let more = longer c.self.invariant.0 c.args.self.now (c.len-count.result - 1) c.index_mut.result.now c.push_kid.new.kid c.args.value c.self.view_is last (search rules) c.in_ok-push_kid.ensures.ok in
    let whole = packed_longer c.self.invariant.0 (c.len-count.result - 1) c.index_mut.result.now c.push_kid.new.kid c.args.value last (search rules) (search rules) c.in_ok-push_kid.ensures.ok in
    let long = ap length more ∙ length_push c.args.self.now c.args.value in
    (whole, omega (arith, long, c.self.invariant.1, ap length c.self.view_is), omega (arith, c.requires.fits, c.self.invariant.1, ap length c.self.view_is))

pub returns-in_ok-push_kid-clause-ok : goal.returns-in_ok-push_kid-clause-ok
returns-in_ok-push_kid-clause-ok g c =
    let open_end = rw c.if-has_open_end.true at c.has_open_end.ensures in
    let last : c.len-count.result - 1 + 1 ≡ length c.self.inside.kids.items = omega (arith, open_end.some, c.len-count.ensures, c.self.inside.kids.ok) in
    longer c.self.invariant.0 c.args.self.now (c.len-count.result - 1) c.index_mut.result.now c.push_kid.new.kid c.args.value c.self.view_is last (search rules) c.in_ok-push_kid.ensures.ok
