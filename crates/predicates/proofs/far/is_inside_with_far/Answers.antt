use Rattle.std.proofs.Common.{◌≤◌, ◌<◌, sym, ◌∙◌, arith}
use Rattle.predicates.specs.Far.{rank}
use Rattle.predicates.proofs.FarInside.{first-decides, last-decides, highest-far, inside-turned, left-turned}
use Rattle.predicates.proofs.far.is_inside_with_far.Goals as goal

pub returns-then-at_d-at_c : goal.returns-then-at_d-at_c
returns-then-at_d-at_c c =
    let k = c.requires in
    let le_a : rank c.args.d ≤ rank c.args.a = omega (arith, c.if-at_d-at_a.true, c.rank-at_d.ensures, c.rank-at_a.ensures) in
    let le_b : rank c.args.d ≤ rank c.args.b = omega (arith, c.if-at_d-at_b.true, c.rank-at_d.ensures, c.rank-at_b.ensures) in
    let le_c : rank c.args.d ≤ rank c.args.c = omega (arith, c.if-at_d-at_c.true, c.rank-at_d.ensures, c.rank-at_c.ensures) in
    let far = highest-far c.args.a c.args.b c.args.c c.args.d k.a k.b k.c k.d k.far le_a le_b le_c in
    sym (last-decides c.args.a c.args.b c.args.c c.args.d k.a k.b k.c k.d k.turned far le_a le_b le_c)

pub returns-then-at_a-at_c : goal.returns-then-at_a-at_c
returns-then-at_a-at_c c =
    let k = c.requires in
    let le_b : rank c.args.a ≤ rank c.args.b = omega (arith, c.if-at_a-at_b.true, c.rank-at_a.ensures, c.rank-at_b.ensures) in
    let le_c : rank c.args.a ≤ rank c.args.c = omega (arith, c.if-at_a-at_c.true, c.rank-at_a.ensures, c.rank-at_c.ensures) in
    let over : rank c.args.a < rank c.args.d = grind (arith, c.else-at_d-at_a.either, le_b, le_c, c.rank-at_a.ensures, c.rank-at_b.ensures, c.rank-at_c.ensures, c.rank-at_d.ensures) in
    c.is_inside_beside.ensures ∙ sym (first-decides c.args.a c.args.b c.args.c c.args.d k.a k.b k.c k.d k.turned over le_b le_c)

pub returns-then-at_b-at_c : goal.returns-then-at_b-at_c
returns-then-at_b-at_c c =
    let k = c.requires in
    let le_c : rank c.args.b ≤ rank c.args.c = omega (arith, c.if-at_b-at_c.true, c.rank-at_b.ensures, c.rank-at_c.ensures) in
    let le_a : rank c.args.b ≤ rank c.args.a = grind (arith, c.else-at_a-at_b.either, le_c, c.rank-at_a.ensures, c.rank-at_b.ensures, c.rank-at_c.ensures) in
    let over : rank c.args.b < rank c.args.d = grind (arith, c.else-at_d-at_a.either, le_c, le_a, c.rank-at_a.ensures, c.rank-at_b.ensures, c.rank-at_c.ensures, c.rank-at_d.ensures) in
    c.is_inside_beside-then-at_b-at_c.ensures
    ∙ sym (inside-turned c.args.a c.args.b c.args.c c.args.d ∙ first-decides c.args.b c.args.c c.args.a c.args.d k.b k.c k.a k.d (left-turned c.args.a c.args.b c.args.c k.turned) over le_c le_a)

pub returns-else-at_b-at_c : goal.returns-else-at_b-at_c
returns-else-at_b-at_c c =
    let k = c.requires in
    let lt : rank c.args.c < rank c.args.b = omega (arith, c.if-at_b-at_c.false, c.rank-at_b.ensures, c.rank-at_c.ensures) in
    let le_b : rank c.args.c ≤ rank c.args.b = omega (arith, lt) in
    let le_a : rank c.args.c ≤ rank c.args.a = grind (arith, c.else-at_a-at_b.either, lt, c.rank-at_a.ensures, c.rank-at_b.ensures, c.rank-at_c.ensures) in
    let over : rank c.args.c < rank c.args.d = grind (arith, c.else-at_d-at_a.either, le_b, le_a, c.rank-at_a.ensures, c.rank-at_b.ensures, c.rank-at_c.ensures, c.rank-at_d.ensures) in
    c.is_inside_beside-else-at_b-at_c.ensures
    ∙ sym (inside-turned c.args.a c.args.b c.args.c c.args.d ∙ inside-turned c.args.b c.args.c c.args.a c.args.d
    ∙ first-decides c.args.c c.args.a c.args.b c.args.d k.c k.a k.b k.d (left-turned c.args.b c.args.c c.args.a (left-turned c.args.a c.args.b c.args.c k.turned)) over le_a le_b)
