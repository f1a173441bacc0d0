use Rattle.std.proofs.Common.{◌≡◌, ◌<◌, ◌∙◌, [], ◌∷◌, ◌++◌, Some, None, length, set, map, sym, ap, subst, arith}
use Rattle.std.proofs.lemmas.List.{map-set, length-map, map-append}
use Rattle.std.proofs.lemmas.Option.{slice_get_within}
use Rattle.tri_pages.specs.declared.entry.Entry.TheVariants.{Free, Taken}
use Rattle.tri_pages.specs.Slots.{taken, state_at}
use Rattle.tri_pages.specs.FreeChain.{state, HasChain, end}
use Rattle.tri_pages.proofs.Chains.{took, head_there, all_taken, grew, put_end, put_in, state_free, state_past, none_left, state_put_end, state_put_in}
use Rattle.tri_pages.proofs.pages.TriPages.take_free.Goals as goal

pub push-requires-clause-fits : goal.push-requires-clause-fits
push-requires-clause-fits g c =
    let short : length c.self.inside.entries < end = omega (arith, c.len-count.ensures.len, c.len-count.ensures.bound) in
    let all = all_taken c.self.inside.entries c.self.inside.head c.self.invariant c.if-slot.true short in
    omega (arith, all, ap (λ l. length (taken l)) c.self.view_is, c.requires)

pub invariant_of-self-then-slot : goal.invariant_of-self-then-slot
invariant_of-self-then-slot g c =
    let short : length c.self.inside.entries < end = omega (arith, c.len-count.ensures.len, c.len-count.ensures.bound) in
    subst (λ es. HasChain es c.self.inside.head) (sym c.in_ok-push.ensures.ok) (grew c.self.inside.entries c.self.inside.head c.self.invariant c.if-slot.true short)

pub set-requires-clause-there : goal.set-requires-clause-there
set-requires-clause-there g c =
    let e = head_there c.self.inside.entries c.self.inside.head c.self.invariant c.if-slot.false in
    slice_get_within c.self.inside.entries c.self.inside.head (Free e.0) e.1

pub invariant_of-self-else-slot : goal.invariant_of-self-else-slot
invariant_of-self-else-slot g c =
    let e = head_there c.self.inside.entries c.self.inside.head c.self.invariant c.if-slot.false in
    let k = took c.self.inside.entries c.self.inside.head e.0 e.1 c.self.invariant in
    subst (λ es. HasChain es c.next_free-next.result) (sym c.in_ok-set.ensures.ok)
    (subst (λ n. HasChain (set c.self.inside.entries c.self.inside.head Taken) n) (sym (c.next_free-next.ensures e.0 e.1)) k)

pub returns-in_ok-push-clause-within : goal.returns-in_ok-push-clause-within
returns-in_ok-push-clause-within g c =
    let es = c.self.inside.entries in
    let short : length es < end = omega (arith, c.len-count.ensures.len, c.len-count.ensures.bound) in
    let all = all_taken es c.self.inside.head c.self.invariant c.if-slot.true short in
    omega (arith, all, ap (λ l. length (taken l)) c.self.view_is, c.requires, c.len-count.ensures.len)

pub returns-in_ok-push-clause-was_free : goal.returns-in_ok-push-clause-was_free
returns-in_ok-push-clause-was_free g c =
    let es = c.self.inside.entries in
    let long : c.len-count.result ≡ length c.args.self.now = c.len-count.ensures.len ∙ sym (length-map es state) ∙ ap length c.self.view_is in
    state_past c.args.self.now c.len-count.result (omega (arith, long))

pub returns-in_ok-push-clause-ok : goal.returns-in_ok-push-clause-ok
returns-in_ok-push-clause-ok g c =
    let es = c.self.inside.entries in
    let long : c.len-count.result ≡ length c.args.self.now = c.len-count.ensures.len ∙ sym (length-map es state) ∙ ap length c.self.view_is in
    ap (map state) c.in_ok-push.ensures.ok ∙ map-append state es (Taken ∷ []) ∙ ap (λ l. l ++ Some None ∷ []) c.self.view_is ∙ sym (put_end c.args.self.now c.len-count.result (Some None) long)

pub returns-in_ok-push-clause-taken : goal.returns-in_ok-push-clause-taken
returns-in_ok-push-clause-taken g c =
    let es = c.self.inside.entries in
    let long : c.len-count.result ≡ length c.args.self.now = c.len-count.ensures.len ∙ sym (length-map es state) ∙ ap length c.self.view_is in
    ap (λ l. state_at l c.len-count.result) (returns-in_ok-push-clause-ok g c) ∙ state_put_end c.args.self.now c.len-count.result (Some None) long

pub returns-in_ok-push-clause-reuse : goal.returns-in_ok-push-clause-reuse
returns-in_ok-push-clause-reuse g c = λ k there is_free.
    let es = c.self.inside.entries in
    let short : length es < end = omega (arith, c.len-count.ensures.len, c.len-count.ensures.bound) in
    let long : length c.args.self.now ≡ length es = ap length (sym c.self.view_is) ∙ length-map es state in
    absurd (none_left es c.self.inside.head c.self.invariant c.if-slot.true short k (omega (arith, there, long)) (ap (λ l. state_at l k) c.self.view_is ∙ is_free))

pub returns-in_ok-set-clause-within : goal.returns-in_ok-set-clause-within
returns-in_ok-set-clause-within g c =
    let es = c.self.inside.entries in
    let e = head_there es c.self.inside.head c.self.invariant c.if-slot.false in
    let far = slice_get_within es c.self.inside.head (Free e.0) e.1 in
    omega (arith, far, c.len-count.ensures.len, c.len-count.ensures.bound)

pub returns-in_ok-set-clause-was_free : goal.returns-in_ok-set-clause-was_free
returns-in_ok-set-clause-was_free g c =
    let es = c.self.inside.entries in
    let e = head_there es c.self.inside.head c.self.invariant c.if-slot.false in
    ap (λ l. state_at l c.self.inside.head) (sym c.self.view_is) ∙ state_free es c.self.inside.head e.0 e.1

pub returns-in_ok-set-clause-ok : goal.returns-in_ok-set-clause-ok
returns-in_ok-set-clause-ok g c =
    let es = c.self.inside.entries in
    let e = head_there es c.self.inside.head c.self.invariant c.if-slot.false in
    let far = slice_get_within es c.self.inside.head (Free e.0) e.1 in
    ap (map state) c.in_ok-set.ensures.ok ∙ map-set state es c.self.inside.head Taken ∙ ap (λ l. set l c.self.inside.head (Some None)) c.self.view_is
    ∙ sym (put_in c.args.self.now c.self.inside.head (Some None) (omega (arith, far, length-map es state, ap length c.self.view_is)))

pub returns-in_ok-set-clause-taken : goal.returns-in_ok-set-clause-taken
returns-in_ok-set-clause-taken g c =
    let es = c.self.inside.entries in
    let e = head_there es c.self.inside.head c.self.invariant c.if-slot.false in
    let far = slice_get_within es c.self.inside.head (Free e.0) e.1 in
    ap (λ l. state_at l c.self.inside.head) (returns-in_ok-set-clause-ok g c) ∙ state_put_in c.args.self.now c.self.inside.head (Some None) (omega (arith, far, length-map es state, ap length c.self.view_is))

pub returns-in_ok-set-clause-reuse : goal.returns-in_ok-set-clause-reuse
returns-in_ok-set-clause-reuse g c = λ k there is_free.
    let es = c.self.inside.entries in
    let e = head_there es c.self.inside.head c.self.invariant c.if-slot.false in
    let far = slice_get_within es c.self.inside.head (Free e.0) e.1 in
    omega (arith, far, length-map es state, ap length c.self.view_is)
