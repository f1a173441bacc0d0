use Rattle.std.proofs.Common.{sym, ap, ◌∙◌, arith}
use Rattle.std.proofs.lemmas.Option.{slice_get_within}
use Rattle.mesh.specs.Laying.{layout}
use Rattle.mesh.specs.Net.{edges_of, slots_of, side, next_at}
use Rattle.mesh.proofs.NamedEdges.{same_in}
use Rattle.mesh.proofs.Turned.{not_led, redirected_led, turned_here, none_new, none_old}
use Rattle.mesh.proofs.turn.turn_edge.Goals as goal

pub returns-in_default-clause-led : goal.returns-in_default-clause-led
returns-in_default-clause-led g c = not_led (layout c.args.news.now c.args.slots.now c.args.was.now) (edges_of (slots_of c.args.pages.now))

pub returns-in_default-clause-turned : goal.returns-in_default-clause-turned
returns-in_default-clause-turned g c = none_new (layout c.args.news.now c.args.slots.now c.args.was.now) (edges_of (slots_of c.args.pages.now)) c.args.tail.now c.args.head.now c.in_default.ensures.none

pub returns-in_default-find_edge-clause-led : goal.returns-in_default-find_edge-clause-led
returns-in_default-find_edge-clause-led g c = not_led (layout c.args.news.now c.args.slots.now c.args.was.now) (edges_of (slots_of c.args.pages.now))

pub returns-in_default-find_edge-clause-turned : goal.returns-in_default-find_edge-clause-turned
returns-in_default-find_edge-clause-turned g c = none_old (layout c.args.news.now c.args.slots.now c.args.was.now) (edges_of (slots_of c.args.pages.now)) c.args.tail.now c.args.head.now c.in_default-find_edge.ensures.none

pub tri_at-t-requires : goal.tri_at-t-requires
tri_at-t-requires g c = let y = c.in-Some-find_edge.ensures.is in slice_get_within c.args.was.now c.in-Some-find_edge.y.index y.tri y.there

pub slot_at-slot-requires : goal.slot_at-slot-requires
slot_at-slot-requires g c = let x = c.in-Some.ensures.is in omega (arith, slice_get_within c.args.news.now c.in-Some.x.index x.tri x.there, c.requires.as_many)

pub returns-clause-led : goal.returns-clause-led
returns-clause-led g c =
    redirected_led (layout c.args.news.now c.args.slots.now c.args.was.now) c.seen_from-seen.result.beyond_ab c.slot_at-slot.result c.args.tail.now c.args.head.now c.in-Some.x.index (side c.in-Some.x.edge)
    (edges_of (slots_of c.args.pages.now)) (edges_of (slots_of c.redirect.new.pages)) c.in-Some.ensures.is c.slot_at-slot.ensures c.in_ok-redirect.ensures.turned

pub returns-clause-turned : goal.returns-clause-turned
returns-clause-turned g c =
    let y = c.in-Some-find_edge.ensures.is in
    let l = side c.in-Some-find_edge.y.edge in
    let t = same_in c.tri_at-t.result y.tri (sym c.tri_at-t.ensures ∙ y.there) in
    turned_here (layout c.args.news.now c.args.slots.now c.args.was.now) c.seen_from-seen.result.beyond_ab c.slot_at-slot.result c.args.tail.now c.args.head.now c.in-Some.x.index c.in-Some-find_edge.y.index (side c.in-Some.x.edge) l
    (edges_of (slots_of c.args.pages.now)) (edges_of (slots_of c.redirect.new.pages)) c.in-Some.ensures.is c.slot_at-slot.ensures y c.requires.once (c.seen_from-seen.ensures.beyond_ab ∙ ap (λ x. next_at x l) t) c.in_ok-redirect.ensures.turned
