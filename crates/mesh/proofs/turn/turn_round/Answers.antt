use Rattle.mesh.specs.Laying.{layout}
use Rattle.mesh.specs.Net.{edges_of, slots_of, first, second, third, corner_at}
use Rattle.mesh.proofs.Turned.{led_then, still_turned, turned_as}
use Rattle.mesh.proofs.TurnedSlots.{by_side}
use Rattle.mesh.proofs.turn.turn_round.Goals as goal

pub returns-clause-led : goal.returns-clause-led
returns-clause-led g c =
    let lay = layout c.args.news.now c.args.slots.now c.args.was.now in
    let e0 = edges_of (slots_of c.args.pages.now) in
    let e1 = edges_of (slots_of c.turn_edge.new.pages) in
    let e2 = edges_of (slots_of c.turn_edge-2.new.pages) in
    let e3 = edges_of (slots_of c.turn_edge-3.new.pages) in
    led_then lay e0 e2 e3 (led_then lay e0 e1 e2 c.in_ok-turn_edge.ensures.led c.in_ok-turn_edge-2.ensures.led) c.in_ok-turn_edge-3.ensures.led

pub returns-clause-turned : goal.returns-clause-turned
returns-clause-turned g c =
    let lay = layout c.args.news.now c.args.slots.now c.args.was.now in
    let e1 = edges_of (slots_of c.turn_edge.new.pages) in
    let e2 = edges_of (slots_of c.turn_edge-2.new.pages) in
    let e3 = edges_of (slots_of c.turn_edge-3.new.pages) in
    let t = c.args.t.now in
    let s = c.seen_from-seen.result in
    let is = c.seen_from-seen.ensures in
    let later = c.in_ok-turn_edge-3.ensures.led in
    let both = led_then lay e1 e2 e3 c.in_ok-turn_edge-2.ensures.led later in
    by_side _
    (turned_as lay e3 s.a s.b (corner_at t first) (corner_at t second) is.a is.b (still_turned lay e1 e3 s.a s.b both c.in_ok-turn_edge.ensures.turned))
    (turned_as lay e3 s.b s.c (corner_at t second) (corner_at t third) is.b is.c (still_turned lay e2 e3 s.b s.c later c.in_ok-turn_edge-2.ensures.turned))
    (turned_as lay e3 s.c s.a (corner_at t third) (corner_at t first) is.c is.a c.in_ok-turn_edge-3.ensures.turned)
