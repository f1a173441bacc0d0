use Rattle.std.proofs.Common.{◌<◌, sym, subst}
use Rattle.ground_model.specs.Place.{Coords}
use Rattle.mesh.specs.Sheets.{net_in}
use Rattle.point_edit.proofs.Closed.{one_place}
use Rattle.line_edit.specs.Ways.{IsAhead, IsNextOn}
use Rattle.line_edit.specs.declared.ahead.Ahead.{Ahead}
use Rattle.line_edit.proofs.Firsts.{IsTold, told_start, told_on, told_end}
use Rattle.line_edit.proofs.Remains.{remains, remains_less}
use Rattle.line_edit.proofs.ahead.next_point.Goals as goal

pub loop-ahead-init : goal.loop-ahead-init
loop-ahead-init c = (
  c.leave-ahead.ensures.ahead c.args.p c.requires.on c.requires.past,
  told_start c.args.mesh.now.slots c.requires.sheet c.args.p c.args.q c.args.v c.leave-ahead.result (λ a b g. c.leave-ahead.ensures.passed c.args.p a b c.requires.on c.requires.past g),
)

pub go_over-ahead-requires-clause-over : goal.go_over-ahead-requires-clause-over
go_over-ahead-requires-clause-over c = (c.args.v, (c.requires.past, subst (λ (x : Ahead). IsAhead c.args.mesh.now.slots c.args.p c.args.q c.args.v x) c.in-Crosses.is c.loop-ahead.invariant.0))

pub loop-ahead-smaller : goal.loop-ahead-smaller
loop-ahead-smaller c =
    let slots = c.args.mesh.now.slots in
    let at = c.in-Crosses.edge in
    let o = subst (λ (x : Ahead). IsAhead c.args.mesh.now.slots c.args.p c.args.q c.args.v x) c.in-Crosses.is c.loop-ahead.invariant.0 in
    subst (λ (x : Ahead). remains slots c.args.p c.args.q c.go_over-ahead.result < remains slots c.args.p c.args.q x) (sym c.in-Crosses.is)
    (remains_less slots c.args.p c.args.q c.args.v at.slot at.edge c.go_over-ahead.result o (c.go_over-ahead.ensures.ahead c.args.v o) c.go_over-ahead.ensures.later)

pub loop-ahead-preserved : goal.loop-ahead-preserved
loop-ahead-preserved c =
    let slots = c.args.mesh.now.slots in
    let p = c.args.p in
    let q = c.args.q in
    let v = c.args.v in
    let at = c.in-Crosses.edge in
    let o = subst (λ (x : Ahead). IsAhead c.args.mesh.now.slots c.args.p c.args.q c.args.v x) c.in-Crosses.is c.loop-ahead.invariant.0 in
    let told = subst (λ (x : Ahead). IsTold c.args.mesh.now.slots c.args.p c.args.q c.args.v x c.loop-ahead.met) c.in-Crosses.is c.loop-ahead.invariant.1 in (
      c.go_over-ahead.ensures.ahead v o,
      told_on slots c.requires.sheet p q v at o c.requires.goal c.requires.past c.loop-ahead.met told c.as_piece.result c.first_of-met.result c.as_piece.ensures c.first_of-met.ensures.kept c.first_of-met.ensures.new c.go_over-ahead.result
          (λ a b g before. c.go_over-ahead.ensures.passed v a b o g before),
    )

pub as_piece-requires-clause-live : goal.as_piece-requires-clause-live
as_piece-requires-clause-live c = (subst (λ (x : Ahead). IsAhead c.args.mesh.now.slots c.args.p c.args.q c.args.v x) c.in-Crosses.is c.loop-ahead.invariant.0).live

pub as_piece-requires-clause-edge : goal.as_piece-requires-clause-edge
as_piece-requires-clause-edge c = (subst (λ (x : Ahead). IsAhead c.args.mesh.now.slots c.args.p c.args.q c.args.v x) c.in-Crosses.is c.loop-ahead.invariant.0).edge

pub returns-clause-met : goal.returns-clause-met
returns-clause-met c =
    let at = c.in-Reaches.at in
    told_end c.args.mesh.now.slots c.requires.sheet c.args.p c.args.q c.args.v c.start_of-place.result at c.loop-ahead.met c.start_of-place.ensures
    (subst (λ (x : Ahead). IsTold c.args.mesh.now.slots c.args.p c.args.q c.args.v x c.loop-ahead.met) c.in-Reaches.is c.loop-ahead.invariant.1)

pub start_of-place-requires : goal.start_of-place-requires
start_of-place-requires c =
    let o = subst (λ (x : Ahead). IsAhead c.args.mesh.now.slots c.args.p c.args.q c.args.v x) c.in-Reaches.is c.loop-ahead.invariant.0 in
    record { corner = (o.0, o.1) }

pub returns-clause-next : goal.returns-clause-next
returns-clause-next c =
    let slots = c.args.mesh.now.slots in
    let at = c.in-Reaches.at in
    let o = subst (λ (x : Ahead). IsAhead c.args.mesh.now.slots c.args.p c.args.q c.args.v x) c.in-Reaches.is c.loop-ahead.invariant.0 in
    subst (λ (x : Coords). IsNextOn (net_in slots) c.args.p c.args.q c.args.v x) (one_place slots at.slot at.edge o.0 c.start_of-place.result o.1 c.start_of-place.ensures) o.2
