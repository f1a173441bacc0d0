use Rattle.std.proofs.Common.{rules}
use Rattle.mesh.specs.Net.{first, second, third}
use Rattle.locate.proofs.Parts.{zero_by, nonzero_by, corner_by, on_edge_by, inside_by}
use Rattle.locate.proofs.part.part_within.Goals as goal

pub returns-then-is_zero-2 : goal.returns-then-is_zero-2
returns-then-is_zero-2 c = (
  search rules,
  corner_by c.args.t.now c.args.place c.args.sides c.requires.signed first c.requires.turned c.e-easting.ensures.place
      (zero_by c.is_zero.result c.args.sides.ab c.is_zero.ensures c.if-is_zero.true)
      (zero_by c.is_zero-then-is_zero.result c.args.sides.ca c.is_zero-then-is_zero.ensures c.if-is_zero-2.true),
)

pub returns-then-is_zero-3 : goal.returns-then-is_zero-3
returns-then-is_zero-3 c = (
  search rules,
  corner_by c.args.t.now c.args.place c.args.sides c.requires.signed second c.requires.turned c.e-easting.ensures.place
      (zero_by c.is_zero-then-is_zero-2.result c.args.sides.bc c.is_zero-then-is_zero-2.ensures c.if-is_zero-3.true)
      (zero_by c.is_zero.result c.args.sides.ab c.is_zero.ensures c.if-is_zero.true),
)

pub returns-then-is_zero : goal.returns-then-is_zero
returns-then-is_zero c = (
  search rules,
  on_edge_by c.args.t.now c.args.place c.args.sides c.requires.signed first c.requires.within
      (zero_by c.is_zero.result c.args.sides.ab c.is_zero.ensures c.if-is_zero.true)
      (nonzero_by c.is_zero-then-is_zero-2.result c.args.sides.bc c.is_zero-then-is_zero-2.ensures c.if-is_zero-3.false)
      (nonzero_by c.is_zero-then-is_zero.result c.args.sides.ca c.is_zero-then-is_zero.ensures c.if-is_zero-2.false),
)

pub returns-then-is_zero-5 : goal.returns-then-is_zero-5
returns-then-is_zero-5 c = (
  search rules,
  corner_by c.args.t.now c.args.place c.args.sides c.requires.signed third c.requires.turned c.e-easting.ensures.place
      (zero_by c.is_zero-then-is_zero-4.result c.args.sides.ca c.is_zero-then-is_zero-4.ensures c.if-is_zero-5.true)
      (zero_by c.is_zero-2.result c.args.sides.bc c.is_zero-2.ensures c.if-is_zero-4.true),
)

pub returns-then-is_zero-4 : goal.returns-then-is_zero-4
returns-then-is_zero-4 c = (
  search rules,
  on_edge_by c.args.t.now c.args.place c.args.sides c.requires.signed second c.requires.within
      (zero_by c.is_zero-2.result c.args.sides.bc c.is_zero-2.ensures c.if-is_zero-4.true)
      (nonzero_by c.is_zero-then-is_zero-4.result c.args.sides.ca c.is_zero-then-is_zero-4.ensures c.if-is_zero-5.false)
      (nonzero_by c.is_zero.result c.args.sides.ab c.is_zero.ensures c.if-is_zero.false),
)

pub returns-then-is_zero-6 : goal.returns-then-is_zero-6
returns-then-is_zero-6 c = (
  search rules,
  on_edge_by c.args.t.now c.args.place c.args.sides c.requires.signed third c.requires.within
      (zero_by c.is_zero-3.result c.args.sides.ca c.is_zero-3.ensures c.if-is_zero-6.true)
      (nonzero_by c.is_zero.result c.args.sides.ab c.is_zero.ensures c.if-is_zero.false)
      (nonzero_by c.is_zero-2.result c.args.sides.bc c.is_zero-2.ensures c.if-is_zero-4.false),
)

pub returns : goal.returns
returns c =
    inside_by c.args.t.now c.args.place c.args.sides c.requires.signed c.requires.within
    (nonzero_by c.is_zero.result c.args.sides.ab c.is_zero.ensures c.if-is_zero.false)
    (nonzero_by c.is_zero-2.result c.args.sides.bc c.is_zero-2.ensures c.if-is_zero-4.false)
    (nonzero_by c.is_zero-3.result c.args.sides.ca c.is_zero-3.ensures c.if-is_zero-6.false)
