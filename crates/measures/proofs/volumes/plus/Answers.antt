use Rattle.std.proofs.Common.{◌+ℤ◌, rules}
use mir.Syntax.{w128}
use Rattle.predicates.proofs.Sizes.{read_op}
use Rattle.measures.proofs.volumes.plus.Goals as goal

pub returns : goal.returns
returns c = λ i. record {
  cut = read_op ◌+ℤ◌ w128 c.args.sum.now.cut c.args.part.now.cut (search rules) (search rules) (search rules) i;
  fill = read_op ◌+ℤ◌ w128 c.args.sum.now.fill c.args.part.now.fill (search rules) (search rules) (search rules) i;
  net = read_op ◌+ℤ◌ w128 c.args.sum.now.net c.args.part.now.net (search rules) (search rules) (search rules) i;
}
