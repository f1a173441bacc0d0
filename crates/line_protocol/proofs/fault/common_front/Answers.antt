use Rattle.std.proofs.Common.{◌≡◌, drop, [], ap, arith, ◌∙◌, nat_eq}
use Rattle.std.specs.List.{common_prefix_len}
use Rattle.std.proofs.lemmas.List.{drop_all}
use Rattle.line_protocol.proofs.Faults.{none_in_common}
use Rattle.line_protocol.proofs.fault.common_front.Goals as goal

pub returns-else-front-text-clause-value : goal.returns-else-front-text-clause-value
returns-else-front-text-clause-value c =
    let past : drop c.loop-front.front c.args.text.now ≡ [] = drop_all c.loop-front.front c.args.text.now (omega arith) in
    let none : common_prefix_len nat_eq (drop c.loop-front.front c.args.phrase.now) (drop c.loop-front.front c.args.text.now) ≡ 0 = ap (common_prefix_len nat_eq (drop c.loop-front.front c.args.phrase.now)) past ∙ none_in_common (drop c.loop-front.front c.args.phrase.now) in
    omega (arith, none, c.loop-front.invariant.so_far)
