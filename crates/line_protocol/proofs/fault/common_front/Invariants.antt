use Rattle.std.proofs.Common.{◌≡◌, ◌≤◌, ◌+◌, ◌-◌, length, drop, nat_eq}
use Rattle.std.specs.List.{common_prefix_len}
use Rattle.line_protocol.proofs.fault.common_front.Given as goal

abbrev pub invariant-loop-front : goal.invariant-loop-front
invariant-loop-front l = record {
  in_phrase : l.front ≤ length l.phrase;
  in_text : l.front ≤ length l.text;
  so_far : common_prefix_len nat_eq l.phrase l.text ≡ l.front + common_prefix_len nat_eq (drop l.front l.phrase) (drop l.front l.text);
}

abbrev pub decreases-loop-front : goal.decreases-loop-front
decreases-loop-front l = length l.phrase - l.front
