use Rattle.std.proofs.Common.{◌≡◌, ◌≤◌, drop, length}
use Rattle.zp_trace.specs.LabelKeys.{label_key}
use Rattle.zp_trace.proofs.keys.label_key.Given as goal

-- the number of the bytes that are read, the last ones
abbrev pub invariant-loop-left : goal.invariant-loop-left
invariant-loop-left l = record {
  read : l.key ≡ label_key (drop l.left l.bytes);
  left : l.left ≤ length l.bytes;
}

abbrev pub decreases-loop-left : goal.decreases-loop-left
decreases-loop-left l = l.left
