use Rattle.std.proofs.Common.{ℕ, ◌<◌, ◌≤◌, ◌-◌, length}
use Rattle.zp_text.specs.Gathering.{IsLineStart}
use Rattle.zp_text.proofs.gathering.next_line.Given as goal

-- no line begins between the place and the end so far
abbrev pub invariant-bytes : goal.invariant-bytes
invariant-bytes l = record {
  behind : l.at < l.end;
  within : l.end ≤ length l.text;
  next : (k : ℕ) → l.at < k → k < l.end → IsLineStart l.text k → ⊥;
}

abbrev pub decreases-bytes : goal.decreases-bytes
decreases-bytes l = length l.text - l.end
