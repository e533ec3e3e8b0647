use Rattle.std.proofs.Common.{◌≡◌, drop}
use Rattle.zp_counts.specs.Packing.{number_of}
use Rattle.zp_counts.proofs.packed.number_of.Given as goal

-- the number has the digits from this place on
abbrev pub invariant-loop-place : goal.invariant-loop-place
invariant-loop-place l = record {
  number : l.number ≡ number_of l.base (drop l.place l.digits);
}
