use Rattle.std.proofs.Common.{◌≡◌, ◌≤◌, ◌-◌, ◌++◌, length, take}
use Rattle.zp_counts.specs.Packing.{digits_of}
use Rattle.zp_counts.proofs.packed.digits_of.Given as goal

-- the digits so far, and those of the rest
abbrev pub invariant-loop-place : goal.invariant-loop-place
invariant-loop-place g l = record {
  within : l.place ≤ g.row.N;
  long : length l.digits ≡ g.row.N;
  all : take l.place l.digits ++ digits_of l.base (g.row.N - l.place) l.rest ≡ digits_of l.base g.row.N l.fn.number;
}
