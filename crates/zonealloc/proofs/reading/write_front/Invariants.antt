use Rattle.std.proofs.Common.{◌≡◌, ◌++◌, length, take, drop}
use Rattle.zonealloc.proofs.reading.write_front.Given as goal

abbrev pub invariant-loop-place : goal.invariant-loop-place
invariant-loop-place l = record { many : length l.buffer ≡ length l.fn.buffer; written : l.buffer ≡ take l.place l.bytes ++ drop l.place l.fn.buffer }
