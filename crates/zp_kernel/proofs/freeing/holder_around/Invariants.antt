use Rattle.std.proofs.Common.{◌≡◌, ◌-◌, ◌≤◌}
use Rattle.std.specs.List.{range_with_len}
use Rattle.zp_kernel.specs.Frames.{holder_among, holder_around}
use Rattle.zp_kernel.proofs.freeing.holder_around.Given as goal

-- the runs so far are of no block
abbrev pub invariant-orders : goal.invariant-orders
invariant-orders l =
    record {
      within : l.order ≤ 11;
      left : holder_around l.frames l.frame ≡ holder_among l.frames l.frame (range_with_len l.order (11 - l.order));
    }
