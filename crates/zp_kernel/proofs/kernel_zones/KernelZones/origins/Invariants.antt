use Rattle.std.proofs.Common.{◌≡◌, map}
use Rattle.std.specs.List.{range_with_len}
use Rattle.zp_kernel.specs.Crews.{origin_of}
use Rattle.zp_kernel.proofs.kernel_zones.KernelZones.origins.Given as goal

abbrev pub invariant-loop-place : goal.invariant-loop-place
invariant-loop-place l =
    record {
      same : l.self ≡ l.initial.self;
      origins : l.origins.items ≡ map (origin_of l.fn.worker l.fn.order l.fn.kind l.initial.self) (range_with_len 0 l.place);
    }
